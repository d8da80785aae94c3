pub mod SameBut
pub mod WorkedSameBut
