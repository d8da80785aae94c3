pub mod WorkedSound
