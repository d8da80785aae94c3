pub mod Lists
pub mod Numbers
pub mod Counting
pub mod Tests
pub mod Tells
pub mod Links
