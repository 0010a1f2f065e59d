pub mod InPlace
pub mod Agree
