-- The definitions that the contracts of `text` cite.
pub mod Bytes
pub mod Ascii
pub mod Number
pub mod Line
pub mod Write
pub mod Fields
pub mod Session
pub mod Find
pub mod Quick
pub mod Output
pub mod Feeding
pub mod Stepping
pub mod Pieces
