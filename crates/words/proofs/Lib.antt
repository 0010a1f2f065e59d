-- The laws of words, each stated once over the width.
pub mod Laws
pub mod Powers
pub mod Doubling
pub mod Zeros
