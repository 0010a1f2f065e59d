pub mod Counts
pub mod Statement
pub mod Outcomes
