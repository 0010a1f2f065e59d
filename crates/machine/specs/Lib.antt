pub mod Note
pub mod Desk
pub mod Rest
pub mod Look
