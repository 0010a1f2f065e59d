pub mod PlaceWords
pub mod Block
pub mod Reply
pub mod Contents
pub mod Opening
pub mod Look
