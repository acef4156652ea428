pub mod Deciding
pub mod Layers
pub mod Winning
pub mod Turning
pub mod Testing
pub mod Following
