pub mod Deciding
pub mod Layers
pub mod Winning
pub mod Valuing
pub mod Distant
pub mod Refuting
pub mod Following
pub mod Finishing
