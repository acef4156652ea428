pub mod ShownShares
pub mod Shows
pub mod Readings
