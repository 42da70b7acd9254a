pub mod Hosts
pub mod Holding
pub mod Rooms
pub mod Growing
pub mod Sizes
