pub mod InOrder
pub mod PlainEven
pub mod Shown
pub mod EachOnce
pub mod Distinct
pub mod Stops
