pub mod LineChar
pub mod NamedLine
pub mod TextStart
pub mod LineText
pub mod Laying
pub mod Passing
