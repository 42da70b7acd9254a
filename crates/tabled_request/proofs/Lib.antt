pub mod WordByWord
pub mod ByColumn
pub mod Endings
pub mod KeptColumns
