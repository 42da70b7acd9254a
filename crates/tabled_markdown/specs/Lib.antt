pub mod Source
pub mod Reading
pub mod Table
