pub mod Refusal
pub mod TextTable
pub mod Fitted
pub mod Panels
pub mod Streams
pub mod TableViews
pub mod Groups
