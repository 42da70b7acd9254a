pub mod Refusal
pub mod Headline
