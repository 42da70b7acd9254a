pub mod LineCharLemmas
pub mod Applying
pub mod Zipping
pub mod PassingLemmas
pub mod LineLemmas
pub mod WrittenLemmas
