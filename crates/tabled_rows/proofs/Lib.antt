pub mod RowLemmas
pub mod SpelledLemmas
