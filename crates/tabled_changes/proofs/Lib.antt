pub mod ColoredLemmas
pub mod ColorsLemmas
pub mod SecondTime
pub mod EntitiesColoredLemmas
