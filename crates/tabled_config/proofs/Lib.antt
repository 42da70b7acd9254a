pub mod FaultLemmas
pub mod MadeInTurn
pub mod TextLemmas
pub mod PieceLemmas
