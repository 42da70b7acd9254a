pub mod TurnLemmas
pub mod ChessLemmas
