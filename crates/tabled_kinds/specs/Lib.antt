pub mod EveryKind
