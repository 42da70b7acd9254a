pub mod SpanLemmas
pub mod CoveringLemmas
pub mod LayoutLemmas
pub mod TakenBackLemmas
pub mod SameLayout
