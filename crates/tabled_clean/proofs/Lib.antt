pub mod SteeringLemmas
pub mod LineLemmas
