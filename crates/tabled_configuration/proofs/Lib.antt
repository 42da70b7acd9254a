pub mod ConfigurationLemmas
pub mod SameConfigurationLemmas
pub mod InTurn
pub mod Replacing
pub mod BothLemmas
pub mod AlignedLemmas
pub mod Below
