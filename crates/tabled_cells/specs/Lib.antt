pub mod Placed
pub mod Placements
pub mod Trimmed
pub mod Shown
pub mod TextsBy
pub mod Printable
