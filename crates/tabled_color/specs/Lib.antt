pub mod Shade
pub mod Painting
pub mod Shown
pub mod Order
pub mod BorderColors
pub mod Coloring
