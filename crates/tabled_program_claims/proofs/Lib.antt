pub mod NoSpans
pub mod PagesEven
pub mod ReadTexts
pub mod CleanLimits
pub mod CleanPieces
pub mod CleanColors
pub mod CleanViews
pub mod CleanSaid
