-- How the table of a frame looks.
use Rattle.std.specs.Prelude.{slice_index}
use Rattle.tabled_object.specs.declared.dimension.FixedDimension.{FixedDimension}
use Rattle.tabled_printing.specs.Picture.{Look}
use Rattle.tabled_printing.specs.Viewed.{frame_look}
use Rattle.tabled_printing.specs.declared.frame.Frame.{Frame}

abbrev pub viewed : {M : Type 0} → Frame FixedDimension M → Look
viewed frame = frame_look (λ sizes. slice_index sizes.widths.items) (λ sizes. slice_index sizes.heights.items) frame
