-- How a table looks to a walk along a line of it, and in its frame.
use Rattle.std.specs.Prelude.{ℕ, Bool, if◌then◌else◌, None}
use Rattle.tabled_configuration.specs.Configuration.{all_writes}
use Rattle.tabled_printing.specs.declared.frame.Frame.{Frame}
use Rattle.tabled_printing.specs.declared.walk.Walk.{Walk}
use Rattle.tabled_printing.specs.Picture.{Look, look}

-- a look in which no place has a color, unless colors are wanted
abbrev pub with_colors_if : Bool → Look → Look
with_colors_if wanted view = record view { color = λ place. if wanted then view.color place else None }

-- how the table of a walk looks, where two functions give the widths of columns and the heights of rows
abbrev pub walk_look : {D M : Type 0} → (D → ℕ → ℕ) → (D → ℕ → ℕ) → Walk D M → Look
walk_look width_of height_of walk = with_colors_if walk.with_colors (look (all_writes walk.cfg.now) walk.shape (width_of walk.dims.now) (height_of walk.dims.now))

-- and that of a frame
abbrev pub frame_look : {D M : Type 0} → (D → ℕ → ℕ) → (D → ℕ → ℕ) → Frame D M → Look
frame_look width_of height_of frame = with_colors_if frame.with_colors (look (all_writes frame.cfg.now) frame.shape (width_of frame.dims.now) (height_of frame.dims.now))
