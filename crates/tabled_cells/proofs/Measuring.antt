-- What is measured of lines.
use Rattle.std.proofs.Common.{◌≡◌, ◌≢◌, ℕ, ◌-◌, Bool, true, false, if◌then◌else◌, List, map, refl, ap}
use Rattle.tabled_settings.specs.declared.alignment.AlignmentHorizontal.{AlignmentHorizontal}
use Rattle.tabled_settings.specs.declared.alignment.AlignmentHorizontal.TheVariants.{Left}
use Rattle.tabled_width.specs.Texts.{width_of_text}
use Rattle.tabled_cells.specs.declared.filling.LineParts.{LineParts}
use Rattle.tabled_cells.specs.declared.placement.Placement.{Placement}
use Rattle.tabled_cells.specs.Placed.{greatest, free_before, fill_of, line_parts, aligned_width}

-- the widest line plays a part only where the lines are aligned as one, and not at the left
before_same : (side : AlignmentHorizontal) (each : Bool) (room own widest all : ℕ) → (each ≡ false → side ≢ Left → widest ≡ all)
    → free_before side (room - (if each then own else widest)) ≡ free_before side (room - (if each then own else all))
before_same Left each room own widest all is = refl
before_same _ true room own widest all is = refl
before_same side false room own widest all is = ap (λ n. free_before side (room - n)) (is refl (λ left. cc))

pub parts_same : (how : Placement) (width widest : ℕ) (lines : List (List ℕ)) (line : List ℕ)
    → (how.line_alignment ≡ false → how.alignment_horizontal ≢ Left → widest ≡ greatest (map width_of_text lines))
    → line_parts how width (if how.line_alignment then width_of_text line else widest) line ≡ line_parts how width (aligned_width how lines line) line
unfolding line_parts
parts_same how width widest lines line is =
    let room : ℕ = width - how.padding.left.size - how.padding.right.size in
    let parts : ℕ → LineParts = λ before. record {
      before = before;
      after = room - before - width_of_text line;
      fill = fill_of how.justification line;
    } in
    ap parts (before_same how.alignment_horizontal how.line_alignment room (width_of_text line) widest (greatest (map width_of_text lines)) is)
