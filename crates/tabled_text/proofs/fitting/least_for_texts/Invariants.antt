-- What the columns so far take.
use Rattle.std.proofs.Common.{◌≡◌, ◌-◌, min, map, take}
use Rattle.tabled_width.specs.Shares.{used}
use Rattle.tabled_text.proofs.fitting.least_for_texts.Given as goal

abbrev pub invariant-loop-width : goal.invariant-loop-width
invariant-loop-width l = l.taken ≡ min (used l.least (map (λ width. width - 2) (take l.width-index l.widths))) 18446744073709551615
