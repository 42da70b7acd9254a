-- The cells so far, and those of the lengths that are left.
use Rattle.std.proofs.Common.{◌≡◌, ◌++◌, ℕ, List, drop, map}
use Rattle.std.specs.Str.{IsUtf8}
use Rattle.tabled_input.specs.Joined.{AreTexts, parts, total}
use Rattle.tabled_input.proofs.joined.cells_of.Given as goal

abbrev pub invariant-loop-len : goal.invariant-loop-len
invariant-loop-len l = record {
  utf8 : IsUtf8 l.rest;
  cut : (more : List ℕ) → AreTexts (l.lengths ++ more) l.text
      → (map (λ cell. cell.now) l.cells.items ++ parts (drop l.len-index l.lengths) l.rest ≡ parts l.lengths l.text)
      × (drop (total (drop l.len-index l.lengths)) l.rest ≡ drop (total l.lengths) l.text)
      × AreTexts (drop l.len-index l.lengths ++ more) l.rest;
}
