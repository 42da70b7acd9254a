-- The styles so far are told.
use Rattle.std.proofs.Common.{◌≡◌, flat_map, string_bytes, take}
use Rattle.tabled_viewing.specs.Itself.{style_told}
use Rattle.tabled_viewing.proofs.texts.styles_of.Given as goal

abbrev pub invariant-loop-style : goal.invariant-loop-style
invariant-loop-style l = string_bytes l.text ≡ flat_map style_told (take l.style-index l.styles)
