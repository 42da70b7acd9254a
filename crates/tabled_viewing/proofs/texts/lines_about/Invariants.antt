-- The lines so far that are about the option.
use Rattle.std.proofs.Common.{◌≡◌, ◌++◌, ◌∷◌, [], flat_map, if◌then◌else◌, map, string_bytes}
use Rattle.tabled_viewing.specs.Itself.{is_about}
use Rattle.tabled_viewing.proofs.texts.lines_about.Given as goal

abbrev pub invariant-loop-line : goal.invariant-loop-line
invariant-loop-line l = string_bytes l.text ≡ flat_map (λ line. if is_about l.name line then line ++ 10 ∷ [] else []) (map (λ line. line.now) l.yielded)
