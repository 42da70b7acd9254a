-- When colors are equal, and how they are ordered.
use Rattle.std.specs.Prelude.{Bool, ◌==◌}
use Rattle.std.specs.Bool.{beq}
use Rattle.std.specs.Cmp.Lexicographic.{slice_cmp, pointwise}
use Rattle.std.specs.declared.cmp.Ordering.{Ordering}
use Rattle.std.specs.Ordering.{nat_cmp, bool_cmp, on, then_cmp, eq_of_both}
use Rattle.tabled_color.specs.Shade.{Shade}

-- both static or both owned, and the same texts
abbrev pub same_shade : Shade → Shade → Bool
same_shade = eq_of_both (on (λ a. a.owned) beq) (eq_of_both (on (λ a. a.prefix) (pointwise ◌==◌)) (on (λ a. a.suffix) (pointwise ◌==◌)))

-- static ones first, then by prefix, then by suffix
abbrev pub shade_cmp : Shade → Shade → Ordering
shade_cmp = then_cmp (then_cmp (on (λ a. a.owned) bool_cmp) (on (λ a. a.prefix) (slice_cmp nat_cmp))) (on (λ a. a.suffix) (slice_cmp nat_cmp))
