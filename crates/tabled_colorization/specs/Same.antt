-- When two colorizations are equal: the same pattern, and equal colors in the same order.
use Rattle.std.specs.Prelude.{Bool}
use Rattle.std.specs.Cmp.{IsPartialEquivalence, IsEquivalence, on_equiv, and_equiv, partial_equiv_from_equiv}
use Rattle.std.specs.Cmp.Lexicographic.{pointwise, lists_equiv}
use Rattle.std.specs.Ordering.{on, eq_of_both}
use Rattle.tabled_color.specs.Order.{same_shade}
use Rattle.tabled_color.specs.contracts.comparing.ColorEq.TheImpl.Laws.{laws-law as color_equiv}
use Rattle.tabled_colorization.specs.contracts.pattern.PatternPartialEq.TheImpl.{eq-value as same_pattern}
use Rattle.tabled_colorization.specs.contracts.pattern.PatternEq.TheImpl.Laws.{laws-law as pattern_equiv}
use Rattle.tabled_colorization.specs.Turns.{Colorizing}

abbrev pub same_colorization : Colorizing → Colorizing → Bool
same_colorization = eq_of_both (on (λ a. a.pattern) same_pattern.it) (on (λ a. a.colors) (pointwise same_shade))

pub colorization_equiv : IsEquivalence same_colorization
colorization_equiv = and_equiv (on_equiv (λ a. a.pattern) pattern_equiv) (on_equiv (λ a. a.colors) (lists_equiv color_equiv))

pub colorization_per : IsPartialEquivalence same_colorization
colorization_per = partial_equiv_from_equiv colorization_equiv
