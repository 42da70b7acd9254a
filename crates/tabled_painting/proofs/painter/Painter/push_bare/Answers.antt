-- The text between spaces, and the side.
use Rattle.std.proofs.Common.{◌≡◌, ◌+◌, ◌-◌, ◌++◌, ℕ, List, length, option_copied, refl, sym, ap, subst, ◌∙◌, arith}
use Rattle.std.proofs.lemmas.Bool.{eqb-true}
use Rattle.std.proofs.lemmas.List.{nil_from_length}
use Rattle.tabled_cells.specs.Placed.{free_before, times}
use Rattle.tabled_painting.specs.BareCells.{bare_text}
use Rattle.tabled_painting.specs.Painted.{paint}
use Rattle.tabled_painting.proofs.PainterLemmas.{bare_spaces, paints_begun, paints_both, paints_same, some_bare, on_done}
use Rattle.tabled_painting.proofs.painter.Painter.push_bare.Goals as goal

pub returns : goal.returns
returns g c =
    let gains = g.O.Output.gains in
    let both = g.met.O.Output.gains_both in
    let text = c.args.text.now in
    let bytes : List ℕ = bare_text c.args.alignment c.args.width text in
    let found = c.saturating_sub-free.result in
    let before = c.free_before-before.result in
    let free : found ≡ c.args.width - 2 - length text = omega (arith, c.saturating_sub.ensures, c.saturating_sub-free.ensures) in
    let ahead : before ≡ free_before c.args.alignment (c.args.width - 2 - length text) = c.free_before-before.ensures.value ∙ ap (free_before c.args.alignment) free in
    let front : List ℕ = times (1 + before) 32 in
    let written =
    subst (λ bs. gains bs c.begin.new.self.out c.push_times-3.new.self) (λ i. times (1 + ahead i) 32 ++ text ++ times (free i - ahead i + 1) 32)
    (both (front ++ text) (times (found - before + 1) 32) _ _ _ (both front text _ _ _ c.in_ok-push_times-2.ensures c.in_ok-push_str.ensures) c.in_ok-push_times-3.ensures) in
    on_done c.push_side-2.result c.push_side-2.ensures
    (paints_both gains both _ _ c.args.self.now _ c.push_side-2.new.self
    (paints_begun gains both (option_copied c.args.color) bytes c.args.self.now c.begin.new.self _ (some_bare c.args.alignment c.args.width text) c.in_ok-begin.ensures.text c.in_ok-begin.ensures.color
    c.begin.ensures.same_colors c.begin.ensures.same_begun written refl refl refl))

pub returns-then-is_empty : goal.returns-then-is_empty
returns-then-is_empty g c =
    on_done c.push_side.result c.push_side.ensures
    (paints_both g.O.Output.gains g.met.O.Output.gains_both _ _ c.args.self.now _ c.push_side.new.self
    (paints_same g.O.Output.gains _ _ c.args.self.now c.push_times.new.self
    (ap (paint (option_copied c.args.color)) (ap (λ n. times n 32) c.max.ensures ∙ bare_spaces c.args.alignment c.args.width c.args.text.now (nil_from_length c.args.text.now (eqb-true (length c.args.text.now) 0 (sym c.is_empty.ensures ∙ c.if-is_empty.true)))))
    c.in_ok-push_times.ensures))
