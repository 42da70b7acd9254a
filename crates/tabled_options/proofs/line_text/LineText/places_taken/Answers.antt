-- What was laid is what the text takes.
use Rattle.std.proofs.Common.{ap, sym, ◌∙◌, length, drop, Some, None, zip}
use Rattle.tabled_options.specs.Laying.{looked}
use Rattle.tabled_options.specs.TextStart.{width_of}
use Rattle.tabled_options.specs.LineText.{places_along}
use Rattle.tabled_options.proofs.LineLemmas.{places_counted}
use Rattle.tabled_options.proofs.WrittenLemmas.{if_ok, none_taken, laid_is_taken}
use Rattle.tabled_options.proofs.line_text.LineText.places_taken.Goals as goal

pub returns-then-not-exists : goal.returns-then-not-exists
returns-then-not-exists g c =
    none_taken c.args.self.now (looked g.D.Dimension.width_of g.D.Dimension.height_of c.args.line.now) c.args.line.now.line c.new.result.items c.new.ensures.items (sym c.exists.ensures ∙ c.if-not-exists.true)

pub lay_from-requires-clause-total : goal.lay_from-requires-clause-total
lay_from-requires-clause-total g c =
    places_counted (looked g.D.Dimension.width_of g.D.Dimension.height_of c.args.line.now) c.args.line.now.line c.total-total.result (sym c.exists.ensures ∙ c.if-not-exists.false) c.total-total.ensures

pub returns-in-Some : goal.returns-in-Some
returns-in-Some g c =
    let view = looked g.D.Dimension.width_of g.D.Dimension.height_of c.args.line.now in
    let line = c.args.line.now.line in
    if_ok _ _ c.lay_from.result
    (λ taken laid. laid ∙ ap (zip (drop c.in-Some.start (places_along view line))) c.deref-in-Some.ensures.value
    ∙ laid_is_taken c.args.self.now view line c.total-total.result c.in_ok-size.size.width c.in_ok-size.size.count c.self.inside.alignment c.self.inside.offset c.in_ok-letters.letters.items (Some c.in-Some.start)
    (places_counted view line c.total-total.result (sym c.exists.ensures ∙ c.if-not-exists.false) c.total-total.ensures)
    c.in_ok-letters.ensures (c.in_ok-size.ensures.width ∙ ap width_of c.deref.ensures.value) (c.in_ok-size.ensures.count ∙ ap length c.deref.ensures.value)
    (ap (λ text. text.alignment) c.self.view_is) (ap (λ text. text.offset) c.self.view_is) (sym c.in-Some.is ∙ c.text_start.ensures))
    c.lay_from.ensures

pub returns : goal.returns
returns g c =
    let view = looked g.D.Dimension.width_of g.D.Dimension.height_of c.args.line.now in
    let line = c.args.line.now.line in
    c.new-in-None.ensures.items
    ∙ laid_is_taken c.args.self.now view line c.total-total.result c.in_ok-size.size.width c.in_ok-size.size.count c.self.inside.alignment c.self.inside.offset c.in_ok-letters.letters.items None
    (places_counted view line c.total-total.result (sym c.exists.ensures ∙ c.if-not-exists.false) c.total-total.ensures)
    c.in_ok-letters.ensures (c.in_ok-size.ensures.width ∙ ap width_of c.deref.ensures.value) (c.in_ok-size.ensures.count ∙ ap length c.deref.ensures.value)
    (ap (λ text. text.alignment) c.self.view_is) (ap (λ text. text.offset) c.self.view_is) (sym c.in-None.is ∙ c.text_start.ensures)
