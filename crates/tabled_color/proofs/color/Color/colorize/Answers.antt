use Rattle.std.proofs.Common.{rules, [], ◌∷◌, ◌++◌, map, refl, sym, ap, ◌∙◌}
use Rattle.std.specs.List.{join_with_byte}
use Rattle.std.proofs.lemmas.Iterator.Splits.{YieldsList-from_lines}
use Rattle.std.proofs.lemmas.Iterator.Consumers.{YieldsList-end}
use Rattle.std.proofs.lemmas.Str.{IsUtf8-from_ascii}
use Rattle.tabled_color.specs.Painting.{painted}
use Rattle.tabled_color.proofs.Lines.{feed-push, painted-push}
use Rattle.tabled_color.proofs.color.Color.colorize.Goals as goal

pub loop-line-init : goal.loop-line-init
loop-line-init c = (([], (refl, refl)), c.new-colored.ensures.bytes, refl)

pub loop-line-preserved : goal.loop-line-preserved
loop-line-preserved c = (
  IsUtf8-from_ascii (10 ∷ []) (search rules),
  c.in_ok-push_painted.ensures
      ∙ ap (λ before. before ++ painted c.args.self.now c.in-Some.line.now) (c.in_ok-push_str.ensures.bytes ∙ (λ i. c.loop-line.invariant.1 i ++ c.loop-line.invariant.2 i))
      ∙ sym (painted-push c.args.self.now c.loop-line.yielded c.in-Some.line),
  sym (feed-push c.loop-line.yielded c.in-Some.line),
)

pub returns : goal.returns
returns c =
    c.loop-line.invariant.1
    ∙ ap (λ lines. join_with_byte 10 (map (painted c.args.self.now) lines)) (
    YieldsList-end (YieldsList-from_lines c.args.text.now (ap (λ lines. lines.rest.now) c.into_iter-line-iterator.ensures.into_iter_gives ∙ c.lines-line-items.ensures.rest))
    c.loop-line.yielded _ c.loop-line.yielded_by _ _ c.in-None.is c.next.ensures.steps).0
