-- The characters are collected in their order.
use Rattle.std.proofs.Common.{◌≡◌, IfOk, ap, sym, subst, ◌∙◌, chars, take, string_bytes}
use Rattle.std.specs.Vec.{vec_items}
use Rattle.std.proofs.lemmas.Iterator.{YieldsList-from_chars, YieldsList-from_take, items_from_collect}
use Rattle.tabled_options.specs.TextStart.{limited}
use Rattle.tabled_options.proofs.line_text.LineText.letters.Goals as goal

pub returns-in_ok-collect-in-None : goal.returns-in_ok-collect-in-None
returns-in_ok-collect-in-None g c =
    subst (λ r. IfOk r (λ w. vec_items w ≡ chars c.deref.result.now)) c.in_ok-collect-in-None.was (items_from_collect c.collect.result c.collect.ensures.ran (YieldsList-from_chars c.deref.result.now c.deref.utf8 c.chars-letters.ensures.rest))
    ∙ ap chars c.deref.ensures
    ∙ ap (λ limit. limited limit (chars (string_bytes c.self.inside.text))) (sym c.in-None.is)
    ∙ ap (λ text. limited text.limit text.text) c.self.view_is

pub returns-in_ok-collect-in-Some : goal.returns-in_ok-collect-in-Some
returns-in_ok-collect-in-Some g c =
    subst (λ r. IfOk r (λ w. vec_items w ≡ take c.in-Some.limit (chars c.deref.result.now))) c.in_ok-collect-in-Some.was
    (items_from_collect c.collect-in-Some.result c.collect-in-Some.ensures.ran (YieldsList-from_take c.in-Some.limit (YieldsList-from_chars c.deref.result.now c.deref.utf8 (cc)) c.take.ensures.count))
    ∙ ap (λ bs. take c.in-Some.limit (chars bs)) c.deref.ensures
    ∙ ap (λ limit. limited limit (chars (string_bytes c.self.inside.text))) (sym c.in-Some.is)
    ∙ ap (λ text. limited text.limit text.text) c.self.view_is
