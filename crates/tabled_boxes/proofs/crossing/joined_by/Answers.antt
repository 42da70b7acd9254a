use Rattle.std.proofs.Common.{◌≡◌, Some, None, true, false, sym, ◌∙◌, arith}
use Rattle.tabled_boxes.specs.Joined.{may_change, is_kept}
use Rattle.tabled_boxes.proofs.Joining.{kept-few, kept-same, kept-untouched, not-kept, is-kept, joined-as}
use Rattle.tabled_boxes.proofs.crossing.joined_by.Goals as goal
use Rattle.tabled_boxes.proofs.crossing.joined_by.Goals.{then-count-lt2-via-then-count-lt2, then-count-lt2-via-else-count-lt2+then-not-may_change, then-count-lt2-via-else-count-lt2+else-not-may_change+then-has_arms}

false-true : false ≡ true → ⊥
false-true h = cc

pub returns-then-count-lt2 : goal.returns-then-count-lt2
returns-then-count-lt2 c =
    let kept : is_kept c.args.crossing c.args.arms ≡ true =
    elim c.then-count-lt2.branch [
      | then-count-lt2-via-then-count-lt2 w ↦ kept-few c.args.crossing c.args.arms (omega arith)
      | then-count-lt2-via-else-count-lt2+then-not-may_change w ↦ kept-untouched c.args.crossing c.args.arms (sym w.may_change.ensures ∙ w.if-not-may_change.true)
      | then-count-lt2-via-else-count-lt2+else-not-may_change+then-has_arms w ↦ kept-same c.args.crossing c.args.arms (w.has_arms.ensures.0 w.if-has_arms.true)
    ] in
    sym (is-kept c.args.crossing c.args.arms kept)

pub returns-in-Some : goal.returns-in-Some
returns-in-Some c =
    let may : may_change c.args.crossing c.args.arms ≡ true = sym c.may_change.ensures ∙ c.if-not-may_change.false in
    let kept : is_kept c.args.crossing c.args.arms ≡ false =
    not-kept c.args.crossing c.args.arms (omega arith) may (λ same. false-true (sym c.if-has_arms.false ∙ c.has_arms.ensures.1 same)) in
    sym (joined-as c.args.crossing c.args.arms (Some c.in-Some.character) kept (sym c.join.ensures.first ∙ c.in-Some.is))

pub returns-in-None : goal.returns-in-None
returns-in-None c =
    let may : may_change c.args.crossing c.args.arms ≡ true = sym c.may_change.ensures ∙ c.if-not-may_change.false in
    let kept : is_kept c.args.crossing c.args.arms ≡ false =
    not-kept c.args.crossing c.args.arms (omega arith) may (λ same. false-true (sym c.if-has_arms.false ∙ c.has_arms.ensures.1 same)) in
    sym (joined-as c.args.crossing c.args.arms (None) kept (sym c.join.ensures.first ∙ c.in-None.is))
