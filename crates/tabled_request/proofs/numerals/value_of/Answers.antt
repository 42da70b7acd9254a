-- One digit more.
use Rattle.std.proofs.Common.{◌≡◌, ◌<◌, ◌+◌, ◌*◌, ◌-◌, ℕ, min, List, take, length, get_or, lit≤, refl, ap, sym, ◌∙◌, arith}
use Rattle.std.proofs.lemmas.List.Sums.{fold_more}
use Rattle.tabled_request.specs.Numerals.{value_of}
use Rattle.tabled_request.specs.declared.numerals.TheConstants.{MOST}
use Rattle.tabled_request.proofs.numerals.value_of.Goals as goal

one_more : (digits : List ℕ) (at value digit : ℕ) → at < length digits → value ≡ value_of (take at digits) → digit ≡ get_or digits at 0 - 48
    → min (value * 10 + digit) MOST ≡ value_of (take (at + 1) digits)
unfolding value_of
one_more digits at value digit inside e f =
    ap (λ n. min (n * 10 + digit) MOST) e ∙ ap (λ d. min (value_of (take at digits) * 10 + d) MOST) f
    ∙ sym (fold_more (λ n b. min (n * 10 + (b - 48)) MOST) 0 digits at 0 inside)

pub loop-byte-init : goal.loop-byte-init
unfolding value_of
loop-byte-init c = record { value = refl; at_most = lit≤ tt }

pub loop-byte-preserved : goal.loop-byte-preserved
loop-byte-preserved c = record {
  value = c.min-value.ensures ∙ one_more _ _ _ _ c.loop-byte-test.true c.loop-byte.invariant.value (c.from-digit.ensures ∙ c.saturating_sub.ensures);
  at_most = omega (arith, c.min-value.ensures);
}
