-- Texts that are cut at the first byte that passes a test.
use Rattle.std.proofs.Common.{◌≡◌, ℕ, ◌+◌, ◌<◌, ◌≤◌, Bool, true, false, cond, nat_lt, ◌&&◌, if◌then◌else◌, List, length, take, drop, Option, Some, None, refl, sym, ap, ◌∙◌, arith}
use Rattle.std.specs.Prelude.{is_some}
use Rattle.std.specs.List.{list_all, before_first, after_first, position, position_or_len}
use Rattle.std.proofs.lemmas.Bool.Decides.{nat_tests}
use Rattle.std.proofs.lemmas.List.Splits.{slice_split_first, slice_split_none}
use Rattle.std.proofs.lemmas.List.Sums.{fails_before_first}
use Rattle.tabled_numbers.specs.Numbers.{are_digits, is_mark, is_point, is_exponent_letter, is_whole, is_pointed, is_amount, is_scaled, without_sign}

within : (b : Bool) (n k : ℕ) → cond b (Some n) None ≡ Some k → (b ≡ true) × (n ≡ k)
within true n k e = (refl, cc)
within false n k e = absurd cc

outside : (b : Bool) (n : ℕ) → (let o : Option ℕ = cond b (Some n) None in o ≡ None) → b ≡ false
outside true n e = absurd cc
outside false n e = refl

all_of_one : (b : Bool) → b ≡ (b && true)
all_of_one true = refl
all_of_one false = refl

module _ (p : ℕ → Bool) (text : List ℕ) where
  pub place : (k : ℕ) → position p text ≡ Some k → position_or_len p text ≡ k
  place k e = (within (nat_lt (position_or_len p text) (length text)) (position_or_len p text) k e).1

  pub inside : (k : ℕ) → position p text ≡ Some k → k < length text
  inside k e =
      let w = within (nat_lt (position_or_len p text) (length text)) (position_or_len p text) k e in
      grind (arith, nat_tests, w.0, w.1)

  pub found : (k : ℕ) → position p text ≡ Some k → is_some (position p text) ≡ true
  found k e = ap is_some e

  pub past : position p text ≡ None → length text ≤ position_or_len p text
  past e =
      let w = outside (nat_lt (position_or_len p text) (length text)) (position_or_len p text) e in
      grind (arith, nat_tests, w)

module _ (text : List ℕ) where
  cut_at_mark : (k : ℕ) → position is_mark text ≡ Some k → (are_digits (take k text) && is_whole (drop (k + 1) text)) ≡ is_whole text
  unfolding is_whole
  cut_at_mark k e =
      ap (λ n. are_digits (take n text) && is_whole (drop (n + 1) text)) (sym (place is_mark text k e))
      ∙ ap (list_all are_digits) (sym (slice_split_first is_mark text 0 (omega (arith, place is_mark text k e, inside is_mark text k e))))

  pub none_whole : (k : ℕ) → position is_mark text ≡ Some k → are_digits (take k text) ≡ false → false ≡ is_whole text
  none_whole k e f = ap (λ b. b && is_whole (drop (k + 1) text)) (sym f) ∙ cut_at_mark k e

  pub more_whole : (k : ℕ) → position is_mark text ≡ Some k → are_digits (take k text) ≡ true → is_whole (drop (k + 1) text) ≡ is_whole text
  more_whole k e f = ap (λ b. b && is_whole (drop (k + 1) text)) (sym f) ∙ cut_at_mark k e

  pub last_whole : position is_mark text ≡ None → are_digits text ≡ is_whole text
  unfolding is_whole
  last_whole e =
      all_of_one (are_digits text) ∙ ap (list_all are_digits) (sym (slice_split_none is_mark text (λ k d h. fails_before_first is_mark text k d (omega (arith, h, past is_mark text e)))))

  pub amount_pointed : (k : ℕ) → position is_point text ≡ Some k → is_pointed (take k text) (drop (k + 1) text) ≡ is_amount text
  unfolding is_amount
  amount_pointed k e =
      ap (λ n. is_pointed (take n text) (drop (n + 1) text)) (sym (place is_point text k e))
      ∙ ap (λ b. if b then is_pointed (before_first is_point text) (after_first is_point text) else is_whole text) (sym (found is_point text k e))

  pub amount_whole : position is_point text ≡ None → is_whole text ≡ is_amount text
  unfolding is_amount
  amount_whole e = ap (λ o. if is_some o then is_pointed (before_first is_point text) (after_first is_point text) else is_whole text) (sym e)

  pub scaled : (k : ℕ) → position is_exponent_letter text ≡ Some k → (is_amount (take k text) && are_digits (without_sign (drop (k + 1) text))) ≡ is_scaled text
  unfolding is_scaled
  scaled k e =
      ap (λ n. is_amount (take n text) && are_digits (without_sign (drop (n + 1) text))) (sym (place is_exponent_letter text k e))
      ∙ ap (λ b. if b then is_amount (before_first is_exponent_letter text) && are_digits (without_sign (after_first is_exponent_letter text)) else is_amount text)
      (sym (found is_exponent_letter text k e))

  pub unscaled : position is_exponent_letter text ≡ None → is_amount text ≡ is_scaled text
  unfolding is_scaled
  unscaled e =
      ap (λ o. if is_some o then is_amount (before_first is_exponent_letter text) && are_digits (without_sign (after_first is_exponent_letter text)) else is_amount text) (sym e)
