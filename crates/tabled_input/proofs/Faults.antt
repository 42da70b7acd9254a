-- The faults of an input, by the tests that the code makes.
use Rattle.std.proofs.lemmas.Grind.{common_steps}
use Rattle.std.proofs.Common.{◌≡◌, ℕ, ◌<◌, ◌≤◌, Bool, true, false, not, nat_lt, ◌==◌, if◌then◌else◌, List, length, Option, Some, None, Result, Ok, Err, IsErrAnd, IfErr, IfSome, ◌⊎◌, inl, inr, refl, sym, ap, ◌∙◌, arith}
use Rattle.std.specs.Str.{IsUtf8}
use Rattle.std.specs.Str.Lossy.{utf8_valid_len}
use Rattle.std.proofs.lemmas.Bool.Decides.{nat_tests}
use Rattle.std.proofs.lemmas.Str.{utf8_valid_len-IsUtf8}
use Rattle.tabled_input.specs.Input.{fault_of, fault_of_text, not_utf8, without_mark}
use Rattle.tabled_input.specs.declared.error.InputError.{InputError}
use Rattle.tabled_input.specs.declared.error.InputError.TheVariants.{ReadFailed, TooLong, OutOfMemory}
use Rattle.tabled_input.specs.declared.read.TheConstants.{INPUT_LIMIT}
use Rattle.tabled_input.specs.declared.rows.Cells.{Cells}

module _ (cells : Cells) (input : List ℕ) where
  by_tests : (long whole : Bool) → nat_lt INPUT_LIMIT (length input) ≡ long → (utf8_valid_len input == length input) ≡ whole
      → fault_of cells input ≡ (if long then Some TooLong else if not whole then Some (not_utf8 input) else fault_of_text cells (without_mark input))
  unfolding fault_of
  by_tests long whole p q = grind (arith, nat_tests, common_steps)

  within : length input ≤ INPUT_LIMIT → nat_lt INPUT_LIMIT (length input) ≡ false
  within room = grind (arith, nat_tests)

  pub fault_of-text : length input ≤ INPUT_LIMIT → IsUtf8 input → fault_of cells input ≡ fault_of_text cells (without_mark input)
  fault_of-text room utf8 =
      let same = utf8_valid_len-IsUtf8 input utf8 in
      by_tests false true (within room) (grind (arith, nat_tests, same))

  pub fault_of-bytes : length input ≤ INPUT_LIMIT → (utf8_valid_len input == length input) ≡ false → fault_of cells input ≡ Some (not_utf8 input)
  fault_of-bytes room cut = by_tests false false (within room) cut

  pub fault_of-long : INPUT_LIMIT < length input → fault_of cells input ≡ Some TooLong
  fault_of-long long = by_tests true _ (grind (arith, nat_tests)) refl

-- a refusal that was passed on is one of memory or the fault, as it was before
pub passed_on : {T : Type 0} (fault : Option InputError) (e : InputError) (r : Result T InputError) → IsErrAnd r (λ y. y ≡ e)
    → (e ≡ OutOfMemory) ⊎ (fault ≡ Some e) → IfErr r (λ y. (y ≡ OutOfMemory) ⊎ (fault ≡ Some y))
passed_on fault e (Ok x) is known = absurd is
passed_on fault e (Err y) is (inl refused) = inl (is ∙ refused)
passed_on fault e (Err y) is (inr known) = inr (known ∙ ap (λ refusal. Some refusal) (sym is))

-- where reading was refused, it failed, memory was refused, or the input is too long
pub reading_refused : {T : Type 0} (cells : Cells) (known : Option (List ℕ)) (e : InputError) (r : Result T InputError) → IsErrAnd r (λ y. y ≡ e)
    → (e ≡ ReadFailed) ⊎ ((e ≡ TooLong) ⊎ (e ≡ OutOfMemory)) → (e ≡ TooLong → IfSome known (λ bytes. INPUT_LIMIT < length bytes))
    → IfErr r (λ y. (y ≡ OutOfMemory) ⊎ ((y ≡ ReadFailed) ⊎ IfSome known (λ bytes. fault_of cells bytes ≡ Some y)))
reading_refused cells known e (Ok x) is kinds long = absurd is
reading_refused cells known e (Err y) is (inl failed) long = inr (inl (is ∙ failed))
reading_refused cells known e (Err y) is (inr (inr refused)) long = inl (is ∙ refused)
reading_refused cells None e (Err y) is (inr (inl too_long)) long = inr (inr tt)
reading_refused cells (Some bytes) e (Err y) is (inr (inl too_long)) long =
    inr (inr (fault_of-long cells bytes (long too_long) ∙ ap (λ refusal. Some refusal) (sym (is ∙ too_long))))
