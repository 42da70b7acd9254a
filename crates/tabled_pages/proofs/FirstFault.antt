-- The faults of an input, by the tests that the code makes.
use Rattle.std.proofs.Common.{sym, ◌≡◌, ℕ, ◌<◌, ◌≤◌, Bool, true, false, not, cond, ltb, List, length, Option, Some, None, Result, Ok, Err, IsErrAnd, IfErr, IfSome, ◌⊎◌, inl, inr, ◌≢◌, refl, ap, ◌∙◌}
use Rattle.std.specs.List.{list_all}
use Rattle.std.proofs.lemmas.Bool.{le-ltb, lt-ltb}
use Rattle.tabled_pages.specs.Input.{is_allowed, rows_of, have_equal_counts, fault_of}
use Rattle.tabled_pages.specs.Refusal.{status_of, exit_status, answer_of}
use Rattle.tabled_pages.specs.declared.read.TheConstants.{INPUT_LIMIT}
use Rattle.tabled_pages.specs.declared.error.ShowError.{ShowError}
use Rattle.tabled_pages.specs.declared.error.ShowError.TheVariants.{ReadFailed, OutOfMemory, TooLong, ByteOutOfRange, UnequalRows, WriteFailed}

-- the first fault, by the three tests
first_of_three : Bool → Bool → Bool → Option ShowError
first_of_three long allowed equal =
    cond long (Some TooLong) (cond (not allowed) (Some ByteOutOfRange) (cond (not equal) (Some UnequalRows) None))

by_tests : (input : List ℕ) (long allowed equal : Bool) → ltb INPUT_LIMIT (length input) ≡ long → list_all is_allowed input ≡ allowed
    → have_equal_counts (rows_of input) ≡ equal → fault_of input ≡ first_of_three long allowed equal
unfolding fault_of first_of_three
by_tests input long allowed equal p q r =
    ap (λ b. first_of_three b (list_all is_allowed input) (have_equal_counts (rows_of input))) p
    ∙ ap (λ b. first_of_three long b (have_equal_counts (rows_of input))) q
    ∙ ap (λ b. first_of_three long allowed b) r

within : (input : List ℕ) → length input ≤ INPUT_LIMIT → ltb INPUT_LIMIT (length input) ≡ false
within input room = le-ltb INPUT_LIMIT (length input) room

pub fault_of-byte : (input : List ℕ) → length input ≤ INPUT_LIMIT → list_all is_allowed input ≡ false → fault_of input ≡ Some ByteOutOfRange
unfolding first_of_three
fault_of-byte input room byte = by_tests input false false _ (within input room) byte refl

pub fault_of-rows : (input : List ℕ) → length input ≤ INPUT_LIMIT → list_all is_allowed input ≡ true → have_equal_counts (rows_of input) ≡ false
    → fault_of input ≡ Some UnequalRows
unfolding first_of_three
fault_of-rows input room bytes counts = by_tests input false true false (within input room) bytes counts

pub fault_of-none : (input : List ℕ) → length input ≤ INPUT_LIMIT → list_all is_allowed input ≡ true → have_equal_counts (rows_of input) ≡ true
    → fault_of input ≡ None
unfolding first_of_three
fault_of-none input room bytes counts = by_tests input false true true (within input room) bytes counts

pub fault_of-long : (input : List ℕ) → INPUT_LIMIT < length input → fault_of input ≡ Some TooLong
unfolding first_of_three
fault_of-long input long = by_tests input true _ _ (lt-ltb INPUT_LIMIT (length input) long) refl refl

-- where reading was refused, and not with the status of a failure, the input is too long
pub reading_refused : (known : Option (List ℕ)) (e : ShowError) (r : Result (Unit {0}) ShowError) → IsErrAnd r (λ y. y ≡ e)
    → (e ≡ ReadFailed) ⊎ ((e ≡ TooLong) ⊎ (e ≡ OutOfMemory)) → (e ≡ TooLong → IfSome known (λ bytes. INPUT_LIMIT < length bytes))
    → exit_status r ≢ 1 → IfSome known (λ bytes. r ≡ answer_of (fault_of bytes))
reading_refused known e (Ok x) is kinds long status = absurd is
reading_refused known e (Err y) is (inl failed) long status = absurd (status (ap status_of (is ∙ failed)))
reading_refused known e (Err y) is (inr (inr refused)) long status = absurd (status (ap status_of (is ∙ refused)))
reading_refused None e (Err y) is (inr (inl too_long)) long status = tt
reading_refused (Some bytes) e (Err y) is (inr (inl too_long)) long status =
    ap (λ refusal. Err refusal) (is ∙ too_long) ∙ sym (ap answer_of (fault_of-long bytes (long too_long)))

-- an error that was passed on is a refusal of memory or the fault, as it was before
pub passed_on : {T : Type 0} (fault : Option ShowError) (e : ShowError) (r : Result T ShowError) → IsErrAnd r (λ y. y ≡ e)
    → (e ≡ OutOfMemory) ⊎ (fault ≡ Some e) → IfErr r (λ y. (y ≡ OutOfMemory) ⊎ ((y ≡ WriteFailed) ⊎ (fault ≡ Some y)))
passed_on fault e (Ok x) is known = absurd is
passed_on fault e (Err y) is (inl refused) = inl (is ∙ refused)
passed_on fault e (Err y) is (inr known) = inr (inr (known ∙ ap (λ refusal. Some refusal) (sym is)))
