-- The first fault, by the tests that the code makes.
use Rattle.std.proofs.Common.{◌≡◌, ◌≢◌, ℕ, ◌<◌, ◌≤◌, List, [], ◌∷◌, length, Option, Some, None, option_map, Result, Ok, Err, IsErrAnd, IfErr, ◌⊎◌, inl, inr, refl, sym, ap, ◌∙◌, arith}
use Rattle.std.specs.Option.{option_or}
use Rattle.tabled_width.specs.Texts.{Table}
use Rattle.tabled_input.specs.Input as bytes
use Rattle.tabled_input.specs.Input.{rows_in}
use Rattle.tabled_input.specs.declared.error.InputError.{InputError}
use Rattle.tabled_input.specs.declared.error.InputError.TheVariants as input
use Rattle.tabled_request.specs.declared.request.Request.{Request}
use Rattle.tabled_request.specs.declared.surroundings.Surroundings.{Surroundings}
use Rattle.tabled_style.specs.declared.ready_style.ReadyStyle.{ReadyStyle}
use Rattle.tabled_viewing.specs.Asked.{cells_asked, style_asked}
use Rattle.tabled_viewing.specs.Refusal.{fault_of, fault_of_any, fault_of_input, fault_of_rows, fault_of_style, of_input, unknown_style}
use Rattle.tabled_viewing.specs.declared.error.ViewError.{ViewError}
use Rattle.tabled_viewing.specs.declared.error.ViewError.TheVariants.{OutOfMemory, WriteFailed}

-- rows that there are none of have no fault, and others those that are looked for
pub none_without : (request : Request) (words : List (List ℕ)) (rows : Table) → length rows ≤ 0 → fault_of_rows request words rows ≡ None
none_without request words [] none = refl
none_without request words (row ∷ rows) none = absurd (omega arith)

pub some_with : (request : Request) (words : List (List ℕ)) (rows : Table) → 0 < length rows → fault_of_rows request words rows ≡ fault_of_any request words rows
some_with request words [] some = absurd (omega arith)
some_with request words (row ∷ rows) some = refl

-- the first of two faults, where the first is none, and where it is one
pub then_second : (first second : Option ViewError) → first ≡ None → option_or first second ≡ second
then_second first second none = ap (λ fault. option_or fault second) none

pub is_first : (first second : Option ViewError) (e : ViewError) → first ≡ Some e → option_or first second ≡ Some e
is_first first second e some = ap (λ fault. option_or fault second) some

-- a refusal that was passed on is one of memory or the fault, as it was before
pub passed_on : {T : Type 0} (fault : Option ViewError) (e : ViewError) (r : Result T ViewError) → IsErrAnd r (λ y. y ≡ e)
    → (e ≡ OutOfMemory) ⊎ (fault ≡ Some e) → IfErr r (λ y. (y ≡ OutOfMemory) ⊎ (fault ≡ Some y))
passed_on fault e (Ok x) is known = absurd is
passed_on fault e (Err y) is (inl refused) = inl (is ∙ refused)
passed_on fault e (Err y) is (inr known) = inr (known ∙ ap (λ refusal. Some refusal) (sym is))

-- ---- an input

module _ (request : Request) (words : List (List ℕ)) (input : List ℕ) where
  -- the fault of its bytes comes first
  pub by_bytes : (e : InputError) → bytes.fault_of (cells_asked request words) input ≡ Some e → fault_of_input request words input ≡ Some (of_input e)
  unfolding fault_of_input
  by_bytes e is = ap (λ fault. option_or (option_map of_input fault) (fault_of_rows request words (rows_in (cells_asked request words) input))) is

  -- then that of its rows
  pub by_rows : (rows : Table) → bytes.fault_of (cells_asked request words) input ≡ None → rows ≡ rows_in (cells_asked request words) input → fault_of_input request words input ≡ fault_of_rows request words rows
  unfolding fault_of_input
  by_rows rows good is =
      ap (λ fault. option_or (option_map of_input fault) (fault_of_rows request words (rows_in (cells_asked request words) input))) good
      ∙ ap (fault_of_rows request words) (sym is)

  -- after the name of the style
  pub by_style : (around : Surroundings) → style_asked request words around ≡ None → fault_of request words around input ≡ Some (unknown_style request)
  by_style around none = ap (λ style. option_or (fault_of_style request style) (fault_of_input request words input)) none

  pub by_input : (around : Surroundings) (style : ReadyStyle) → style_asked request words around ≡ Some style → fault_of request words around input ≡ fault_of_input request words input
  by_input around style some = ap (λ style. option_or (fault_of_style request style) (fault_of_input request words input)) some

-- reading is refused for no failed write
pub not_written : (e : InputError) → of_input e ≢ WriteFailed
not_written input.ReadFailed is = absurd (cc)
not_written input.TooLong is = absurd (cc)
not_written (input.NotUtf8 line byte) is = absurd (cc)
not_written (input.OpenQuote line row) is = absurd (cc)
not_written input.OutOfMemory is = absurd (cc)
