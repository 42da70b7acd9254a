-- What is written for an input, and when nothing is: by what is known of the bytes that a reader gives.
use Rattle.std.proofs.Common.{◌≡◌, ◌≢◌, ℕ, List, Option, Some, None, Result, Ok, Err, IsErrAnd, IfErr, IfSome, ◌⊎◌, inl, inr, refl, sym, ap, subst, ◌∙◌}
use Rattle.std.specs.Prelude.{IsErrOf}
use Rattle.std.specs.Io.KnownBytes.{Appends, Keeps}
use Rattle.tabled_width.specs.Texts.{Table}
use Rattle.tabled_style.specs.declared.ready_style.ReadyStyle.{ReadyStyle}
use Rattle.tabled_input.specs.Input as bytes
use Rattle.tabled_input.specs.Input.{rows_in}
use Rattle.tabled_input.specs.declared.rows.Cells.{Cells}
use Rattle.tabled_input.specs.declared.error.InputError.{InputError}
use Rattle.tabled_input.specs.declared.error.InputError.TheVariants as input
use Rattle.tabled_request.specs.declared.request.Request.{Request}
use Rattle.tabled_request.specs.declared.surroundings.Surroundings.{Surroundings}
use Rattle.tabled_viewing.specs.Asked.{cells_asked, style_asked}
use Rattle.tabled_viewing.specs.Refusal.{fault_of, fault_of_input, fault_of_rows, of_input, unknown_style}
use Rattle.tabled_viewing.specs.View.{IsView, IsViewOfInput, IsViewOfRows}
use Rattle.tabled_viewing.specs.declared.error.ViewError.{ViewError}
use Rattle.tabled_viewing.specs.declared.notes.Notes.{Notes}
use Rattle.tabled_viewing.specs.declared.error.ViewError.TheVariants.{Input, OutOfMemory, WriteFailed}
use Rattle.tabled_viewing.proofs.Faults.{by_bytes, by_input, by_rows, by_style}

-- ---- the text of an input in a style

module _ (request : Request) (style : ReadyStyle) (words : List (List ℕ)) (around : Surroundings) where
  pub view_read : (known : Option (List ℕ)) (cells : Cells) (rows : Table) (text : List ℕ) (notes : Notes) → cells ≡ cells_asked request words → IfSome known (λ read. rows ≡ rows_in cells read)
      → IsViewOfRows request style words around rows text notes → IfSome known (λ read. IsViewOfInput request style words around read text notes)
  view_read None cells rows text notes asked are view = tt
  view_read (Some read) cells rows text notes asked are view =
      subst (λ (rows : Table). IsViewOfRows request style words around rows text notes) (are ∙ ap (λ cells. rows_in cells read) asked) view

  pub view_written : (known : Option (List ℕ)) (text : List ℕ) (notes : Notes) (old new : Option (List ℕ)) → style_asked request words around ≡ Some style
      → IfSome known (λ read. IsViewOfInput request style words around read text notes) → Appends old new text
      → IfSome known (λ read. (text : List ℕ) × IsView request words around read text notes × Appends old new text)
  view_written None text notes old new some view appended = tt
  view_written (Some read) text notes old new some view appended = (text, (style, some, view), appended)

  pub good_whole : (known : Option (List ℕ)) → style_asked request words around ≡ Some style → IfSome known (λ read. fault_of_input request words read ≡ None)
      → IfSome known (λ read. fault_of request words around read ≡ None)
  good_whole None some good = tt
  good_whole (Some read) some good = by_input request words read around style some ∙ good

  pub refused_later : (known : Option (List ℕ)) (e : ViewError) → style_asked request words around ≡ Some style
      → (e ≡ OutOfMemory) ⊎ ((e ≡ Input input.ReadFailed) ⊎ IfSome known (λ read. fault_of_input request words read ≡ Some e))
      → (e ≡ OutOfMemory) ⊎ ((e ≡ Input input.ReadFailed) ⊎ ((e ≡ WriteFailed) ⊎ IfSome known (λ read. fault_of request words around read ≡ Some e)))
  refused_later known e some (inl refused) = inl refused
  refused_later known e some (inr (inl failed)) = inr (inl failed)
  refused_later None e some (inr (inr fault)) = inr (inr (inr tt))
  refused_later (Some read) e some (inr (inr fault)) = inr (inr (inr (by_input request words read around style some ∙ fault)))

module _ (request : Request) (words : List (List ℕ)) where
  pub good_read : (known : Option (List ℕ)) (cells : Cells) (rows : Table) → cells ≡ cells_asked request words → IfSome known (λ read. rows ≡ rows_in cells read)
      → IfSome known (λ read. bytes.fault_of cells read ≡ None) → fault_of_rows request words rows ≡ None → IfSome known (λ read. fault_of_input request words read ≡ None)
  good_read None cells rows asked are good equal = tt
  good_read (Some read) cells rows asked are good equal =
      by_rows request words read rows (sym (ap (λ cells. bytes.fault_of cells read) asked) ∙ good) (are ∙ ap (λ cells. rows_in cells read) asked) ∙ equal

  pub refused_rows : (known : Option (List ℕ)) (cells : Cells) (rows : Table) (e : ViewError) → cells ≡ cells_asked request words → IfSome known (λ read. rows ≡ rows_in cells read)
      → IfSome known (λ read. bytes.fault_of cells read ≡ None) → (e ≡ OutOfMemory) ⊎ (fault_of_rows request words rows ≡ Some e)
      → (e ≡ OutOfMemory) ⊎ ((e ≡ Input input.ReadFailed) ⊎ IfSome known (λ read. fault_of_input request words read ≡ Some e))
  refused_rows known cells rows e asked are good (inl refused) = inl refused
  refused_rows None cells rows e asked are good (inr fault) = inr (inr tt)
  refused_rows (Some read) cells rows e asked are good (inr fault) =
      inr (inr (by_rows request words read rows (sym (ap (λ cells. bytes.fault_of cells read) asked) ∙ good) (are ∙ ap (λ cells. rows_in cells read) asked) ∙ fault))

  -- where all was good but the rows
  pub refused_written : (style : ReadyStyle) (around : Surroundings) (known : Option (List ℕ)) (cells : Cells) (rows : Table) (e : ViewError) → style_asked request words around ≡ Some style
      → cells ≡ cells_asked request words → IfSome known (λ read. rows ≡ rows_in cells read) → IfSome known (λ read. bytes.fault_of cells read ≡ None)
      → (e ≡ OutOfMemory) ⊎ ((e ≡ WriteFailed) ⊎ (fault_of_rows request words rows ≡ Some e))
      → (e ≡ OutOfMemory) ⊎ ((e ≡ Input input.ReadFailed) ⊎ ((e ≡ WriteFailed) ⊎ IfSome known (λ read. fault_of request words around read ≡ Some e)))
  refused_written style around known cells rows e some asked are good (inl refused) = inl refused
  refused_written style around known cells rows e some asked are good (inr (inl failed)) = inr (inr (inl failed))
  refused_written style around known cells rows e some asked are good (inr (inr fault)) =
      refused_later request style words around known e some (refused_rows known cells rows e asked are good (inr fault))

  pub refused_bytes : (known : Option (List ℕ)) (cells : Cells) (e : InputError) → cells ≡ cells_asked request words
      → (e ≡ input.OutOfMemory) ⊎ ((e ≡ input.ReadFailed) ⊎ IfSome known (λ read. bytes.fault_of cells read ≡ Some e))
      → (of_input e ≡ OutOfMemory) ⊎ ((of_input e ≡ Input input.ReadFailed) ⊎ IfSome known (λ read. fault_of_input request words read ≡ Some (of_input e)))
  refused_bytes known cells e asked (inl refused) = inl (ap of_input refused)
  refused_bytes known cells e asked (inr (inl failed)) = inr (inl (ap of_input failed))
  refused_bytes None cells e asked (inr (inr fault)) = inr (inr tt)
  refused_bytes (Some read) cells e asked (inr (inr fault)) =
      inr (inr (by_bytes request words read e (sym (ap (λ cells. bytes.fault_of cells read) asked) ∙ fault)))

  pub refused_style : (known : Option (List ℕ)) (around : Surroundings) (e : ViewError) → style_asked request words around ≡ None → e ≡ unknown_style request
      → (e ≡ OutOfMemory) ⊎ ((e ≡ Input input.ReadFailed) ⊎ ((e ≡ WriteFailed) ⊎ IfSome known (λ read. fault_of request words around read ≡ Some e)))
  refused_style None around e none is = inr (inr (inr tt))
  refused_style (Some read) around e none is = inr (inr (inr (by_style request words read around none ∙ ap (λ e. Some e) (sym is))))

-- what holds of an error holds of it where it was passed on
pub as_passed : {T : Type 0} (P : ViewError → Type 0) (e : ViewError) (r : Result T ViewError) → IsErrAnd r (λ y. y ≡ e) → P e → IfErr r P
as_passed P e (Ok x) is known = absurd is
as_passed P e (Err y) is known = subst P (sym is) known

-- an error that was passed on is no failed write, where it was none before
pub not_passed : {T : Type 0} (e : ViewError) (r : Result T ViewError) → IsErrAnd r (λ y. y ≡ e) → e ≢ WriteFailed → IsErrOf r WriteFailed → ⊥
not_passed e (Ok x) is other failed = absurd is
not_passed e (Err y) is other failed = let same : e ≡ WriteFailed = cc in absurd (other same)

-- known bytes keep themselves
known_keeps : (known : Option (List ℕ)) → Keeps known known
known_keeps None = tt
known_keeps (Some bytes) = refl

-- where an output changes only as its own writer fails, any other refusal keeps what is known of it
pub kept_unwritten : {T S : Type 0} (r : Result T ViewError) (contents : S → Option (List ℕ)) (old new : S) → IfErr r (λ e. (e ≡ WriteFailed) ⊎ (new ≡ old)) → IfErr r (λ e. e ≢ WriteFailed → Keeps (contents old) (contents new))
kept_unwritten (Ok x) contents old new h = tt
kept_unwritten (Err e) contents old new (inl failed) = λ other. absurd (other failed)
kept_unwritten (Err e) contents old new (inr same) = λ other. subst (λ state. Keeps (contents old) (contents state)) (sym same) (known_keeps (contents old))
