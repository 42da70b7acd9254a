-- The pieces of a text between separators: they are texts, and have no separator.
use Rattle.std.proofs.Common.{◌≡◌, ◌==◌, ℕ, ◌+◌, ◌<◌, ◌≤◌, zero, suc, Bool, true, false, not, ltb, List, [], ◌∷◌, length, get_or, take, refl, sym, ap, subst, ◌∙◌, arith, add-one}
use Rattle.std.specs.Str.{IsUtf8}
use Rattle.std.specs.List.{All, slice_split, position_or_len, before_first, after_first}
use Rattle.std.proofs.lemmas.Bool.{ltb-true, ltb-false}
use Rattle.std.proofs.lemmas.Bool.Decides.{nat_tests}
use Rattle.std.proofs.lemmas.List.{get_or-take, get_or_past, take_all, drop_all, get_or_default}
use Rattle.std.proofs.lemmas.List.Splits.{slice_split_none, slice_split_first}
use Rattle.std.proofs.lemmas.List.Sums.{fails_before_first, prefix_len_stops}
use Rattle.std.proofs.lemmas.Str.{IsUtf8-nil, IsUtf8-take, IsUtf8-drop, IsCharBoundary-before_ascii, IsCharBoundary-after_ascii}

-- a text without a separator
abbrev pub Lacks : ℕ → List ℕ → Type 0
Lacks separator line = All (λ byte. (byte == separator) ≡ false) line

take_short : (n : ℕ) (text : List ℕ) → length (take n text) ≤ n
take_short zero text = omega arith
take_short (suc n) [] = omega arith
take_short (suc n) (b ∷ bs) = omega (arith, take_short n bs)

module _ (separator : ℕ) where
  abbrev parts : List ℕ → List (List ℕ)
  parts text = slice_split (λ byte. byte == separator) text

  abbrev first_part : List ℕ → List ℕ
  first_part text = before_first (λ byte. byte == separator) text

  abbrev after_first_part : List ℕ → List ℕ
  after_first_part text = after_first (λ byte. byte == separator) text

  abbrev place : List ℕ → ℕ
  place text = position_or_len (λ byte. byte == separator) text

  none_there : (k : ℕ) → get_or {A = List ℕ} ([] ∷ []) k [] ≡ []
  none_there zero = refl
  none_there (suc k) = refl

  -- the pieces of a text, by its first
  taken_apart : (text : List ℕ) (more : Bool) → ltb (place text) (length text) ≡ more
      → (get_or (parts text) 0 [] ≡ first_part text) × ((k : ℕ) → get_or (parts (after_first_part text)) k [] ≡ get_or (parts text) (k + 1) [])
  taken_apart text true e =
      let apart : parts text ≡ first_part text ∷ parts (after_first_part text) = slice_split_first (λ byte. byte == separator) text 0 (ltb-true _ _ e) in
      (ap (λ ps. get_or ps 0 []) apart, λ k. sym (ap (λ ps. get_or ps (k + 1) []) apart ∙ ap (λ n. get_or (first_part text ∷ parts (after_first_part text)) n []) (add-one k)))
  taken_apart text false e =
      let past : length text ≤ place text = ltb-false _ _ e in
      let whole : parts text ≡ text ∷ [] = slice_split_none (λ byte. byte == separator) text (λ k d within. fails_before_first (λ byte. byte == separator) text k d (omega arith)) in
      let nothing : after_first_part text ≡ [] = drop_all (place text + 1) text (omega arith) in (
        ap (λ ps. get_or ps 0 []) whole ∙ sym (take_all (place text) text past),
        λ k. ap (λ rest. get_or (parts rest) k []) nothing ∙ none_there k ∙ sym (ap (λ ps. get_or ps (k + 1) []) whole ∙ get_or_past (text ∷ []) (k + 1) [] (omega arith)),
      )

  first_of_parts : (text : List ℕ) → get_or (parts text) 0 [] ≡ first_part text
  first_of_parts text = (taken_apart text _ refl).0

  rest_of_parts : (text : List ℕ) (k : ℕ) → get_or (parts (after_first_part text)) k [] ≡ get_or (parts text) (k + 1) []
  rest_of_parts text k = (taken_apart text _ refl).1 k

  separator_at : (text : List ℕ) → place text < length text → get_or text (place text) 0 ≡ separator
  separator_at text inside = let stops = prefix_len_stops (λ byte. not (byte == separator)) text 0 inside in grind (arith, nat_tests)

  -- a piece of a text has no separator
  first_lacks : (text : List ℕ) → Lacks separator (first_part text)
  first_lacks text k d within =
      let short : length (first_part text) ≤ place text = take_short (place text) text in
      let inside : k < place text = omega arith in
      ap (λ b. b == separator) (get_or-take (place text) text k d inside) ∙ fails_before_first (λ byte. byte == separator) text k d inside

  piece_lacks : (k : ℕ) (text : List ℕ) → Lacks separator (get_or (parts text) k [])
  piece_lacks zero text = subst (Lacks separator) (sym (first_of_parts text)) (first_lacks text)
  piece_lacks (suc k) text = subst (Lacks separator) (rest_of_parts text k ∙ ap (λ n. get_or (parts text) n []) (omega arith)) (piece_lacks k (after_first_part text))

  pub all_lack : (text : List ℕ) → All (Lacks separator) (parts text)
  all_lack text k d within = subst (Lacks separator) (get_or_default (parts text) k [] d within) (piece_lacks k text)

  module _ (low : separator < 128) where
    rest_by : (text : List ℕ) (inside : Bool) → ltb (place text) (length text) ≡ inside → IsUtf8 text → IsUtf8 (after_first_part text)
    rest_by text true e u =
        let at = ltb-true _ _ e in
        IsUtf8-drop text _ u (IsCharBoundary-after_ascii text _ u at (let here = separator_at text at in omega arith))
    rest_by text false e u =
        let past = ltb-false _ _ e in
        subst IsUtf8 (sym (drop_all (place text + 1) text (omega arith))) IsUtf8-nil

    first_by : (text : List ℕ) (inside : Bool) → ltb (place text) (length text) ≡ inside → IsUtf8 text → IsUtf8 (first_part text)
    first_by text true e u =
        let at = ltb-true _ _ e in
        IsUtf8-take text _ u (IsCharBoundary-before_ascii text _ at (let here = separator_at text at in omega arith))
    first_by text false e u =
        let past = ltb-false _ _ e in
        subst IsUtf8 (sym (take_all (place text) text past)) u

    piece_is_text : (k : ℕ) (text : List ℕ) → IsUtf8 text → IsUtf8 (get_or (parts text) k [])
    piece_is_text zero text u = subst IsUtf8 (sym (first_of_parts text)) (first_by text _ refl u)
    piece_is_text (suc k) text u =
        subst IsUtf8 (rest_of_parts text k ∙ ap (λ n. get_or (parts text) n []) (omega arith)) (piece_is_text k (after_first_part text) (rest_by text _ refl u))

    pub all_texts : (text : List ℕ) → IsUtf8 text → All IsUtf8 (parts text)
    all_texts text u k d within = subst IsUtf8 (get_or_default (parts text) k [] d within) (piece_is_text k text u)
