-- The lines of an input and the pieces of a text, by their first one and what follows it.
use Rattle.std.proofs.Common.{◌≡◌, ℕ, ◌+◌, ◌<◌, ◌≤◌, inl, inr, List, [], ◌∷◌, map, length, refl, sym, ap, ◌∙◌, arith}
use Rattle.std.specs.List.{before_first, after_first, position_or_len}
use Rattle.std.proofs.lemmas.Bool.{cases_lt}
use Rattle.std.proofs.lemmas.List.{take_all, drop_all}
use Rattle.tabled_pages.specs.declared.bytes.TheConstants.{LINE_FEED}
use Rattle.std.proofs.lemmas.List.Splits.{slice_split_first, slice_split_none, length-slice_split}
use Rattle.std.proofs.lemmas.List.Sums.{fails_before_first, prefix_len-le-length}
use Rattle.std.specs.Prelude.{not}
use Rattle.tabled_pages.specs.Input.{is_byte, pieces, without_empty_last, lines_of, cells_of, rows_of}

pieces-first : (byte : ℕ) (text : List ℕ) → position_or_len (is_byte byte) text < length text
    → pieces byte text ≡ before_first (is_byte byte) text ∷ pieces byte (after_first (is_byte byte) text)
pieces-first byte text inside = slice_split_first (is_byte byte) text 0 inside

place-le : (byte : ℕ) (text : List ℕ) → position_or_len (is_byte byte) text ≤ length text
place-le byte text = prefix_len-le-length (λ b. not (is_byte byte b)) text

-- a text without the byte is one piece
pieces-none : (byte : ℕ) (text : List ℕ) → length text ≤ position_or_len (is_byte byte) text → pieces byte text ≡ text ∷ []
pieces-none byte text none = slice_split_none (is_byte byte) text (λ k d inside. fails_before_first (is_byte byte) text k d (omega arith))

before-none : (byte : ℕ) (text : List ℕ) → length text ≤ position_or_len (is_byte byte) text → before_first (is_byte byte) text ≡ text
before-none byte text none = take_all (position_or_len (is_byte byte) text) text none

after-none : (byte : ℕ) (text : List ℕ) → length text ≤ position_or_len (is_byte byte) text → after_first (is_byte byte) text ≡ []
after-none byte text none = drop_all (position_or_len (is_byte byte) text + 1) text (omega arith)

-- a text has a piece
pub pieces-some : (byte : ℕ) (text : List ℕ) → 0 < length (pieces byte text)
pieces-some byte text = simp (length-slice_split (is_byte byte) text) (omega arith)

-- a piece before others stays, and what follows it loses an empty last piece
without-cons : (p : List ℕ) (ps : List (List ℕ)) → 0 < length ps → without_empty_last (p ∷ ps) ≡ p ∷ without_empty_last ps
without-cons p [] some = absurd (omega arith)
without-cons [] (q ∷ ps) some = refl
without-cons (x ∷ xs) (q ∷ ps) some = refl

without-one : (p : List ℕ) → 0 < length p → without_empty_last (p ∷ []) ≡ p ∷ []
without-one [] some = absurd (omega arith)
without-one (x ∷ xs) some = refl

pub lines_of-nil : lines_of [] ≡ []
unfolding lines_of
lines_of-nil = refl

-- an input that is not empty has a first line, and the lines of what follows it
pub lines_of-first : (input : List ℕ) → 0 < length input
    → lines_of input ≡ before_first (is_byte LINE_FEED) input ∷ lines_of (after_first (is_byte LINE_FEED) input)
unfolding lines_of
lines_of-first input some = elim (cases_lt (position_or_len (is_byte LINE_FEED) input) (length input)) [
  | inl inside ↦ ap without_empty_last (pieces-first LINE_FEED input inside)
      ∙ without-cons _ _ (pieces-some LINE_FEED (after_first (is_byte LINE_FEED) input))
  | inr none ↦ ap without_empty_last (pieces-none LINE_FEED input none) ∙ without-one input some
      ∙ ap (λ p. p ∷ []) (sym (before-none LINE_FEED input none))
      ∙ ap (λ rest. before_first (is_byte LINE_FEED) input ∷ without_empty_last (pieces LINE_FEED rest)) (sym (after-none LINE_FEED input none))
]

pub rows_of-first : (input : List ℕ) → 0 < length input
    → rows_of input ≡ cells_of (before_first (is_byte LINE_FEED) input) ∷ rows_of (after_first (is_byte LINE_FEED) input)
rows_of-first input some = ap (map cells_of) (lines_of-first input some)

pub lines_of-empty : (input : List ℕ) → length input ≤ 0 → lines_of input ≡ []
lines_of-empty [] none = lines_of-nil
lines_of-empty (b ∷ bs) none = absurd (omega arith)
