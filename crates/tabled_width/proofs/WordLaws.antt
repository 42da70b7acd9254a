-- What holds of the rows of a line that is cut at its spaces.
use Rattle.std.proofs.Common.{◌≡◌, inl, inr, ⊎_elim, ℕ, Bool, true, false, if◌then◌else◌, List, [], ◌∷◌, map, refl}
use Rattle.std.specs.List.{All, flat_map}
use Rattle.std.proofs.lemmas.List.Elements.{All-nil, All-cons, All-head, All-tail, All-append}
use Rattle.tabled_width.specs.Texts.{fits}
use Rattle.tabled_width.specs.Clusters.{clusters}
use Rattle.tabled_width.specs.Rows.{Chunk, close, rows, spaced, words, parts_of, word_rows}
use Rattle.tabled_width.proofs.RowLaws.{Stands, PartStands, parts_stand, close_stand, nothing_fits}

-- ---- each row fits, or is one cluster of a word

module _ (width : ℕ) (Alone : List ℕ → Type 0) where
  spaced_stand : (gap : ℕ) (us : List (List ℕ)) → All Alone us → All (PartStands width Alone) (spaced gap us)
  spaced_stand gap [] all = All-nil (PartStands width Alone)
  spaced_stand gap (u ∷ us) all =
      All-cons (PartStands width Alone) (record { gap = gap; text = u }) (map close us) (inr (All-head Alone u us all)) (close_stand width Alone us (All-tail Alone u us all))

  -- whatever stands alone, if each cluster of each word may
  word_stands : (word : Chunk) → All Alone (clusters word.text) → All (PartStands width Alone) (parts_of width word)
  word_stands word all = by (fits width word.text) refl
    where
      by : (b : Bool) → fits width word.text ≡ b → All (PartStands width Alone) (if b then word ∷ [] else spaced word.gap (clusters word.text))
      by true e = All-cons (PartStands width Alone) word [] (inl e) (All-nil (PartStands width Alone))
      by false e = spaced_stand word.gap (clusters word.text) all

  pub words_stand : (ws : List Chunk) → All (λ word. All Alone (clusters word.text)) ws → All (PartStands width Alone) (flat_map (parts_of width) ws)
  words_stand [] all = All-nil (PartStands width Alone)
  words_stand (w ∷ ws) all =
      All-append (PartStands width Alone) (parts_of width w) (flat_map (parts_of width) ws)
      (word_stands w (All-head (λ word. All Alone (clusters word.text)) w ws all))
      (words_stand ws (All-tail (λ word. All Alone (clusters word.text)) w ws all))

word_rows_stand : (width : ℕ) (line : List ℕ) (Alone : List ℕ → Type 0) → All (λ word. All Alone (clusters word.text)) (words line) → All (Stands width Alone) (word_rows width line)
unfolding word_rows
word_rows_stand width line Alone all = by (fits width line) refl
  where
    by : (b : Bool) → fits width line ≡ b → All (Stands width Alone) (if b then line ∷ [] else rows width [] (flat_map (parts_of width) (words line)))
    by true e = All-cons (Stands width Alone) line [] (inl e) (All-nil (Stands width Alone))
    by false e = parts_stand width Alone [] (flat_map (parts_of width) (words line)) (inl (nothing_fits width)) (words_stand width Alone (words line) all)

-- where each cluster of each word fits, each row does
pub word_rows_fit : (width : ℕ) (line : List ℕ) → All (λ word. All (λ cluster. fits width cluster ≡ true) (clusters word.text)) (words line)
    → All (λ row. fits width row ≡ true) (word_rows width line)
word_rows_fit width line all k d within =
    ⊎_elim (λ fit. fit) (λ fit. fit) (word_rows_stand width line (λ cluster. fits width cluster ≡ true) all k d within)
