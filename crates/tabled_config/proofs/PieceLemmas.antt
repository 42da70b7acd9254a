-- Texts that are taken apart piece by piece.
use Rattle.std.proofs.Common.{◌≡◌, ℕ, ◌+◌, ◌<◌, ◌≤◌, Bool, true, false, if◌then◌else◌, nat_lt, ltb, List, [], ◌∷◌, length, zero, suc, get_or, slice_index_or, set, refl, sym, ap, ◌∙◌, ◌==◌, arith, add-one, add-zero, Result, Ok, Err, OnOk}
use Rattle.std.specs.List.{position_or_len}
use Rattle.std.proofs.lemmas.Bool.{ltb-true, ltb-false, le-ltb}
use Rattle.std.proofs.lemmas.Bool.Decides.{nat_tests}
use Rattle.std.proofs.lemmas.Grind.{common_steps}
use Rattle.std.proofs.lemmas.List.{map-set, get_or-map, get_or_past, take_all, drop_all, length-map}
use Rattle.std.proofs.lemmas.List.Splits.{slice_split_none, slice_split_first}
use Rattle.std.proofs.lemmas.List.Sums.{fails_before_first}
use denote.Ref.{Bor}
use Rattle.tabled_width.specs.Texts.{pieces}
use Rattle.tabled_printing.specs.Pieces.{lent, first_piece, after_first_piece}
use Rattle.tabled_printing.specs.Picture.{Look, line_of_pieces, row_line}

-- a text that has lost its first piece, or not
abbrev pub cut_if : Bool → List ℕ → List ℕ
cut_if b text = if b then after_first_piece text else text

-- the texts below that place have lost their first piece, and the others are as they were
abbrev pub CutBelow : ℕ → List (List ℕ) → List (List ℕ) → Type 0
CutBelow n old new = (c : ℕ) → slice_index_or new c [] ≡ cut_if (nat_lt c n) (slice_index_or old c [])

-- what is left of texts of which the given number of pieces were taken
abbrev pub AreRests : ℕ → List (List ℕ) → List (List ℕ) → Type 0
AreRests taken texts rests = (c k : ℕ) → slice_index_or (pieces (slice_index_or rests c [])) k [] ≡ slice_index_or (pieces (slice_index_or texts c [])) (taken + k) []

-- the pieces of a text, by its first
taken_apart : (text : List ℕ) (more : Bool) → ltb (position_or_len (λ byte. byte == 10) text) (length text) ≡ more
    → (get_or (pieces text) 0 [] ≡ first_piece text) × ((k : ℕ) → get_or (pieces (after_first_piece text)) k [] ≡ get_or (pieces text) (k + 1) [])
taken_apart text true e =
    let apart : pieces text ≡ first_piece text ∷ pieces (after_first_piece text) = slice_split_first (λ byte. byte == 10) text 0 (ltb-true _ _ e) in
    (ap (λ ps. get_or ps 0 []) apart, λ k. sym (ap (λ ps. get_or ps (k + 1) []) apart ∙ ap (λ n. get_or (first_piece text ∷ pieces (after_first_piece text)) n []) (add-one k)))
taken_apart text false e =
    let past : length text ≤ position_or_len (λ byte. byte == 10) text = ltb-false _ _ e in
    let whole : pieces text ≡ text ∷ [] = slice_split_none (λ byte. byte == 10) text (λ k d within. fails_before_first (λ byte. byte == 10) text k d (omega arith)) in
    let nothing : after_first_piece text ≡ [] = drop_all (position_or_len (λ byte. byte == 10) text + 1) text (omega arith) in (
      ap (λ ps. get_or ps 0 []) whole ∙ sym (take_all (position_or_len (λ byte. byte == 10) text) text past),
      λ k. ap (λ rest. get_or (pieces rest) k []) nothing ∙ none_there k ∙ sym (ap (λ ps. get_or ps (k + 1) []) whole ∙ get_or_past (text ∷ []) (k + 1) [] (omega arith)),
    )
  where
    none_there : (k : ℕ) → get_or {A = List ℕ} ([] ∷ []) k [] ≡ []
    none_there zero = refl
    none_there (suc k) = refl

pub first_of_pieces : (text : List ℕ) → get_or (pieces text) 0 [] ≡ first_piece text
first_of_pieces text = (taken_apart text _ refl).0

pub rest_of_pieces : (text : List ℕ) (k : ℕ) → get_or (pieces (after_first_piece text)) k [] ≡ get_or (pieces text) (k + 1) []
rest_of_pieces text k = (taken_apart text _ refl).1 k

module _ (n : ℕ) (old : List (List ℕ)) (rests : List (Bor (List ℕ))) (d : Bor (List ℕ)) where
  -- the text at that place is as it was
  pub not_cut : CutBelow n old (lent rests) → n < length rests → (get_or rests n d).now ≡ get_or old n []
  not_cut cut within =
      sym (get_or-map (λ text. text.now) rests n d [] within) ∙ cut n
      ∙ ap (λ b. cut_if b (get_or old n [])) (le-ltb n n (omega arith))

  -- one more text has lost its first piece
  pub cut_more : (r : Bor (List ℕ)) → CutBelow n old (lent rests) → n < length rests → r.now ≡ after_first_piece (get_or rests n d).now → CutBelow (n + 1) old (lent (set rests n r))
  cut_more r cut within is c = let here = cut c in let kept = not_cut cut within in let long = length-map rests (λ text. text.now) in let mapped = map-set (λ text. text.now) rests n r in grind (arith, common_steps, nat_tests)

pub on_ok : {T E P : Type 0} (r : Result T E) → P → OnOk r P
on_ok (Ok x) p = p
on_ok (Err y) p = tt

-- one piece more is taken
pub rests_more : (n : ℕ) (texts rests less : List (List ℕ)) → AreRests n texts rests → ((c : ℕ) → get_or less c [] ≡ after_first_piece (get_or rests c [])) → AreRests (n + 1) texts less
rests_more n texts rests less before cut c k =
    ap (λ rest. get_or (pieces rest) k []) (cut c) ∙ rest_of_pieces (get_or rests c []) k ∙ before c (k + 1)
    ∙ ap (λ m. get_or (pieces (get_or texts c [])) m []) (omega arith)

-- the first pieces of the rests are the next pieces of the texts
pub line_of_rests : (view : Look) (r n : ℕ) (texts rests : List (List ℕ)) → AreRests n texts rests → line_of_pieces view r n (λ c. first_piece (get_or rests c [])) ≡ row_line view r texts n
line_of_rests view r n texts rests before =
    λ i. line_of_pieces view r n (λ c. (sym (first_of_pieces (get_or rests c [])) ∙ before c 0 ∙ ap (λ m. get_or (pieces (get_or texts c [])) m []) (add-zero n)) i)
