-- A text and its pieces between separators.
use Rattle.std.proofs.Common.{◌≡◌, ◌≢◌, ℕ, ◌<◌, Bool, true, false, ◌==◌, Option, Some, None, IfSome, MatchOption, List, [], ◌∷◌, ◌++◌, length, get_or, map, encode_utf8, cond, refl, sym, ap, ◌∙◌, arith, lit<, length-append, append_assoc}
use Rattle.std.specs.List.{slice_split, onto_first, join_with_byte}
use Rattle.std.proofs.lemmas.Str.{encode_ascii}
use Rattle.tabled_width.specs.Texts.{pieces}
use Rattle.std.proofs.lemmas.Bool.Decides.{nat_tests}
use Rattle.std.proofs.lemmas.List.{get_or_default}
use Rattle.std.proofs.lemmas.List.Splits.{slice_split_none, slice_split_at}
use Rattle.std.proofs.lemmas.Str.Pattern.{IsSplitOnceResult, split_parts}
use denote.Ref.{Bor}

module _ (c : ℕ) (low : c < 128) where
  not_it : (n : ℕ) → n ≢ c → (n == c) ≡ false
  not_it n never = grind (arith, nat_tests)

  it_is : (c == c) ≡ true
  it_is = grind (arith, nat_tests)

  other : (text : List ℕ) (k d : ℕ) → k < length text → ((i : ℕ) → i < length text → get_or text i 0 ≢ c) → (get_or text k d == c) ≡ false
  other text k d within never = not_it (get_or text k d) (λ is. never k within (get_or_default text k 0 d within ∙ is))

  -- a text's first piece, and the others
  pub cut_parts : (text : List ℕ) (r : Option (Bor (List ℕ) × Bor (List ℕ))) → IsSplitOnceResult c text r
      → MatchOption r (slice_split (λ byte. byte == c) text ≡ text ∷ []) (λ parts. slice_split (λ byte. byte == c) text ≡ parts.0.now ∷ slice_split (λ byte. byte == c) parts.1.now)
  cut_parts text None is = slice_split_none (λ byte. byte == c) text (λ k d within. other text k d within (split_parts c text None is low))
  cut_parts text (Some parts) is =
      let at = split_parts c text (Some parts) is low in
      ap (slice_split (λ byte. byte == c)) at.0 ∙ slice_split_at (λ byte. byte == c) parts.0.now c parts.1.now (λ k d within. other parts.0.now k d within at.1) it_is

  pub cut_shorter : (text : List ℕ) (r : Option (Bor (List ℕ) × Bor (List ℕ))) → IsSplitOnceResult c text r → IfSome r (λ parts. length parts.1.now < length text)
  cut_shorter text None is = tt
  cut_shorter text (Some parts) is =
      let at = split_parts c text (Some parts) is low in
      omega (arith, ap length at.0, length-append parts.0.now (c ∷ parts.1.now))

-- ---- each line of a text by itself

some_onto : (b : ℕ) (parts : List (List ℕ)) → (first : List ℕ) × (more : List (List ℕ)) × (onto_first b parts ≡ first ∷ more)
some_onto b [] = (b ∷ [], [], refl)
some_onto b (part ∷ parts) = (b ∷ part, parts, refl)

some_cond : (t : Bool) (xs ys : List (List ℕ)) → ((first : List ℕ) × (more : List (List ℕ)) × (ys ≡ first ∷ more)) → (first : List ℕ) × (more : List (List ℕ)) × (cond t ([] ∷ xs) ys ≡ first ∷ more)
some_cond true xs ys some = ([], xs, refl)
some_cond false xs ys some = some

-- there is a piece, whatever parts them
pub some_parts : (c : ℕ) (text : List ℕ) → (first : List ℕ) × (more : List (List ℕ)) × (slice_split (λ byte. byte == c) text ≡ first ∷ more)
some_parts c [] = ([], [], refl)
some_parts c (b ∷ bs) =
    let parts : List (List ℕ) = slice_split (λ byte. byte == c) bs in
    some_cond (b == c) parts (onto_first b parts) (some_onto b parts)

pub some_pieces : (text : List ℕ) → (first : List ℕ) × (more : List (List ℕ)) × (pieces text ≡ first ∷ more)
some_pieces text = some_parts 10 text

module _ (change : List ℕ → List ℕ) where
  pub lines_more : (written row fed goal rest line more : List ℕ) → written ++ join_with_byte 10 (map change (pieces rest)) ≡ goal → pieces rest ≡ line ∷ pieces more
      → row ≡ written ++ change line → fed ≡ row ++ encode_utf8 10 → fed ++ join_with_byte 10 (map change (pieces more)) ≡ goal
  lines_more written row fed goal rest line more so_far first is ended =
      let next = some_pieces more in
      let tail : List ℕ = join_with_byte 10 (map change (next.0 ∷ next.1)) in
      ap (λ ps. fed ++ join_with_byte 10 (map change ps)) next.2
      ∙ ap (λ bs. bs ++ tail) (ended ∙ ap (λ bs. row ++ bs) (encode_ascii 10 (lit< tt)) ∙ ap (λ bs. bs ++ 10 ∷ []) is)
      ∙ append_assoc (written ++ change line) (10 ∷ []) tail ∙ append_assoc written (change line) (10 ∷ tail)
      ∙ ap (λ ps. written ++ join_with_byte 10 (map change (line ∷ ps))) (sym next.2)
      ∙ ap (λ ps. written ++ join_with_byte 10 (map change ps)) (sym first) ∙ so_far

  pub lines_end : (written out goal rest : List ℕ) → written ++ join_with_byte 10 (map change (pieces rest)) ≡ goal → pieces rest ≡ rest ∷ [] → out ≡ written ++ change rest → out ≡ goal
  lines_end written out goal rest so_far last is = is ∙ ap (λ ps. written ++ join_with_byte 10 (map change ps)) (sym last) ∙ so_far
