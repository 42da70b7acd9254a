-- A line in color is its stretches, each between the texts of its color.
use Rattle.std.proofs.Common.{◌≡◌, ℕ, Bool, true, false, ◌==◌, if◌then◌else◌, Option, Some, None, List, [], ◌∷◌, ◌++◌, refl, sym, ap, ◌∙◌}
use Rattle.std.specs.Cmp.Lexicographic.{pointwise}
use Rattle.std.specs.List.{flat_map}
use Rattle.std.proofs.lemmas.Bool.{and_parts, eqb-true}
use Rattle.std.proofs.lemmas.List.{append-nil, append_assoc}
use Rattle.tabled_border.specs.Texts.{Texts}
use Rattle.tabled_painting.specs.Painted.{Painted, plain}
use Rattle.tabled_painting.specs.InColor.{same_color, prefix_of, suffix_of, between, colored, last_color, in_color}
use Rattle.tabled_claims.specs.Stretches.{Stretch, after_byte, stretches, between_its_texts}

-- ---- equal colors

bytes_same : (xs ys : List ℕ) → pointwise ◌==◌ xs ys ≡ true → xs ≡ ys
bytes_same [] [] is = refl
bytes_same [] (y ∷ ys) is = absurd cc
bytes_same (x ∷ xs) [] is = absurd cc
bytes_same (x ∷ xs) (y ∷ ys) is = let both = and_parts (x == y) (pointwise ◌==◌ xs ys) is in λ i. eqb-true x y both.0 i ∷ bytes_same xs ys both.1 i

color_same : (c d : Option Texts) → same_color c d ≡ true → c ≡ d
color_same None None is = refl
color_same None (Some d) is = absurd cc
color_same (Some c) None is = absurd cc
color_same (Some c) (Some d) is =
    let both = and_parts (pointwise ◌==◌ c.prefix d.prefix) (pointwise ◌==◌ c.suffix d.suffix) is in
    λ i. Some (record { prefix = bytes_same c.prefix d.prefix both.0 i; suffix = bytes_same c.suffix d.suffix both.1 i })

-- ---- in color

-- what follows the first text of the first stretch
after_first : List Stretch → List ℕ
after_first [] = []
after_first (first ∷ more) = first.1 ++ suffix_of first.0 ++ flat_map between_its_texts more

whole : (c : Option Texts) (bytes rest : List ℕ) → (prefix_of c ++ bytes ++ suffix_of c) ++ rest ≡ prefix_of c ++ (bytes ++ suffix_of c ++ rest)
whole c bytes rest = ap (λ bs. bs ++ rest) (append_assoc (prefix_of c) bytes (suffix_of c)) ∙ append_assoc (prefix_of c) (bytes ++ suffix_of c) rest

-- stretches that begin with the color of a byte
begins : (byte : ℕ × Option Texts) (runs : List Stretch) (same : Bool) (first : Stretch) → same_color byte.1 first.0 ≡ same
    → flat_map between_its_texts (after_byte byte (first ∷ runs)) ≡ prefix_of byte.1 ++ after_first (after_byte byte (first ∷ runs))
unfolding after_first
begins byte runs true first is =
    ap (λ b. flat_map between_its_texts (if b then (byte.1, byte.0 ∷ first.1) ∷ runs else (byte.1, byte.0 ∷ []) ∷ first ∷ runs)) is
    ∙ whole byte.1 (byte.0 ∷ first.1) (flat_map between_its_texts runs)
    ∙ ap (λ b. prefix_of byte.1 ++ after_first (if b then (byte.1, byte.0 ∷ first.1) ∷ runs else (byte.1, byte.0 ∷ []) ∷ first ∷ runs)) (sym is)
begins byte runs false first is =
    ap (λ b. flat_map between_its_texts (if b then (byte.1, byte.0 ∷ first.1) ∷ runs else (byte.1, byte.0 ∷ []) ∷ first ∷ runs)) is
    ∙ whole byte.1 (byte.0 ∷ []) (flat_map between_its_texts (first ∷ runs))
    ∙ ap (λ b. prefix_of byte.1 ++ after_first (if b then (byte.1, byte.0 ∷ first.1) ∷ runs else (byte.1, byte.0 ∷ []) ∷ first ∷ runs)) (sym is)

all_begin : (byte : ℕ × Option Texts) (runs : List Stretch) → flat_map between_its_texts (after_byte byte runs) ≡ prefix_of byte.1 ++ after_first (after_byte byte runs)
unfolding after_first
all_begin byte [] =
    append-nil (prefix_of byte.1 ++ byte.0 ∷ [] ++ suffix_of byte.1)
    ∙ append_assoc (prefix_of byte.1) (byte.0 ∷ []) (suffix_of byte.1)
    ∙ ap (λ bs. prefix_of byte.1 ++ byte.0 ∷ bs) (sym (append-nil (suffix_of byte.1)))
all_begin byte (first ∷ more) = begins byte more _ first refl

-- one byte more, whose color the next byte has or has not
module _ (byte next : ℕ × Option Texts) (rest : List ℕ) where
  one_more : (first : Stretch) (more : List Stretch) (same : Bool) → first.0 ≡ next.1 → flat_map between_its_texts (first ∷ more) ≡ prefix_of next.1 ++ after_first (first ∷ more) → rest ≡ after_first (first ∷ more) → same_color byte.1 first.0 ≡ same
      → byte.0 ∷ (between byte.1 next.1 ++ rest) ≡ after_first (after_byte byte (first ∷ more))
  unfolding after_first between
  one_more first more true at whole is e =
      ap (λ d. byte.0 ∷ ((if same_color byte.1 d then [] else suffix_of byte.1 ++ prefix_of d) ++ rest)) (sym at)
      ∙ ap (λ b. byte.0 ∷ ((if b then [] else suffix_of byte.1 ++ prefix_of first.0) ++ rest)) e
      ∙ ap (λ bs. byte.0 ∷ bs) (is ∙ ap (λ d. first.1 ++ suffix_of d ++ flat_map between_its_texts more) (sym (color_same byte.1 first.0 e)))
      ∙ ap (λ b. after_first (if b then (byte.1, byte.0 ∷ first.1) ∷ more else (byte.1, byte.0 ∷ []) ∷ first ∷ more)) (sym e)
  one_more first more false at whole is e =
      ap (λ d. byte.0 ∷ ((if same_color byte.1 d then [] else suffix_of byte.1 ++ prefix_of next.1) ++ rest)) (sym at)
      ∙ ap (λ b. byte.0 ∷ ((if b then [] else suffix_of byte.1 ++ prefix_of next.1) ++ rest)) e
      ∙ ap (λ bs. byte.0 ∷ ((suffix_of byte.1 ++ prefix_of next.1) ++ bs)) is
      ∙ ap (λ bs. byte.0 ∷ bs) (append_assoc (suffix_of byte.1) (prefix_of next.1) (after_first (first ∷ more)) ∙ ap (λ bs. suffix_of byte.1 ++ bs) (sym whole))
      ∙ ap (λ b. after_first (if b then (byte.1, byte.0 ∷ first.1) ∷ more else (byte.1, byte.0 ∷ []) ∷ first ∷ more)) (sym e)

first_after_byte : (byte : ℕ × Option Texts) (runs : List Stretch) → (bytes : List ℕ) × (more : List Stretch) × (after_byte byte runs ≡ (byte.1, bytes) ∷ more)
first_after_byte byte [] = (byte.0 ∷ [], [], refl)
first_after_byte byte (first ∷ more) =
    elim (same_color byte.1 first.0) as (λ same. (bytes : List ℕ) × (rest : List Stretch)
    × ((if same then (byte.1, byte.0 ∷ first.1) ∷ more else (byte.1, byte.0 ∷ []) ∷ first ∷ more) ≡ (byte.1, bytes) ∷ rest)) [
      | true ↦ (byte.0 ∷ first.1, more, refl)
      | false ↦ (byte.0 ∷ [], first ∷ more, refl)
    ]

from_a_byte : (byte : ℕ × Option Texts) (line : Painted) → byte.0 ∷ (colored byte.1 line ++ suffix_of (last_color byte.1 line)) ≡ after_first (after_byte byte (stretches line))
unfolding after_first
from_a_byte byte [] = ap (λ bs. byte.0 ∷ bs) (sym (append-nil (suffix_of byte.1)))
from_a_byte byte (next ∷ line) =
    let here = first_after_byte next (stretches line) in
    let rest : List ℕ = next.0 ∷ (colored next.1 line ++ suffix_of (last_color next.1 line)) in
    ap (λ bs. byte.0 ∷ bs) (append_assoc (between byte.1 next.1) (next.0 ∷ colored next.1 line) (suffix_of (last_color next.1 line)))
    ∙ one_more byte next rest (next.1, here.0) here.1 _ refl
    (sym (ap (flat_map between_its_texts) here.2) ∙ all_begin next (stretches line) ∙ ap (λ runs. prefix_of next.1 ++ after_first runs) here.2)
    (from_a_byte next line ∙ ap after_first here.2) refl
    ∙ ap (λ runs. after_first (after_byte byte runs)) (sym here.2)

begun : (color : Option Texts) → between None color ≡ prefix_of color
unfolding between
begun None = refl
begun (Some color) = refl

pub in_color_by_stretches : (line : Painted) → in_color line ≡ flat_map between_its_texts (stretches line)
in_color_by_stretches [] = refl
in_color_by_stretches (byte ∷ line) =
    append_assoc (between None byte.1) (byte.0 ∷ colored byte.1 line) (suffix_of (last_color byte.1 line))
    ∙ (λ i. begun byte.1 i ++ from_a_byte byte line i) ∙ sym (all_begin byte (stretches line))

-- ---- without color

bytes_after_byte : (byte : ℕ × Option Texts) (runs : List Stretch) → byte.0 ∷ flat_map (λ stretch. stretch.1) runs ≡ flat_map (λ stretch. stretch.1) (after_byte byte runs)
bytes_after_byte byte [] = refl
bytes_after_byte byte (first ∷ more) =
    elim (same_color byte.1 first.0) as (λ same. byte.0 ∷ flat_map (λ stretch. stretch.1) (first ∷ more)
    ≡ flat_map (λ stretch. stretch.1) (if same then (byte.1, byte.0 ∷ first.1) ∷ more else (byte.1, byte.0 ∷ []) ∷ first ∷ more)) [
      | true ↦ refl
      | false ↦ refl
    ]

pub plain_by_stretches : (line : Painted) → plain line ≡ flat_map (λ stretch. stretch.1) (stretches line)
plain_by_stretches [] = refl
plain_by_stretches (byte ∷ line) = ap (λ bs. byte.0 ∷ bs) (plain_by_stretches line) ∙ bytes_after_byte byte (stretches line)
