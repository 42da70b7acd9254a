-- Lists in parts of given lengths: what stands after them, one part more, and the first so many of them.
use Rattle.std.proofs.Common.{◌≡◌, ℕ, zero, suc, ◌+◌, ◌-◌, ◌≤◌, List, [], ◌∷◌, ◌++◌, drop, length, take, refl, sym, ap, subst, ◌∙◌, arith}
use Rattle.std.specs.Str.{IsCharBoundary, IsUtf8}
use Rattle.std.proofs.Math.Seq.{take-length, drop-length}
use Rattle.std.proofs.lemmas.List.{append_assoc, drop-append-le, drop-drop, length-append, length-drop, take-append-drop, take-append-le}
use Rattle.std.proofs.lemmas.Str.{IsCharBoundary-from_drop, IsUtf8-append, IsUtf8-nil}
use Rattle.tabled_input.specs.Joined.{AreTexts, Joined, joined, parts, total}

module _ {X : Type 0} where
  pub length-parts : (lengths : List ℕ) (xs : List X) → length (parts lengths xs) ≡ length lengths
  unfolding parts
  length-parts [] xs = refl
  length-parts (n ∷ lengths) xs = ap suc (length-parts lengths (drop n xs))

  -- what stands after the parts is none of theirs
  pub parts-append : (lengths : List ℕ) (xs ys : List X) → total lengths ≤ length xs → parts lengths (xs ++ ys) ≡ parts lengths xs
  unfolding parts
  parts-append [] xs ys within = refl
  parts-append (n ∷ lengths) xs ys within =
      let here : n ≤ length xs = omega (arith, within) in
      (λ i. take-append-le n xs ys here i ∷ parts lengths (drop-append-le n xs ys here i))
      ∙ ap (λ more. take n xs ∷ more) (parts-append lengths (drop n xs) ys (omega (arith, within, length-drop n xs)))

  -- one part more has what stands after the others
  pub parts-last : (lengths : List ℕ) (xs : List X) → total lengths ≤ length xs
      → parts (lengths ++ (length xs - total lengths) ∷ []) xs ≡ parts lengths xs ++ drop (total lengths) xs ∷ []
  unfolding parts
  parts-last [] xs within = let all : length xs - 0 ≡ length xs = omega arith in ap (λ n. take n xs ∷ []) all ∙ ap (λ part. part ∷ []) (take-length xs)
  parts-last (n ∷ lengths) xs within =
      let rest : length xs - (n + total lengths) ≡ length (drop n xs) - total lengths = omega (arith, within, length-drop n xs) in
      ap (λ m. take n xs ∷ parts (lengths ++ m ∷ []) (drop n xs)) rest
      ∙ ap (λ more. take n xs ∷ more) (parts-last lengths (drop n xs) (omega (arith, within, length-drop n xs)))
      ∙ ap (λ part. take n xs ∷ parts lengths (drop n xs) ++ part ∷ []) (drop-drop (total lengths) n xs)

  -- the first parts, and those after them
  pub parts-take : (count : ℕ) (lengths : List ℕ) (xs : List X) → take count (parts lengths xs) ≡ parts (take count lengths) xs
  unfolding parts
  parts-take zero lengths xs = refl
  parts-take (suc count) [] xs = refl
  parts-take (suc count) (n ∷ lengths) xs = ap (λ more. take n xs ∷ more) (parts-take count lengths (drop n xs))

  pub parts-drop : (count : ℕ) (lengths : List ℕ) (xs : List X) → drop count (parts lengths xs) ≡ parts (drop count lengths) (drop (total (take count lengths)) xs)
  unfolding parts
  parts-drop zero lengths xs = refl
  parts-drop (suc count) [] xs = refl
  parts-drop (suc count) (n ∷ lengths) xs =
      parts-drop count lengths (drop n xs) ∙ ap (λ rest. parts (drop count lengths) rest) (drop-drop (total (take count lengths)) n xs)

pub total-last : (lengths : List ℕ) (n : ℕ) → total (lengths ++ n ∷ []) ≡ total lengths + n
total-last [] n = omega arith
total-last (m ∷ lengths) n = omega (arith, total-last lengths n)

-- ---- parts that are texts

pub texts-within : (lengths bytes : List ℕ) → AreTexts lengths bytes → total lengths ≤ length bytes
texts-within [] bytes are = omega arith
texts-within (n ∷ lengths) bytes are = omega (arith, are.0, texts-within lengths (drop n bytes) are.2, length-drop n bytes)

pub texts-first : (lengths bytes : List ℕ) → AreTexts lengths bytes → IsUtf8 bytes
texts-first [] bytes are = are
texts-first (n ∷ lengths) bytes are = are.1

pub texts-rest : (lengths bytes : List ℕ) → AreTexts lengths bytes → IsUtf8 (drop (total lengths) bytes)
texts-rest [] bytes are = are
texts-rest (n ∷ lengths) bytes are = subst IsUtf8 (drop-drop (total lengths) n bytes) (texts-rest lengths (drop n bytes) are.2)

pub texts-boundary : (n : ℕ) (lengths bytes : List ℕ) → AreTexts (n ∷ lengths) bytes → IsCharBoundary bytes n
texts-boundary n lengths bytes are = IsCharBoundary-from_drop bytes n are.0 (texts-first lengths (drop n bytes) are.2)

pub texts-append : (lengths bytes more : List ℕ) → AreTexts lengths bytes → IsUtf8 more → AreTexts lengths (bytes ++ more)
texts-append [] bytes more are utf8 = IsUtf8-append bytes more are utf8
texts-append (n ∷ lengths) bytes more are utf8 =
    (omega (arith, are.0, length-append bytes more), IsUtf8-append bytes more are.1 utf8, subst (AreTexts lengths) (sym (drop-append-le n bytes more are.0)) (texts-append lengths (drop n bytes) more are.2 utf8))

pub texts-last : (lengths bytes : List ℕ) → AreTexts lengths bytes → AreTexts (lengths ++ (length bytes - total lengths) ∷ []) bytes
texts-last [] bytes are = let all : length bytes ≡ length bytes - 0 = omega arith in subst (λ n. AreTexts (n ∷ []) bytes) all (omega arith, are, subst IsUtf8 (sym (drop-length bytes)) IsUtf8-nil)
texts-last (n ∷ lengths) bytes are =
    let rest : length (drop n bytes) - total lengths ≡ length bytes - (n + total lengths) = omega (arith, are.0, length-drop n bytes) in
    (are.0, are.1, subst (λ m. AreTexts (lengths ++ m ∷ []) (drop n bytes)) rest (texts-last lengths (drop n bytes) are.2))

pub texts-drop : (count : ℕ) (lengths bytes : List ℕ) → AreTexts lengths bytes → AreTexts (drop count lengths) (drop (total (take count lengths)) bytes)
texts-drop zero lengths bytes are = are
texts-drop (suc count) [] bytes are = are
texts-drop (suc count) (n ∷ lengths) bytes are =
    subst (AreTexts (drop count lengths)) (drop-drop (total (take count lengths)) n bytes) (texts-drop count lengths (drop n bytes) are.2)

-- ---- rows that are joined

pub none_joined : (counts lengths bytes : List ℕ) → counts ≡ [] → lengths ≡ [] → (parts counts (parts lengths bytes) ≡ []) × (drop (total counts) (parts lengths bytes) ≡ [])
unfolding parts
none_joined counts lengths bytes c l = (ap (λ ns. parts ns (parts lengths bytes)) c, (λ i. drop (total (c i)) (parts (l i) bytes)))

module _ (counts lengths bytes : List ℕ) (was : Joined) (is : joined counts lengths bytes ≡ was) (are : AreTexts lengths bytes) where
  -- bytes more are those of the cell that goes on
  pub grown : (more new : List ℕ) → new ≡ bytes ++ more
      → (parts counts (parts lengths new) ≡ was.rows) × (drop (total counts) (parts lengths new) ≡ was.row) × (drop (total lengths) new ≡ was.cell ++ more)
  grown more new e =
      let same : parts lengths new ≡ parts lengths bytes = ap (parts lengths) e ∙ parts-append lengths bytes more (texts-within lengths bytes are) in (
        ap (parts counts) same ∙ ap (λ v. v.rows) is,
        ap (drop (total counts)) same ∙ ap (λ v. v.row) is,
        ap (drop (total lengths)) e ∙ drop-append-le (total lengths) bytes more (texts-within lengths bytes are) ∙ ap (λ v. v.cell ++ more) is,
      )

  module _ (within : total counts ≤ length lengths) where
    among : total counts ≤ length (parts lengths bytes)
    among = omega (arith, within, length-parts lengths bytes)

    -- a length more ends the cell
    pub cell_ended : (new : List ℕ) → new ≡ lengths ++ (length bytes - total lengths) ∷ []
        → (parts counts (parts new bytes) ≡ was.rows) × (drop (total counts) (parts new bytes) ≡ was.row ++ was.cell ∷ []) × (drop (total new) bytes ≡ [])
    cell_ended new e =
        let one_more : parts new bytes ≡ parts lengths bytes ++ drop (total lengths) bytes ∷ [] = ap (λ all. parts all bytes) e ∙ parts-last lengths bytes (texts-within lengths bytes are) in
        let whole : total new ≡ length bytes = ap total e ∙ total-last lengths _ ∙ (let sum : total lengths + (length bytes - total lengths) ≡ length bytes = omega (arith, texts-within lengths bytes are) in sum) in (
          ap (parts counts) one_more ∙ parts-append counts (parts lengths bytes) _ among ∙ ap (λ v. v.rows) is,
          ap (drop (total counts)) one_more ∙ drop-append-le (total counts) (parts lengths bytes) _ among ∙ ap (λ v. v.row ++ v.cell ∷ []) is,
          ap (λ n. drop n bytes) whole ∙ drop-length bytes,
        )

    -- a count more ends the row
    pub row_ended : (new : List ℕ) → new ≡ counts ++ (length lengths - total counts) ∷ []
        → (parts new (parts lengths bytes) ≡ was.rows ++ was.row ∷ []) × (drop (total new) (parts lengths bytes) ≡ [])
    row_ended new e =
        let all = length-parts lengths bytes in
        let count : length lengths - total counts ≡ length (parts lengths bytes) - total counts = ap (λ n. n - total counts) (sym all) in
        let whole : total new ≡ length (parts lengths bytes) = ap total e ∙ total-last counts _ ∙ (let sum : total counts + (length lengths - total counts) ≡ length (parts lengths bytes) = omega (arith, within, all) in sum) in (
          ap (λ ns. parts ns (parts lengths bytes)) e ∙ ap (λ n. parts (counts ++ n ∷ []) (parts lengths bytes)) count
              ∙ parts-last counts (parts lengths bytes) among ∙ ap (λ v. v.rows ++ v.row ∷ []) is,
          ap (λ n. drop n (parts lengths bytes)) whole ∙ drop-length (parts lengths bytes),
        )

-- ---- one part more, and one row more

pub next_cut : (n : ℕ) (left below more rest : List ℕ) (end cell after : List ℕ) (before cells all : List (List ℕ)) → left ≡ n ∷ below
    → before ++ parts left rest ≡ all → drop (total left) rest ≡ end → AreTexts (left ++ more) rest
    → (IsCharBoundary rest n → (cell ≡ take n rest) × (after ≡ drop n rest)) → cells ≡ before ++ cell ∷ []
    → (cells ++ parts below after ≡ all) × (drop (total below) after ≡ end) × AreTexts (below ++ more) after
unfolding parts
next_cut n left below more rest end cell after before cells all e cut over are by put =
    let here : AreTexts (n ∷ below ++ more) rest = subst (λ lengths. AreTexts (lengths ++ more) rest) e are in
    let is = by (texts-boundary n (below ++ more) rest here) in (
      ap (λ cs. cs ++ parts below after) put ∙ append_assoc before (cell ∷ []) (parts below after)
          ∙ (λ i. before ++ is.0 i ∷ parts below (is.1 i)) ∙ ap (λ lengths. before ++ parts lengths rest) (sym e) ∙ cut,
      ap (drop (total below)) is.1 ∙ drop-drop (total below) n rest ∙ ap (λ lengths. drop (total lengths) rest) (sym e) ∙ over,
      subst (AreTexts (below ++ more)) (sym is.1) here.2,
    )

pub next_row : (n : ℕ) (counts below : List ℕ) (left here under rest after : List ℕ) (row : List (List ℕ)) (before rows all : List (List (List ℕ))) → counts ≡ n ∷ below
    → before ++ parts counts (parts left rest) ≡ all → AreTexts left rest → total counts ≤ length left
    → here ≡ take n left → under ≡ drop n left → (row ≡ parts here rest) × (after ≡ drop (total here) rest) → rows ≡ before ++ row ∷ []
    → (rows ++ parts below (parts under after) ≡ all) × AreTexts under after × (total below ≤ length under)
unfolding parts
next_row n counts below left here under rest after row before rows all e cut are within front back is put =
    let cells : row ≡ take n (parts left rest) = is.0 ∙ ap (λ lengths. parts lengths rest) front ∙ sym (parts-take n left rest) in
    let rest_is : after ≡ drop (total (take n left)) rest = is.1 ∙ ap (λ lengths. drop (total lengths) rest) front in
    let others : parts under after ≡ drop n (parts left rest) = (λ i. parts (back i) (rest_is i)) ∙ sym (parts-drop n left rest) in (
      ap (λ rs. rs ++ parts below (parts under after)) put ∙ append_assoc before (row ∷ []) (parts below (parts under after))
          ∙ (λ i. before ++ cells i ∷ parts below (others i)) ∙ ap (λ ns. before ++ parts ns (parts left rest)) (sym e) ∙ cut,
      subst (λ lengths. AreTexts lengths after) (sym back) (subst (AreTexts (drop n left)) (sym rest_is) (texts-drop n left rest are)),
      omega (arith, within, ap total e, ap length back, length-drop n left),
    )

-- the lengths of a row, and those after them
pub both_texts : (n : ℕ) (left here under rest : List ℕ) → here ≡ take n left → under ≡ drop n left → AreTexts left rest → AreTexts (here ++ under) rest
both_texts n left here under rest front back are = subst (λ lengths. AreTexts lengths rest) (sym ((λ i. front i ++ back i) ∙ take-append-drop n left)) are
