-- A character many times: written one by one, as pieces of spaces, and as copies of what was written.
use Rattle.std.proofs.Common.{rules, Result, Ok, Err, OnErr, min, String, string_bytes, string_len, ◌≡◌, ℕ, zero, suc, ◌+◌, ◌-◌, ◌*◌, ◌/◌, ◌≤◌, true, List, [], ◌++◌, length, take, drop, replicate, refl, sym, ap, subst, ◌∙◌, arith, encode_utf8, encode_utf8_all, length-append}
use Rattle.std.specs.Str.{IsUtf8, IsCharBoundary, all_scalars}
use Rattle.std.specs.Char.{IsScalar}
use Rattle.std.specs.List.{slice_range}
use Rattle.std.specs.String.Boundary.{IsSplitPoint}
use Rattle.std.proofs.lemmas.List.{append-nil, append_assoc, replicate-append-replicate, take_all, drop_at, take_at}
use Rattle.std.proofs.lemmas.Str.{encodes-append, encodes-IsAscii, IsCharBoundary-at_seam}
use Rattle.std.proofs.Math.Nat.{zero-mul, suc-mul}
use Rattle.tabled_width.proofs.AfterSpace.{spaces_printable}
use Rattle.tabled_width.proofs.Printing.{printable_ascii}
use Rattle.tabled_width.specs.Texts.{times}

-- one number of times, and another one more
pub times_both : (n m character : ℕ) → times (n + m) character ≡ times n character ++ times m character
times_both n m character = ap encode_utf8_all (sym (replicate-append-replicate n m character)) ∙ encodes-append (replicate n character) (replicate m character)

pub both_written : (start old new : List ℕ) (n m all character : ℕ) → n + m ≡ all → old ≡ start ++ times n character → new ≡ old ++ times m character → new ≡ start ++ times all character
both_written start old new n m all character sum so_far wrote = rw (wrote, so_far, ← sum, times_both n m character) (append_assoc start (times n character) (times m character))

-- once more
pub one_more : (start old new : List ℕ) (count character : ℕ) → old ≡ start ++ times count character → new ≡ old ++ encode_utf8 character → new ≡ start ++ times (count + 1) character
one_more start old new count character so_far pushed =
    both_written start old new count 1 (count + 1) character refl so_far (pushed ∙ ap (λ bs. old ++ bs) (sym (append-nil (encode_utf8 character))))

-- those that were written since
pub written_since : (start middle now : List ℕ) (few written character : ℕ) → middle ≡ start ++ times few character → now ≡ middle ++ times (written - few) character → few ≤ written
    → now ≡ start ++ times written character
written_since start middle now few written character first since within = both_written start middle now few (written - few) written character (omega arith) first since

-- and those that are written next
pub written_next : (middle old new : List ℕ) (few written more character : ℕ) → old ≡ middle ++ times (written - few) character → few ≤ written → new ≡ old ++ times more character
    → new ≡ middle ++ times (written + more - few) character
written_next middle old new few written more character since within wrote = both_written middle old new (written - few) more (written + more - few) character (omega arith) since wrote

pub string_len-is : {Z : Type 0} (text : String Z) → string_len text ≡ length (string_bytes text)
string_len-is text = search rules

-- ---- spaces

pub times_spaces : (n : ℕ) → times n 32 ≡ replicate n 32
times_spaces n = encodes-IsAscii (replicate n 32) (printable_ascii (replicate n 32) (spaces_printable n))

-- ---- copies

length-times : (n character : ℕ) → length (times n character) ≡ n * length (encode_utf8 character)
length-times zero character = sym (zero-mul (length (encode_utf8 character)))
length-times (suc n) character = omega (arith, length-append (encode_utf8 character) (times n character), length-times n character, suc-mul n (length (encode_utf8 character)))

scalars-replicate : (n character : ℕ) → IsScalar character → all_scalars (replicate n character) ≡ true
scalars-replicate zero character is = refl
scalars-replicate (suc n) character is = rw is (scalars-replicate n character is)

pub IsUtf8-times : (n character : ℕ) → IsScalar character → IsUtf8 (times n character)
IsUtf8-times n character is = (replicate n character, (scalars-replicate n character is, refl))

-- after the first ones some were written, and more of them are copied, which begin at a place
module _ (start middle old : List ℕ) (few written count more character : ℕ) (first : middle ≡ start ++ times few character)
    (since : old ≡ middle ++ times (written - few) character) (grown : few ≤ written) (taken : more ≡ min written (count - written)) where
  pub so_far : old ≡ start ++ times written character
  so_far = written_since start middle old few written character first since grown

  within : more ≤ written
  within = omega (arith, taken)

  abbrev front : List ℕ
  front = start ++ times (written - more) character

  in_two : old ≡ front ++ times more character
  in_two =
      let all : written ≡ (written - more) + more = omega (arith, within) in
      so_far ∙ rw (ap (λ n. times n character) all, times_both (written - more) more character) (sym (append_assoc start (times (written - more) character) (times more character)))

  long : length old ≡ length front + more * length (encode_utf8 character)
  long = ap length in_two ∙ length-append front (times more character) ∙ ap (λ n. length front + n) (length-times more character)

  pub copied_fit : (size : ℕ) → size ≡ length (encode_utf8 character) → more * size ≤ length old
  copied_fit size is = subst (λ n. more * n ≤ length old) (sym is) (omega (arith, long))

  module _ (len size : ℕ) (whole : len ≡ length old) (sized : size ≡ length (encode_utf8 character)) where
    there : length front ≡ len - more * size
    there =
        let from : length front ≡ length old - more * length (encode_utf8 character) = omega (arith, long) in
        from ∙ sym (ap (λ n. len - more * n) sized ∙ ap (λ n. n - more * length (encode_utf8 character)) whole)

    pub copied_split : IsScalar character → IsSplitPoint old (len - more * size)
    copied_split scalar =
        let found = subst (IsCharBoundary old) there (IsCharBoundary-at_seam old front (times more character) in_two (IsUtf8-times more character scalar)) in
        (found.0, λ positive. found.1)

    last_ones : slice_range old (len - more * size) (length old) ≡ times more character
    last_ones =
        ap (take (length old - (len - more * size))) (ap (drop (len - more * size)) in_two ∙ drop_at front (times more character) (len - more * size) there)
        ∙ take_all _ (times more character) (omega (arith, ap length in_two, length-append front (times more character), there))

    pub copied : (new : List ℕ) (end : ℕ) → end ≡ length old → new ≡ old ++ slice_range old (len - more * size) end → new ≡ middle ++ times (written + more - few) character
    copied new end ends wrote =
        written_next middle old new few written more character since grown
        (wrote ∙ ap (λ n. old ++ slice_range old (len - more * size) n) ends ∙ ap (λ bs. old ++ bs) last_ones)

-- the beginning of a text, and some of the many characters that stand after it
module _ (piece head : List ℕ) (count edge size : ℕ) (is : piece ≡ head ++ times 64 edge) (within : count ≤ 64) (sized : size ≡ length (encode_utf8 edge)) where
  abbrev first_part : List ℕ
  first_part = head ++ times count edge

  then_rest : piece ≡ first_part ++ times (64 - count) edge
  then_rest =
      let all : 64 ≡ count + (64 - count) = omega (arith, within) in
      is ∙ rw (ap (λ n. times n edge) all, times_both count (64 - count) edge) (sym (append_assoc head (times count edge) (times (64 - count) edge)))

  first_long : length first_part ≡ length piece - (64 - count) * size
  first_long =
      let rest : length (times (64 - count) edge) ≡ (64 - count) * size = length-times (64 - count) edge ∙ ap (λ n. (64 - count) * n) (sym sized) in
      omega (arith, ap length then_rest, length-append first_part (times (64 - count) edge), rest)

  pub start_split : IsScalar edge → IsCharBoundary piece (length piece - (64 - count) * size)
  start_split scalar = subst (IsCharBoundary piece) first_long (IsCharBoundary-at_seam piece first_part (times (64 - count) edge) then_rest (IsUtf8-times (64 - count) edge scalar))

  pub start_of : slice_range piece 0 (length piece - (64 - count) * size) ≡ first_part
  start_of =
      let whole : (length piece - (64 - count) * size) - 0 ≡ length first_part = omega (arith, first_long) in
      ap (λ k. take k piece) whole ∙ ap (take (length first_part)) then_rest ∙ take_at first_part (times (64 - count) edge) (length first_part) refl

-- a part of a text of one character
module _ (piece : List ℕ) (count character size : ℕ) (is : piece ≡ times 64 character) (within : count ≤ 64) (sized : size ≡ length (encode_utf8 character)) where
  at_seam : length piece - (64 - count) * size ≡ count * size
  at_seam = sym (first_long piece [] count character size is within sized) ∙ length-times count character ∙ ap (λ n. count * n) (sym sized)

  pub part_split : IsScalar character → IsCharBoundary piece (count * size)
  part_split scalar = subst (IsCharBoundary piece) at_seam (start_split piece [] count character size is within sized scalar)

  pub part_of : slice_range piece 0 (count * size) ≡ times count character
  part_of = ap (slice_range piece 0) (sym at_seam) ∙ start_of piece [] count character size is within sized

-- how many bytes each of them takes
pub bytes_of_each : (piece : List ℕ) (bytes character : ℕ) → piece ≡ times 64 character → bytes ≡ length piece → bytes / 64 ≡ length (encode_utf8 character)
bytes_of_each piece bytes character is long =
    let all : bytes ≡ 64 * length (encode_utf8 character) = long ∙ ap length is ∙ length-times 64 character in
    omega (arith, all)

-- of a call that was refused: some were written
pub written_some : {T E : Type 0} (r : Result T E) (P : ℕ → Type 0) (n : ℕ) → P n → OnErr r ((some : ℕ) × P some)
written_some (Ok x) P n h = tt
written_some (Err e) P n h = (n, h)

-- what copies are
pub ruleset copies = (copied_fit, copied_split, copied, so_far, string_len-is)
