-- Which characters do not steer, and the bytes of those.
use Rattle.std.proofs.Common.{◌≡◌, ◌==◌, ℕ, ◌+◌, ◌-◌, ◌<◌, ◌≤◌, Bool, true, false, not, ltb, if◌then◌else◌, ◌&&◌, ◌||◌, [], length, get_or, encode_utf8, append-nil, refl, sym, subst, ◌∙◌, arith, ⊎_elim}
use Rattle.std.specs.Prelude.{nat_le, nat_lt}
use Rattle.std.specs.List.{list_all, range_with_len}
use Rattle.std.specs.Int.{is_in_range}
use Rattle.std.proofs.lemmas.Bool.{and_parts, or_cases, cases_lt, ltb-true, ltb-false}
use Rattle.std.proofs.lemmas.Bool.Decides.{nat_tests}
use Rattle.std.proofs.lemmas.List.{get_or_default}
use Rattle.std.proofs.lemmas.List.FromFn.{length-range_with_len, get_or-range_with_len}
use Rattle.std.proofs.lemmas.List.Sums.{AllPass-from_list_all, list_all-from_AllPass}
use Rattle.std.proofs.lemmas.Str.{inside_one}
use Rattle.unicode_width.proofs.Computing.{unicode_width}
use Rattle.unicode_width.specs.Kind.{kind}
use Rattle.tabled_clean.specs.Steering.{steers}
use Rattle.tabled_clean.proofs.SteeringLemmas.{above}
use Rattle.tabled_width.specs.Narrow.{is_ambiguous_kind, draws_plainly}
use Rattle.tabled_painting.specs.Margin.{fill_shown}

pub space_steers : steers 32 ≡ false
unfolding steers
space_steers = refl

pub feed_steers : steers 10 ≡ false
unfolding steers
feed_steers = refl

-- ---- the kinds of those that steer

abbrev is_other_kind : ℕ → Bool
is_other_kind c = not (is_ambiguous_kind (kind c))

arabic_mark : list_all is_other_kind (range_with_len 0x61C 1) ≡ true
unfolding unicode_width
arabic_mark = refl

direction_marks : list_all is_other_kind (range_with_len 0x200E 2) ≡ true
unfolding unicode_width
direction_marks = refl

separators_and_embeddings : list_all is_other_kind (range_with_len 0x2028 7) ≡ true
unfolding unicode_width
separators_and_embeddings = refl

isolates : list_all is_other_kind (range_with_len 0x2066 10) ≡ true
unfolding unicode_width
isolates = refl

annotations : list_all is_other_kind (range_with_len 0xFFF9 3) ≡ true
unfolding unicode_width
annotations = refl

in_part : (start count : ℕ) → list_all is_other_kind (range_with_len start count) ≡ true → (c : ℕ) → start ≤ c → c < start + count → is_other_kind c ≡ true
in_part start count all c least most =
    let k : ℕ = c - start in
    let same : start + k ≡ c = omega arith in
    let inside : k < length (range_with_len start count) = let long = length-range_with_len start count in omega (arith, long) in
    subst (λ n. is_other_kind n ≡ true) (get_or-range_with_len start count k 0 (omega arith) ∙ same) (AllPass-from_list_all is_other_kind (range_with_len start count) all k 0 inside)

never_both : (b : Bool) → b ≡ true → not b ≡ true → (c : ℕ) → steers c ≡ false
never_both true e f c = absurd cc
never_both false e f c = absurd cc

-- ---- between them

before_arabic : (c : ℕ) → 0xA0 < c → c < 0x61C → steers c ≡ false
unfolding steers
before_arabic c h k = grind (arith, nat_tests)

before_marks : (c : ℕ) → 0x61D ≤ c → c < 0x200E → steers c ≡ false
unfolding steers
before_marks c h k = grind (arith, nat_tests)

before_separators : (c : ℕ) → 0x2010 ≤ c → c < 0x2028 → steers c ≡ false
unfolding steers
before_separators c h k = grind (arith, nat_tests)

before_isolates : (c : ℕ) → 0x202F ≤ c → c < 0x2066 → steers c ≡ false
unfolding steers
before_isolates c h k = grind (arith, nat_tests)

before_annotations : (c : ℕ) → 0x2070 ≤ c → c < 0xFFF9 → steers c ≡ false
unfolding steers
before_annotations c h k = grind (arith, nat_tests)

after_annotations : (c : ℕ) → 0xFFFC ≤ c → steers c ≡ false
unfolding steers
after_annotations c h = grind (arith, nat_tests)

ambiguous_steers : (c : ℕ) → 0xA0 < c → is_ambiguous_kind (kind c) ≡ true → steers c ≡ false
ambiguous_steers c high is =
    ⊎_elim (λ (a : c < 0x61C). before_arabic c high a)
    (λ (a : 0x61C ≤ c). ⊎_elim (λ (b : c < 0x61D). other (in_part 0x61C 1 arabic_mark c a (omega arith)))
    (λ (b : 0x61D ≤ c). ⊎_elim (λ (d : c < 0x200E). before_marks c b d)
    (λ (d : 0x200E ≤ c). ⊎_elim (λ (e : c < 0x2010). other (in_part 0x200E 2 direction_marks c d (omega arith)))
    (λ (e : 0x2010 ≤ c). ⊎_elim (λ (f : c < 0x2028). before_separators c e f)
    (λ (f : 0x2028 ≤ c). ⊎_elim (λ (g : c < 0x202F). other (in_part 0x2028 7 separators_and_embeddings c f (omega arith)))
    (λ (g : 0x202F ≤ c). ⊎_elim (λ (h : c < 0x2066). before_isolates c g h)
    (λ (h : 0x2066 ≤ c). ⊎_elim (λ (i : c < 0x2070). other (in_part 0x2066 10 isolates c h (omega arith)))
    (λ (i : 0x2070 ≤ c). ⊎_elim (λ (j : c < 0xFFF9). before_annotations c i j)
    (λ (j : 0xFFF9 ≤ c). ⊎_elim (λ (k : c < 0xFFFC). other (in_part 0xFFF9 3 annotations c j (omega arith)))
    (λ (k : 0xFFFC ≤ c). after_annotations c k) (cases_lt c 0xFFFC)) (cases_lt c 0xFFF9)) (cases_lt c 0x2070)) (cases_lt c 0x2066)) (cases_lt c 0x202F)) (cases_lt c 0x2028)) (cases_lt c 0x2010))
    (cases_lt c 0x200E)) (cases_lt c 0x61D)) (cases_lt c 0x61C)
  where
    other : is_other_kind c ≡ true → steers c ≡ false
    other is_not = never_both (is_ambiguous_kind (kind c)) is is_not c

-- ---- what draws plainly

ascii_steers : (c : ℕ) → is_in_range 0x20 0x7E c ≡ true → steers c ≡ false
unfolding steers
ascii_steers c h = grind (arith, nat_tests)

boxes_steer : (c : ℕ) → is_in_range 0x2500 0x259F c ≡ true → steers c ≡ false
boxes_steer c h = let parts = and_parts (nat_le 0x2500 c) (nat_le c 0x259F) h in above c (at_least parts.0) (at_most parts.1)
  where
    at_least : nat_le 0x2500 c ≡ true → 0x2400 ≤ c
    at_least e = grind (arith, nat_tests)

    at_most : nat_le c 0x259F ≡ true → c < 0xFFF9
    at_most e = grind (arith, nat_tests)

high_steers : (c : ℕ) → (nat_lt 0xA0 c && is_ambiguous_kind (kind c)) ≡ true → steers c ≡ false
high_steers c h = let parts = and_parts (nat_lt 0xA0 c) (is_ambiguous_kind (kind c)) h in ambiguous_steers c (ltb-true 0xA0 c parts.0) parts.1

-- what draws plainly does not steer
plainly_steers : (c : ℕ) → draws_plainly c ≡ true → steers c ≡ false
plainly_steers c passed =
    ⊎_elim (ascii_steers c)
    (λ other. ⊎_elim (boxes_steer c) (high_steers c) (or_cases (is_in_range 0x2500 0x259F c) (nat_lt 0xA0 c && is_ambiguous_kind (kind c)) other))
    (or_cases (is_in_range 0x20 0x7E c) (is_in_range 0x2500 0x259F c || (nat_lt 0xA0 c && is_ambiguous_kind (kind c))) passed)

-- nor what is shown in a side of a margin
pub fill_steers : (fill : ℕ) → steers (fill_shown fill) ≡ false
fill_steers fill = by_test (draws_plainly fill) refl
  where
    by_test : (plainly : Bool) → draws_plainly fill ≡ plainly → steers (if plainly then fill else 32) ≡ false
    by_test true e = plainly_steers fill e
    by_test false e = space_steers

-- ---- bytes

-- a byte that is no control character of ASCII but the line feed
abbrev pub is_plain_byte : ℕ → Bool
is_plain_byte byte = (nat_le 32 byte && not (byte == 127)) || (byte == 10)

own_byte : (c : ℕ) → steers c ≡ false → is_plain_byte c ≡ true
unfolding steers
own_byte c e = grind (arith, nat_tests)

high_byte : (byte : ℕ) → 128 ≤ byte → is_plain_byte byte ≡ true
high_byte byte h = grind (arith, nat_tests)

-- a byte of a character that does not steer is such a byte: below 128 it is the character
pub bytes_plain : (c : ℕ) → steers c ≡ false → list_all is_plain_byte (encode_utf8 c) ≡ true
bytes_plain c quiet = list_all-from_AllPass is_plain_byte (encode_utf8 c) (λ k d within. by_size k d within (ltb (get_or (encode_utf8 c) k d) 128) refl)
  where
    by_size : (k d : ℕ) → k < length (encode_utf8 c) → (low : Bool) → ltb (get_or (encode_utf8 c) k d) 128 ≡ low → is_plain_byte (get_or (encode_utf8 c) k d) ≡ true
    by_size k d within true e =
        let same : get_or (encode_utf8 c) k d ≡ get_or (encode_utf8 c) k 0 = get_or_default (encode_utf8 c) k d 0 within in
        let small : get_or (encode_utf8 c) k d < 128 = ltb-true _ 128 e in
        let itself : c ≡ get_or (encode_utf8 c) k 0 = inside_one c [] (encode_utf8 c) k (sym (append-nil (encode_utf8 c))) within (omega (arith, same, small)) in
        subst (λ n. is_plain_byte n ≡ true) (itself ∙ sym same) (own_byte c quiet)
    by_size k d within false e = high_byte (get_or (encode_utf8 c) k d) (ltb-false _ 128 e)
