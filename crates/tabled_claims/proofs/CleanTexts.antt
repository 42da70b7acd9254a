-- Texts of characters of which none steers, their lines, and what is trimmed of these.
use Rattle.std.proofs.Common.{◌≡◌, ◌==◌, ℕ, ◌+◌, ◌-◌, ◌<◌, zero, suc, Bool, true, false, not, if◌then◌else◌, List, [], ◌∷◌, ◌++◌, map, length, reverse, replicate, get_or, take, chars, encode_utf8, encode_utf8_all, refl, sym, ap, subst, ◌∙◌, arith, lit<, length-append}
use Rattle.std.specs.List.{list_all, All, join_with_byte, slice_split}
use Rattle.std.specs.Str.{IsUtf8}
use Rattle.std.proofs.lemmas.Bool.{and_parts, and_from, eqb-true, not-true, not_from_false}
use Rattle.std.proofs.lemmas.List.{get_or_at, get_or-reverse, take_at, length-reverse, reverse-append, reverse-reverse}
use Rattle.std.proofs.lemmas.List.Elements.{All-nil, All-cons, All-head, All-tail, All-map}
use Rattle.std.proofs.lemmas.List.Folds.{list_all-append}
use Rattle.std.proofs.lemmas.List.Splits.{join_with_byte-slice_split}
use Rattle.std.proofs.lemmas.Str.{chars-append, encodes-append, encodes-chars, encodes-IsAscii, IsUtf8-take, IsUtf8-drop, IsUtf8-from_ascii, IsCharBoundary-before_ascii, IsCharBoundary-after_ascii}
use Rattle.std.proofs.lemmas.Str.Ascii.{IsAscii-nil, IsAscii-cons}
use Rattle.tabled_clean.specs.Steering.{IsCleanText, steers, is_clean}
use Rattle.tabled_width.proofs.PieceFacts.{all_texts}
use Rattle.tabled_width.specs.Texts.{pieces, times}
use Rattle.tabled_width.proofs.Tiles.{chars_of}
use Rattle.tabled_cells.specs.declared.placement.Placement.{Placement}
use Rattle.tabled_cells.specs.Trimmed.{without_first, without_ends, is_space, is_blank, line_shown, lines_shown}
use Rattle.tabled_claims.proofs.CleanCharacters.{space_steers, feed_steers, is_plain_byte, bytes_plain}

abbrev none_steers : List ℕ → Bool
none_steers cs = list_all (λ c. not (steers c)) cs

-- ---- texts

-- a text that is written of characters of which none steers
pub record Quiet (text : List ℕ) : Type 0 where
  written : List ℕ
  is : text ≡ encode_utf8_all written
  none : none_steers written ≡ true

pub Quiet-encoded : (cs : List ℕ) → list_all (λ c. not (steers c)) cs ≡ true → Quiet (encode_utf8_all cs)
Quiet-encoded cs none = record { written = cs; is = refl; none = none }

pub Quiet-one : (c : ℕ) → steers c ≡ false → Quiet (encode_utf8_all (c ∷ []))
Quiet-one c e = Quiet-encoded (c ∷ []) (and_from (not (steers c)) true (not_from_false (steers c) e) refl)

pub Quiet-nil : Quiet []
Quiet-nil = Quiet-encoded [] refl

pub Quiet-append : (xs ys : List ℕ) → Quiet xs → Quiet ys → Quiet (xs ++ ys)
Quiet-append xs ys first second = record {
  written = first.written ++ second.written;
  is = (λ i. first.is i ++ second.is i) ∙ sym (encodes-append first.written second.written);
  none = list_all-append (λ c. not (steers c)) first.written second.written ∙ and_from (none_steers first.written) (none_steers second.written) first.none second.none;
}

pub Quiet-text : (text : List ℕ) → IsCleanText text → Quiet text
Quiet-text text clean = record { written = chars text; is = sym (encodes-chars text clean.0); none = clean.1 }

times_quiet : (count c : ℕ) → steers c ≡ false → none_steers (replicate count c) ≡ true
times_quiet zero c e = refl
times_quiet (suc count) c e = and_from (not (steers c)) (none_steers (replicate count c)) (not_from_false (steers c) e) (times_quiet count c e)

pub Quiet-times : (count c : ℕ) → steers c ≡ false → Quiet (times count c)
Quiet-times count c e = Quiet-encoded (replicate count c) (times_quiet count c e)

pub ascii_text : (c : ℕ) → c < 128 → IsUtf8 (c ∷ [])
ascii_text c low = IsUtf8-from_ascii (c ∷ []) (IsAscii-cons c [] low IsAscii-nil)

encoded_feed : encode_utf8_all (10 ∷ []) ≡ 10 ∷ []
encoded_feed = encodes-IsAscii (10 ∷ []) (IsAscii-cons 10 [] (lit< tt) IsAscii-nil)

encoded_space : encode_utf8_all (32 ∷ []) ≡ 32 ∷ []
encoded_space = encodes-IsAscii (32 ∷ []) (IsAscii-cons 32 [] (lit< tt) IsAscii-nil)

pub Quiet-feed : Quiet (10 ∷ [])
Quiet-feed = subst Quiet encoded_feed (Quiet-one 10 feed_steers)

pub Quiet-space : Quiet (32 ∷ [])
Quiet-space = subst Quiet encoded_space (Quiet-one 32 space_steers)

-- lines of such texts, as one text
pub Quiet-joined : (lines : List (List ℕ)) → All Quiet lines → Quiet (join_with_byte 10 lines)
Quiet-joined [] all = Quiet-nil
Quiet-joined (line ∷ []) all = All-head Quiet line [] all
Quiet-joined (line ∷ next ∷ lines) all =
    Quiet-append line (10 ∷ join_with_byte 10 (next ∷ lines)) (All-head Quiet line (next ∷ lines) all)
    (Quiet-append (10 ∷ []) (join_with_byte 10 (next ∷ lines)) Quiet-feed (Quiet-joined (next ∷ lines) (All-tail Quiet line (next ∷ lines) all)))

-- no character of such a text steers
pub quiet_clean : (text : List ℕ) → Quiet text → is_clean text ≡ true
quiet_clean text quiet = ap is_clean quiet.is ∙ ap (list_all (λ c. not (steers c))) (chars_of quiet.written) ∙ quiet.none

all_plain : (cs : List ℕ) → none_steers cs ≡ true → list_all is_plain_byte (encode_utf8_all cs) ≡ true
all_plain [] none = refl
all_plain (c ∷ cs) none =
    let parts = and_parts (not (steers c)) (none_steers cs) none in
    list_all-append is_plain_byte (encode_utf8 c) (encode_utf8_all cs)
    ∙ and_from (list_all is_plain_byte (encode_utf8 c)) (list_all is_plain_byte (encode_utf8_all cs)) (bytes_plain c (not-true (steers c) parts.0)) (all_plain cs parts.1)

pub quiet_bytes : (text : List ℕ) → Quiet text → list_all is_plain_byte text ≡ true
quiet_bytes text quiet = ap (list_all is_plain_byte) quiet.is ∙ all_plain quiet.written quiet.none

-- ---- the lines of a text

-- a text and what follows it
clean_parts : (xs ys : List ℕ) → IsUtf8 xs → is_clean (xs ++ ys) ≡ true → (is_clean xs ≡ true) × (is_clean ys ≡ true)
clean_parts xs ys u clean =
    and_parts (is_clean xs) (is_clean ys)
    (sym (list_all-append (λ c. not (steers c)) (chars xs) (chars ys)) ∙ sym (ap (list_all (λ c. not (steers c))) (chars-append xs ys u)) ∙ clean)

-- the parts of a text between separators
module _ (separator : ℕ) (low : separator < 128) where
  parts_of_joined : (parts : List (List ℕ)) → All IsUtf8 parts → is_clean (join_with_byte separator parts) ≡ true → All IsCleanText parts
  parts_of_joined [] texts clean = All-nil IsCleanText
  parts_of_joined (part ∷ []) texts clean = All-cons IsCleanText part [] (All-head IsUtf8 part [] texts, clean) (All-nil IsCleanText)
  parts_of_joined (part ∷ next ∷ parts) texts clean =
      let own = All-head IsUtf8 part (next ∷ parts) texts in
      let both = clean_parts part (separator ∷ join_with_byte separator (next ∷ parts)) own clean in
      let rest = (clean_parts (separator ∷ []) (join_with_byte separator (next ∷ parts)) (ascii_text separator low) both.1).1 in
      All-cons IsCleanText part (next ∷ parts) (own, both.0) (parts_of_joined (next ∷ parts) (All-tail IsUtf8 part (next ∷ parts) texts) rest)

  pub split_clean : (text : List ℕ) → IsCleanText text → All IsCleanText (slice_split (λ byte. byte == separator) text)
  split_clean text clean =
      parts_of_joined (slice_split (λ byte. byte == separator) text) (all_texts separator low text clean.0) (ap is_clean (join_with_byte-slice_split separator text) ∙ clean.1)

-- ---- what is trimmed

space_off : (b : ℕ) (bs : List ℕ) → (b == 32) ≡ true → IsCleanText (b ∷ bs) → IsCleanText bs
space_off b bs is clean =
    let spaced : IsCleanText (32 ∷ bs) = subst (λ n. IsCleanText (n ∷ bs)) (eqb-true b 32 is) clean in
    (IsUtf8-drop (32 ∷ bs) 1 spaced.0 (IsCharBoundary-after_ascii (32 ∷ bs) 0 spaced.0 (omega arith) (lit< tt)), (clean_parts (32 ∷ []) bs (ascii_text 32 (lit< tt)) spaced.1).1)

spaces_off : (line : List ℕ) → IsCleanText line → IsCleanText (without_first is_space line)
spaces_off [] clean = clean
spaces_off (b ∷ bs) clean = by_first (b == 32) refl (spaces_off bs)
  where
    by_first : (space : Bool) → (b == 32) ≡ space → (IsCleanText bs → IsCleanText (without_first is_space bs)) → IsCleanText (if space then without_first is_space bs else b ∷ bs)
    by_first true e rest = rest (space_off b bs e clean)
    by_first false e rest = clean

last_off : (front : List ℕ) → IsCleanText (front ++ 32 ∷ []) → IsCleanText front
last_off front clean =
    let at : get_or (front ++ 32 ∷ []) (length front) 0 ≡ 32 = get_or_at front 32 [] 0 (length front) refl in
    let long : length (front ++ 32 ∷ []) ≡ length front + 1 = length-append front (32 ∷ []) in
    let cut : take (length front) (front ++ 32 ∷ []) ≡ front = take_at front (32 ∷ []) (length front) refl in
    let text : IsUtf8 front = subst IsUtf8 cut (IsUtf8-take (front ++ 32 ∷ []) (length front) clean.0 (IsCharBoundary-before_ascii (front ++ 32 ∷ []) (length front) (omega arith) (omega (arith, at)))) in
    (text, (clean_parts front (32 ∷ []) text clean.1).0)

last_spaces_off : (back : List ℕ) → IsCleanText (reverse back) → IsCleanText (reverse (without_first is_space back))
last_spaces_off [] clean = clean
last_spaces_off (b ∷ bs) clean = by_last (b == 32) refl (last_spaces_off bs)
  where
    by_last : (space : Bool) → (b == 32) ≡ space → (IsCleanText (reverse bs) → IsCleanText (reverse (without_first is_space bs))) → IsCleanText (reverse (if space then without_first is_space bs else b ∷ bs))
    by_last true e rest = rest (last_off (reverse bs) (subst IsCleanText (reverse-append (b ∷ []) bs ∙ ap (λ n. reverse bs ++ n ∷ []) (eqb-true b 32 e)) clean))
    by_last false e rest = clean

line_clean : (trim : Bool) (line : List ℕ) → IsCleanText line → IsCleanText (if trim then without_ends is_space line else line)
line_clean true line clean =
    last_spaces_off (reverse (without_first is_space line)) (subst IsCleanText (sym (reverse-reverse (without_first is_space line))) (spaces_off line clean))
line_clean false line clean = clean

All-without_first : {A : Type 0} (P : A → Type 0) (test : A → Bool) (xs : List A) → All P xs → All P (without_first test xs)
All-without_first P test [] all = all
All-without_first P test (x ∷ xs) all = by_first (test x) (All-without_first P test xs (All-tail P x xs all))
  where
    by_first : (t : Bool) → All P (without_first test xs) → All P (if t then without_first test xs else x ∷ xs)
    by_first true rest = rest
    by_first false rest = all

All-reversed : {A : Type 0} (P : A → Type 0) (xs : List A) → All P xs → All P (reverse xs)
All-reversed P xs all k d within =
    let long : length (reverse xs) ≡ length xs = length-reverse xs in
    subst P (sym (get_or-reverse xs k d (omega (arith, long)))) (all (length xs - 1 - k) d (omega (arith, long)))

lines_clean : (trim : Bool) (lines : List (List ℕ)) → All IsCleanText lines → All IsCleanText (if trim then without_ends is_blank lines else lines)
lines_clean true lines all =
    All-reversed IsCleanText (without_first is_blank (reverse (without_first is_blank lines)))
    (All-without_first IsCleanText is_blank (reverse (without_first is_blank lines)) (All-reversed IsCleanText (without_first is_blank lines) (All-without_first IsCleanText is_blank lines all)))
lines_clean false lines all = all

-- the lines of such a text that are shown
pub shown_clean : (how : Placement) (text : List ℕ) → IsCleanText text → All IsCleanText (lines_shown how text)
unfolding lines_shown
shown_clean how text clean =
    lines_clean how.trim_vertical (map (line_shown how) (pieces text))
    (All-map IsCleanText (line_shown how) (pieces text) (λ k d within. line_clean how.trim_horizontal (get_or (pieces text) k d) (split_clean 10 (lit< tt) text clean k d within)))
