-- Characters that steer, and texts without them.
use Rattle.std.proofs.Common.{◌≡◌, ◌==◌, ℕ, ◌+◌, ◌<◌, ◌≤◌, Bool, true, false, not, ◌&&◌, ◌||◌, nat_lt, nat_le, if◌then◌else◌, cond, ◌/◌, ◌%◌, List, [], ◌∷◌, ◌++◌, get_or, chars, encode_utf8, encode_utf8_all, lit≤, append_assoc, append-nil, refl, sym, ap, ◌∙◌, arith}
use Rattle.std.specs.List.{slice_index}
use Rattle.std.specs.List.{list_all}
use Rattle.std.specs.Str.{IsUtf8}
use Rattle.std.proofs.lemmas.Str.{chars-IsAscii, chars-encodes, chars-nil, scalars-chars, encodes-chars}
use Rattle.std.proofs.lemmas.List.Folds.{list_all-append}
use Rattle.std.proofs.lemmas.List.Sums.{AllPass-from_list_all}
use Rattle.std.proofs.lemmas.Str.Ascii.{IsAscii-from_all}
use lib.Utf8.{scalar, scalars, low_scalar, encode}
use Rattle.std.proofs.lemmas.Bool.Decides.{nat_tests}
use Rattle.tabled_clean.specs.Steering.{steers, picture, shown_for, without_steering, cleaned, is_clean, is_printable, going_on}

-- characters above those that steer, but for marks of annotations
pub above : (c : ℕ) → 0x2400 ≤ c → c < 0xFFF9 → steers c ≡ false
unfolding steers
above c h k = grind (arith, nat_tests)

-- the character for what can't be shown
unshown_steers : steers 0xFFFD ≡ false
unfolding steers
unshown_steers = refl

pub return_steers : steers 13 ≡ true
unfolding steers
return_steers = refl

pictured : (b d : Bool) (c : ℕ) → nat_lt c 32 ≡ b → steers (if b then 0x2400 + c else if d then 0x2421 else 0xFFFD) ≡ false
pictured true d c e = above (0x2400 + c) (omega arith) (grind (arith, nat_tests))
pictured false true c e = above 0x2421 (lit≤ tt) (lit≤ tt)
pictured false false c e = unshown_steers

shown_by : (c : ℕ) (b : Bool) → steers c ≡ b → steers (if b then picture c else c) ≡ false
shown_by c true e = pictured (nat_lt c 32) (c == 0x7F) c refl
shown_by c false e = e

pub shown_steers : (c : ℕ) → steers (shown_for c) ≡ false
shown_steers c = shown_by c (steers c) refl

-- ---- character by character

pub return_dropped : (next : ℕ) (more : List ℕ) → (next == 10) ≡ true → without_steering (13 ∷ next ∷ more) ≡ without_steering (next ∷ more)
unfolding without_steering
return_dropped next more e = ap (λ b. if b then without_steering (next ∷ more) else shown_for 13 ∷ without_steering (next ∷ more)) e

pub return_shown : (next : ℕ) (more : List ℕ) → (next == 10) ≡ false → without_steering (13 ∷ next ∷ more) ≡ 0x240D ∷ without_steering (next ∷ more)
unfolding without_steering steers
return_shown next more e = ap (λ b. if b then without_steering (next ∷ more) else 0x240D ∷ without_steering (next ∷ more)) e

pub last_return_shown : without_steering (13 ∷ []) ≡ 0x240D ∷ []
unfolding without_steering steers
last_return_shown = refl

pub other_shown : (c : ℕ) (more : List ℕ) → (c == 13) ≡ false → without_steering (c ∷ more) ≡ shown_for c ∷ without_steering more
unfolding without_steering
other_shown c more e = ap (λ b. if b && (slice_index more 0 == 10) then without_steering more else shown_for c ∷ without_steering more) e

-- ---- whole texts

step : (P : List ℕ → Type 0) (b : Bool) (c : ℕ) (more : List ℕ) → P (without_steering more) → (P (without_steering more) → P (shown_for c ∷ without_steering more)) → P (if b then without_steering more else shown_for c ∷ without_steering more)
step P true c more rest first = rest
step P false c more rest first = first rest

-- what holds of nothing, and further of each character that is shown, holds of what is left of characters
pub along : (P : List ℕ → Type 0) (cs : List ℕ) → P [] → ((c : ℕ) (xs : List ℕ) → P xs → P (shown_for c ∷ xs)) → P (without_steering cs)
unfolding without_steering
along P [] none next = none
along P (c ∷ cs) none next = step P ((c == 13) && (slice_index cs 0 == 10)) c cs (along P cs none next) (next c (without_steering cs))

-- ---- what is written, and the rest

-- one text after another, and what comes after both
written : (old new piece rest whole : List ℕ) → new ≡ old ++ piece → piece ++ rest ≡ whole → new ++ rest ≡ old ++ whole
written old new piece rest whole e f = ap (λ bs. bs ++ rest) e ∙ append_assoc old piece rest ∙ ap (λ bs. old ++ bs) f

pub releases_none : (old : List ℕ) (is_held : Bool) (next : ℕ) (more : List ℕ) → is_held ≡ false → going_on old false (next ∷ more) ≡ going_on old is_held (next ∷ more)
releases_none old is_held next more e = ap (λ h. going_on old h (next ∷ more)) (sym e)

pub drops_return : (old : List ℕ) (is_held : Bool) (next : ℕ) (more : List ℕ) → is_held ≡ true → (next == 10) ≡ true → going_on old false (next ∷ more) ≡ going_on old is_held (next ∷ more)
drops_return old is_held next more e f = ap (λ cs. old ++ encode_utf8_all cs) (sym (return_dropped next more f)) ∙ ap (λ h. going_on old h (next ∷ more)) (sym e)

pub shows_return : (old new : List ℕ) (is_held : Bool) (next : ℕ) (more : List ℕ) → is_held ≡ true → (next == 10) ≡ false → new ≡ old ++ encode_utf8 0x240D → going_on new false (next ∷ more) ≡ going_on old is_held (next ∷ more)
shows_return old new is_held next more e f put =
    written old new (encode_utf8 0x240D) (encode_utf8_all (without_steering (next ∷ more))) (encode_utf8_all (without_steering (13 ∷ next ∷ more))) put (sym (ap encode_utf8_all (return_shown next more f)))
    ∙ ap (λ h. going_on old h (next ∷ more)) (sym e)

pub ends_whole : (old : List ℕ) (is_held : Bool) → is_held ≡ false → old ≡ going_on old is_held []
unfolding without_steering
ends_whole old is_held e = sym (append-nil old) ∙ ap (λ h. going_on old h []) (sym e)

pub ends_with_return : (old new : List ℕ) (is_held : Bool) → is_held ≡ true → new ≡ old ++ encode_utf8 0x240D → new ≡ going_on old is_held []
ends_with_return old new is_held e put =
    put ∙ ap (λ bs. old ++ bs) (sym (append-nil (encode_utf8 0x240D)) ∙ sym (ap encode_utf8_all last_return_shown)) ∙ ap (λ h. going_on old h []) (sym e)

pub shows : (old between new : List ℕ) (is_held : Bool) (c : ℕ) (more : List ℕ) → (c == 13) ≡ false → going_on between false (c ∷ more) ≡ going_on old is_held (c ∷ more) → new ≡ between ++ encode_utf8 (shown_for c)
    → going_on new false more ≡ going_on old is_held (c ∷ more)
shows old between new is_held c more e before put =
    written between new (encode_utf8 (shown_for c)) (encode_utf8_all (without_steering more)) (encode_utf8_all (without_steering (c ∷ more))) put (sym (ap encode_utf8_all (other_shown c more e)))
    ∙ before

-- ---- no character steers

quiet_more : (c : ℕ) (xs : List ℕ) → list_all (λ x. not (steers x)) xs ≡ true → list_all (λ x. not (steers x)) (shown_for c ∷ xs) ≡ true
quiet_more c xs h = ap (λ b. not b && list_all (λ x. not (steers x)) xs) (shown_steers c) ∙ h

pub none_steers : (cs : List ℕ) → list_all (λ c. not (steers c)) (without_steering cs) ≡ true
none_steers cs = along (λ xs. list_all (λ c. not (steers c)) xs ≡ true) cs refl quiet_more

scalar_picture : (b d : Bool) (c : ℕ) → nat_lt c 32 ≡ b → scalar (if b then 0x2400 + c else if d then 0x2421 else 0xFFFD) ≡ true
scalar_picture true d c e = low_scalar (0x2400 + c) (grind (arith, nat_tests))
scalar_picture false true c e = refl
scalar_picture false false c e = refl

scalar_by : (c : ℕ) (b : Bool) → scalar c ≡ true → scalar (if b then picture c else c) ≡ true
scalar_by c true e = scalar_picture (nat_lt c 32) (c == 0x7F) c refl
scalar_by c false e = e

pub first_of : (a b : Bool) → (a && b) ≡ true → a ≡ true
first_of true b e = refl
first_of false b e = e

pub rest_of : (a b : Bool) → (a && b) ≡ true → b ≡ true
rest_of true b e = e
rest_of false b e = absurd cc

pub both_true : (a b : Bool) → a ≡ true → b ≡ true → (a && b) ≡ true
both_true a b e f = ap (λ x. x && b) e ∙ f

if_scalars : (b : Bool) (xs ys : List ℕ) → scalars xs ≡ true → scalars ys ≡ true → scalars (if b then xs else ys) ≡ true
if_scalars true xs ys e f = e
if_scalars false xs ys e f = f

pub scalars_kept : (cs : List ℕ) → scalars cs ≡ true → scalars (without_steering cs) ≡ true
unfolding without_steering
scalars_kept [] e = refl
scalars_kept (c ∷ cs) e =
    let rest = scalars_kept cs (rest_of (scalar c) (scalars cs) e) in
    if_scalars ((c == 13) && (slice_index cs 0 == 10)) (without_steering cs) (shown_for c ∷ without_steering cs) rest
    (both_true (scalar (shown_for c)) (scalars (without_steering cs)) (scalar_by c (steers c) (first_of (scalar c) (scalars cs) e)) rest)

-- ---- a text without such characters stays

quiet : (b : Bool) → not b ≡ true → b ≡ false
quiet true e = absurd cc
quiet false e = refl

not_return : (c : ℕ) → steers c ≡ false → (c == 13) ≡ false
unfolding steers
not_return c e = grind (arith, nat_tests)

pub stays : (cs : List ℕ) → list_all (λ c. not (steers c)) cs ≡ true → without_steering cs ≡ cs
unfolding without_steering
stays [] e = refl
stays (c ∷ cs) e =
    let here : steers c ≡ false = quiet (steers c) (first_of (not (steers c)) (list_all (λ x. not (steers x)) cs) e) in
    other_shown c cs (not_return c here) ∙ ap (λ b. (if b then picture c else c) ∷ without_steering cs) here
    ∙ ap (λ xs. c ∷ xs) (stays cs (rest_of (not (steers c)) (list_all (λ x. not (steers x)) cs) e))

-- ---- the texts

pub characters_of_cleaned : (text : List ℕ) → IsUtf8 text → chars (cleaned text) ≡ without_steering (chars text)
unfolding cleaned
characters_of_cleaned text u = chars-encodes (without_steering (chars text)) (scalars_kept (chars text) (scalars-chars text u))

pub cleaned_is_clean : (text : List ℕ) → IsUtf8 text → is_clean (cleaned text) ≡ true
cleaned_is_clean text u = ap (list_all (λ c. not (steers c))) (characters_of_cleaned text u) ∙ none_steers (chars text)

pub empty_is_clean : is_clean [] ≡ true
empty_is_clean = ap (list_all (λ c. not (steers c))) chars-nil

pub clean_stays : (text : List ℕ) → IsUtf8 text → is_clean text ≡ true → cleaned text ≡ text
unfolding cleaned
clean_stays text u e = ap encode_utf8_all (stays (chars text) e) ∙ encodes-chars text u

quiet_byte : (byte : ℕ) → is_printable byte ≡ true → not (steers byte) ≡ true
unfolding steers
quiet_byte byte e = grind (arith, nat_tests)

below_128 : (byte : ℕ) → is_printable byte ≡ true → byte < 128
below_128 byte e = grind (arith, nat_tests)

all_quiet : (text : List ℕ) → list_all is_printable text ≡ true → list_all (λ byte. not (steers byte)) text ≡ true
all_quiet [] e = refl
all_quiet (byte ∷ text) e =
    let rest = all_quiet text (rest_of (is_printable byte) (list_all is_printable text) e) in
    both_true (not (steers byte)) _ (quiet_byte byte (first_of (is_printable byte) (list_all is_printable text) e)) rest

-- a text of printable ASCII is clean
pub printable_is_clean : (text : List ℕ) → list_all is_printable text ≡ true → is_clean text ≡ true
printable_is_clean text e =
    let pass = AllPass-from_list_all is_printable text e in
    ap (list_all (λ c. not (steers c))) (chars-IsAscii text (IsAscii-from_all text (λ k d within. below_128 (get_or text k d) (pass k d within)))) ∙ all_quiet text e

pub clean_twice : (text : List ℕ) → IsUtf8 text → cleaned (cleaned text) ≡ cleaned text
unfolding cleaned
clean_twice text u =
    ap (λ cs. encode_utf8_all (without_steering cs)) (characters_of_cleaned text u) ∙ ap encode_utf8_all (stays (without_steering (chars text)) (none_steers (chars text)))

-- ---- its bytes

-- a byte that is no control character of ASCII but the line feed
abbrev pub is_plain_byte : ℕ → Bool
is_plain_byte byte = (nat_le 32 byte && not (byte == 127)) || (byte == 10)

high_byte : (n k : ℕ) → 128 ≤ n → is_plain_byte (n + k) ≡ true
high_byte n k h = grind (arith, nat_tests)

low_byte : (c : ℕ) → steers c ≡ false → c < 128 → is_plain_byte c ≡ true
unfolding steers
low_byte c e h = grind (arith, nat_tests)

encoded_plain : (b d e : Bool) (c : ℕ) → nat_lt c 128 ≡ b → steers c ≡ false
    → list_all is_plain_byte (cond b (c ∷ []) (cond d ((192 + c / 64) ∷ (128 + c % 64) ∷ []) (cond e ((224 + c / 4096) ∷ (128 + (c / 64) % 64) ∷ (128 + c % 64) ∷ []) ((240 + c / 262144) ∷ (128 + (c / 4096) % 64) ∷ (128 + (c / 64) % 64) ∷ (128 + c % 64) ∷ [])))) ≡ true
encoded_plain true d e c small f = both_true (is_plain_byte c) true (low_byte c f (grind (arith, nat_tests))) refl
encoded_plain false true e c small f =
    both_true (is_plain_byte (192 + c / 64)) _ (high_byte 192 (c / 64) (lit≤ tt)) (both_true (is_plain_byte (128 + c % 64)) true (high_byte 128 (c % 64) (lit≤ tt)) refl)
encoded_plain false false true c small f =
    both_true (is_plain_byte (224 + c / 4096)) _ (high_byte 224 (c / 4096) (lit≤ tt))
    (both_true (is_plain_byte (128 + (c / 64) % 64)) _ (high_byte 128 ((c / 64) % 64) (lit≤ tt)) (both_true (is_plain_byte (128 + c % 64)) true (high_byte 128 (c % 64) (lit≤ tt)) refl))
encoded_plain false false false c small f =
    both_true (is_plain_byte (240 + c / 262144)) _ (high_byte 240 (c / 262144) (lit≤ tt))
    (both_true (is_plain_byte (128 + (c / 4096) % 64)) _ (high_byte 128 ((c / 4096) % 64) (lit≤ tt))
    (both_true (is_plain_byte (128 + (c / 64) % 64)) _ (high_byte 128 ((c / 64) % 64) (lit≤ tt)) (both_true (is_plain_byte (128 + c % 64)) true (high_byte 128 (c % 64) (lit≤ tt)) refl)))

character_plain : (c : ℕ) → steers c ≡ false → list_all is_plain_byte (encode_utf8 c) ≡ true
unfolding encode
character_plain c f = encoded_plain (nat_lt c 128) (nat_lt c 2048) (nat_lt c 65536) c refl f

all_plain : (cs : List ℕ) → list_all (λ c. not (steers c)) cs ≡ true → list_all is_plain_byte (encode_utf8_all cs) ≡ true
all_plain [] e = refl
all_plain (c ∷ cs) e =
    list_all-append is_plain_byte (encode_utf8 c) (encode_utf8_all cs)
    ∙ both_true (list_all is_plain_byte (encode_utf8 c)) (list_all is_plain_byte (encode_utf8_all cs))
    (character_plain c (quiet (steers c) (first_of (not (steers c)) (list_all (λ x. not (steers x)) cs) e)))
    (all_plain cs (rest_of (not (steers c)) (list_all (λ x. not (steers x)) cs) e))

pub cleaned_bytes : (text : List ℕ) → IsUtf8 text → list_all (λ byte. (nat_le 32 byte && not (byte == 127)) || (byte == 10)) (cleaned text) ≡ true
unfolding cleaned
cleaned_bytes text u = all_plain (without_steering (chars text)) (none_steers (chars text))
