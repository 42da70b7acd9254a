-- Texts that nothing before them joins: their widths add up.
use Rattle.std.proofs.Common.{◌≡◌, ℕ, ◌+◌, ◌/◌, ◌%◌, ◌<◌, ◌≤◌, zero, suc, true, false, eqb, List, [], ◌∷◌, ◌++◌, length, replicate, get_or, encode_utf8_all, refl, sym, ap, subst, ◌∙◌, arith, append-nil, add_assoc, append_assoc, eq-eqb}
use Rattle.std.specs.Char.{encode_utf8}
use Rattle.std.specs.List.{list_all, sum_by, All, flat_map, range_with_len}
use Rattle.std.specs.Str.{chars, IsUtf8, chars_after}
use Rattle.std.proofs.lemmas.Bool.{and_parts, eqb-false, ne_eqb}
use Rattle.std.proofs.lemmas.Bool.Decides.{nat_tests}
use Rattle.std.proofs.lemmas.List.{length-replicate, get_or_default}
use Rattle.std.proofs.lemmas.List.Elements.{All-nil, All-append, All-replicate, All-weaker}
use Rattle.std.proofs.lemmas.List.Sums.{AllPass-from_list_all, list_all-from_AllPass, sum_by-cons}
use Rattle.std.proofs.lemmas.Str.{chars-append, chars-nil, inside_one}
use Rattle.unicode_width.specs.declared.kind.Kind.{Kind}
use Rattle.unicode_width.specs.declared.kind.Kind.TheVariants as kinds
use Rattle.unicode_width.specs.Kind.{kind}
use Rattle.unicode_width.specs.Width.{str_width, char_width, alone, of_kind}
use Rattle.unicode_width.proofs.Rules.{str_width-append_simple, str_width-simple, is_simple, is_simple_kind, width_or_zero}
use Rattle.tabled_width.proofs.AfterSpace.{from_space, nothing_wide}
use Rattle.tabled_width.specs.Texts.{width_of_text}
use Rattle.tabled_width.specs.Narrow.{is_narrow, is_narrow_kind}

-- ---- each number is read back from its bytes, a character's or not

whole_char : (c : ℕ) (bs : List ℕ) → chars_after zero c bs ≡ c ∷ chars bs
unfolding chars
whole_char c [] = refl
whole_char c (b ∷ bs) = refl

pub bytes_3 : (c : ℕ) → 2048 ≤ c → c < 65536 → encode_utf8 c ≡ (224 + c / 4096) ∷ (128 + c / 64 % 64) ∷ (128 + c % 64) ∷ []
unfolding encode_utf8
bytes_3 c l h = grind (arith, nat_tests)

read_back : (c : ℕ) (rest : List ℕ) → chars (encode_utf8 c ++ rest) ≡ c ∷ chars rest
unfolding chars encode_utf8
read_back c rest = grind (arith, nat_tests, whole_char)

pub all_back : (cs rest : List ℕ) → chars (encode_utf8_all cs ++ rest) ≡ cs ++ chars rest
all_back [] rest = refl
all_back (c ∷ cs) rest = rw (append_assoc (encode_utf8 c) (encode_utf8_all cs) rest, read_back c (encode_utf8_all cs ++ rest), all_back cs rest)

pub chars_of : (cs : List ℕ) → chars (encode_utf8_all cs) ≡ cs
chars_of cs = ap chars (sym (append-nil (encode_utf8_all cs))) ∙ all_back cs [] ∙ ap (λ l. cs ++ l) chars-nil ∙ append-nil cs

-- ---- texts that are read whole, whatever follows them

abbrev pub Splits : List ℕ → Type 0
Splits text = (rest : List ℕ) → chars (text ++ rest) ≡ chars text ++ chars rest

pub Splits-append : (xs ys : List ℕ) → Splits xs → Splits ys → Splits (xs ++ ys)
Splits-append xs ys first second rest = rw (append_assoc xs ys rest, first (ys ++ rest), second rest, first ys) (sym (append_assoc (chars xs) (chars ys) (chars rest)))

pub Splits-encoded : (cs : List ℕ) → Splits (encode_utf8_all cs)
Splits-encoded cs rest = all_back cs rest ∙ ap (λ l. l ++ chars rest) (sym (chars_of cs))

pub Splits-utf8 : (text : List ℕ) → IsUtf8 text → Splits text
Splits-utf8 text u rest = chars-append text rest u

-- ---- tiles

abbrev pub IsOther : ℕ → Type 0
IsOther byte = eqb byte 10 ≡ false

-- a text without line feeds
abbrev pub Lacks : List ℕ → Type 0
Lacks line = All IsOther line

-- a text of so many columns that joins nothing before it, and has no line feed
pub record Tile (width : ℕ) (text : List ℕ) : Type 0 where
  pub splits : Splits text
  pub wide : width_of_text text ≡ width
  pub apart : (xs : List ℕ) → str_width false (xs ++ chars text) ≡ str_width false xs + width
  pub lacks : Lacks text

pub width_of_nothing : width_of_text [] ≡ 0
width_of_nothing = sym nothing_wide

pub Tile-append : (m n : ℕ) (xs ys : List ℕ) → Tile m xs → Tile n ys → Tile (m + n) (xs ++ ys)
Tile-append m n xs ys first second = record {
  splits = Splits-append xs ys first.splits second.splits;
  wide = ap (str_width false) (first.splits ys) ∙ second.apart (chars xs) ∙ ap (λ k. k + n) first.wide;
  apart = λ zs. rw (first.splits ys, ← append_assoc zs (chars xs) (chars ys), second.apart (zs ++ chars xs), first.apart zs) (add_assoc (str_width false zs) m n);
  lacks = All-append IsOther xs ys first.lacks second.lacks;
}

-- a text that begins with a space
pub Tile-space : (width : ℕ) (text cs : List ℕ) → chars text ≡ 32 ∷ cs → Splits text → width_of_text text ≡ width → Lacks text → Tile width text
Tile-space width text cs begins splits wide lacks = record {
  splits = splits;
  wide = wide;
  apart = λ xs. ap (λ l. str_width false (xs ++ l)) begins ∙ from_space xs cs ∙ ap (λ k. str_width false xs + k) (ap (str_width false) (sym begins) ∙ wide);
  lacks = lacks;
}

-- ---- narrow characters

width_of_kind : (c : ℕ) (k : Kind) → is_narrow_kind k ≡ true → (of_kind false c k).0 ≡ 1
width_of_kind c kinds.Narrow h = refl
width_of_kind c kinds.Ambiguous h = refl
width_of_kind c _ h = cc

simple_of_kind : (k : Kind) → is_narrow_kind k ≡ true → is_simple_kind k ≡ true
simple_of_kind kinds.Narrow h = refl
simple_of_kind kinds.Ambiguous h = refl
simple_of_kind _ h = cc

-- what is known of a narrow character
record Narrow (c : ℕ) : Type 0 where
  simple : is_simple c ≡ true
  one : width_or_zero false c ≡ 1
  other : eqb c 10 ≡ false

narrow_is : (c : ℕ) → is_narrow c ≡ true → Narrow c
unfolding char_width alone
narrow_is c h =
    let width = width_of_kind c (kind c) in
    let simple = simple_of_kind (kind c) in
    record { simple = grind (arith, nat_tests); one = grind (arith, nat_tests); other = grind (arith, nat_tests) }

all_simple : (cs : List ℕ) → list_all is_narrow cs ≡ true → list_all is_simple cs ≡ true
all_simple cs h =
    list_all-from_AllPass is_simple cs (All-weaker (λ c. is_narrow c ≡ true) (λ c. is_simple c ≡ true) (λ c narrow. (narrow_is c narrow).simple) cs (AllPass-from_list_all is_narrow cs h))

all_one : (cs : List ℕ) → list_all is_narrow cs ≡ true → sum_by (width_or_zero false) cs ≡ length cs
all_one [] h = refl
all_one (c ∷ cs) h =
    let parts = and_parts (is_narrow c) (list_all is_narrow cs) h in
    let here = (narrow_is c parts.0).one in
    let rest = all_one cs parts.1 in
    sum_by-cons (width_or_zero false) c cs ∙ omega (arith, here, rest)

pub narrow_other : (c : ℕ) → is_narrow c ≡ true → eqb c 10 ≡ false
narrow_other c narrow = (narrow_is c narrow).other

pub char_lacks : (character : ℕ) → eqb character 10 ≡ false → Lacks (encode_utf8 character)
char_lacks character other k d within =
    let bytes : List ℕ = encode_utf8 character in
    let same : get_or bytes k d ≡ get_or bytes k 0 = get_or_default bytes k d 0 within in
    ne_eqb (get_or bytes k d) 10
    (λ ten. eqb-false character 10 other (inside_one character [] bytes k (sym (append-nil bytes)) within (omega (arith, same, ten)) ∙ sym same ∙ ten))

all_lack : (cs : List ℕ) → list_all is_narrow cs ≡ true → Lacks (encode_utf8_all cs)
all_lack [] h = All-nil IsOther
all_lack (c ∷ cs) h =
    let parts = and_parts (is_narrow c) (list_all is_narrow cs) h in
    All-append IsOther (encode_utf8 c) (encode_utf8_all cs) (char_lacks c (narrow_is c parts.0).other) (all_lack cs parts.1)

-- narrow characters take one column each
pub Tile-narrow : (cs : List ℕ) → list_all is_narrow cs ≡ true → Tile (length cs) (encode_utf8_all cs)
Tile-narrow cs h =
    let own : str_width false cs ≡ length cs = str_width-simple false cs (all_simple cs h) ∙ all_one cs h in
    record {
      splits = Splits-encoded cs;
      wide = ap (str_width false) (chars_of cs) ∙ own;
      apart = λ xs. ap (λ l. str_width false (xs ++ l)) (chars_of cs) ∙ str_width-append_simple false xs cs (all_simple cs h) ∙ ap (λ k. str_width false xs + k) own;
      lacks = all_lack cs h;
    }

pub Tile-nil : Tile 0 []
Tile-nil = Tile-narrow [] refl

pub Tile-same : (m n : ℕ) (text : List ℕ) → m ≡ n → Tile m text → Tile n text
Tile-same m n text same tile = subst (λ k. Tile k text) same tile

-- ---- one after another

pub Tile-flat : (f : ℕ → List ℕ) (w : ℕ → ℕ) (start count : ℕ) → ((n : ℕ) → start ≤ n → n < start + count → Tile (w n) (f n))
    → Tile (sum_by w (range_with_len start count)) (flat_map f (range_with_len start count))
Tile-flat f w start zero each = Tile-nil
Tile-flat f w start (suc count) each =
    Tile-same _ _ _ (sym (sum_by-cons w start (range_with_len (start + 1) count)))
    (Tile-append (w start) (sum_by w (range_with_len (start + 1) count)) (f start) (flat_map f (range_with_len (start + 1) count))
    (each start (omega arith) (omega arith)) (Tile-flat f w (start + 1) count (λ n least most. each n (omega arith) (omega arith))))

pub Tile-times : (n character : ℕ) → is_narrow character ≡ true → Tile n (encode_utf8_all (replicate n character))
Tile-times n character h =
    Tile-same _ _ _ (length-replicate {A = ℕ} n character)
    (Tile-narrow (replicate n character) (list_all-from_AllPass is_narrow (replicate n character) (All-replicate (λ c. is_narrow c ≡ true) n character h)))

-- tiles of one width are that wide
pub each_wide : (width : ℕ) (lines : List (List ℕ)) → All (Tile width) lines → list_all (λ line. eqb (width_of_text line) width) lines ≡ true
each_wide width lines all =
    list_all-from_AllPass (λ line. eqb (width_of_text line) width) lines
    (All-weaker (Tile width) (λ line. eqb (width_of_text line) width ≡ true) (λ line tile. eq-eqb _ _ tile.wide) lines all)
