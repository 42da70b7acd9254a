-- What is put for the characters of a text stands for its bytes.
use Rattle.std.proofs.Common.{◌≡◌, ◌==◌, ℕ, ◌+◌, ◌-◌, ◌<◌, ◌≤◌, ◌/◌, ◌%◌, Bool, true, false, cond, ◌&&◌, ◌||◌, if◌then◌else◌, nat_lt, nat_le, List, [], ◌∷◌, ◌++◌, length, get_or, take, drop, encode_utf8, append_assoc, append-nil, refl, sym, ap, ◌∙◌, arith, lit≤, inl, inr, unwrap_or, Some, None}
use Rattle.std.specs.List.{list_all}
use Rattle.std.proofs.Math.Seq.{take-length}
use Rattle.std.proofs.lemmas.List.{take_more}
use Rattle.std.proofs.lemmas.Bool.{and_from, and_parts, cases_lt, eqb-true, le-leb, leb-true, ltb-false, ltb-true}
use Rattle.std.proofs.lemmas.Bool.Decides.{nat_tests}
use Rattle.std.proofs.lemmas.Str.{encode_ascii}
use lib.Utf8.{encode}
use Rattle.tabled_markdown.specs.Source.{is_mark, is_of_address, word_of, blank_word, backslash, source_of, at_end, source_after, to_end, escaped}
use Rattle.tabled_markdown.proofs.Signs.{has_backslash}

-- ---- only a colon and a w matter to what comes after them

same_source : (b c d : ℕ) → is_of_address b d ≡ is_of_address c d → source_of b d ≡ source_of c d
unfolding source_of
same_source b c d e = ap (λ t. unwrap_or (word_of d) ((if is_mark d || t then 92 ∷ [] else []) ++ d ∷ [])) e

same_after : (b c : ℕ) (more : List ℕ) → ((d : ℕ) → is_of_address b d ≡ is_of_address c d) → source_after b more ≡ source_after c more
same_after b c [] same = refl
same_after b c (d ∷ more) same = ap (λ source. source ++ source_after d more) (same_source b c d (same d))

same_to_end : (b c : ℕ) (more : List ℕ) → ((d : ℕ) → is_of_address b d ≡ is_of_address c d) → to_end b more ≡ to_end c more
same_to_end b c [] same = refl
same_to_end b c (d ∷ []) same = ap (unwrap_or (blank_word d)) (same_source b c d (same d))
same_to_end b c (d ∷ next ∷ more) same = ap (λ source. source ++ to_end d (next ∷ more)) (same_source b c d (same d))

-- ---- characters that are none of ASCII

high_unmarked : (before c : ℕ) → 128 ≤ c → has_backslash before c ≡ false
high_unmarked before c h = grind (arith, nat_tests)

high_word : (c : ℕ) → 128 ≤ c → word_of c ≡ None
high_word c h = grind (arith, nat_tests)

high_blank : (c : ℕ) → 128 ≤ c → blank_word c ≡ None
high_blank c h = grind (arith, nat_tests)

high_address : (b d : ℕ) → 128 ≤ b → is_of_address b d ≡ false
high_address b d h = grind (arith, nat_tests)

high_source : (before c : ℕ) → 128 ≤ c → source_of before c ≡ c ∷ []
unfolding source_of
high_source before c h = ap (λ o. unwrap_or o (backslash before c ++ c ∷ [])) (high_word c h) ∙ ap (λ b. (if b then 92 ∷ [] else []) ++ c ∷ []) (high_unmarked before c h)

-- one byte at least, and none of ASCII
abbrev AreHigh : List ℕ → Type 0
AreHigh [] = ⊥
AreHigh (b ∷ bytes) = list_all (nat_le 128) (b ∷ bytes) ≡ true

above : (n k : ℕ) → 128 ≤ n → nat_le 128 (n + k) ≡ true
above n k h = le-leb 128 (n + k) (omega arith)

high_encoded : (b d e : Bool) (c : ℕ) → b ≡ false
    → AreHigh (cond b (c ∷ []) (cond d ((192 + c / 64) ∷ (128 + c % 64) ∷ []) (cond e ((224 + c / 4096) ∷ (128 + (c / 64) % 64) ∷ (128 + c % 64) ∷ []) ((240 + c / 262144) ∷ (128 + (c / 4096) % 64) ∷ (128 + (c / 64) % 64) ∷ (128 + c % 64) ∷ []))))
high_encoded true d e c is = absurd cc
high_encoded false true e c is = and_from _ _ (above 192 (c / 64) (lit≤ tt)) (and_from _ _ (above 128 (c % 64) (lit≤ tt)) refl)
high_encoded false false true c is =
    and_from _ _ (above 224 (c / 4096) (lit≤ tt)) (and_from _ _ (above 128 ((c / 64) % 64) (lit≤ tt)) (and_from _ _ (above 128 (c % 64) (lit≤ tt)) refl))
high_encoded false false false c is =
    and_from _ _ (above 240 (c / 262144) (lit≤ tt))
    (and_from _ _ (above 128 ((c / 4096) % 64) (lit≤ tt)) (and_from _ _ (above 128 ((c / 64) % 64) (lit≤ tt)) (and_from _ _ (above 128 (c % 64) (lit≤ tt)) refl)))

high_bytes : (c : ℕ) → nat_lt c 128 ≡ false → AreHigh (encode_utf8 c)
unfolding encode
high_bytes c e = high_encoded (nat_lt c 128) (nat_lt c 2048) (nat_lt c 65536) c e

high_after : (before : ℕ) (bytes : List ℕ) (c : ℕ) (more : List ℕ) → AreHigh bytes → 128 ≤ c → source_after before (bytes ++ more) ≡ bytes ++ source_after c more
high_after before [] c more are h = absurd are
high_after before (b ∷ []) c more are h =
    let high : 128 ≤ b = leb-true 128 b (and_parts (nat_le 128 b) true are).0 in
    (λ i. high_source before b high i ++ same_after b c more (λ d. high_address b d high ∙ sym (high_address c d h)) i)
high_after before (b ∷ next ∷ bytes) c more are h =
    let both = and_parts (nat_le 128 b) (list_all (nat_le 128) (next ∷ bytes)) are in
    (λ i. high_source before b (leb-true 128 b both.0) i ++ high_after b (next ∷ bytes) c more both.1 h i)

-- ---- a character

-- what is put for it
abbrev source_of_character : ℕ → ℕ → List ℕ
source_of_character before c = unwrap_or (word_of c) (backslash before c ++ encode_utf8 c)

character_after : (b : Bool) (before c : ℕ) (more : List ℕ) → nat_lt c 128 ≡ b → source_after before (encode_utf8 c ++ more) ≡ source_of_character before c ++ source_after c more
unfolding source_of
character_after true before c more e =
    let one = encode_ascii c (ltb-true c 128 e) in
    ap (λ bs. source_after before (bs ++ more)) one ∙ ap (λ bs. unwrap_or (word_of c) (backslash before c ++ bs) ++ source_after c more) (sym one)
character_after false before c more e =
    let high : 128 ≤ c = ltb-false c 128 e in
    high_after before (encode_utf8 c) c more (high_bytes c e) high
    ∙ sym (ap (λ o. unwrap_or o (backslash before c ++ encode_utf8 c) ++ source_after c more) (high_word c high) ∙ ap (λ b. ((if b then 92 ∷ [] else []) ++ encode_utf8 c) ++ source_after c more) (high_unmarked before c high))

put_source : (old new : List ℕ) (before c : ℕ) (more : List ℕ) → new ≡ old ++ source_of_character before c → new ++ source_after c more ≡ old ++ source_after before (encode_utf8 c ++ more)
put_source old new before c more e =
    ap (λ bs. bs ++ source_after c more) e ∙ append_assoc old (source_of_character before c) (source_after c more) ∙ ap (λ bs. old ++ bs) (sym (character_after (nat_lt c 128) before c more refl))

pub put_word : (old new word : List ℕ) (before c : ℕ) (more : List ℕ) → Some word ≡ word_of c → new ≡ old ++ word → new ++ source_after c more ≡ old ++ source_after before (encode_utf8 c ++ more)
put_word old new word before c more is e = put_source old new before c more (e ∙ ap (λ o. old ++ unwrap_or o (backslash before c ++ encode_utf8 c)) is)

pub put_character : (old mid new : List ℕ) (before c : ℕ) (more : List ℕ) → None ≡ word_of c → mid ≡ old ++ backslash before c → new ≡ mid ++ encode_utf8 c
    → new ++ source_after c more ≡ old ++ source_after before (encode_utf8 c ++ more)
put_character old mid new before c more none first e =
    put_source old new before c more
    (e ∙ ap (λ bs. bs ++ encode_utf8 c) first ∙ append_assoc old (backslash before c) (encode_utf8 c) ∙ ap (λ o. old ++ unwrap_or o (backslash before c ++ encode_utf8 c)) none)

-- ---- the ends of a text

is_ascii_by : (c : ℕ) (word : List ℕ) → Some word ≡ blank_word c → c < 128
is_ascii_by c word is = elim (cases_lt c 128) [ inl h ↦ h | inr h ↦ (let k : Some word ≡ None = is ∙ high_blank c h in cc) ]

no_blank : (c n : ℕ) (word : List ℕ) → Some word ≡ blank_word c → blank_word n ≡ None → (c == n) ≡ false
no_blank c n word is none = by (c == n) refl
  where
    by : (b : Bool) → (c == n) ≡ b → b ≡ false
    by true e = let k : Some word ≡ None = is ∙ ap blank_word (eqb-true c n e) ∙ none in cc
    by false e = refl

of_blank : (c d : ℕ) (word : List ℕ) → Some word ≡ blank_word c → is_of_address c d ≡ false
of_blank c d word is = λ i. (no_blank c 58 word is refl i && (d == 47)) || (no_blank c 119 word is refl i && (d == 46))

module _ (bytes text : List ℕ) (are : bytes ≡ text) (some : 0 < length bytes) where
  module _ (word : List ℕ) (is : Some word ≡ blank_word (get_or bytes 0 0)) where
    pub first_is_ascii : get_or text 0 0 < 128
    first_is_ascii = omega (arith, is_ascii_by (get_or bytes 0 0) word is, ap (λ bs. get_or bs 0 0) are)

    pub start_blank : escaped text ≡ word ++ to_end 32 (drop 1 text)
    unfolding escaped
    start_blank = by text (omega (arith, some, ap length are)) (is ∙ ap (λ bs. blank_word (get_or bs 0 0)) are)
      where
        by : (bs : List ℕ) → 0 < length bs → Some word ≡ blank_word (get_or bs 0 0) → escaped bs ≡ word ++ to_end 32 (drop 1 bs)
        by [] h e = absurd (omega arith)
        by (c ∷ more) h e = ap (λ o. unwrap_or o (source_of 32 c) ++ to_end c more) (sym e) ∙ ap (λ bs. word ++ bs) (same_to_end c 32 more (λ d. of_blank c d word e))

  pub start_other : None ≡ blank_word (get_or bytes 0 0) → escaped text ≡ to_end 32 text
  unfolding escaped
  start_other is = by text (omega (arith, some, ap length are)) (is ∙ ap (λ bs. blank_word (get_or bs 0 0)) are)
    where
      by : (bs : List ℕ) → 0 < length bs → None ≡ blank_word (get_or bs 0 0) → escaped bs ≡ to_end 32 bs
      by [] h e = absurd (omega arith)
      by (c ∷ []) h e = append-nil (at_end 32 c)
      by (c ∷ next ∷ more) h e = ap (λ o. unwrap_or o (source_of 32 c) ++ to_end c (next ∷ more)) (sym e)

pub start_empty : (text : List ℕ) → length text < 1 → escaped text ≡ to_end 32 text
unfolding escaped
start_empty [] h = refl
start_empty (c ∷ more) h = absurd (omega arith)

pub end_empty : (text : List ℕ) → length text < 1 → to_end 32 text ≡ source_after 32 text ++ []
end_empty [] h = refl
end_empty (c ∷ more) h = absurd (omega arith)

ends_blank : (before : ℕ) (text : List ℕ) (b : ℕ) (word : List ℕ) → Some word ≡ blank_word b → to_end before (text ++ b ∷ []) ≡ source_after before text ++ word
ends_blank before [] b word is = ap (λ o. unwrap_or o (source_of before b)) (sym is)
ends_blank before (c ∷ []) b word is = ap (λ bs. source_of before c ++ bs) (ends_blank c [] b word is) ∙ ap (λ bs. bs ++ word) (sym (append-nil (source_of before c)))
ends_blank before (c ∷ next ∷ more) b word is =
    ap (λ bs. source_of before c ++ bs) (ends_blank c (next ∷ more) b word is) ∙ sym (append_assoc (source_of before c) (source_after c (next ∷ more)) word)

ends_other : (before : ℕ) (text : List ℕ) (b : ℕ) → None ≡ blank_word b → to_end before (text ++ b ∷ []) ≡ source_after before (text ++ b ∷ [])
ends_other before [] b is = ap (λ o. unwrap_or o (source_of before b)) (sym is) ∙ sym (append-nil (source_of before b))
ends_other before (c ∷ []) b is = ap (λ bs. source_of before c ++ bs) (ends_other c [] b is)
ends_other before (c ∷ next ∷ more) b is = ap (λ bs. source_of before c ++ bs) (ends_other c (next ∷ more) b is)

split_last : (text : List ℕ) → 0 < length text → text ≡ take (length text - 1) text ++ get_or text (length text - 1) 0 ∷ []
split_last text h =
    let len : length text ≡ length text - 1 + 1 = omega arith in
    sym (take-length text) ∙ ap (λ n. take n text) len ∙ take_more text (length text - 1) 0 (omega arith)

module _ (bytes text : List ℕ) (are : bytes ≡ text) (some : 0 < length bytes) where
  pub end_blank : (word : List ℕ) → Some word ≡ blank_word (get_or bytes (length bytes - 1) 0) → to_end 32 text ≡ source_after 32 (take (length text - 1) text) ++ word
  end_blank word is =
      ap (to_end 32) (split_last text (omega (arith, some, ap length are)))
      ∙ ends_blank 32 (take (length text - 1) text) (get_or text (length text - 1) 0) word (is ∙ ap (λ bs. blank_word (get_or bs (length bs - 1) 0)) are)

  pub end_other : None ≡ blank_word (get_or bytes (length bytes - 1) 0) → to_end 32 text ≡ source_after 32 text ++ []
  end_other is =
      let whole = split_last text (omega (arith, some, ap length are)) in
      ap (to_end 32) whole
      ∙ ends_other 32 (take (length text - 1) text) (get_or text (length text - 1) 0) (is ∙ ap (λ bs. blank_word (get_or bs (length bs - 1) 0)) are)
      ∙ ap (source_after 32) (sym whole) ∙ sym (append-nil (source_after 32 text))
