-- What stands for a text is read as this text, ends no cell and no line, and has no blank at its ends.
use Rattle.std.proofs.Common.{◌≡◌, ◌==◌, ℕ, ◌-◌, Bool, true, false, not, ◌&&◌, ◌||◌, if◌then◌else◌, List, [], ◌∷◌, ◌++◌, codes, append_assoc, append-nil, refl, sym, ap, ◌∙◌, arith, unwrap_or, Option}
use Rattle.std.specs.List.{list_all, onto_first}
use Rattle.std.proofs.lemmas.Bool.{and_from, and_left, and_parts, and_right, cond_both, eqb-true, not-true}
use Rattle.std.proofs.lemmas.Bool.Decides.{nat_tests}
use Rattle.std.proofs.lemmas.List.Folds.{list_all-append}
use Rattle.tabled_markdown.specs.Source.{is_blank, is_mark, is_of_address, backslash, source_of, at_end, to_end, escaped}
use Rattle.tabled_markdown.specs.Reading.{Sign, sign, sign_of_tag, sign_of_entity, sign_of_escape, first_sign, is_punctuation, read_on, parts, is_line_end, after_blanks, before_blanks}

-- ---- what is known of a source

-- whatever stands before it and after it, its bars end no part
abbrev pub Passes : List ℕ → Type 0
Passes source =
    (first : List ℕ) (others : List (List ℕ)) (rest : List ℕ) → ((before : ℕ) → parts before rest ≡ first ∷ others) → (before : ℕ)
    → parts before (source ++ rest) ≡ (source ++ first) ∷ others

abbrev pub IsOneLine : List ℕ → Type 0
IsOneLine source = list_all (λ c. not (is_line_end c)) source ≡ true

pub record Stands (text source : List ℕ) : Type 0 where
  pub reads : (rest : List ℕ) → read_on 0 (source ++ rest) ≡ text ++ read_on 0 rest
  pub passes : Passes source
  pub one_line : IsOneLine source

nothing_stands : Stands [] []
nothing_stands = record { reads = λ rest. refl; passes = λ first others rest is before. is before; one_line = refl }

both_stand : (xs ys s t : List ℕ) → Stands xs s → Stands ys t → Stands (xs ++ ys) (s ++ t)
both_stand xs ys s t first second = record {
  reads = λ rest.
      ap (read_on 0) (append_assoc s t rest) ∙ first.reads (t ++ rest) ∙ ap (λ bs. xs ++ bs) (second.reads rest) ∙ sym (append_assoc xs ys (read_on 0 rest));
  passes = λ part others rest is before.
      ap (parts before) (append_assoc s t rest)
      ∙ first.passes (t ++ part) others (t ++ rest) (second.passes part others rest is) before
      ∙ ap (λ bs. bs ∷ others) (sym (append_assoc s t part));
  one_line = list_all-append (λ c. not (is_line_end c)) s t ∙ and_from _ _ first.one_line second.one_line;
}

-- ---- bars

abbrev pub has_no_bar : List ℕ → Bool
has_no_bar source = list_all (λ c. not (c == 124)) source

pub bare_passes : (source : List ℕ) → has_no_bar source ≡ true → Passes source
bare_passes [] e first others rest is before = is before
bare_passes (c ∷ source) e first others rest is before =
    let both = and_parts (not (c == 124)) (has_no_bar source) e in
    ap (λ b. if b then [] ∷ parts c (source ++ rest) else onto_first c (parts c (source ++ rest))) (and_left (c == 124) (not (before == 92)) (not-true (c == 124) both.0))
    ∙ ap (onto_first c) (bare_passes source both.1 first others rest is c)

backslash_passes : (c : ℕ) → Passes (92 ∷ c ∷ [])
backslash_passes c first others rest is before =
    ap (λ b. onto_first 92 (if b then [] ∷ parts c rest else onto_first c (parts c rest))) (and_right (c == 124) false refl)
    ∙ ap (λ ps. onto_first 92 (onto_first c ps)) (is c)

-- ---- signs

signed : (c : ℕ) (more : List ℕ) (s : Sign) → first_sign c more ≡ s → read_on 0 (c ∷ more) ≡ s.byte ∷ read_on (s.len - 1) more
signed c more s e = ap (λ (t : Sign). t.byte ∷ read_on (t.len - 1) more) e

plain_sign : (c : ℕ) (more : List ℕ) → (c == 60) ≡ false → (c == 38) ≡ false → (c == 92) ≡ false → first_sign c more ≡ sign 1 c
unfolding first_sign
plain_sign c more e f g =
    ap (λ b. if b then sign_of_tag more else if c == 38 then sign_of_entity more else if c == 92 then sign_of_escape more else sign 1 c) e
    ∙ ap (λ b. if b then sign_of_entity more else if c == 92 then sign_of_escape more else sign 1 c) f
    ∙ ap (λ b. if b then sign_of_escape more else sign 1 c) g

escape_sign : (c : ℕ) (more : List ℕ) → is_punctuation c ≡ true → first_sign 92 (c ∷ more) ≡ sign 2 c
unfolding first_sign
escape_sign c more e = ap (λ b. if b then sign 2 c else sign 1 92) e

-- ---- the cases of a byte

abbrev pub has_backslash : ℕ → ℕ → Bool
has_backslash before c = is_mark c || is_of_address before c

-- a byte that stands for itself
pub record IsPlain (before c : ℕ) : Type 0 where
  pub no_feed : (c == 10) ≡ false
  pub no_return : (c == 13) ≡ false
  pub no_entity : (c == 38) ≡ false
  pub no_tag : (c == 60) ≡ false
  pub no_mark : has_backslash before c ≡ false

module _ (P : List ℕ → Type 0) (before c : ℕ)
    (feed : c ≡ 10 → P (codes "<br>")) (return : c ≡ 13 → P (codes "&#13;")) (entity : c ≡ 38 → P (codes "&amp;")) (tag : c ≡ 60 → P (codes "&lt;"))
    (marked : has_backslash before c ≡ true → P (92 ∷ c ∷ [])) (plain : IsPlain before c → P (c ∷ [])) where
  abbrev Of : Option (List ℕ) → Type 0
  Of word = P (unwrap_or word (backslash before c ++ c ∷ []))

  pub source_by : P (source_of before c)
  unfolding source_of
  source_by =
      cond_both (c == 10) _ _ Of (λ e. feed (eqb-true c 10 e))
      (λ e. cond_both (c == 13) _ _ Of (λ f. return (eqb-true c 13 f))
      (λ f. cond_both (c == 38) _ _ Of (λ g. entity (eqb-true c 38 g))
      (λ g. cond_both (c == 60) _ _ Of (λ h. tag (eqb-true c 60 h))
      (λ h. cond_both (has_backslash before c) (92 ∷ []) [] (λ start. P (start ++ c ∷ [])) marked
      (λ k. plain (record { no_feed = e; no_return = f; no_entity = g; no_tag = h; no_mark = k }))))))

module _ (P : List ℕ → Type 0) (before c : ℕ)
    (space : c ≡ 32 → P (codes "&#32;")) (tabulator : c ≡ 9 → P (codes "&#9;")) (vertical : c ≡ 11 → P (codes "&#11;")) (form : c ≡ 12 → P (codes "&#12;"))
    (other : is_blank c ≡ false → P (source_of before c)) where
  abbrev AtEnd : Option (List ℕ) → Type 0
  AtEnd word = P (unwrap_or word (source_of before c))

  at_end_by : P (at_end before c)
  at_end_by =
      cond_both (c == 32) _ _ AtEnd (λ e. space (eqb-true c 32 e))
      (λ e. cond_both (c == 9) _ _ AtEnd (λ f. tabulator (eqb-true c 9 f))
      (λ f. cond_both (c == 11) _ _ AtEnd (λ g. vertical (eqb-true c 11 g))
      (λ g. cond_both (c == 12) _ _ AtEnd (λ h. form (eqb-true c 12 h)) (λ h. other (no_blank_of (c == 32) (c == 9) (c == 11) (c == 12) e f g h)))))
    where
      no_blank_of : (a b d n : Bool) → a ≡ false → b ≡ false → d ≡ false → n ≡ false → (a || b || d || n) ≡ false
      no_blank_of a b d n e f g h = λ i. e i || f i || g i || h i

-- ---- each is read

mark_is_punctuation : (before c : ℕ) → has_backslash before c ≡ true → is_punctuation c ≡ true
mark_is_punctuation before c e = grind (arith, nat_tests)

mark_is_on_line : (before c : ℕ) → has_backslash before c ≡ true → is_line_end c ≡ false
mark_is_on_line before c e = grind (arith, nat_tests)

mark_is_letter : (before c : ℕ) → has_backslash before c ≡ true → is_blank c ≡ false
mark_is_letter before c e = grind (arith, nat_tests)

no_bar : (before c : ℕ) → has_backslash before c ≡ false → (c == 124) ≡ false
no_bar before c e = grind (arith, nat_tests)

no_backslash : (before c : ℕ) → has_backslash before c ≡ false → (c == 92) ≡ false
no_backslash before c e = grind (arith, nat_tests)

on_line : (c : ℕ) → is_line_end c ≡ false → IsOneLine (c ∷ [])
on_line c e = ap (λ b. not b && true) e

word_stands : (c byte : ℕ) (word : List ℕ) → c ≡ byte → ((rest : List ℕ) → read_on 0 (word ++ rest) ≡ byte ∷ read_on 0 rest) → has_no_bar word ≡ true → IsOneLine word → Stands (c ∷ []) word
word_stands c byte word is reads bars line = record {
  reads = λ rest. reads rest ∙ ap (λ n. n ∷ read_on 0 rest) (sym is);
  passes = bare_passes word bars;
  one_line = line;
}

plain_stands : (before c : ℕ) → IsPlain before c → Stands (c ∷ []) (c ∷ [])
plain_stands before c is = record {
  reads = λ rest. signed c rest (sign 1 c) (plain_sign c rest is.no_tag is.no_entity (no_backslash before c is.no_mark));
  passes = bare_passes (c ∷ []) (ap (λ b. not b && true) (no_bar before c is.no_mark));
  one_line = on_line c (ap (λ b. b || (c == 13)) is.no_feed ∙ is.no_return);
}

marked_stands : (before c : ℕ) → has_backslash before c ≡ true → Stands (c ∷ []) (92 ∷ c ∷ [])
marked_stands before c e = record {
  reads = λ rest. signed 92 (c ∷ rest) (sign 2 c) (escape_sign c rest (mark_is_punctuation before c e));
  passes = backslash_passes c;
  one_line = on_line c (mark_is_on_line before c e);
}

source_stands : (before c : ℕ) → Stands (c ∷ []) (source_of before c)
unfolding first_sign
source_stands before c =
    source_by (Stands (c ∷ [])) before c (λ e. word_stands c 10 (codes "<br>") e (λ rest. refl) refl refl) (λ e. word_stands c 13 (codes "&#13;") e (λ rest. refl) refl refl)
    (λ e. word_stands c 38 (codes "&amp;") e (λ rest. refl) refl refl) (λ e. word_stands c 60 (codes "&lt;") e (λ rest. refl) refl refl) (marked_stands before c) (plain_stands before c)

at_end_stands : (before c : ℕ) → Stands (c ∷ []) (at_end before c)
unfolding first_sign
at_end_stands before c =
    at_end_by (Stands (c ∷ [])) before c (λ e. word_stands c 32 (codes "&#32;") e (λ rest. refl) refl refl) (λ e. word_stands c 9 (codes "&#9;") e (λ rest. refl) refl refl)
    (λ e. word_stands c 11 (codes "&#11;") e (λ rest. refl) refl refl) (λ e. word_stands c 12 (codes "&#12;") e (λ rest. refl) refl refl) (λ e. source_stands before c)

to_end_stands : (before : ℕ) (text : List ℕ) → Stands text (to_end before text)
to_end_stands before [] = nothing_stands
to_end_stands before (c ∷ []) = at_end_stands before c
to_end_stands before (c ∷ next ∷ more) = both_stand (c ∷ []) (next ∷ more) (source_of before c) (to_end c (next ∷ more)) (source_stands before c) (to_end_stands c (next ∷ more))

pub escaped_stands : (text : List ℕ) → Stands text (escaped text)
unfolding escaped
escaped_stands [] = nothing_stands
escaped_stands (c ∷ more) = both_stand (c ∷ []) more (at_end 32 c) (to_end c more) (at_end_stands 32 c) (to_end_stands c more)

-- ---- blanks at the ends

-- at least one byte, and none that is blank
abbrev AreLetters : List ℕ → Type 0
AreLetters [] = ⊥
AreLetters (c ∷ cs) = list_all (λ b. not (is_blank b)) (c ∷ cs) ≡ true

letter : (c : ℕ) → is_blank c ≡ false → AreLetters (c ∷ [])
letter c e = ap (λ b. not b && true) e

at_end_letters : (before c : ℕ) → AreLetters (at_end before c)
at_end_letters before c =
    at_end_by AreLetters before c (λ e. refl) (λ e. refl) (λ e. refl) (λ e. refl)
    (λ e. source_by AreLetters before c (λ f. refl) (λ f. refl) (λ f. refl) (λ f. refl) (λ f. letter c e) (λ f. letter c e))

not_all_blank : (cs rest : List ℕ) → AreLetters cs → list_all is_blank (cs ++ rest) ≡ false
not_all_blank [] rest are = absurd are
not_all_blank (c ∷ cs) rest are = and_left (is_blank c) (list_all is_blank (cs ++ rest)) (not-true (is_blank c) (and_parts (not (is_blank c)) (list_all (λ b. not (is_blank b)) cs) are).0)

starts_with_letter : (cs rest : List ℕ) → AreLetters cs → after_blanks (cs ++ rest) ≡ cs ++ rest
starts_with_letter [] rest are = absurd are
starts_with_letter (c ∷ cs) rest are =
    ap (λ b. if b then after_blanks (cs ++ rest) else c ∷ (cs ++ rest)) (not-true (is_blank c) (and_parts (not (is_blank c)) (list_all (λ b. not (is_blank b)) cs) are).0)

ends_with_letters : (cs : List ℕ) → list_all (λ b. not (is_blank b)) cs ≡ true → before_blanks (cs ++ 32 ∷ []) ≡ cs
ends_with_letters [] are = refl
ends_with_letters (c ∷ cs) are =
    let both = and_parts (not (is_blank c)) (list_all (λ b. not (is_blank b)) cs) are in
    ap (λ b. if b then [] else c ∷ before_blanks (cs ++ 32 ∷ [])) (and_left (is_blank c) (list_all is_blank (cs ++ 32 ∷ [])) (not-true (is_blank c) both.0))
    ∙ ap (λ bs. c ∷ bs) (ends_with_letters cs both.1)

kept_before : (xs ys : List ℕ) → list_all is_blank ys ≡ false → before_blanks (xs ++ ys) ≡ xs ++ before_blanks ys
kept_before [] ys e = refl
kept_before (c ∷ xs) ys e =
    ap (λ b. if b then [] else c ∷ before_blanks (xs ++ ys)) (list_all-append is_blank (c ∷ xs) ys ∙ and_right (list_all is_blank (c ∷ xs)) (list_all is_blank ys) e)
    ∙ ap (λ bs. c ∷ bs) (kept_before xs ys e)

letters_end : (cs : List ℕ) → AreLetters cs → before_blanks (cs ++ 32 ∷ []) ≡ cs
letters_end [] are = absurd are
letters_end (c ∷ cs) are = ends_with_letters (c ∷ cs) are

to_end_kept : (before c : ℕ) (more : List ℕ) → (before_blanks (to_end before (c ∷ more) ++ 32 ∷ []) ≡ to_end before (c ∷ more)) × (list_all is_blank (to_end before (c ∷ more) ++ 32 ∷ []) ≡ false)
to_end_kept before c [] = (letters_end (at_end before c) (at_end_letters before c), not_all_blank (at_end before c) (32 ∷ []) (at_end_letters before c))
to_end_kept before c (next ∷ more) =
    let rest = to_end_kept c next more in
    let source = source_of before c in
    let end = to_end c (next ∷ more) in (
      ap before_blanks (append_assoc source end (32 ∷ [])) ∙ kept_before source (end ++ 32 ∷ []) rest.1 ∙ ap (λ bs. source ++ bs) rest.0,
      ap (list_all is_blank) (append_assoc source end (32 ∷ [])) ∙ list_all-append is_blank source (end ++ 32 ∷ []) ∙ and_right (list_all is_blank source) (list_all is_blank (end ++ 32 ∷ [])) rest.1,
    )

pub IsTrimmed : List ℕ → Type 0
IsTrimmed source = before_blanks (after_blanks (32 ∷ (source ++ 32 ∷ []))) ≡ source

pub escaped_trimmed : (text : List ℕ) → before_blanks (after_blanks (32 ∷ (escaped text ++ 32 ∷ []))) ≡ escaped text
unfolding escaped
escaped_trimmed [] = refl
escaped_trimmed (c ∷ []) =
    let source = at_end 32 c in
    ap (λ bs. before_blanks (after_blanks (bs ++ 32 ∷ []))) (append-nil source)
    ∙ ap before_blanks (starts_with_letter source (32 ∷ []) (at_end_letters 32 c)) ∙ letters_end source (at_end_letters 32 c) ∙ sym (append-nil source)
escaped_trimmed (c ∷ next ∷ more) =
    let source = at_end 32 c in
    let end = to_end c (next ∷ more) in
    let kept = to_end_kept c next more in
    ap (λ bs. before_blanks (after_blanks bs)) (append_assoc source end (32 ∷ []))
    ∙ ap before_blanks (starts_with_letter source (end ++ 32 ∷ []) (at_end_letters 32 c))
    ∙ kept_before source (end ++ 32 ∷ []) kept.1 ∙ ap (λ bs. source ++ bs) kept.0
