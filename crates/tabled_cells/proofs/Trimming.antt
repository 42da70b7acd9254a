-- What a walk over a line, or over lines, drops at their ends.
use Rattle.std.proofs.Common.{◌≡◌, ◌≢◌, ℕ, ◌+◌, ◌-◌, ◌<◌, Bool, true, false, ◌&&◌, if◌then◌else◌, List, [], ◌∷◌, ◌++◌, map, reverse, take, drop, length, get_or, refl, sym, ap, subst, ◌∙◌, arith, length-drop}
use Rattle.std.proofs.Math.Bool.{and-true}
use Rattle.std.proofs.lemmas.Bool.{cond-true, cond-false, cond_both, ne_eqb}
use Rattle.std.proofs.lemmas.List.{map_push, reverse-append, reverse-reverse, drop_more, take-append-drop, take_more, take_all}
use Rattle.std.proofs.lemmas.Grind.{common_steps}
use Rattle.std.proofs.lemmas.List.Folds.{list_all-append}
use Rattle.tabled_width.specs.Texts.{pieces}
use Rattle.tabled_cells.specs.declared.placement.Placement.{Placement}
use Rattle.tabled_cells.specs.Trimmed.{without_first, without_last, without_ends, is_space, is_blank, line_trimmed, line_shown, lines_shown, first_lines}

-- what begins with something that passes is as the rest of it
pub passes_first : {A : Type 0} (test : A → Bool) (x : A) (xs : List A) → test x ≡ true → without_first test (x ∷ xs) ≡ without_first test xs
passes_first test x xs e = ap (λ b. if b then without_first test xs else x ∷ xs) e

-- what begins with something that does not is whole
pub fails_first : {A : Type 0} (test : A → Bool) (x : A) (xs : List A) → test x ≡ false → without_first test (x ∷ xs) ≡ x ∷ xs
fails_first test x xs e = ap (λ b. if b then without_first test xs else x ∷ xs) e

-- a line that does not begin with a space is whole
pub no_space_first : (line : List ℕ) → ((rest : List ℕ) → line ≢ 32 ∷ rest) → without_first is_space line ≡ line
no_space_first [] never = refl
no_space_first (b ∷ bs) never = fails_first is_space b bs (ne_eqb b 32 (λ e. never bs (ap (λ n. n ∷ bs) e)))

reverse_cons : {A : Type 0} (x : A) (xs : List A) → reverse (x ∷ xs) ≡ reverse xs ++ x ∷ []
reverse_cons x xs = reverse-append (x ∷ []) xs

-- a line that does not end with a space is whole, read from its end
pub no_space_last : (line : List ℕ) → ((front : List ℕ) → line ≢ front ++ 32 ∷ []) → without_first is_space (reverse line) ≡ reverse line
no_space_last line never =
    no_space_first (reverse line) (λ rest begins. never (reverse rest) (sym (reverse-reverse line) ∙ ap reverse begins ∙ reverse_cons 32 rest))

-- what holds of a list holds of it without what is dropped at its start, where it holds of a list without its first element that passes
pub first_off : {A : Type 0} (P : List A → Type 0) (test : A → Bool) → ((x : A) (xs : List A) → test x ≡ true → P (x ∷ xs) → P xs) → (xs : List A) → P xs → P (without_first test xs)
first_off P test off [] holds = holds
first_off P test off (x ∷ xs) holds = cond_both (test x) (without_first test xs) (x ∷ xs) P (λ e. first_off P test off xs (off x xs e holds)) (λ e. holds)

-- and without what is dropped at both ends, where it also holds of a list without its last one
pub ends_off : {A : Type 0} (P : List A → Type 0) (test : A → Bool) → ((x : A) (xs : List A) → test x ≡ true → P (x ∷ xs) → P xs) → ((x : A) (xs : List A) → test x ≡ true → P (xs ++ x ∷ []) → P xs)
    → (xs : List A) → P xs → P (without_ends test xs)
ends_off P test first last xs holds =
    first_off (λ ys. P (reverse ys)) test (λ y ys e more. last y (reverse ys) e (subst P (reverse_cons y ys) more)) (reverse (without_first test xs))
    (subst P (sym (reverse-reverse (without_first test xs))) (first_off P test first xs holds))

-- ---- blank lines above and below the others

-- what is trimmed of things is trimmed of what they are mapped to, where these pass just if they do
module _ {A B : Type 0} (f : A → B) (test : B → Bool) (own : A → Bool) (same : (x : A) → test (f x) ≡ own x) where
  first_mapped : (xs : List A) → without_first test (map f xs) ≡ map f (without_first own xs)
  first_mapped [] = refl
  first_mapped (x ∷ xs) =
      cond_both (own x) (without_first own xs) (x ∷ xs) (λ ys. without_first test (map f (x ∷ xs)) ≡ map f ys)
      (λ e. passes_first test (f x) (map f xs) (same x ∙ e) ∙ first_mapped xs) (λ e. fails_first test (f x) (map f xs) (same x ∙ e))

  reversed : (xs : List A) → reverse (map f xs) ≡ map f (reverse xs)
  reversed [] = refl
  reversed (x ∷ xs) = reverse_cons (f x) (map f xs) ∙ ap (λ ys. ys ++ f x ∷ []) (reversed xs) ∙ sym (map_push f (reverse xs) x) ∙ ap (map f) (sym (reverse_cons x xs))

  last_mapped : (xs : List A) → without_last test (map f xs) ≡ map f (without_last own xs)
  last_mapped xs = ap (λ ys. reverse (without_first test ys)) (reversed xs) ∙ ap reverse (first_mapped (reverse xs)) ∙ reversed (without_first own (reverse xs))

  pub ends_mapped : (xs : List A) → without_ends test (map f xs) ≡ map f (without_ends own xs)
  ends_mapped xs = ap (without_last test) (first_mapped xs) ∙ last_mapped (without_first own xs)

-- a line is blank as it is shown just if it is blank
pub blank_trimmed : (trims : Bool) (line : List ℕ) → is_blank (line_trimmed trims line) ≡ is_blank line
blank_trimmed true line =
    ends_off (λ rest. is_blank rest ≡ is_blank line) is_space (λ b bs e same. sym (ap (λ t. t && is_blank bs) e) ∙ same)
    (λ b bs e same. sym (list_all-append is_space bs (b ∷ []) ∙ ap (λ t. is_blank bs && (t && true)) e ∙ and-true (is_blank bs)) ∙ same) line refl
blank_trimmed false line = refl

-- the lines that are shown, where blank ones are trimmed, and where they are not
pub shown_trimmed : (how : Placement) (text : List ℕ) → how.trim_vertical ≡ true → lines_shown how text ≡ map (line_shown how) (without_ends is_blank (pieces text))
unfolding lines_shown
shown_trimmed how text trims =
    let lines : List (List ℕ) = map (line_shown how) (pieces text) in
    cond-true how.trim_vertical (without_ends is_blank lines) lines trims ∙ ends_mapped (line_shown how) is_blank is_blank (blank_trimmed how.trim_horizontal) (pieces text)

pub shown_whole : (how : Placement) (text : List ℕ) → how.trim_vertical ≡ false → lines_shown how text ≡ first_lines how.trim_horizontal (length (pieces text)) (pieces text)
unfolding lines_shown
shown_whole how text whole =
    let lines : List (List ℕ) = map (line_shown how) (pieces text) in
    cond-false how.trim_vertical (without_ends is_blank lines) lines whole ∙ ap (map (line_shown how)) (sym (take_all (length (pieces text)) (pieces text) (omega arith)))

-- ---- lines one after another

-- where a line stands first in what is left of lines
module _ (lines : List (List ℕ)) (line : List ℕ) (more : List (List ℕ)) (passed : ℕ) (here : line ∷ more ≡ drop passed lines) where
  pub line_within : passed < length lines
  line_within =
      let long : length (line ∷ more) ≡ length lines - passed = ap length here ∙ length-drop passed lines in
      omega (arith, long)

  parts : line ∷ more ≡ get_or lines passed [] ∷ drop (passed + 1) lines
  parts = here ∙ drop_more lines passed [] line_within

  pub line_is : line ≡ get_or lines passed []
  line_is = cc parts

  pub left_below : more ≡ drop (passed + 1) lines
  left_below = cc parts

-- the last one
pub last_within : (lines : List (List ℕ)) (line : List ℕ) (passed : ℕ) → line ∷ [] ≡ drop passed lines → length lines ≡ passed + 1
last_within lines line passed here =
    let long : length (line ∷ []) ≡ length lines - passed = ap length here ∙ length-drop passed lines in
    omega (arith, long)

-- where one line more is passed
pub taken_more : (lines : List (List ℕ)) (line : List ℕ) (more : List (List ℕ)) (passed : ℕ) → line ∷ more ≡ drop passed lines → take (passed + 1) lines ≡ take passed lines ++ line ∷ []
taken_more lines line more passed here = take_more lines passed [] (line_within lines line more passed here) ∙ ap (λ l. take passed lines ++ l ∷ []) (sym (line_is lines line more passed here))

-- all were passed
pub all_taken : (lines : List (List ℕ)) (line : List ℕ) (passed : ℕ) → line ∷ [] ≡ drop passed lines → take passed lines ++ line ∷ [] ≡ lines
all_taken lines line passed here = ap (λ rest. take passed lines ++ rest) here ∙ take-append-drop passed lines

-- the last line is kept with those above it, if it is not blank
pub last_kept : (lines : List (List ℕ)) (line : List ℕ) → without_last is_blank (lines ++ line ∷ []) ≡ (if is_blank line then without_last is_blank lines else lines ++ line ∷ [])
last_kept lines line =
    let ends = reverse-append lines (line ∷ []) in
    let turned = reverse_cons line (reverse lines) in
    let back = reverse-reverse lines in grind (arith, common_steps)
