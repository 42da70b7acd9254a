-- How rows are filled, part by part.
use Rattle.std.proofs.Common.{◌≡◌, map, ℕ, Bool, true, false, if◌then◌else◌, List, [], ◌∷◌, ◌++◌, length, take, refl, sym, ap, subst, ◌∙◌, ◌<◌, ◌≤◌, arith, String, string_bytes, string_len, rules}
use Rattle.std.specs.List.{flat_map, join_with_byte}
use Rattle.std.specs.Str.{IsUtf8, IsCharBoundary}
use Rattle.std.proofs.lemmas.Bool.Decides.{nat_tests}
use Rattle.std.proofs.lemmas.List.{take_at, length-append}
use Rattle.std.proofs.lemmas.Str.{IsCharBoundary-from_take}
use Rattle.tabled_width.specs.Texts.{fits, width_of_text}
use Rattle.tabled_width.specs.Clusters.{clusters}
use Rattle.tabled_width.specs.Rows.{Chunk, close, parts_of, joined, before, rows, going_on, line_rows, word_rows, words}
use Rattle.tabled_width.specs.CutOff.{beginning, cut_off}

pub step_fits : (width : ℕ) (row : List ℕ) (part : Chunk) (parts : List Chunk) → fits width (joined row part) ≡ true → rows width row (part ∷ parts) ≡ rows width (joined row part) parts
unfolding rows
step_fits width row part parts e = ap (λ b. if b then rows width (joined row part) parts else before row (rows width part.text parts)) e

pub step_full : (width : ℕ) (row : List ℕ) (part : Chunk) (parts : List Chunk) → fits width (joined row part) ≡ false → rows width row (part ∷ parts) ≡ before row (rows width part.text parts)
unfolding rows
step_full width row part parts e = ap (λ b. if b then rows width (joined row part) parts else before row (rows width part.text parts)) e

pub step_end : (width : ℕ) (row : List ℕ) → rows width row [] ≡ row ∷ []
unfolding rows
step_end width row = refl

-- a row on which something stands is not left out
pub before_some : (row : List ℕ) (rs : List (List ℕ)) → 0 < length row → before row rs ≡ row ∷ rs
before_some [] rs some = absurd (omega arith)
before_some (b ∷ bs) rs some = refl

-- there is a row
some_before : (row : List ℕ) (rs : List (List ℕ)) → ((first : List ℕ) × (more : List (List ℕ)) × (rs ≡ first ∷ more)) → (first : List ℕ) × (more : List (List ℕ)) × (before row rs ≡ first ∷ more)
some_before [] rs some = some
some_before (b ∷ bs) rs some = (b ∷ bs, rs, refl)

some_if : (width : ℕ) (row : List ℕ) (part : Chunk) (parts : List Chunk) (b : Bool) → fits width (joined row part) ≡ b
    → ((row : List ℕ) → (first : List ℕ) × (more : List (List ℕ)) × (rows width row parts ≡ first ∷ more))
    → (first : List ℕ) × (more : List (List ℕ)) × (rows width row (part ∷ parts) ≡ first ∷ more)
some_if width row part parts true e some =
    let next = some (joined row part) in
    (next.0, next.1, step_fits width row part parts e ∙ next.2)
some_if width row part parts false e some =
    let next = some_before row (rows width part.text parts) (some part.text) in
    (next.0, next.1, step_full width row part parts e ∙ next.2)

pub some_rows : (width : ℕ) (row : List ℕ) (parts : List Chunk) → (first : List ℕ) × (more : List (List ℕ)) × (rows width row parts ≡ first ∷ more)
some_rows width row [] = (row, [], step_end width row)
some_rows width row (part ∷ parts) = some_if width row part parts (fits width (joined row part)) refl (λ next. some_rows width next parts)

-- a text by its width
pub at_most : (taken width : ℕ) (text : List ℕ) → taken ≡ width_of_text text → taken ≤ width → fits width text ≡ true
at_most taken width text e le = grind (arith, nat_tests)

pub above : (taken width : ℕ) (text : List ℕ) → taken ≡ width_of_text text → width < taken → fits width text ≡ false
above taken width text e lt = grind (arith, nat_tests)

-- the part stands on the row
pub put_here : (written row there : List ℕ) (width : ℕ) (part : Chunk) → there ≡ joined row part → fits width there ≡ true
    → (parts : List Chunk) → going_on written width there parts ≡ going_on written width row (part ∷ parts)
put_here written row there width part is fit parts =
    ap (λ bs. going_on written width bs parts) is
    ∙ ap (λ rs. written ++ join_with_byte 10 rs) (sym (step_fits width row part parts (ap (fits width) (sym is) ∙ fit)))

-- the part stands on the next row
pub put_next : (written new row after : List ℕ) (width : ℕ) (part : Chunk) → fits width (joined row part) ≡ false → after ≡ part.text
    → ((first : List ℕ) (more : List (List ℕ)) → new ++ join_with_byte 10 (first ∷ more) ≡ written ++ join_with_byte 10 (before row (first ∷ more)))
    → (parts : List Chunk) → going_on new width after parts ≡ going_on written width row (part ∷ parts)
put_next written new row after width part full begun ended parts =
    let next = some_rows width part.text parts in
    ap (λ bs. going_on new width bs parts) begun
    ∙ ap (λ rs. new ++ join_with_byte 10 rs) next.2
    ∙ ended next.0 next.1
    ∙ ap (λ rs. written ++ join_with_byte 10 (before row rs)) (sym next.2)
    ∙ ap (λ rs. written ++ join_with_byte 10 rs) (sym (step_full width row part parts full))

-- the length of a text
pub len_is : {Z : Type 0} (text : String Z) → length (string_bytes text) ≡ string_len text
len_is text = search rules

-- a text may be cut where another was appended to it
pub seam : (front more whole : List ℕ) (n : ℕ) → IsUtf8 front → whole ≡ front ++ more → n ≡ length front → IsUtf8 whole → IsCharBoundary whole n
seam front more whole n text is at utf8 =
    let here : take n whole ≡ front = ap (take n) is ∙ take_at front more n (sym at) in
    let within : n ≤ length whole = omega (arith, ap length is, length-append front more) in
    IsCharBoundary-from_take whole n utf8 within (subst IsUtf8 (sym here) text)

-- ---- a line that is cut between its clusters

pub line_short : (width : ℕ) (line : List ℕ) → fits width line ≡ true → join_with_byte 10 (line_rows width line) ≡ line
unfolding line_rows
line_short width line e = ap (λ b. join_with_byte 10 (if b then line ∷ [] else rows width [] (map close (clusters line)))) e

pub line_long : (width : ℕ) (line : List ℕ) → fits width line ≡ false → line_rows width line ≡ rows width [] (map close (clusters line))
unfolding line_rows
line_long width line e = ap (λ b. if b then line ∷ [] else rows width [] (map close (clusters line))) e

pub rows_end : (written row out goal : List ℕ) (width : ℕ) (parts : List Chunk) → going_on written width row parts ≡ goal → parts ≡ [] → out ≡ written ++ row → out ≡ goal
rows_end written row out goal width parts so_far none is =
    is ∙ ap (λ rs. written ++ join_with_byte 10 rs) (sym (step_end width row)) ∙ ap (going_on written width row) (sym none) ∙ so_far

pub words_short : (width : ℕ) (line : List ℕ) → fits width line ≡ true → join_with_byte 10 (word_rows width line) ≡ line
unfolding word_rows
words_short width line e = ap (λ b. join_with_byte 10 (if b then line ∷ [] else rows width [] (flat_map (parts_of width) (words line)))) e

pub words_long : (width : ℕ) (line : List ℕ) → fits width line ≡ false → word_rows width line ≡ rows width [] (flat_map (parts_of width) (words line))
unfolding word_rows
words_long width line e = ap (λ b. if b then line ∷ [] else rows width [] (flat_map (parts_of width) (words line))) e

-- ---- beginnings

pub begin_more : (width : ℕ) (suffix taken next u : List ℕ) (left more : List (List ℕ)) (goal : List ℕ) → beginning width suffix taken left ≡ goal → left ≡ u ∷ more
    → fits width ((taken ++ u) ++ suffix) ≡ true → next ≡ taken ++ u → beginning width suffix next more ≡ goal
unfolding beginning
begin_more width suffix taken next u left more goal so_far first room is =
    ap (λ bs. beginning width suffix bs more) is
    ∙ sym (ap (λ b. if b then beginning width suffix (taken ++ u) more else taken) room)
    ∙ ap (beginning width suffix taken) (sym first) ∙ so_far

pub begin_full : (width : ℕ) (suffix taken u : List ℕ) (left more : List (List ℕ)) (goal : List ℕ) → beginning width suffix taken left ≡ goal → left ≡ u ∷ more
    → fits width ((taken ++ u) ++ suffix) ≡ false → taken ≡ goal
unfolding beginning
begin_full width suffix taken u left more goal so_far first none =
    sym (ap (λ b. if b then beginning width suffix (taken ++ u) more else taken) none)
    ∙ ap (beginning width suffix taken) (sym first) ∙ so_far

pub begin_end : (width : ℕ) (suffix taken : List ℕ) (left : List (List ℕ)) (goal : List ℕ) → beginning width suffix taken left ≡ goal → left ≡ [] → taken ≡ goal
unfolding beginning
begin_end width suffix taken left goal so_far none = ap (beginning width suffix taken) (sym none) ∙ so_far

pub cut_short : (width : ℕ) (shown line : List ℕ) → fits width line ≡ true → cut_off width shown line ≡ line
unfolding cut_off
cut_short width shown line e = ap (λ b. if b then line else beginning width shown [] (clusters line) ++ shown) e

pub cut_long : (width : ℕ) (shown line : List ℕ) → fits width line ≡ false → cut_off width shown line ≡ beginning width shown [] (clusters line) ++ shown
unfolding cut_off
cut_long width shown line e = ap (λ b. if b then line else beginning width shown [] (clusters line) ++ shown) e
