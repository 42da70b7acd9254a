-- A line that is cut at its spaces loses spaces alone.
use Rattle.std.proofs.Common.{◌≡◌, ◌==◌, ℕ, ◌+◌, ◌<◌, Bool, true, false, if◌then◌else◌, List, [], ◌∷◌, ◌++◌, map, length, replicate, refl, sym, ap, subst, ◌∙◌, arith, lit<, append_assoc, append-nil, length-append}
use Rattle.std.specs.List.{All, concat, slice_split, flat_map, join_with_byte}
use Rattle.std.specs.Str.{IsUtf8}
use Rattle.std.proofs.lemmas.List.{replicate_more, replicate-append-replicate, get_or_append_left, get_or-append-add}
use Rattle.std.proofs.lemmas.List.Elements.{All-nil, All-cons, All-head, All-tail}
use Rattle.std.proofs.lemmas.List.Splits.{join_with_byte-slice_split}
use Rattle.tabled_width.specs.Texts.{fits}
use Rattle.tabled_width.specs.Clusters.{clusters}
use Rattle.tabled_width.specs.Rows.{Chunk, close, joined, before, rows, spaced, parts_of, words_from, words, word_rows, IsSpacedOut}
use Rattle.tabled_width.proofs.ClusterLemmas.{concat_clusters}
use Rattle.tabled_width.proofs.Filling.{step_fits, step_full, step_end}
use Rattle.tabled_width.proofs.PieceFacts.{Lacks, all_texts}

-- the spaces and texts of parts, one after another
abbrev written_out : List Chunk → List ℕ
written_out [] = []
written_out (p ∷ ps) = replicate p.gap 32 ++ (p.text ++ written_out ps)

-- ---- rows of parts

more_spaces : (n : ℕ) (rs : List (List ℕ)) (line : List ℕ) → IsSpacedOut rs line → IsSpacedOut rs (replicate n 32 ++ line)
more_spaces n [] line is = (n + is.0, ap (λ bs. replicate n 32 ++ bs) is.1 ∙ replicate-append-replicate n is.0 32)
more_spaces n (r ∷ rs) line is = (
  n + is.0,
  is.1,
  ap (λ bs. replicate n 32 ++ bs) is.2 ∙ sym (append_assoc (replicate n 32) (replicate is.0 32) (r ++ is.1))
      ∙ ap (λ bs. bs ++ (r ++ is.1)) (replicate-append-replicate n is.0 32),
  is.3,
)

spaces_after : (n : ℕ) (rs : List (List ℕ)) (line : List ℕ) → IsSpacedOut rs line → IsSpacedOut rs (line ++ replicate n 32)
spaces_after n [] line is = (is.0 + n, ap (λ bs. bs ++ replicate n 32) is.1 ∙ replicate-append-replicate is.0 n 32)
spaces_after n (r ∷ rs) line is = (
  is.0,
  is.1 ++ replicate n 32,
  ap (λ bs. bs ++ replicate n 32) is.2 ∙ append_assoc (replicate is.0 32) (r ++ is.1) (replicate n 32)
      ∙ ap (λ bs. replicate is.0 32 ++ bs) (append_assoc r is.1 (replicate n 32)),
  spaces_after n rs is.1 is.3,
)

row_before : (row : List ℕ) (rs : List (List ℕ)) (line : List ℕ) → IsSpacedOut rs line → IsSpacedOut (before row rs) (row ++ line)
row_before [] rs line is = is
row_before (b ∷ bs) rs line is = (0, line, refl, is)

one_row : (row : List ℕ) → IsSpacedOut (row ∷ []) row
one_row row = (0, [], sym (append-nil row), (0, refl))

rows_spaced : (width : ℕ) (row : List ℕ) (ps : List Chunk) → IsSpacedOut (rows width row ps) (row ++ written_out ps)
rows_spaced width row [] =
    subst (λ rs. IsSpacedOut rs (row ++ [])) (sym (step_end width row)) (subst (IsSpacedOut (row ∷ [])) (sym (append-nil row)) (one_row row))
rows_spaced width row (p ∷ ps) = by (fits width (joined row p)) refl (λ r. rows_spaced width r ps)
  where
    by : (b : Bool) → fits width (joined row p) ≡ b → ((r : List ℕ) → IsSpacedOut (rows width r ps) (r ++ written_out ps)) → IsSpacedOut (rows width row (p ∷ ps)) (row ++ (replicate p.gap 32 ++ (p.text ++ written_out ps)))
    by true e rest =
        subst (λ rs. IsSpacedOut rs (row ++ (replicate p.gap 32 ++ (p.text ++ written_out ps)))) (sym (step_fits width row p ps e))
        (subst (IsSpacedOut (rows width (joined row p) ps))
        (append_assoc row (replicate p.gap 32 ++ p.text) (written_out ps) ∙ ap (λ bs. row ++ bs) (append_assoc (replicate p.gap 32) p.text (written_out ps)))
        (rest (joined row p)))
    by false e rest =
        subst (λ rs. IsSpacedOut rs (row ++ (replicate p.gap 32 ++ (p.text ++ written_out ps)))) (sym (step_full width row p ps e))
        (row_before row (rows width p.text ps) (replicate p.gap 32 ++ (p.text ++ written_out ps)) (more_spaces p.gap (rows width p.text ps) (p.text ++ written_out ps) (rest p.text)))

-- ---- the parts of words

written_append : (ps qs : List Chunk) → written_out (ps ++ qs) ≡ written_out ps ++ written_out qs
written_append [] qs = refl
written_append (p ∷ ps) qs =
    ap (λ bs. replicate p.gap 32 ++ (p.text ++ bs)) (written_append ps qs)
    ∙ ap (λ bs. replicate p.gap 32 ++ bs) (sym (append_assoc p.text (written_out ps) (written_out qs)))
    ∙ sym (append_assoc (replicate p.gap 32) (p.text ++ written_out ps) (written_out qs))

written_close : (us : List (List ℕ)) → written_out (map close us) ≡ concat us
written_close [] = refl
written_close (u ∷ us) = ap (λ bs. u ++ bs) (written_close us)

written_spaced : (gap : ℕ) (us : List (List ℕ)) → 0 < length (concat us) → written_out (spaced gap us) ≡ replicate gap 32 ++ concat us
written_spaced gap [] some = absurd (omega arith)
written_spaced gap (u ∷ us) some = ap (λ bs. replicate gap 32 ++ (u ++ bs)) (written_close us)

-- a word is a text of some bytes
abbrev IsWord : Chunk → Type 0
IsWord word = IsUtf8 word.text × (0 < length word.text)

written_word : (width : ℕ) (word : Chunk) → IsWord word → written_out (parts_of width word) ≡ replicate word.gap 32 ++ word.text
written_word width word is = by (fits width word.text) refl
  where
    whole : concat (clusters word.text) ≡ word.text
    whole = concat_clusters word.text is.0

    by : (b : Bool) → fits width word.text ≡ b → written_out (if b then word ∷ [] else spaced word.gap (clusters word.text)) ≡ replicate word.gap 32 ++ word.text
    by true e = ap (λ bs. replicate word.gap 32 ++ bs) (append-nil word.text)
    by false e =
        written_spaced word.gap (clusters word.text) (let some = is.1 in omega (arith, some, ap length whole))
        ∙ ap (λ bs. replicate word.gap 32 ++ bs) whole

written_words : (width : ℕ) (ws : List Chunk) → All IsWord ws → written_out (flat_map (parts_of width) ws) ≡ written_out ws
written_words width [] all = refl
written_words width (w ∷ ws) all =
    written_append (parts_of width w) (flat_map (parts_of width) ws)
    ∙ ap (λ bs. bs ++ written_out (flat_map (parts_of width) ws)) (written_word width w (All-head IsWord w ws all))
    ∙ append_assoc (replicate w.gap 32) w.text (written_out (flat_map (parts_of width) ws))
    ∙ ap (λ bs. replicate w.gap 32 ++ (w.text ++ bs)) (written_words width ws (All-tail IsWord w ws all))

words_are : (gap : ℕ) (ps : List (List ℕ)) → All IsUtf8 ps → All IsWord (words_from gap ps)
words_are gap [] texts = All-nil IsWord
words_are gap ([] ∷ ps) texts = words_are (gap + 1) ps (All-tail IsUtf8 [] ps texts)
words_are gap ((b ∷ bs) ∷ ps) texts =
    All-cons IsWord (record { gap = gap; text = b ∷ bs }) (words_from 1 ps) (All-head IsUtf8 (b ∷ bs) ps texts, omega arith)
    (words_are 1 ps (All-tail IsUtf8 (b ∷ bs) ps texts))

-- ---- a line and its words

line_of_words : (gap : ℕ) (ps : List (List ℕ)) → (k : ℕ) × (replicate gap 32 ++ join_with_byte 32 ps ≡ written_out (words_from gap ps) ++ replicate k 32)
line_of_words gap [] = (gap, append-nil (replicate gap 32))
line_of_words gap ([] ∷ []) = (gap, append-nil (replicate gap 32))
line_of_words gap ([] ∷ (p ∷ ps)) =
    let rest = line_of_words (gap + 1) (p ∷ ps) in (
      rest.0,
      sym (append_assoc (replicate gap 32) (32 ∷ []) (join_with_byte 32 (p ∷ ps)))
          ∙ ap (λ bs. bs ++ join_with_byte 32 (p ∷ ps)) (replicate_more gap 32) ∙ rest.1,
    )
line_of_words gap ((b ∷ bs) ∷ []) =
    (0, ap (λ cs. replicate gap 32 ++ cs) (sym (append-nil (b ∷ bs))) ∙ sym (append-nil (replicate gap 32 ++ ((b ∷ bs) ++ []))))
line_of_words gap ((b ∷ bs) ∷ (p ∷ ps)) =
    let rest = line_of_words 1 (p ∷ ps) in (
      rest.0,
      ap (λ cs. replicate gap 32 ++ ((b ∷ bs) ++ cs)) rest.1
          ∙ ap (λ cs. replicate gap 32 ++ cs) (sym (append_assoc (b ∷ bs) (written_out (words_from 1 (p ∷ ps))) (replicate rest.0 32)))
          ∙ sym (append_assoc (replicate gap 32) ((b ∷ bs) ++ written_out (words_from 1 (p ∷ ps))) (replicate rest.0 32)),
    )

pub line_spaced : (width : ℕ) (line : List ℕ) → IsUtf8 line → IsSpacedOut (word_rows width line) line
unfolding word_rows
line_spaced width line text = by (fits width line) refl
  where
    parts : List Chunk
    parts = flat_map (parts_of width) (words line)

    cut : (k : ℕ) × (join_with_byte 32 (slice_split (λ byte. byte == 32) line) ≡ written_out (words line) ++ replicate k 32)
    cut = line_of_words 0 (slice_split (λ byte. byte == 32) line)

    whole : written_out parts ++ replicate cut.0 32 ≡ line
    whole =
        ap (λ bs. bs ++ replicate cut.0 32) (written_words width (words line) (words_are 0 (slice_split (λ byte. byte == 32) line) (all_texts 32 (lit< tt) line text)))
        ∙ sym cut.1 ∙ join_with_byte-slice_split 32 line

    by : (b : Bool) → fits width line ≡ b → IsSpacedOut (if b then line ∷ [] else rows width [] (flat_map (parts_of width) (words line))) line
    by true e = one_row line
    by false e = subst (IsSpacedOut (rows width [] parts)) whole (spaces_after cut.0 (rows width [] parts) (written_out parts) (rows_spaced width [] parts))

-- ---- rows of a line have none of the bytes that the line does not have

pub front_lacks : (separator : ℕ) (xs ys : List ℕ) → Lacks separator (xs ++ ys) → Lacks separator xs
front_lacks separator xs ys lack k d within =
    ap (λ b. b == separator) (sym (get_or_append_left xs ys d k within)) ∙ lack k d (omega (arith, within, length-append xs ys))

pub back_lacks : (separator : ℕ) (xs ys : List ℕ) → Lacks separator (xs ++ ys) → Lacks separator ys
back_lacks separator xs ys lack k d within =
    ap (λ b. b == separator) (sym (get_or-append-add xs ys k d)) ∙ lack (length xs + k) d (omega (arith, within, length-append xs ys))

pub spaced_lack : (separator : ℕ) (rs : List (List ℕ)) (line : List ℕ) → IsSpacedOut rs line → Lacks separator line → All (Lacks separator) rs
spaced_lack separator [] line is lack = All-nil (Lacks separator)
spaced_lack separator (r ∷ rs) line is lack =
    let rest = back_lacks separator (replicate is.0 32) (r ++ is.1) (subst (Lacks separator) is.2 lack) in
    All-cons (Lacks separator) r rs (front_lacks separator r is.1 rest) (spaced_lack separator rs is.1 is.3 (back_lacks separator r is.1 rest))

-- parts of what lacks a byte lack it
pub parts_lack : (separator : ℕ) (rs : List (List ℕ)) → Lacks separator (concat rs) → All (Lacks separator) rs
parts_lack separator [] lack = All-nil (Lacks separator)
parts_lack separator (r ∷ rs) lack =
    All-cons (Lacks separator) r rs (front_lacks separator r (concat rs) lack) (parts_lack separator rs (back_lacks separator r (concat rs) lack))
