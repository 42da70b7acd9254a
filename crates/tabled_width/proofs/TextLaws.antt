-- What holds of whole texts whose lines are cut.
use Rattle.std.proofs.Common.{◌≡◌, ⊎_elim, ℕ, ◌==◌, Bool, true, false, if◌then◌else◌, List, [], ◌∷◌, ◌++◌, map, get_or, refl, sym, ap, subst, ◌∙◌, lit<, append_assoc, append-nil}
use Rattle.std.specs.List.{All, Contains, flat_map, join_with_byte}
use Rattle.std.specs.Str.{IsUtf8}
use Rattle.std.proofs.lemmas.List.Elements.{All-nil, All-cons, All-head, All-tail, All-append, All-same}
use Rattle.std.proofs.lemmas.List.Splits.{slice_split_none, slice_split_at, join_with_byte-slice_split}
use Rattle.tabled_width.specs.Texts.{LinesFit, fits, pieces}
use Rattle.tabled_width.specs.Clusters.{clusters}
use Rattle.tabled_width.specs.Rows.{ClustersFit, WordsFit, close, rows, parts_of, words, line_rows, word_rows, by_lines, wrapped, wrapped_words}
use Rattle.tabled_width.specs.CutOff.{beginning, suffix_shown, cut_off, truncated}
use Rattle.tabled_width.proofs.ClusterLemmas.{concat_clusters}
use Rattle.tabled_width.proofs.Pieces.{some_pieces}
use Rattle.tabled_width.proofs.PieceFacts.{Lacks, all_texts, all_lack}
use Rattle.tabled_width.proofs.RowLaws.{Stands, concat_line, line_stands, cut_off_fits, shown_fits}
use Rattle.tabled_width.proofs.WordLaws.{word_rows_fit}
use Rattle.tabled_width.proofs.Spaces.{line_spaced, spaced_lack, parts_lack}
use Rattle.tabled_width.proofs.Filling.{line_short, words_short, cut_short, some_rows}

-- ---- a text whose lines stay as they are stays as it is

map_same : (f : List ℕ → List ℕ) (ls : List (List ℕ)) → All (λ l. f l ≡ l) ls → map f ls ≡ ls
map_same f [] all = refl
map_same f (l ∷ ls) all =
    ap (λ x. x ∷ map f ls) (All-head (λ l. f l ≡ l) l ls all) ∙ ap (λ xs. l ∷ xs) (map_same f ls (All-tail (λ l. f l ≡ l) l ls all))

pub by_lines_same : (f : List ℕ → List ℕ) (text : List ℕ) → All (λ l. f l ≡ l) (pieces text) → by_lines f text ≡ text
by_lines_same f text all = ap (join_with_byte 10) (map_same f (pieces text) all) ∙ join_with_byte-slice_split 10 text

pub wrapped_same : (width : ℕ) (text : List ℕ) → LinesFit width text → wrapped width text ≡ text
unfolding wrapped
wrapped_same width text all = by_lines_same (λ line. join_with_byte 10 (line_rows width line)) text (λ k d within. line_short width (get_or (pieces text) k d) (all k d within))

pub words_same : (width : ℕ) (text : List ℕ) → LinesFit width text → wrapped_words width text ≡ text
unfolding wrapped_words
words_same width text all = by_lines_same (λ line. join_with_byte 10 (word_rows width line)) text (λ k d within. words_short width (get_or (pieces text) k d) (all k d within))

pub truncated_same : (width : ℕ) (suffix text : List ℕ) → LinesFit width text → truncated width suffix text ≡ text
unfolding truncated
truncated_same width suffix text all =
    by_lines_same (cut_off width (suffix_shown width suffix)) text (λ k d within. cut_short width (suffix_shown width suffix) (get_or (pieces text) k d) (all k d within))

-- ---- lines without line feeds, joined, are cut into exactly these

cut_joined : (line : List ℕ) (lines : List (List ℕ)) → All (Lacks 10) (line ∷ lines) → pieces (join_with_byte 10 (line ∷ lines)) ≡ line ∷ lines
cut_joined line [] lack = slice_split_none (λ b. b == 10) line (All-head (Lacks 10) line [] lack)
cut_joined line (next ∷ lines) lack =
    slice_split_at (λ b. b == 10) line 10 (join_with_byte 10 (next ∷ lines)) (All-head (Lacks 10) line (next ∷ lines) lack) refl
    ∙ ap (λ rest. line ∷ rest) (cut_joined next lines (All-tail (Lacks 10) line (next ∷ lines) lack))

-- some rows
abbrev pub Some_of : List (List ℕ) → Type 0
Some_of rs = (first : List ℕ) × (more : List (List ℕ)) × (rs ≡ first ∷ more)

pub cut_rows : (rs : List (List ℕ)) → Some_of rs → All (Lacks 10) rs → pieces (join_with_byte 10 rs) ≡ rs
cut_rows [] some lack = cc (some.2)
cut_rows (line ∷ lines) some lack = cut_joined line lines lack

-- ---- rows of lines, joined by lines and then at once

joined_append : (r : List ℕ) (rs : List (List ℕ)) (s : List ℕ) (ss : List (List ℕ))
    → join_with_byte 10 ((r ∷ rs) ++ (s ∷ ss)) ≡ join_with_byte 10 (r ∷ rs) ++ (10 ∷ join_with_byte 10 (s ∷ ss))
joined_append r [] s ss = refl
joined_append r (q ∷ rs) s ss =
    ap (λ bs. r ++ (10 ∷ bs)) (joined_append q rs s ss) ∙ sym (append_assoc r (10 ∷ join_with_byte 10 (q ∷ rs)) (10 ∷ join_with_byte 10 (s ∷ ss)))

some_flat : (f : List ℕ → List (List ℕ)) (l : List ℕ) (ls : List (List ℕ)) → Some_of (f l) → Some_of (flat_map f (l ∷ ls))
some_flat f l ls some = (some.0, some.1 ++ flat_map f ls, ap (λ rs. rs ++ flat_map f ls) some.2)

pub joined_twice : (f : List ℕ → List (List ℕ)) (l : List ℕ) (ls : List (List ℕ)) → ((l : List ℕ) → Some_of (f l))
    → join_with_byte 10 (map (λ l. join_with_byte 10 (f l)) (l ∷ ls)) ≡ join_with_byte 10 (flat_map f (l ∷ ls))
joined_twice f l [] some = ap (join_with_byte 10) (sym (append-nil (f l)))
joined_twice f l (m ∷ ls) some =
    let here = some l in
    let next = some_flat f m ls (some m) in
    ap (λ bs. join_with_byte 10 (f l) ++ (10 ∷ bs)) (joined_twice f m ls some)
    ∙ ap (λ bs. join_with_byte 10 bs ++ (10 ∷ join_with_byte 10 (flat_map f (m ∷ ls)))) here.2
    ∙ ap (λ rs. join_with_byte 10 (here.0 ∷ here.1) ++ (10 ∷ join_with_byte 10 rs)) next.2
    ∙ sym (joined_append here.0 here.1 next.0 next.1)
    ∙ ap (λ rs. join_with_byte 10 ((here.0 ∷ here.1) ++ rs)) (sym next.2)
    ∙ ap (λ rs. join_with_byte 10 (rs ++ flat_map f (m ∷ ls))) (sym here.2)

-- ---- lines that are cut into rows

module _ (f : List ℕ → List (List ℕ)) (some : (l : List ℕ) → Some_of (f l)) where
  each_lacks : (ls : List (List ℕ)) → All (λ l. All (Lacks 10) (f l)) ls → All (Lacks 10) (flat_map f ls)
  each_lacks [] lack = All-nil (Lacks 10)
  each_lacks (l ∷ ls) lack =
      All-append (Lacks 10) (f l) (flat_map f ls) (All-head (λ l. All (Lacks 10) (f l)) l ls lack) (each_lacks ls (All-tail (λ l. All (Lacks 10) (f l)) l ls lack))

  -- the lines of a text of which each line is cut into rows are the rows of its lines
  pub lines_of : (text : List ℕ) → All (λ l. All (Lacks 10) (f l)) (pieces text) → pieces (by_lines (λ l. join_with_byte 10 (f l)) text) ≡ flat_map f (pieces text)
  lines_of text lack =
      let first = some_pieces text in
      ap (λ ls. pieces (join_with_byte 10 (map (λ l. join_with_byte 10 (f l)) ls))) first.2
      ∙ ap pieces (joined_twice f first.0 first.1 some)
      ∙ ap (λ ls. pieces (join_with_byte 10 (flat_map f ls))) (sym first.2)
      ∙ cut_rows (flat_map f (pieces text))
      (let flat = some_flat f first.0 first.1 (some first.0) in (flat.0, flat.1, ap (flat_map f) first.2 ∙ flat.2))
      (each_lacks (pieces text) lack)

  all_rows : (P : List ℕ → Type 0) (ls : List (List ℕ)) → All (λ l. All P (f l)) ls → All P (flat_map f ls)
  all_rows P [] all = All-nil P
  all_rows P (l ∷ ls) all = All-append P (f l) (flat_map f ls) (All-head (λ l. All P (f l)) l ls all) (all_rows P ls (All-tail (λ l. All P (f l)) l ls all))

  -- what holds of the rows of each line holds of the lines
  pub lines_have : (P : List ℕ → Type 0) (text : List ℕ) → All (λ l. All (Lacks 10) (f l)) (pieces text) → All (λ l. All P (f l)) (pieces text)
      → All P (pieces (by_lines (λ l. join_with_byte 10 (f l)) text))
  lines_have P text lack all =
      All-same P (pieces (by_lines (λ l. join_with_byte 10 (f l)) text)) (flat_map f (pieces text)) (lines_of text lack) (all_rows P (pieces text) all)

-- ---- wrapped between clusters

some_row : (width : ℕ) (line : List ℕ) → Some_of (line_rows width line)
unfolding line_rows
some_row width line = by (fits width line) refl
  where
    by : (b : Bool) → fits width line ≡ b → Some_of (if b then line ∷ [] else rows width [] (map close (clusters line)))
    by true e = (line, [], refl)
    by false e = some_rows width [] (map close (clusters line))

rows_lack : (width : ℕ) (line : List ℕ) → IsUtf8 line → Lacks 10 line → All (Lacks 10) (line_rows width line)
rows_lack width line text lack = parts_lack 10 (line_rows width line) (subst (Lacks 10) (sym (concat_line width line text)) lack)

row_fits : (width : ℕ) (line row : List ℕ) → All (λ cluster. fits width cluster ≡ true) (clusters line) → Stands width (Contains (clusters line)) row → fits width row ≡ true
row_fits width line row all stands =
    ⊎_elim (λ fit. fit) (λ one. ap (fits width) (sym one.2) ∙ all one.0 row one.1) stands

-- where each cluster fits, each line does after the text was wrapped
pub wrapped_fits : (width : ℕ) (text : List ℕ) → IsUtf8 text → ClustersFit width text → LinesFit width (wrapped width text)
unfolding wrapped
wrapped_fits width text u all =
    lines_have (line_rows width) (some_row width) (λ row. fits width row ≡ true) text
    (λ k d within. rows_lack width (get_or (pieces text) k d) (all_texts 10 (lit< tt) text u k d within) (all_lack 10 text k d within))
    (λ k d within j e inside. row_fits width (get_or (pieces text) k d) (get_or (line_rows width (get_or (pieces text) k d)) j e) (all k d within) (line_stands width (get_or (pieces text) k d) j e inside))

-- and to wrap it again changes nothing
pub wrapped_twice : (width : ℕ) (text : List ℕ) → IsUtf8 text → ClustersFit width text → wrapped width (wrapped width text) ≡ wrapped width text
wrapped_twice width text u all = wrapped_same width (wrapped width text) (wrapped_fits width text u all)

-- ---- wrapped at spaces

some_word_row : (width : ℕ) (line : List ℕ) → Some_of (word_rows width line)
unfolding word_rows
some_word_row width line = by (fits width line) refl
  where
    by : (b : Bool) → fits width line ≡ b → Some_of (if b then line ∷ [] else rows width [] (flat_map (parts_of width) (words line)))
    by true e = (line, [], refl)
    by false e = some_rows width [] (flat_map (parts_of width) (words line))

word_rows_lack : (width : ℕ) (line : List ℕ) → IsUtf8 line → Lacks 10 line → All (Lacks 10) (word_rows width line)
word_rows_lack width line text lack = spaced_lack 10 (word_rows width line) line (line_spaced width line text) lack

-- where these fit, each line does after the text was wrapped at spaces
pub wrapped_words_fits : (width : ℕ) (text : List ℕ) → IsUtf8 text → All (WordsFit width) (pieces text) → LinesFit width (wrapped_words width text)
unfolding wrapped_words
wrapped_words_fits width text u all =
    lines_have (word_rows width) (some_word_row width) (λ row. fits width row ≡ true) text
    (λ k d within. word_rows_lack width (get_or (pieces text) k d) (all_texts 10 (lit< tt) text u k d within) (all_lack 10 text k d within))
    (λ k d within. word_rows_fit width (get_or (pieces text) k d) (all k d within))

-- and to wrap it again changes nothing
pub words_twice : (width : ℕ) (text : List ℕ) → IsUtf8 text → All (WordsFit width) (pieces text) → wrapped_words width (wrapped_words width text) ≡ wrapped_words width text
words_twice width text u all = words_same width (wrapped_words width text) (wrapped_words_fits width text u all)

-- ---- cut off

-- a text that is its only line has no line feed
pub one_line_lacks : (text : List ℕ) → pieces text ≡ text ∷ [] → Lacks 10 text
one_line_lacks text one = All-head (Lacks 10) text [] (All-same (Lacks 10) (text ∷ []) (pieces text) (sym one) (all_lack 10 text))

begun_lacks : (width : ℕ) (suffix taken : List ℕ) (us : List (List ℕ)) → Lacks 10 taken → All (Lacks 10) us → Lacks 10 (beginning width suffix taken us)
unfolding beginning
begun_lacks width suffix taken [] here all = here
begun_lacks width suffix taken (u ∷ us) here all =
    by (fits width ((taken ++ u) ++ suffix)) (begun_lacks width suffix (taken ++ u) us (All-append (λ b. (b == 10) ≡ false) taken u here (All-head (Lacks 10) u us all)) (All-tail (Lacks 10) u us all))
  where
    by : (b : Bool) → Lacks 10 (beginning width suffix (taken ++ u) us) → Lacks 10 (if b then beginning width suffix (taken ++ u) us else taken)
    by true more = more
    by false more = here

clusters_lack : (line : List ℕ) → IsUtf8 line → Lacks 10 line → All (Lacks 10) (clusters line)
clusters_lack line text lack = parts_lack 10 (clusters line) (subst (Lacks 10) (sym (concat_clusters line text)) lack)

nothing_lacks : Lacks 10 []
nothing_lacks = All-nil (λ b. (b == 10) ≡ false)

shown_lacks : (width : ℕ) (suffix : List ℕ) → IsUtf8 suffix → Lacks 10 suffix → Lacks 10 (suffix_shown width suffix)
shown_lacks width suffix text lack = by (fits width suffix)
  where
    by : (b : Bool) → Lacks 10 (if b then suffix else beginning width [] [] (clusters suffix))
    by true = lack
    by false = begun_lacks width [] [] (clusters suffix) nothing_lacks (clusters_lack suffix text lack)

cut_off_lacks : (width : ℕ) (shown line : List ℕ) → IsUtf8 line → Lacks 10 line → Lacks 10 shown → Lacks 10 (cut_off width shown line)
unfolding cut_off
cut_off_lacks width shown line text lack shown_lack = by (fits width line)
  where
    by : (b : Bool) → Lacks 10 (if b then line else beginning width shown [] (clusters line) ++ shown)
    by true = lack
    by false = All-append (λ b. (b == 10) ≡ false) (beginning width shown [] (clusters line)) shown (begun_lacks width shown [] (clusters line) nothing_lacks (clusters_lack line text lack)) shown_lack

-- each line of a text that is cut off fits
pub truncated_fits : (width : ℕ) (suffix text : List ℕ) → IsUtf8 text → IsUtf8 suffix → pieces suffix ≡ suffix ∷ [] → LinesFit width (truncated width suffix text)
unfolding truncated
truncated_fits width suffix text u v one =
    let shown = suffix_shown width suffix in
    let lack = shown_lacks width suffix v (one_line_lacks suffix one) in
    lines_have (λ line. cut_off width shown line ∷ []) (λ line. (cut_off width shown line, [], refl)) (λ row. fits width row ≡ true) text
    (λ k d within. All-cons (Lacks 10) (cut_off width shown (get_or (pieces text) k d)) []
    (cut_off_lacks width shown (get_or (pieces text) k d) (all_texts 10 (lit< tt) text u k d within) (all_lack 10 text k d within) lack) (All-nil (Lacks 10)))
    (λ k d within. All-cons (λ row. fits width row ≡ true) (cut_off width shown (get_or (pieces text) k d)) []
    (cut_off_fits width shown (get_or (pieces text) k d) (shown_fits width suffix)) (All-nil (λ row. fits width row ≡ true)))

pub truncated_twice : (width : ℕ) (suffix text : List ℕ) → IsUtf8 text → IsUtf8 suffix → pieces suffix ≡ suffix ∷ [] → truncated width suffix (truncated width suffix text) ≡ truncated width suffix text
truncated_twice width suffix text u v one = truncated_same width suffix (truncated width suffix text) (truncated_fits width suffix text u v one)
