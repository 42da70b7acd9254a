-- Texts of which no character steers stay so where they are kept within a number of terminal columns.
use Rattle.std.proofs.Common.{◌≡◌, ◌==◌, ℕ, ◌+◌, ◌<◌, zero, suc, Bool, true, false, not, if◌then◌else◌, List, [], ◌∷◌, ◌++◌, map, replicate, get_or, chars, encode_utf8_all, refl, sym, ap, ◌∙◌, lit<}
use Rattle.std.specs.List.{All, concat, flat_map, list_all, join_with_byte, slice_split}
use Rattle.std.proofs.Math.Utf8.{scalar, scalars}
use Rattle.std.proofs.lemmas.Bool.{and_parts, and_from, not_from_false}
use Rattle.std.proofs.lemmas.List.Elements.{All-nil, All-cons, All-head, All-tail, All-append, All-map}
use Rattle.std.proofs.lemmas.List.Folds.{list_all-append}
use Rattle.std.proofs.lemmas.Str.{chars-append, chars-encodes, chars_from_encodes, encodes-append, scalars-chars, chars-IsAscii, IsUtf8-append, IsUtf8-nil}
use Rattle.std.proofs.lemmas.Str.Ascii.{IsAscii-nil, IsAscii-cons}
use Rattle.tabled_clean.specs.Steering.{IsCleanText, steers, is_clean}
use Rattle.tabled_width.specs.Clusters.{clusters, clusters_of}
use Rattle.tabled_width.specs.CutOff.{beginning, cut_off, suffix_shown, truncated}
use Rattle.tabled_width.specs.Limited.{limited}
use Rattle.tabled_width.specs.Rows.{Chunk, before, by_lines, close, joined, line_rows, parts_of, rows, spaced, word_rows, words, words_from, wrapped, wrapped_words}
use Rattle.tabled_width.specs.Texts.{fits, pieces}
use Rattle.tabled_width.specs.declared.limit.Overflow.{Overflow}
use Rattle.tabled_width.specs.declared.limit.Overflow.TheVariants.{Wrap, WrapWords, Truncate}
use Rattle.tabled_width.proofs.ClusterLemmas.{concat_clusters}
use Rattle.tabled_claims.specs.Clean.{EndsClean}
use Rattle.tabled_claims.proofs.CleanCharacters.{feed_steers, space_steers}
use Rattle.tabled_claims.proofs.CleanTexts.{ascii_text, split_clean}

abbrev none_steers : List ℕ → Bool
none_steers cs = list_all (λ c. not (steers c)) cs

-- ---- one text after another

pub clean_both : (xs ys : List ℕ) → IsCleanText xs → IsCleanText ys → IsCleanText (xs ++ ys)
clean_both xs ys first second = (
  IsUtf8-append xs ys first.0 second.0,
  ap none_steers (chars-append xs ys first.0) ∙ list_all-append (λ c. not (steers c)) (chars xs) (chars ys) ∙ and_from (is_clean xs) (is_clean ys) first.1 second.1,
)

pub clean_nil : IsCleanText []
clean_nil = (IsUtf8-nil, ap none_steers (chars-encodes [] refl))

pub clean_one : (c : ℕ) → c < 128 → steers c ≡ false → IsCleanText (c ∷ [])
clean_one c low quiet = (
  ascii_text c low,
  ap none_steers (chars-IsAscii (c ∷ []) (IsAscii-cons c [] low IsAscii-nil)) ∙ and_from (not (steers c)) true (not_from_false (steers c) quiet) refl,
)

clean_space : IsCleanText (32 ∷ [])
clean_space = clean_one 32 (lit< tt) space_steers

clean_feed : IsCleanText (10 ∷ [])
clean_feed = clean_one 10 (lit< tt) feed_steers

spaces_clean : (count : ℕ) → IsCleanText (replicate count 32)
spaces_clean zero = clean_nil
spaces_clean (suc count) = clean_both (32 ∷ []) (replicate count 32) clean_space (spaces_clean count)

joined_clean : (lines : List (List ℕ)) → All IsCleanText lines → IsCleanText (join_with_byte 10 lines)
joined_clean [] all = clean_nil
joined_clean (line ∷ []) all = All-head IsCleanText line [] all
joined_clean (line ∷ next ∷ lines) all =
    clean_both line (10 ∷ join_with_byte 10 (next ∷ lines)) (All-head IsCleanText line (next ∷ lines) all)
    (clean_both (10 ∷ []) (join_with_byte 10 (next ∷ lines)) clean_feed (joined_clean (next ∷ lines) (All-tail IsCleanText line (next ∷ lines) all)))

-- ---- the clusters of a line

encoded : (groups : List (List ℕ)) → encode_utf8_all (concat groups) ≡ concat (map encode_utf8_all groups)
encoded [] = refl
encoded (group ∷ groups) = encodes-append group (concat groups) ∙ ap (λ bytes. encode_utf8_all group ++ bytes) (encoded groups)

scalars_parts : (xs ys : List ℕ) → scalars (xs ++ ys) ≡ true → (scalars xs ≡ true) × (scalars ys ≡ true)
scalars_parts [] ys are = (refl, are)
scalars_parts (x ∷ xs) ys are =
    let here = and_parts (scalar x) (scalars (xs ++ ys)) are in
    let rest = scalars_parts xs ys here.1 in
    (and_from (scalar x) (scalars xs) here.0 rest.0, rest.1)

groups_clean : (groups : List (List ℕ)) → scalars (concat groups) ≡ true → none_steers (concat groups) ≡ true → All IsCleanText (map encode_utf8_all groups)
groups_clean [] are none = All-nil IsCleanText
groups_clean (group ∷ groups) are none =
    let read = scalars_parts group (concat groups) are in
    let quiet = and_parts (none_steers group) (none_steers (concat groups)) (sym (list_all-append (λ c. not (steers c)) group (concat groups)) ∙ none) in
    All-cons IsCleanText (encode_utf8_all group) (map encode_utf8_all groups)
    ((group, (read.0, refl)), ap none_steers (chars-encodes group read.0) ∙ quiet.0) (groups_clean groups read.1 quiet.1)

clusters_clean : (line : List ℕ) → IsCleanText line → All IsCleanText (clusters line)
unfolding clusters
clusters_clean line clean =
    let groups = clusters_of (chars line) in
    let same : concat groups ≡ chars line = chars_from_encodes (concat groups) line clean.0 (encoded groups ∙ concat_clusters line clean.0) in
    groups_clean groups (ap scalars same ∙ scalars-chars line clean.0) (ap none_steers same ∙ clean.1)

-- ---- rows

abbrev PartIsClean : Chunk → Type 0
PartIsClean part = IsCleanText part.text

before_clean : (row : List ℕ) (lines : List (List ℕ)) → IsCleanText row → All IsCleanText lines → All IsCleanText (before row lines)
before_clean [] lines here all = all
before_clean (b ∷ bytes) lines here all = All-cons IsCleanText (b ∷ bytes) lines here all

rows_clean : (width : ℕ) (row : List ℕ) (parts : List Chunk) → IsCleanText row → All PartIsClean parts → All IsCleanText (rows width row parts)
unfolding rows
rows_clean width row [] here all = All-cons IsCleanText row [] here (All-nil IsCleanText)
rows_clean width row (part ∷ parts) here all =
    let own = All-head PartIsClean part parts all in
    let rest = All-tail PartIsClean part parts all in
    let longer = clean_both row (replicate part.gap 32 ++ part.text) here (clean_both (replicate part.gap 32) part.text (spaces_clean part.gap) own) in
    by (fits width (joined row part)) (rows_clean width (joined row part) parts longer rest) (before_clean row (rows width part.text parts) here (rows_clean width part.text parts own rest))
  where
    by : (b : Bool) → All IsCleanText (rows width (joined row part) parts) → All IsCleanText (before row (rows width part.text parts))
        → All IsCleanText (if b then rows width (joined row part) parts else before row (rows width part.text parts))
    by true on next = on
    by false on next = next

close_clean : (texts : List (List ℕ)) → All IsCleanText texts → All PartIsClean (map close texts)
close_clean texts all = All-map PartIsClean close texts all

spaced_clean : (gap : ℕ) (texts : List (List ℕ)) → All IsCleanText texts → All PartIsClean (spaced gap texts)
spaced_clean gap [] all = All-nil PartIsClean
spaced_clean gap (text ∷ texts) all =
    All-cons PartIsClean (record { gap = gap; text = text }) (map close texts) (All-head IsCleanText text texts all) (close_clean texts (All-tail IsCleanText text texts all))

words_clean : (gap : ℕ) (texts : List (List ℕ)) → All IsCleanText texts → All PartIsClean (words_from gap texts)
words_clean gap [] all = All-nil PartIsClean
words_clean gap ([] ∷ texts) all = words_clean (gap + 1) texts (All-tail IsCleanText [] texts all)
words_clean gap ((b ∷ bytes) ∷ texts) all =
    All-cons PartIsClean (record { gap = gap; text = b ∷ bytes }) (words_from 1 texts) (All-head IsCleanText (b ∷ bytes) texts all)
    (words_clean 1 texts (All-tail IsCleanText (b ∷ bytes) texts all))

parts_clean : (width : ℕ) (word : Chunk) → PartIsClean word → All PartIsClean (parts_of width word)
parts_clean width word clean = by (fits width word.text)
  where
    by : (b : Bool) → All PartIsClean (if b then word ∷ [] else spaced word.gap (clusters word.text))
    by true = All-cons PartIsClean word [] clean (All-nil PartIsClean)
    by false = spaced_clean word.gap (clusters word.text) (clusters_clean word.text clean)

all_parts_clean : (width : ℕ) (some : List Chunk) → All PartIsClean some → All PartIsClean (flat_map (parts_of width) some)
all_parts_clean width [] all = All-nil PartIsClean
all_parts_clean width (word ∷ some) all =
    All-append PartIsClean (parts_of width word) (flat_map (parts_of width) some)
    (parts_clean width word (All-head PartIsClean word some all)) (all_parts_clean width some (All-tail PartIsClean word some all))

-- a line that fits, and else its rows
line_or_rows : (b : Bool) (line : List ℕ) (parts : List (List ℕ)) → IsCleanText line → All IsCleanText parts → All IsCleanText (if b then line ∷ [] else parts)
line_or_rows true line parts here all = All-cons IsCleanText line [] here (All-nil IsCleanText)
line_or_rows false line parts here all = all

line_rows_clean : (width : ℕ) (line : List ℕ) → IsCleanText line → All IsCleanText (line_rows width line)
unfolding line_rows
line_rows_clean width line clean =
    line_or_rows (fits width line) line (rows width [] (map close (clusters line))) clean
    (rows_clean width [] (map close (clusters line)) clean_nil (close_clean (clusters line) (clusters_clean line clean)))

word_rows_clean : (width : ℕ) (line : List ℕ) → IsCleanText line → All IsCleanText (word_rows width line)
unfolding word_rows
word_rows_clean width line clean =
    line_or_rows (fits width line) line (rows width [] (flat_map (parts_of width) (words line))) clean
    (rows_clean width [] (flat_map (parts_of width) (words line)) clean_nil
    (all_parts_clean width (words line) (words_clean 0 (slice_split (λ byte. byte == 32) line) (split_clean 32 (lit< tt) line clean))))

-- ---- lines that are cut off

beginning_clean : (width : ℕ) (suffix taken : List ℕ) (texts : List (List ℕ)) → IsCleanText taken → All IsCleanText texts → IsCleanText (beginning width suffix taken texts)
unfolding beginning
beginning_clean width suffix taken [] here all = here
beginning_clean width suffix taken (text ∷ texts) here all =
    by (fits width ((taken ++ text) ++ suffix))
    (beginning_clean width suffix (taken ++ text) texts (clean_both taken text here (All-head IsCleanText text texts all)) (All-tail IsCleanText text texts all))
  where
    by : (b : Bool) → IsCleanText (beginning width suffix (taken ++ text) texts) → IsCleanText (if b then beginning width suffix (taken ++ text) texts else taken)
    by true more = more
    by false more = here

text_or_other : (b : Bool) (text other : List ℕ) → IsCleanText text → IsCleanText other → IsCleanText (if b then text else other)
text_or_other true text other first second = first
text_or_other false text other first second = second

suffix_clean : (width : ℕ) (suffix : List ℕ) → IsCleanText suffix → IsCleanText (suffix_shown width suffix)
suffix_clean width suffix clean =
    text_or_other (fits width suffix) suffix (beginning width [] [] (clusters suffix)) clean (beginning_clean width [] [] (clusters suffix) clean_nil (clusters_clean suffix clean))

cut_off_clean : (width : ℕ) (shown line : List ℕ) → IsCleanText shown → IsCleanText line → IsCleanText (cut_off width shown line)
unfolding cut_off
cut_off_clean width shown line end clean =
    text_or_other (fits width line) line (beginning width shown [] (clusters line) ++ shown) clean
    (clean_both (beginning width shown [] (clusters line)) shown (beginning_clean width shown [] (clusters line) clean_nil (clusters_clean line clean)) end)

-- ---- whole texts

by_lines_clean : (change : List ℕ → List ℕ) (text : List ℕ) → ((line : List ℕ) → IsCleanText line → IsCleanText (change line)) → IsCleanText text → IsCleanText (by_lines change text)
by_lines_clean change text keeps clean =
    let lines = split_clean 10 (lit< tt) text clean in
    joined_clean (map change (pieces text)) (All-map IsCleanText change (pieces text) (λ k d within. keeps (get_or (pieces text) k d) (lines k d within)))

pub truncated_clean : (width : ℕ) (suffix text : List ℕ) → IsCleanText suffix → IsCleanText text → IsCleanText (truncated width suffix text)
unfolding truncated
truncated_clean width suffix text end clean =
    by_lines_clean (cut_off width (suffix_shown width suffix)) text (λ line here. cut_off_clean width (suffix_shown width suffix) line (suffix_clean width suffix end) here) clean

pub limited_clean : (how : Overflow) (width : ℕ) (text : List ℕ) → EndsClean how → IsCleanText text → IsCleanText (limited how width text)
unfolding wrapped wrapped_words
limited_clean Wrap width text end clean =
    by_lines_clean (λ line. join_with_byte 10 (line_rows width line)) text (λ line here. joined_clean (line_rows width line) (line_rows_clean width line here)) clean
limited_clean WrapWords width text end clean =
    by_lines_clean (λ line. join_with_byte 10 (word_rows width line)) text (λ line here. joined_clean (word_rows width line) (word_rows_clean width line here)) clean
limited_clean (Truncate suffix) width text end clean = truncated_clean width suffix.now text end clean
