-- Spaces in the place of tabs: how they are written, and what holds of them.
use Rattle.std.proofs.Common.{◌≡◌, ◌==◌, ℕ, ◌+◌, ◌-◌, ◌*◌, ◌/◌, ◌%◌, ◌≤◌, false, List, [], ◌∷◌, ◌++◌, map, get_or, replicate, chars, refl, sym, ap, subst, ◌∙◌, arith, append_assoc}
use Rattle.std.specs.List.{All, slice_split, join_with_byte}
use Rattle.std.specs.Str.{IsUtf8}
use Rattle.std.proofs.Math.Nat.{mod-add-div', mul-mod_left}
use Rattle.std.proofs.Math.ListN.{length-replicate}
use Rattle.std.proofs.lemmas.List.Elements.{All-nil, All-cons, All-head, All-tail, All-append, All-map, All-replicate}
use Rattle.std.proofs.lemmas.List.Splits.{slice_split_none, join_with_byte-slice_split}
use Rattle.std.proofs.lemmas.Str.{chars-append, chars-IsAscii}
use Rattle.unicode_width.specs.Width.{str_width}
use Rattle.unicode_width.proofs.Rules.{str_width-append_simple, str_width-printable}
use Rattle.tabled_width.specs.Texts.{pieces, width_of_text}
use Rattle.tabled_width.specs.Tabs.{spaces_to_stop, up_to_stop, at_stops, tabs_expanded}
use Rattle.tabled_width.proofs.AfterSpace.{spaces_printable, spaces_simple}
use Rattle.tabled_width.proofs.Pieces.{some_parts}
use Rattle.tabled_width.proofs.PieceFacts.{Lacks, all_lack}
use Rattle.tabled_width.proofs.Printing.{printable_ascii}
use Rattle.tabled_width.proofs.Spaces.{front_lacks, back_lacks}
use Rattle.tabled_width.proofs.TextLaws.{Some_of, by_lines_same}

abbrev pub tabs : List ℕ → List (List ℕ)
tabs line = slice_split (λ byte. byte == 9) line

-- ---- one text after another

stops_more : (every : ℕ) (text : List ℕ) (rest : List (List ℕ)) → Some_of rest → at_stops every (text ∷ rest) ≡ up_to_stop every text ++ at_stops every rest
unfolding at_stops
stops_more every text rest some = ap (λ r. at_stops every (text ∷ r)) some.2 ∙ ap (λ r. up_to_stop every text ++ at_stops every r) (sym some.2)

pub tab_more : (every : ℕ) (written fed spaced goal rest text more : List ℕ) → written ++ at_stops every (tabs rest) ≡ goal → tabs rest ≡ text ∷ tabs more → fed ≡ written ++ text
    → spaced ≡ fed ++ replicate (spaces_to_stop every text) 32 → spaced ++ at_stops every (tabs more) ≡ goal
tab_more every written fed spaced goal rest text more so_far first is ended =
    let spaces : List ℕ = replicate (spaces_to_stop every text) 32 in
    ap (λ bs. bs ++ at_stops every (tabs more)) (ended ∙ ap (λ bs. bs ++ spaces) is ∙ append_assoc written text spaces)
    ∙ append_assoc written (up_to_stop every text) (at_stops every (tabs more))
    ∙ ap (λ bs. written ++ bs) (sym (stops_more every text (tabs more) (some_parts 9 more)) ∙ ap (at_stops every) (sym first))
    ∙ so_far

pub tab_last : (every : ℕ) (written out goal rest : List ℕ) → written ++ at_stops every (tabs rest) ≡ goal → tabs rest ≡ rest ∷ [] → out ≡ written ++ rest → out ≡ goal
unfolding at_stops
tab_last every written out goal rest so_far last is = is ∙ ap (λ texts. written ++ at_stops every texts) (sym last) ∙ so_far

-- ---- no tab is left

abbrev NoTab : ℕ → Type 0
NoTab byte = (byte == 9) ≡ false

stops_lack : (every : ℕ) (texts : List (List ℕ)) → All (Lacks 9) texts → Lacks 9 (at_stops every texts)
unfolding at_stops
stops_lack every [] all = All-nil NoTab
stops_lack every (text ∷ []) all = All-head (Lacks 9) text [] all
stops_lack every (text ∷ next ∷ more) all =
    All-append NoTab (up_to_stop every text) (at_stops every (next ∷ more))
    (All-append NoTab text (replicate (spaces_to_stop every text) 32) (All-head (Lacks 9) text (next ∷ more) all) (All-replicate NoTab (spaces_to_stop every text) 32 refl))
    (stops_lack every (next ∷ more) (All-tail (Lacks 9) text (next ∷ more) all))

joined_lack : (lines : List (List ℕ)) → All (Lacks 9) lines → Lacks 9 (join_with_byte 10 lines)
joined_lack [] all = All-nil NoTab
joined_lack (line ∷ []) all = All-head (Lacks 9) line [] all
joined_lack (line ∷ next ∷ lines) all =
    All-append NoTab line (10 ∷ join_with_byte 10 (next ∷ lines)) (All-head (Lacks 9) line (next ∷ lines) all)
    (All-cons NoTab 10 (join_with_byte 10 (next ∷ lines)) refl (joined_lack (next ∷ lines) (All-tail (Lacks 9) line (next ∷ lines) all)))

pub no_tab : (every : ℕ) (text : List ℕ) → Lacks 9 (tabs_expanded every text)
unfolding tabs_expanded
no_tab every text =
    joined_lack (map (λ line. at_stops every (tabs line)) (pieces text))
    (All-map (Lacks 9) (λ line. at_stops every (tabs line)) (pieces text) (λ k d within. stops_lack every (tabs (get_or (pieces text) k d)) (all_lack 9 (get_or (pieces text) k d))))

-- ---- a text without tabs stays

lines_lack : (lines : List (List ℕ)) → Lacks 9 (join_with_byte 10 lines) → All (Lacks 9) lines
lines_lack [] lack = All-nil (Lacks 9)
lines_lack (line ∷ []) lack = All-cons (Lacks 9) line [] lack (All-nil (Lacks 9))
lines_lack (line ∷ next ∷ lines) lack =
    let rest : List ℕ = join_with_byte 10 (next ∷ lines) in
    All-cons (Lacks 9) line (next ∷ lines) (front_lacks 9 line (10 ∷ rest) lack) (lines_lack (next ∷ lines) (All-tail NoTab 10 rest (back_lacks 9 line (10 ∷ rest) lack)))

one_text : (every : ℕ) (line : List ℕ) → Lacks 9 line → at_stops every (tabs line) ≡ line
unfolding at_stops
one_text every line lack = ap (at_stops every) (slice_split_none (λ byte. byte == 9) line lack)

pub without_tabs : (every : ℕ) (text : List ℕ) → Lacks 9 text → tabs_expanded every text ≡ text
unfolding tabs_expanded
without_tabs every text lack =
    by_lines_same (λ line. at_stops every (tabs line)) text
    (λ k d within. one_text every (get_or (pieces text) k d) (lines_lack (pieces text) (subst (Lacks 9) (sym (join_with_byte-slice_split 10 text)) lack) k d within))

-- ---- what follows a tab begins at a stop

-- each space after a text takes a column more
pub width_and_spaces : (text : List ℕ) (n : ℕ) → IsUtf8 text → width_of_text (text ++ replicate n 32) ≡ width_of_text text + n
width_and_spaces text n u =
    ap (str_width false) (chars-append text (replicate n 32) u ∙ ap (λ cs. chars text ++ cs) (chars-IsAscii (replicate n 32) (printable_ascii (replicate n 32) (spaces_printable n))))
    ∙ str_width-append_simple false (chars text) (replicate n 32) (spaces_simple n)
    ∙ ap (λ k. str_width false (chars text) + k) (str_width-printable false (replicate n 32) (spaces_printable n) ∙ length-replicate n 32)

next_multiple : (width every : ℕ) → 1 ≤ every → (width + (every - width % every)) % every ≡ 0
next_multiple width every some =
    let apart : width % every + width / every * every ≡ width = mod-add-div' width every in
    let next : width + (every - width % every) ≡ (width / every + 1) * every = omega (arith, apart, some) in
    ap (λ n. n % every) next ∙ mul-mod_left (width / every + 1) every

pub up_to_a_stop : (every : ℕ) (text : List ℕ) → 1 ≤ every → IsUtf8 text → width_of_text (up_to_stop every text) % every ≡ 0
up_to_a_stop every text some u = ap (λ n. n % every) (width_and_spaces text (spaces_to_stop every text) u) ∙ next_multiple (width_of_text text) every some
