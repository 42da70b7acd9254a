-- A text that is shortened, line by line.
use Rattle.std.proofs.Common.{◌≡◌, ◌==◌, ℕ, ◌-◌, ◌<◌, ◌≤◌, zero, suc, nat_le, Bool, true, false, if◌then◌else◌, List, [], ◌∷◌, ◌++◌, length, take, encode_utf8, refl, sym, ap, ◌∙◌, arith, lit<, append_assoc}
use Rattle.std.specs.List.{All, join_with_byte}
use Rattle.std.proofs.lemmas.List.Elements.{All-head, All-tail, All-append, All-same, All-take}
use Rattle.std.proofs.lemmas.List.Splits.{slice_split_none, slice_split_at, join_with_byte-slice_split}
use Rattle.std.proofs.lemmas.Str.{encode_ascii}
use Rattle.std.proofs.lemmas.Bool.{leb-true, leb-false, le-leb, lt-leb}
use Rattle.tabled_width.specs.Texts.{pieces}
use Rattle.tabled_width.specs.CutOff.{shortened}
use Rattle.tabled_width.proofs.Pieces.{some_pieces}
use Rattle.tabled_width.proofs.PieceFacts.{Lacks, all_lack}

pub whole_stays : (count : ℕ) (suffix text : List ℕ) → length (pieces text) ≤ suc count → shortened (suc count) suffix text ≡ text
unfolding shortened
whole_stays count suffix text few =
    ap (λ b. if b then text else join_with_byte 10 (take (suc count) (pieces text)) ++ suffix) (le-leb (length (pieces text)) (suc count) few)

pub rest_goes : (count : ℕ) (suffix text : List ℕ) → suc count < length (pieces text) → shortened (suc count) suffix text ≡ join_with_byte 10 (take (suc count) (pieces text)) ++ suffix
unfolding shortened
rest_goes count suffix text many =
    ap (λ b. if b then text else join_with_byte 10 (take (suc count) (pieces text)) ++ suffix) (lt-leb (length (pieces text)) (suc count) many)

pub none_stays : (count : ℕ) (suffix text : List ℕ) → count ≡ 0 → shortened count suffix text ≡ []
unfolding shortened
none_stays zero suffix text none = refl
none_stays (suc count) suffix text none = absurd (omega (arith, none))

-- a text is its first line and the others
pub rest_after : (rest line more : List ℕ) → pieces rest ≡ line ∷ pieces more → rest ≡ line ++ 10 ∷ more
rest_after rest line more first =
    let next = some_pieces more in
    sym (join_with_byte-slice_split 10 rest) ∙ ap (join_with_byte 10) first ∙ ap (λ ps. join_with_byte 10 (line ∷ ps)) next.2
    ∙ ap (λ ps. line ++ 10 ∷ join_with_byte 10 ps) (sym next.2) ∙ ap (λ bs. line ++ 10 ∷ bs) (join_with_byte-slice_split 10 more)

pub first_of_more : (suffix rest line more : List ℕ) → pieces rest ≡ line ∷ pieces more → shortened 1 suffix rest ≡ line ++ suffix
first_of_more suffix rest line more first =
    let next = some_pieces more in
    let many : 1 < length (pieces rest) = omega (arith, ap length first, ap length next.2) in
    rest_goes 0 suffix rest many ∙ ap (λ ps. join_with_byte 10 (take 1 ps) ++ suffix) first

one_more : (count : ℕ) (suffix rest line more : List ℕ) → pieces rest ≡ line ∷ pieces more → (b : Bool) → nat_le (length (pieces more)) (suc count) ≡ b
    → shortened (suc (suc count)) suffix rest ≡ line ++ 10 ∷ shortened (suc count) suffix more
one_more count suffix rest line more first true e =
    let few = leb-true (length (pieces more)) (suc count) e in
    whole_stays (suc count) suffix rest (omega (arith, ap length first, few))
    ∙ rest_after rest line more first
    ∙ ap (λ bs. line ++ 10 ∷ bs) (sym (whole_stays count suffix more few))
one_more count suffix rest line more first false e =
    let many = leb-false (length (pieces more)) (suc count) e in
    let next = some_pieces more in
    rest_goes (suc count) suffix rest (omega (arith, ap length first, many))
    ∙ ap (λ ps. join_with_byte 10 (take (suc (suc count)) ps) ++ suffix) first
    ∙ ap (λ ps. join_with_byte 10 (line ∷ take (suc count) ps) ++ suffix) next.2
    ∙ append_assoc line (10 ∷ join_with_byte 10 (take (suc count) (next.0 ∷ next.1))) suffix
    ∙ ap (λ ps. line ++ 10 ∷ (join_with_byte 10 (take (suc count) ps) ++ suffix)) (sym next.2)
    ∙ ap (λ bs. line ++ 10 ∷ bs) (sym (rest_goes count suffix more many))

pub line_more : (left : ℕ) (suffix rest line more written fed ended goal : List ℕ) → 1 < left → pieces rest ≡ line ∷ pieces more
    → fed ≡ written ++ line → ended ≡ fed ++ encode_utf8 10 → written ++ shortened left suffix rest ≡ goal → ended ++ shortened (left - 1) suffix more ≡ goal
line_more zero suffix rest line more written fed ended goal some first is end so_far = absurd (omega arith)
line_more (suc zero) suffix rest line more written fed ended goal some first is end so_far = absurd (omega arith)
line_more (suc (suc count)) suffix rest line more written fed ended goal some first is end so_far =
    let less : suc (suc count) - 1 ≡ suc count = omega arith in
    ap (λ n. ended ++ shortened n suffix more) less
    ∙ ap (λ bs. bs ++ shortened (suc count) suffix more) (end ∙ ap (λ bs. fed ++ bs) (encode_ascii 10 (lit< tt)) ∙ ap (λ bs. bs ++ 10 ∷ []) is)
    ∙ append_assoc (written ++ line) (10 ∷ []) (shortened (suc count) suffix more)
    ∙ append_assoc written line (10 ∷ shortened (suc count) suffix more)
    ∙ ap (λ bs. written ++ bs) (sym (one_more count suffix rest line more first (nat_le (length (pieces more)) (suc count)) refl))
    ∙ so_far

pub line_cut : (left : ℕ) (suffix rest line more written fed out goal : List ℕ) → left ≡ 1 → pieces rest ≡ line ∷ pieces more
    → fed ≡ written ++ line → out ≡ fed ++ suffix → written ++ shortened left suffix rest ≡ goal → out ≡ goal
line_cut left suffix rest line more written fed out goal one first is end so_far =
    end ∙ ap (λ bs. bs ++ suffix) is ∙ append_assoc written line suffix
    ∙ ap (λ bs. written ++ bs) (sym (first_of_more suffix rest line more first))
    ∙ ap (λ n. written ++ shortened n suffix rest) (sym one) ∙ so_far

pub line_last : (left : ℕ) (suffix rest written out goal : List ℕ) → 1 ≤ left → pieces rest ≡ rest ∷ [] → out ≡ written ++ rest
    → written ++ shortened left suffix rest ≡ goal → out ≡ goal
line_last zero suffix rest written out goal some last is so_far = absurd (omega arith)
line_last (suc count) suffix rest written out goal some last is so_far =
    is ∙ ap (λ bs. written ++ bs) (sym (whole_stays count suffix rest (omega (arith, ap length last)))) ∙ so_far

-- ---- a text that is shortened has no more lines than that

-- lines without line feeds, joined, and then a text without line feeds
joined_then : (suffix line : List ℕ) (lines : List (List ℕ)) → All (Lacks 10) (line ∷ lines) → Lacks 10 suffix → length (pieces (join_with_byte 10 (line ∷ lines) ++ suffix)) ≡ length (line ∷ lines)
joined_then suffix line [] lack ends =
    ap length (slice_split_none (λ b. b == 10) (line ++ suffix) (All-append (λ b. (b == 10) ≡ false) line suffix (All-head (Lacks 10) line [] lack) ends))
joined_then suffix line (next ∷ lines) lack ends =
    ap (λ bs. length (pieces bs)) (append_assoc line (10 ∷ join_with_byte 10 (next ∷ lines)) suffix)
    ∙ ap length (slice_split_at (λ b. b == 10) line 10 (join_with_byte 10 (next ∷ lines) ++ suffix) (All-head (Lacks 10) line (next ∷ lines) lack) refl)
    ∙ ap suc (joined_then suffix next lines (All-tail (Lacks 10) line (next ∷ lines) lack) ends)

take_length : (n : ℕ) (ls : List (List ℕ)) → n ≤ length ls → length (take n ls) ≡ n
take_length zero ls within = refl
take_length (suc n) [] within = absurd (omega (arith, within))
take_length (suc n) (l ∷ ls) within = ap suc (take_length n ls (omega (arith, within)))

first_lines : (count : ℕ) (suffix : List ℕ) (ls : List (List ℕ)) → suc count < length ls → All (Lacks 10) ls → Lacks 10 suffix → length (pieces (join_with_byte 10 (take (suc count) ls) ++ suffix)) ≡ suc count
first_lines count suffix [] many lack ends = absurd (omega (arith, many))
first_lines count suffix (l ∷ ls) many lack ends =
    joined_then suffix l (take count ls) (All-take (Lacks 10) (suc count) (l ∷ ls) lack) ends ∙ ap suc (take_length count ls (omega (arith, many)))

pub shortened_fits : (count : ℕ) (suffix text : List ℕ) → pieces suffix ≡ suffix ∷ [] → 1 ≤ count → length (pieces (shortened count suffix text)) ≤ count
shortened_fits zero suffix text one some = absurd (omega (arith, some))
shortened_fits (suc count) suffix text one some = by (nat_le (length (pieces text)) (suc count)) refl
  where
    by : (b : Bool) → nat_le (length (pieces text)) (suc count) ≡ b → length (pieces (shortened (suc count) suffix text)) ≤ suc count
    by true e =
        let few = leb-true (length (pieces text)) (suc count) e in
        omega (arith, few, ap (λ bs. length (pieces bs)) (whole_stays count suffix text few))
    by false e =
        let many = leb-false (length (pieces text)) (suc count) e in
        let ends = All-head (Lacks 10) suffix [] (All-same (Lacks 10) (suffix ∷ []) (pieces suffix) (sym one) (all_lack 10 suffix)) in
        omega (arith, ap (λ bs. length (pieces bs)) (rest_goes count suffix text many), first_lines count suffix (pieces text) many (all_lack 10 text) ends)

pub low_stays : (count : ℕ) (suffix text : List ℕ) → length (pieces text) ≤ count → shortened count suffix text ≡ text
low_stays zero suffix text few = let first = some_pieces text in absurd (omega (arith, few, ap length first.2))
low_stays (suc count) suffix text few = whole_stays count suffix text few
