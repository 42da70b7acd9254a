-- The bytes of a text, written part by part.
use Rattle.std.proofs.Common.{◌≡◌, ℕ, ◌+◌, ◌-◌, ◌<◌, ◌≤◌, Bool, true, false, List, [], ◌∷◌, ◌++◌, length, take, map, refl, sym, ap, subst, ◌∙◌, arith, lit<, if◌then◌else◌, get_or, encode_utf8, encode_utf8_all, Result, Ok, Err, MatchResult, is_err, rules, String, string_len, Vec, string_bytes}
use Rattle.std.specs.List.{flat_map, join_with_byte}
use Rattle.std.proofs.lemmas.List.{append-nil, append_assoc, take_at, take_all, length-append, take-take, get_or-map, get_or_at}
use Rattle.std.proofs.lemmas.List.Concat.{flat_map-append}
use Rattle.std.proofs.lemmas.List.FromFn.{map-range_with_len_more}
use Rattle.std.proofs.lemmas.Str.{encode_ascii, IsCharBoundary-from_take, IsUtf8-string_bytes}
use Rattle.std.specs.Str.{IsUtf8}
use Rattle.std.specs.String.Boundary.{IsSplitPoint}
use Rattle.tabled_width.specs.Texts.{texts}
use Rattle.tabled_width.proofs.TimesLemmas.{string_len-is}
use Rattle.tabled_object.specs.Entities.{below}
pub use Rattle.tabled_configuration.proofs.Below.{below_push, flat_map_below}

-- one character as bytes
pub shown_one : (c : ℕ) → encode_utf8_all (c ∷ []) ≡ encode_utf8 c
shown_one c = append-nil (encode_utf8 c)

-- a line feed is one byte
pub line_fed : (middle end : List ℕ) → end ≡ middle ++ encode_utf8 10 → end ≡ middle ++ 10 ∷ []
line_fed middle end e = e ∙ ap (λ bs. middle ++ bs) (encode_ascii 10 (lit< tt))

-- a line with the line feed that ends it
abbrev pub ended : List ℕ → List ℕ
ended line = line ++ 10 ∷ []

-- one more side and piece of a line of text
pub piece_more : (f : ℕ → List ℕ) (n : ℕ) (side piece : List ℕ) → f n ≡ side ++ piece → flat_map f (below (n + 1)) ≡ flat_map f (below n) ++ (side ++ piece)
piece_more f n side piece e = flat_map_below f n ∙ ap (λ bs. flat_map f (below n) ++ bs) e

-- one more line of a row
pub ended_more : (line : ℕ → List ℕ) (n : ℕ) → flat_map ended (map line (below (n + 1))) ≡ flat_map ended (map line (below n)) ++ (line n ++ 10 ∷ [])
ended_more line n = rw (map-range_with_len_more line 0 n n (omega arith), flat_map-append ended (map line (below n)) (line n ∷ []), append-nil (ended (line n)))

-- the lines of one more row
pub rows_more : (line lines : ℕ → List (List ℕ)) (n : ℕ) → flat_map ended (flat_map (λ r. line r ++ lines r) (below (n + 1))) ≡ flat_map ended (flat_map (λ r. line r ++ lines r) (below n)) ++ (flat_map ended (line n) ++ flat_map ended (lines n))
rows_more line lines n =
    rw (flat_map_below (λ r. line r ++ lines r) n, flat_map-append ended (flat_map (λ r. line r ++ lines r) (below n)) (line n ++ lines n), flat_map-append ended (line n) (lines n))

-- the last line
pub rows_closed : (e : Bool) (step : ℕ → List (List ℕ)) (close : List (List ℕ)) (n count : ℕ) → e ≡ false → n ≡ count → flat_map ended (if e then [] else flat_map step (below count) ++ close) ≡ flat_map ended (flat_map step (below n)) ++ flat_map ended close
rows_closed e step close n count is same =
    ap (λ b. flat_map ended (if b then [] else flat_map step (below count) ++ close)) is
    ∙ flat_map-append ended (flat_map step (below count)) close
    ∙ ap (λ m. flat_map ended (flat_map step (below m)) ++ flat_map ended close) (sym same)

-- the texts of the row at a place
pub texts_at : {Z W : Type 0} (cells : List (Vec (String Z) W)) (r : ℕ) (row : Vec (String Z) W) (items : List (String Z)) → r < length cells → row ≡ get_or cells r row → items ≡ row.items → get_or (texts cells) r [] ≡ map string_bytes items
texts_at cells r row items within read same =
    get_or-map (λ v. map string_bytes v.items) cells r row [] within ∙ ap (λ v. map string_bytes v.items) (sym read) ∙ ap (map string_bytes) (sym same)

-- what was there at first is there where a later call kept what it found
pub kept_after : (start more middle end : List ℕ) → middle ≡ start ++ more → take (length middle) end ≡ middle → take (length start) end ≡ start
kept_after start more middle end e h =
    let longer : length start ≤ length middle = omega (arith, length-append start more, ap length e) in
    sym (take-take (length start) (length middle) end longer) ∙ ap (take (length start)) (h ∙ e) ∙ take_at start more (length start) refl

pub kept_all : (start end : List ℕ) → end ≡ start → take (length start) end ≡ start
kept_all start end e = ap (take (length start)) e ∙ take_all (length start) start (omega arith)

-- parts that were written in turn are one part
pub written_both : (start first second third x y z w : List ℕ) → first ≡ start ++ x → second ≡ first ++ y → third ≡ second ++ z → w ≡ x ++ (y ++ z) → third ≡ start ++ w
written_both start first second third x y z w p q r e = rw (r, q, p, e) (simp append_assoc)

pub appends_last : {T E : Type 0} (r : Result T E) (old middle new x y w : List ℕ) → middle ≡ old ++ x → w ≡ x ++ y
    → MatchResult r (λ _. new ≡ middle ++ y) (λ _. take (length middle) new ≡ middle) → MatchResult r (λ _. new ≡ old ++ w) (λ _. take (length old) new ≡ old)
appends_last (Ok t) old middle new x y w p e h = rw (h, p, e) (append_assoc old x y)
appends_last (Err t) old middle new x y w p e h = kept_after old x middle new p h

-- lines that each end in a line feed are the joined lines and one line feed
ended_joined : (line : List ℕ) (lines : List (List ℕ)) → flat_map ended (line ∷ lines) ≡ join_with_byte 10 (line ∷ lines) ++ 10 ∷ []
ended_joined line [] = append-nil (ended line)
ended_joined line (next ∷ more) = rw (ended_joined next more) (simp append_assoc)

-- a text that such lines lengthened ends in a line feed, and without it the lines are joined
pub ends_joined : (start end : List ℕ) (lines : List (List ℕ)) → end ≡ start ++ flat_map ended lines → length start < length end → end ≡ (start ++ join_with_byte 10 lines) ++ 10 ∷ []
ends_joined start end [] e h = absurd (let l : length end ≡ length start = ap length (e ∙ append-nil start) in omega arith)
ends_joined start end (line ∷ lines) e h = e ∙ ap (λ bs. start ++ bs) (ended_joined line lines) ∙ sym (append_assoc start (join_with_byte 10 (line ∷ lines)) (10 ∷ []))

-- no line was written
pub none_joined : (start end : List ℕ) (lines : List (List ℕ)) → end ≡ start ++ flat_map ended lines → length end ≤ length start → end ≡ start ++ join_with_byte 10 lines
none_joined start end [] e h = e
none_joined start end (line ∷ lines) e h =
    absurd (let l = ap length e in omega (arith, l, length-append start (flat_map ended (line ∷ lines)), length-append (ended line) (flat_map ended lines), length-append line (10 ∷ [])))

-- a text may be cut where a text once ended that it keeps
pub cut_at_start : {Z : Type 0} (old new : String Z) (n : ℕ) → n ≡ length (string_bytes old) → take (length (string_bytes old)) (string_bytes new) ≡ string_bytes old → n ≤ length (string_bytes new) → IsSplitPoint (string_bytes new) n
cut_at_start old new n same kept within =
    let boundary = IsCharBoundary-from_take (string_bytes new) n (IsUtf8-string_bytes new) within
    (subst IsUtf8 (sym (ap (λ k. take k (string_bytes new)) same ∙ kept)) (IsUtf8-string_bytes old)) in
    (boundary.0, λ _ inside large. boundary.1 inside large)

-- what a call has done, by what it returns
pub by_result : {T E : Type 0} (r : Result T E) (old new bytes : List ℕ) → MatchResult r (λ _. new ≡ old ++ bytes) (λ _. take (length old) new ≡ old) → (is_err r ≡ false → new ≡ old ++ bytes) × (is_err r ≡ true → take (length old) new ≡ old)
by_result (Ok x) old new bytes done = (λ e. done, λ e. absurd cc)
by_result (Err y) old new bytes done = (λ e. absurd cc, λ e. done)

-- lines after a beginning lose the last line feed, if there are some
pub feed_off : {Z : Type 0} (old new : String Z) (before : List ℕ) (lines : List (List ℕ)) (start length_now : ℕ) → length_now ≡ string_len old → length before ≡ start → string_bytes old ≡ before ++ flat_map ended lines → start < length_now
    → (0 < string_len old → get_or (string_bytes old) (string_len old - 1) 0 < 128 → string_bytes new ≡ take (string_len old - 1) (string_bytes old)) → string_bytes new ≡ before ++ join_with_byte 10 lines
feed_off old new before lines start length_now measured began are more popped =
    let counted = string_len-is old in
    let whole = ends_joined before (string_bytes old) lines are (omega (arith, counted, measured, began, more)) in
    let kept : List ℕ = before ++ join_with_byte 10 lines in
    let long : length kept ≡ string_len old - 1 = omega (arith, ap length whole, length-append kept (10 ∷ []), counted) in
    let feed : get_or (string_bytes old) (string_len old - 1) 0 ≡ 10 = ap (λ bs. get_or bs (string_len old - 1) 0) whole ∙ get_or_at kept 10 [] 0 (string_len old - 1) long in
    popped (omega (arith, measured, more)) (omega (arith, feed)) ∙ ap (take (string_len old - 1)) whole ∙ take_at kept (10 ∷ []) (string_len old - 1) long

pub no_feed : {Z : Type 0} (text : String Z) (before : List ℕ) (lines : List (List ℕ)) (start length_now : ℕ) → length_now ≡ string_len text → length before ≡ start → string_bytes text ≡ before ++ flat_map ended lines → length_now ≤ start
    → string_bytes text ≡ before ++ join_with_byte 10 lines
no_feed text before lines start length_now measured began are none = none_joined before (string_bytes text) lines are (let counted = string_len-is text in omega (arith, counted, measured, began, none))

-- what writes a text in parts
pub ruleset writing = (append_assoc, append-nil, kept_after, kept_all, shown_one, encode_ascii)
