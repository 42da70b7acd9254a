-- What is written for rows is read as these rows.
use Rattle.std.proofs.lemmas.Grind.{common_steps}
use Rattle.std.proofs.Common.{◌≡◌, ◌≢◌, ◌==◌, ◌⊎◌, ◌&&◌, not, ℕ, Bool, true, false, if◌then◌else◌, List, [], ◌∷◌, ◌++◌, chars, map, take, encode_utf8_all, append_assoc, append-nil, refl, sym, ap, arith, subst, ◌∙◌, eq-eqb, inl, inr}
use Rattle.std.specs.List.{list_all}
use Rattle.std.proofs.lemmas.Bool.{and_parts, eqb-true}
use Rattle.std.proofs.lemmas.Bool.Decides.{nat_tests}
use Rattle.tabled_input.specs.declared.reader.At.{At}
use Rattle.tabled_input.specs.declared.reader.At.TheVariants.{RowStart, CellStart, Bare, Quoted, AfterQuote}
use Rattle.tabled_input.specs.declared.reader.Step.TheVariants as step
use Rattle.tabled_input.specs.Quoted.{bare_step, step_at, left_at, end_at, row_before, cell_before, letter_before, is_quoted, without_returns, csv_rows, has_open_quote}
use Rattle.tabled_input.specs.Reading.{is_row_start}
use Rattle.tabled_input.specs.Written.{are_feeds, doubled, IsBare, IsInQuotes, IsCellWritten, IsRowWritten, AreRowsWritten, IsWritten}
use Rattle.tabled_input.proofs.Steps.{Rows, begun, left_by_row, left_by_cell, left_by_letter, left_by_nothing, end_by_row, end_by_cell, end_by_letter, end_by_nothing}

-- ---- tests

is_not : (b : Bool) → not b ≡ true → b ≡ false
is_not false e = refl
is_not true e = absurd cc

-- ---- what characters do

-- characters that lead from one place to another, and what they put before what is left there
record Reads (separator : ℕ) (from : At) (cs : List ℕ) (to : At) (put : Rows → Rows) : Type 0 where
  rows : (more : List ℕ) → left_at separator from (cs ++ more) ≡ put (left_at separator to more)
  last : (more : List ℕ) → end_at separator from (cs ++ more) ≡ end_at separator to more

-- the letters of a cell
abbrev letters_before : List ℕ → Rows → Rows
letters_before [] rows = rows
letters_before (c ∷ cs) rows = letter_before c (letters_before cs rows)

letters : (cs : List ℕ) (row : List (List ℕ)) (rows : Rows) → letters_before cs (([] ∷ row) ∷ rows) ≡ (encode_utf8_all cs ∷ row) ∷ rows
letters [] row rows = refl
letters (c ∷ cs) row rows = ap (letter_before c) (letters cs row rows)

module _ (separator : ℕ) (no_quote : (separator == 34) ≡ false) (no_feed : (separator == 10) ≡ false) where
  Reads-none : (at : At) → Reads separator at [] at (λ rows. rows)
  Reads-none at = record { rows = λ more. refl; last = λ more. refl }

  Reads-append : (xs ys : List ℕ) (from mid to : At) (f g : Rows → Rows) → Reads separator from xs mid f → Reads separator mid ys to g → Reads separator from (xs ++ ys) to (λ rows. f (g rows))
  Reads-append xs ys from mid to f g first second = record {
    rows = λ more. ap (left_at separator from) (append_assoc xs ys more) ∙ first.rows (ys ++ more) ∙ ap f (second.rows more);
    last = λ more. ap (end_at separator from) (append_assoc xs ys more) ∙ first.last (ys ++ more) ∙ second.last more;
  }

  Reads-same : (xs ys : List ℕ) (from to : At) (f g : Rows → Rows) → xs ≡ ys → ((rows : Rows) → f rows ≡ g rows) → Reads separator from xs to f → Reads separator from ys to g
  Reads-same xs ys from to f g e same reads = record {
    rows = λ more. ap (λ cs. left_at separator from (cs ++ more)) (sym e) ∙ reads.rows more ∙ same (left_at separator to more);
    last = λ more. ap (λ cs. end_at separator from (cs ++ more)) (sym e) ∙ reads.last more;
  }

  by_letter : (at next : At) (c : ℕ) → step_at separator at c ≡ step.Letter next → Reads separator at (c ∷ []) next (letter_before c)
  by_letter at next c e = record {
    rows = λ more. sym (left_by_letter separator at c more next (sym e));
    last = λ more. sym (end_by_letter separator at c more next (sym e));
  }

  by_nothing : (at next : At) (c : ℕ) → step_at separator at c ≡ step.Nothing next → Reads separator at (c ∷ []) next (λ rows. rows)
  by_nothing at next c e = record {
    rows = λ more. sym (left_by_nothing separator at c more next (sym e));
    last = λ more. sym (end_by_nothing separator at c more next (sym e));
  }

  -- ---- outside of quotes

  outside : (at : At) (c : ℕ) → is_quoted at ≡ false → (c == 34) ≡ false → (c == 10) ≡ false → step_at separator at c ≡ bare_step separator c
  unfolding step_at
  outside RowStart c out e f =
      ap (λ b. if b then step.Nothing Quoted else if c == 10 then step.Nothing RowStart else bare_step separator c) e
      ∙ ap (λ b. if b then step.Nothing RowStart else bare_step separator c) f
  outside CellStart c out e f = ap (λ b. if b then step.Nothing Quoted else bare_step separator c) e
  outside Bare c out e f = refl
  outside Quoted c out e f = absurd cc
  outside AfterQuote c out e f = ap (λ b. if b then step.Letter Quoted else bare_step separator c) e

  ends_cell : (at : At) → is_quoted at ≡ false → Reads separator at (separator ∷ []) CellStart cell_before
  ends_cell at out =
      let here : step_at separator at separator ≡ step.Cell =
      outside at separator out no_quote no_feed ∙ ap (λ b. if b then step.Cell else if separator == 10 then step.Row else step.Letter Bare) (eq-eqb separator separator refl) in
      record {
        rows = λ more. sym (left_by_cell separator at separator more (sym here));
        last = λ more. sym (end_by_cell separator at separator more separator refl (sym here));
      }

  -- a line feed ends a row that has begun, and else makes none
  feed_ends : (at : At) (c : ℕ) → c ≡ 10 → is_quoted at ≡ false → is_row_start at ≡ false → step_at separator at c ≡ step.Row
  unfolding step_at
  feed_ends at c is out begun = ap (step_at separator at) is ∙ by at out begun (grind (arith, nat_tests))
    where
      by : (at : At) → is_quoted at ≡ false → is_row_start at ≡ false → (10 == separator) ≡ false → step_at separator at 10 ≡ step.Row
      by RowStart out begun other = absurd cc
      by CellStart out begun other = ap (λ b. if b then step.Cell else step.Row) other
      by Bare out begun other = ap (λ b. if b then step.Cell else step.Row) other
      by Quoted out begun other = absurd cc
      by AfterQuote out begun other = ap (λ b. if b then step.Cell else step.Row) other

  feed_passed : (c : ℕ) → c ≡ 10 → step_at separator RowStart c ≡ step.Nothing RowStart
  unfolding step_at
  feed_passed c is = ap (step_at separator RowStart) is

  blanks : (cs : List ℕ) → are_feeds cs ≡ true → Reads separator RowStart cs RowStart (λ rows. rows)
  blanks [] e = Reads-none RowStart
  blanks (c ∷ cs) e =
      let parts = and_parts (c == 10) (are_feeds cs) e in
      Reads-append (c ∷ []) cs RowStart RowStart RowStart (λ rows. rows) (λ rows. rows) (by_nothing RowStart RowStart c (feed_passed c (eqb-true c 10 parts.0))) (blanks cs parts.1)

  abbrev pub IsLetter : ℕ → Bool
  IsLetter c = not (c == separator) && not (c == 10)

  bare_letter : (c : ℕ) → IsLetter c ≡ true → bare_step separator c ≡ step.Letter Bare
  bare_letter c e = grind (arith, nat_tests, common_steps)

  bare_step_at : (c : ℕ) → step_at separator Bare c ≡ bare_step separator c
  unfolding step_at
  bare_step_at c = refl

  bare_letters : (cs : List ℕ) → list_all IsLetter cs ≡ true → Reads separator Bare cs Bare (letters_before cs)
  bare_letters [] e = Reads-none Bare
  bare_letters (c ∷ cs) e =
      let parts = and_parts (IsLetter c) (list_all IsLetter cs) e in
      Reads-append (c ∷ []) cs Bare Bare Bare (letter_before c) (letters_before cs) (by_letter Bare Bare c (bare_step_at c ∙ bare_letter c parts.0)) (bare_letters cs parts.1)

  -- ---- within quotes

  quote_begins : (start : At) → (start ≡ RowStart) ⊎ (start ≡ CellStart) → step_at separator start 34 ≡ step.Nothing Quoted
  unfolding step_at
  quote_begins RowStart is = refl
  quote_begins CellStart is = refl
  quote_begins Bare is = absurd (elim is [ inl e ↦ cc | inr e ↦ cc ])
  quote_begins Quoted is = absurd (elim is [ inl e ↦ cc | inr e ↦ cc ])
  quote_begins AfterQuote is = absurd (elim is [ inl e ↦ cc | inr e ↦ cc ])

  not_within : (start : At) → (start ≡ RowStart) ⊎ (start ≡ CellStart) → is_quoted start ≡ false
  not_within RowStart is = refl
  not_within CellStart is = refl
  not_within Bare is = refl
  not_within Quoted is = absurd (elim is [ inl e ↦ cc | inr e ↦ cc ])
  not_within AfterQuote is = refl

  quote_within : step_at separator Quoted 34 ≡ step.Nothing AfterQuote
  unfolding step_at
  quote_within = refl

  quote_again : step_at separator AfterQuote 34 ≡ step.Letter Quoted
  unfolding step_at
  quote_again = refl

  letter_within : (c : ℕ) → (c == 34) ≡ false → step_at separator Quoted c ≡ step.Letter Quoted
  unfolding step_at
  letter_within c e = ap (λ b. if b then step.Nothing AfterQuote else step.Letter Quoted) e

  within : (cs : List ℕ) → Reads separator Quoted (doubled cs) Quoted (letters_before cs)
  within [] = Reads-none Quoted
  within (c ∷ cs) = by (c == 34) refl (within cs)
    where
      by : (b : Bool) → (c == 34) ≡ b → Reads separator Quoted (doubled cs) Quoted (letters_before cs) → Reads separator Quoted (if b then 34 ∷ 34 ∷ doubled cs else c ∷ doubled cs) Quoted (letters_before (c ∷ cs))
      by true e rest =
          let twice = Reads-append (34 ∷ []) (34 ∷ []) Quoted AfterQuote Quoted (λ rows. rows) (letter_before 34) (by_nothing Quoted AfterQuote 34 quote_within) (by_letter AfterQuote Quoted 34 quote_again) in
          Reads-same (34 ∷ 34 ∷ doubled cs) (34 ∷ 34 ∷ doubled cs) Quoted Quoted (λ rows. letter_before 34 (letters_before cs rows)) (letters_before (c ∷ cs)) refl
          (λ rows. ap (λ n. letter_before n (letters_before cs rows)) (sym (eqb-true c 34 e)))
          (Reads-append (34 ∷ 34 ∷ []) (doubled cs) Quoted Quoted Quoted (letter_before 34) (letters_before cs) twice rest)
      by false e rest = Reads-append (c ∷ []) (doubled cs) Quoted Quoted Quoted (letter_before c) (letters_before cs) (by_letter Quoted Quoted c (letter_within c e)) rest

  -- ---- a cell

  abbrev IsStart : At → Type 0
  IsStart start = (start ≡ RowStart) ⊎ (start ≡ CellStart)

  -- characters are read as those of a cell; after one character or a separator the row has begun
  abbrev CellRead : At → List ℕ → List ℕ → Type 0
  CellRead start cell text =
      (at : At) × (is_quoted at ≡ false) × ((start ≡ CellStart) ⊎ (text ≢ []) → is_row_start at ≡ false) × Reads separator start text at (letters_before cell)

  letters_append : (xs ys : List ℕ) (rows : Rows) → letters_before xs (letters_before ys rows) ≡ letters_before (xs ++ ys) rows
  letters_append [] ys rows = refl
  letters_append (c ∷ xs) ys rows = ap (letter_before c) (letters_append xs ys rows)

  -- what follows the quote that ends a cell
  tail_read : (tail : List ℕ) → IsBare separator tail → (at : At) × (is_quoted at ≡ false) × (is_row_start at ≡ false) × Reads separator AfterQuote tail at (letters_before tail)
  tail_read [] bare = (AfterQuote, refl, refl, Reads-none AfterQuote)
  tail_read (c ∷ cs) bare =
      let parts = and_parts (IsLetter c) (list_all IsLetter cs) bare.letters in
      let no_end = is_not (c == 10) (and_parts (not (c == separator)) (not (c == 10)) parts.0).1 in (
        Bare,
        refl,
        refl,
        Reads-append (c ∷ []) cs AfterQuote Bare Bare (letter_before c) (letters_before cs)
            (by_letter AfterQuote Bare c (outside AfterQuote c refl bare.start no_end ∙ bare_letter c parts.0)) (bare_letters cs parts.1),
      )

  quoted_read : (start : At) (cell text : List ℕ) → IsStart start → IsInQuotes separator cell text → CellRead start cell text
  quoted_read start cell text is (inner, tail, parts, written, bare) =
      let end = tail_read tail bare in (
        end.0,
        end.1,
        λ begun. end.2,
        Reads-same (34 ∷ (doubled inner ++ 34 ∷ tail)) text start end.0 (λ rows. letters_before inner (letters_before tail rows)) (letters_before cell) (sym written)
            (λ rows. letters_append inner tail rows ∙ ap (λ cs. letters_before cs rows) (sym parts))
            (Reads-append (34 ∷ []) (doubled inner ++ 34 ∷ tail) start Quoted end.0 (λ rows. rows) (λ rows. letters_before inner (letters_before tail rows)) (by_nothing start Quoted 34 (quote_begins start is))
            (Reads-append (doubled inner) (34 ∷ tail) Quoted Quoted end.0 (letters_before inner) (letters_before tail) (within inner)
            (Reads-append (34 ∷ []) tail Quoted AfterQuote end.0 (λ rows. rows) (letters_before tail) (by_nothing Quoted AfterQuote 34 quote_within) end.3))),
      )

  bare_read : (start : At) (cell : List ℕ) → IsStart start → IsBare separator cell → CellRead start cell cell
  bare_read start [] is bare = (start, not_within start is, λ begun. elim begun [ inl e ↦ ap is_row_start e | inr some ↦ absurd (some refl) ], Reads-none start)
  bare_read start (c ∷ cs) is bare =
      let parts = and_parts (IsLetter c) (list_all IsLetter cs) bare.letters in
      let no_end = is_not (c == 10) (and_parts (not (c == separator)) (not (c == 10)) parts.0).1 in (
        Bare,
        refl,
        λ begun. refl,
        Reads-append (c ∷ []) cs start Bare Bare (letter_before c) (letters_before cs)
            (by_letter start Bare c (outside start c (not_within start is) bare.start no_end ∙ bare_letter c parts.0)) (bare_letters cs parts.1),
      )

  cell_read : (start : At) (cell text : List ℕ) → IsStart start → IsCellWritten separator cell text → CellRead start cell text
  cell_read start cell text is (inl bare) = subst (CellRead start cell) (sym bare.1) (bare_read start cell is bare.0)
  cell_read start cell text is (inr quoted) = quoted_read start cell text is quoted

  -- ---- a row

  abbrev RowRead : At → List (List ℕ) → List ℕ → Type 0
  RowRead start row text =
      (at : At) × (is_quoted at ≡ false) × (is_row_start at ≡ false) × (put : Rows → Rows) × Reads separator start text at put × ((rows : Rows) → put (row_before rows) ≡ map encode_utf8_all row ∷ rows)

  row_read : (start : At) (row : List (List ℕ)) (text : List ℕ) → IsStart start → (start ≡ CellStart) ⊎ (text ≢ []) → IsRowWritten separator row text → RowRead start row text
  row_read start [] text is begun written = absurd written
  row_read start (cell ∷ []) text is begun written =
      let one = cell_read start cell text is written in (
        one.0,
        one.1,
        one.2 begun,
        letters_before cell,
        one.3,
        λ rows. letters cell [] rows,
      )
  row_read start (cell ∷ next ∷ more) text is begun written =
      let front = written.0 in
      let rest = written.1 in
      let one = cell_read start cell front is written.3 in
      let others = row_read CellStart (next ∷ more) rest (inr refl) (inl refl) written.4 in
      let put : Rows → Rows = λ rows. letters_before cell (cell_before (others.3 rows)) in (
        others.0,
        others.1,
        others.2,
        put,
        Reads-same (front ++ separator ∷ rest) text start others.0 put put (sym written.2) (λ rows. refl)
            (Reads-append front (separator ∷ rest) start one.0 others.0 (letters_before cell) (λ rows. cell_before (others.3 rows)) one.3
            (Reads-append (separator ∷ []) rest one.0 CellStart others.0 cell_before others.3 (ends_cell one.0 one.1) others.4)),
        λ rows.
            ap (λ left. letters_before cell (cell_before left)) (others.5 rows) ∙ letters cell (map encode_utf8_all (next ∷ more)) rows,
      )

  -- ---- rows

  is_feed : (c : ℕ) (more : List ℕ) → are_feeds (take 1 (c ∷ more)) ≡ true → c ≡ 10
  is_feed c more feeds = eqb-true c 10 (and_parts (c == 10) true feeds).0

  -- what follows a row is read as after its line feed
  rows_after : (at : At) (rest : List ℕ) (rows : Rows) → is_quoted at ≡ false → is_row_start at ≡ false → are_feeds (take 1 rest) ≡ true
      → left_at separator RowStart rest ≡ rows → left_at separator at rest ≡ row_before rows
  unfolding left_at
  rows_after at [] rows out started feeds are = begun at started ∙ ap row_before are
  rows_after at (c ∷ more) rows out started feeds are =
      let feed = is_feed c more feeds in
      sym (left_by_row separator at c more (sym (feed_ends at c feed out started)))
      ∙ ap row_before (left_by_nothing separator RowStart c more RowStart (sym (feed_passed c feed)) ∙ are)

  end_after : (at : At) (rest : List ℕ) → is_quoted at ≡ false → is_row_start at ≡ false → are_feeds (take 1 rest) ≡ true
      → is_quoted (end_at separator RowStart rest) ≡ false → is_quoted (end_at separator at rest) ≡ false
  unfolding end_at
  end_after at [] out started feeds closed = out
  end_after at (c ∷ more) out started feeds closed =
      let feed = is_feed c more feeds in
      ap is_quoted (sym (end_by_row separator at c more separator refl (sym (feed_ends at c feed out started)))
      ∙ end_by_nothing separator RowStart c more RowStart (sym (feed_passed c feed)))
      ∙ closed

  pub rows_read : (rows : Rows) (text : List ℕ) → AreRowsWritten separator rows text → (left_at separator RowStart text ≡ map (map encode_utf8_all) rows) × (is_quoted (end_at separator RowStart text) ≡ false)
  unfolding left_at end_at
  rows_read [] text feeds =
      let all = blanks text feeds in (
        ap (left_at separator RowStart) (sym (append-nil text)) ∙ all.rows [],
        ap (λ cs. is_quoted (end_at separator RowStart cs)) (sym (append-nil text)) ∙ ap is_quoted (all.last []),
      )
  rows_read (row ∷ rows) text (blank, front, rest, split, feeds, some, written, feed, more) =
      let first = row_read RowStart row front (inl refl) (inr some) written in
      let all = Reads-append blank front RowStart RowStart first.0 (λ rows. rows) first.3 (blanks blank feeds) first.4 in
      let others = rows_read rows rest more in
      let same : text ≡ (blank ++ front) ++ rest = split ∙ sym (append_assoc blank front rest) in (
        ap (left_at separator RowStart) same ∙ all.rows rest ∙ ap first.3 (rows_after first.0 rest (map (map encode_utf8_all) rows) first.1 first.2 feed others.0) ∙ first.5 (map (map encode_utf8_all) rows),
        ap (λ cs. is_quoted (end_at separator RowStart cs)) same ∙ ap is_quoted (all.last rest) ∙ end_after first.0 rest first.1 first.2 feed others.1,
      )

pub read_back : (separator : ℕ) (rows : Rows) (text : List ℕ) → IsWritten separator rows text → (csv_rows separator text ≡ rows) × (has_open_quote separator text ≡ false)
unfolding csv_rows has_open_quote
read_back separator rows text is =
    let read = rows_read separator is.no_quote is.no_feed is.characters (without_returns (chars text)) is.written in
    (read.0 ∙ sym is.are, read.1)
