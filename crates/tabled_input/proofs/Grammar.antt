-- What is read was written for the rows that are read.
use Rattle.std.proofs.Common.{◌≡◌, ◌≢◌, ◌==◌, ◌⊎◌, ◌&&◌, not, ℕ, Bool, true, false, if◌then◌else◌, List, [], ◌∷◌, ◌++◌, map, take, encode_utf8_all, append_assoc, append-nil, refl, sym, ap, subst, ◌∙◌, inl, inr}
use Rattle.std.specs.List.{list_all}
use Rattle.std.proofs.lemmas.Bool.{and_from, and_parts, eqb-true}
use Rattle.tabled_input.specs.declared.reader.At.{At}
use Rattle.tabled_input.specs.declared.reader.At.TheVariants.{RowStart, CellStart, Bare, Quoted, AfterQuote}
use Rattle.tabled_input.specs.declared.reader.Step.TheVariants as step
use Rattle.tabled_input.specs.Quoted.{bare_step, step_at, left_at, end_at, row_before, cell_before, letter_before, is_quoted}
use Rattle.tabled_input.specs.Reading.{is_row_start}
use Rattle.tabled_input.specs.Written.{are_feeds, doubled, IsBare, IsInQuotes, IsCellWritten, IsRowWritten, AreRowsWritten}
use Rattle.tabled_input.proofs.Steps.{Rows, begun, left_by_row, left_by_cell, left_by_letter, left_by_nothing, end_by_row, end_by_cell, end_by_letter, end_by_nothing}

-- rows of characters as they are read
abbrev encoded : Rows → Rows
encoded rows = map (map encode_utf8_all) rows

module _ (separator : ℕ) where
  abbrev IsLetter : ℕ → Bool
  IsLetter c = not (c == separator) && not (c == 10)

  -- ---- what is read of a cell from a place on

  -- within quotes
  abbrev Closes : List ℕ → List ℕ → Type 0
  Closes cell piece = (inner : List ℕ) × (tail : List ℕ) × (cell ≡ inner ++ tail) × (piece ≡ doubled inner ++ 34 ∷ tail) × IsBare separator tail

  abbrev Piece : At → List ℕ → List ℕ → Type 0
  Piece RowStart cell piece = IsCellWritten separator cell piece
  Piece CellStart cell piece = IsCellWritten separator cell piece
  Piece Bare cell piece = (list_all IsLetter cell ≡ true) × (piece ≡ cell)
  Piece Quoted cell piece = Closes cell piece
  Piece AfterQuote cell piece =
      (IsBare separator cell × (piece ≡ cell)) ⊎ ((rest : List ℕ) × (more : List ℕ) × (cell ≡ 34 ∷ rest) × (piece ≡ 34 ∷ more) × Closes rest more)

  abbrev After : List (List ℕ) → List ℕ → Type 0
  After more after = ((more ≡ []) × (after ≡ [])) ⊎ ((rest : List ℕ) × (after ≡ separator ∷ rest) × IsRowWritten separator more rest)

  -- the rest of a cell, the cells after it in its row, and the rows after that
  record Rest (at : At) (cs : List ℕ) : Type 0 where
    cell : List ℕ
    more : List (List ℕ)
    rows : Rows
    piece : List ℕ
    after : List ℕ
    rest : List ℕ
    left : left_at separator at cs ≡ encoded ((cell ∷ more) ∷ rows)
    split : cs ≡ piece ++ (after ++ rest)
    here : Piece at cell piece
    next : After more after
    feed : are_feeds (take 1 rest) ≡ true
    others : AreRowsWritten separator rows rest

  record Text (cs : List ℕ) : Type 0 where
    rows : Rows
    left : left_at separator RowStart cs ≡ encoded rows
    written : AreRowsWritten separator rows cs

  none_bare : IsBare separator []
  none_bare = record { letters = refl; start = refl }

  nothing_here : (at : At) → is_quoted at ≡ false → Piece at [] []
  nothing_here RowStart out = inl (none_bare, refl)
  nothing_here CellStart out = inl (none_bare, refl)
  nothing_here Bare out = (refl, refl)
  nothing_here Quoted out = absurd cc
  nothing_here AfterQuote out = inl (none_bare, refl)

  at_end : (at : At) → is_row_start at ≡ false → is_quoted at ≡ false → Rest at []
  unfolding left_at
  at_end at started out = record {
    cell = [];
    more = [];
    rows = [];
    piece = [];
    after = [];
    rest = [];
    left = begun at started;
    split = refl;
    here = nothing_here at out;
    next = inl (refl, refl);
    feed = refl;
    others = refl;
  }

  feed_before : (rows : Rows) (cs : List ℕ) → AreRowsWritten separator rows cs → AreRowsWritten separator rows (10 ∷ cs)
  feed_before [] cs written = written
  feed_before (row ∷ rows) cs (blank, front, rest, split, feeds, some, written, feed, others) = (10 ∷ blank, front, rest, ap (λ l. 10 ∷ l) split, feeds, some, written, feed, others)

  joined : (cell : List ℕ) (more : List (List ℕ)) (piece after : List ℕ) → IsCellWritten separator cell piece → After more after → IsRowWritten separator (cell ∷ more) (piece ++ after)
  joined cell [] piece after here (inl none) = subst (IsCellWritten separator cell) (sym (ap (λ l. piece ++ l) none.1 ∙ append-nil piece)) here
  joined cell [] piece after here (inr (rest, is, written)) = absurd written
  joined cell (next ∷ more) piece after here (inl none) = absurd cc
  joined cell (next ∷ more) piece after here (inr (rest, is, written)) = (piece, rest, ap (λ l. piece ++ l) is, here, written)

  -- ---- a step

  module _ (at : At) (c : ℕ) (more : List ℕ) where
    by_row : step_at separator at c ≡ step.Row → c ≡ 10 → is_quoted at ≡ false → Text more → Rest at (c ∷ more)
    by_row e is out text = record {
      cell = [];
      more = [];
      rows = text.rows;
      piece = [];
      after = [];
      rest = c ∷ more;
      left = sym (left_by_row separator at c more (sym e)) ∙ ap row_before text.left;
      split = refl;
      here = nothing_here at out;
      next = inl (refl, refl);
      feed = ap (λ n. (n == 10) && true) is;
      others = subst (λ n. AreRowsWritten separator text.rows (n ∷ more)) (sym is) (feed_before text.rows more text.written);
    }

    by_cell : step_at separator at c ≡ step.Cell → c ≡ separator → is_quoted at ≡ false → Rest CellStart more → Rest at (c ∷ more)
    by_cell e is out r = record {
      cell = [];
      more = r.cell ∷ r.more;
      rows = r.rows;
      piece = [];
      after = separator ∷ (r.piece ++ r.after);
      rest = r.rest;
      left = sym (left_by_cell separator at c more (sym e)) ∙ ap cell_before r.left;
      split = (λ i. is i ∷ (r.split ∙ sym (append_assoc r.piece r.after r.rest)) i);
      here = nothing_here at out;
      next = inr (r.piece ++ r.after, refl, joined r.cell r.more r.piece r.after r.here r.next);
      feed = r.feed;
      others = r.others;
    }

    by_letter : (next : At) → step_at separator at c ≡ step.Letter next → (r : Rest next more) → Piece at (c ∷ r.cell) (c ∷ r.piece) → Rest at (c ∷ more)
    by_letter next e r here = record {
      cell = c ∷ r.cell;
      more = r.more;
      rows = r.rows;
      piece = c ∷ r.piece;
      after = r.after;
      rest = r.rest;
      left = sym (left_by_letter separator at c more next (sym e)) ∙ ap (letter_before c) r.left;
      split = ap (λ l. c ∷ l) r.split;
      here = here;
      next = r.next;
      feed = r.feed;
      others = r.others;
    }

    by_nothing : (next : At) → step_at separator at c ≡ step.Nothing next → (r : Rest next more) → Piece at r.cell (c ∷ r.piece) → Rest at (c ∷ more)
    by_nothing next e r here = record {
      cell = r.cell;
      more = r.more;
      rows = r.rows;
      piece = c ∷ r.piece;
      after = r.after;
      rest = r.rest;
      left = sym (left_by_nothing separator at c more next (sym e)) ∙ r.left;
      split = ap (λ l. c ∷ l) r.split;
      here = here;
      next = r.next;
      feed = r.feed;
      others = r.others;
    }

  -- ---- all places

  abbrev Closed : At → List ℕ → Type 0
  Closed at cs = is_quoted (end_at separator at cs) ≡ false

  module _ (c : ℕ) (more : List ℕ) (rests : (at : At) → is_row_start at ≡ false → Closed at more → Rest at more) (text : Closed RowStart more → Text more) where
    -- outside of quotes, where a letter may stand
    bare : (at : At) → is_quoted at ≡ false → step_at separator at c ≡ bare_step separator c
        → ((cell piece : List ℕ) → list_all IsLetter (c ∷ cell) ≡ true → piece ≡ cell → Piece at (c ∷ cell) (c ∷ piece))
        → Closed at (c ∷ more) → Rest at (c ∷ more)
    bare at out is letter closed = by (c == separator) (c == 10) refl refl
      where
        by : (ends_cell ends_row : Bool) → (c == separator) ≡ ends_cell → (c == 10) ≡ ends_row → Rest at (c ∷ more)
        by true ends_row e f =
            let here : step_at separator at c ≡ step.Cell = is ∙ ap (λ b. if b then step.Cell else if c == 10 then step.Row else step.Letter Bare) e in
            by_cell at c more here (eqb-true c separator e) out (rests CellStart refl (ap is_quoted (end_by_cell separator at c more separator refl (sym here)) ∙ closed))
        by false true e f =
            let here : step_at separator at c ≡ step.Row =
            is ∙ ap (λ b. if b then step.Cell else if c == 10 then step.Row else step.Letter Bare) e ∙ ap (λ b. if b then step.Row else step.Letter Bare) f in
            by_row at c more here (eqb-true c 10 f) out (text (ap is_quoted (end_by_row separator at c more separator refl (sym here)) ∙ closed))
        by false false e f =
            let here : step_at separator at c ≡ step.Letter Bare =
            is ∙ ap (λ b. if b then step.Cell else if c == 10 then step.Row else step.Letter Bare) e ∙ ap (λ b. if b then step.Row else step.Letter Bare) f in
            let r = rests Bare refl (ap is_quoted (end_by_letter separator at c more Bare (sym here)) ∙ closed) in
            by_letter at c more Bare here r
            (letter r.cell r.piece (and_from (IsLetter c) (list_all IsLetter r.cell) (ap (λ b. not b && not (c == 10)) e ∙ ap (λ b. not b) f) r.here.0) r.here.1)

    -- a quote at the start of a cell
    quote : (at : At) → step_at separator at c ≡ step.Nothing Quoted → (c == 34) ≡ true → ((cell piece : List ℕ) → IsInQuotes separator cell piece → Piece at cell piece)
        → Closed at (c ∷ more) → Rest at (c ∷ more)
    quote at here e cell closed =
        let r = rests Quoted refl (ap is_quoted (end_by_nothing separator at c more Quoted (sym here)) ∙ closed) in
        let (inner, tail, parts, written, bare) = r.here in
        by_nothing at c more Quoted here r (cell r.cell (c ∷ r.piece) (inner, tail, parts, (λ i. eqb-true c 34 e i ∷ written i), bare))

    cell_rest : Closed CellStart (c ∷ more) → Rest CellStart (c ∷ more)
    unfolding step_at
    cell_rest closed = by (c == 34) refl
      where
        by : (b : Bool) → (c == 34) ≡ b → Rest CellStart (c ∷ more)
        by true e = quote CellStart (ap (λ b. if b then step.Nothing Quoted else bare_step separator c) e) e (λ cell piece is. inr is) closed
        by false e =
            bare CellStart refl (ap (λ b. if b then step.Nothing Quoted else bare_step separator c) e)
            (λ cell piece letters same. inl (record { letters = letters; start = e }, ap (λ l. c ∷ l) same)) closed

    bare_rest : Closed Bare (c ∷ more) → Rest Bare (c ∷ more)
    unfolding step_at
    bare_rest closed = bare Bare refl refl (λ cell piece letters same. (letters, ap (λ l. c ∷ l) same)) closed

    quoted_rest : Closed Quoted (c ∷ more) → Rest Quoted (c ∷ more)
    unfolding step_at
    quoted_rest closed = by (c == 34) refl
      where
        closes : (cell piece : List ℕ) → c ≡ 34 → Piece AfterQuote cell piece → Closes cell (c ∷ piece)
        closes cell piece is (inl ended) = ([], cell, refl, (λ i. is i ∷ ended.1 i), ended.0)
        closes cell piece is (inr (rest, after, first, second, (inner, tail, parts, written, bare))) =
            (34 ∷ inner, tail, first ∙ ap (λ l. 34 ∷ l) parts, (λ i. is i ∷ (second ∙ ap (λ l. 34 ∷ l) written) i), bare)

        goes_on : (cell piece : List ℕ) → (c == 34) ≡ false → Closes cell piece → Closes (c ∷ cell) (c ∷ piece)
        goes_on cell piece e (inner, tail, parts, written, bare) = (
          c ∷ inner,
          tail,
          ap (λ l. c ∷ l) parts,
          ap (λ l. c ∷ l) written ∙ ap (λ b. (if b then 34 ∷ 34 ∷ doubled inner else c ∷ doubled inner) ++ 34 ∷ tail) (sym e),
          bare,
        )

        by : (b : Bool) → (c == 34) ≡ b → Rest Quoted (c ∷ more)
        by true e =
            let here : step_at separator Quoted c ≡ step.Nothing AfterQuote = ap (λ b. if b then step.Nothing AfterQuote else step.Letter Quoted) e in
            let r = rests AfterQuote refl (ap is_quoted (end_by_nothing separator Quoted c more AfterQuote (sym here)) ∙ closed) in
            by_nothing Quoted c more AfterQuote here r (closes r.cell r.piece (eqb-true c 34 e) r.here)
        by false e =
            let here : step_at separator Quoted c ≡ step.Letter Quoted = ap (λ b. if b then step.Nothing AfterQuote else step.Letter Quoted) e in
            let r = rests Quoted refl (ap is_quoted (end_by_letter separator Quoted c more Quoted (sym here)) ∙ closed) in
            by_letter Quoted c more Quoted here r (goes_on r.cell r.piece e r.here)

    after_rest : Closed AfterQuote (c ∷ more) → Rest AfterQuote (c ∷ more)
    unfolding step_at
    after_rest closed = by (c == 34) refl
      where
        by : (b : Bool) → (c == 34) ≡ b → Rest AfterQuote (c ∷ more)
        by true e =
            let here : step_at separator AfterQuote c ≡ step.Letter Quoted = ap (λ b. if b then step.Letter Quoted else bare_step separator c) e in
            let r = rests Quoted refl (ap is_quoted (end_by_letter separator AfterQuote c more Quoted (sym here)) ∙ closed) in
            by_letter AfterQuote c more Quoted here r
            (inr (r.cell, r.piece, ap (λ n. n ∷ r.cell) (eqb-true c 34 e), ap (λ n. n ∷ r.piece) (eqb-true c 34 e), r.here))
        by false e =
            bare AfterQuote refl (ap (λ b. if b then step.Letter Quoted else bare_step separator c) e)
            (λ cell piece letters same. inl (record { letters = letters; start = e }, ap (λ l. c ∷ l) same)) closed

    rest_on : (at : At) → is_row_start at ≡ false → Closed at (c ∷ more) → Rest at (c ∷ more)
    rest_on RowStart started closed = absurd cc
    rest_on CellStart started closed = cell_rest closed
    rest_on Bare started closed = bare_rest closed
    rest_on Quoted started closed = quoted_rest closed
    rest_on AfterQuote started closed = after_rest closed

    -- a row that begins with this character
    row_on : (c == 10) ≡ false → Rest RowStart (c ∷ more) → Text (c ∷ more)
    row_on other r =
        let same : c ∷ more ≡ (r.piece ++ r.after) ++ r.rest = r.split ∙ sym (append_assoc r.piece r.after r.rest) in
        let some : r.piece ++ r.after ≢ [] = λ none. no_feed (r.rest) r.feed (same ∙ ap (λ l. l ++ r.rest) none) in
        record {
          rows = (r.cell ∷ r.more) ∷ r.rows;
          left = r.left;
          written = ([], r.piece ++ r.after, r.rest, same, refl, some, joined r.cell r.more r.piece r.after r.here r.next, r.feed, r.others);
        }
      where
        no_feed : (rest : List ℕ) → are_feeds (take 1 rest) ≡ true → c ∷ more ≡ rest → ⊥
        no_feed rest feed is =
            let feeds : are_feeds (take 1 (c ∷ more)) ≡ true = ap (λ l. are_feeds (take 1 l)) is ∙ feed in
            let first = (and_parts (c == 10) true feeds).0 in absurd cc

    text_on : Closed RowStart (c ∷ more) → Text (c ∷ more)
    unfolding step_at
    text_on closed = by (c == 34) (c == 10) refl refl
      where
        by : (quotes feeds : Bool) → (c == 34) ≡ quotes → (c == 10) ≡ feeds → Text (c ∷ more)
        by true true e f = absurd (let is = eqb-true c 10 f in cc)
        by true false e f =
            row_on f (quote RowStart (ap (λ b. if b then step.Nothing Quoted else if c == 10 then step.Nothing RowStart else bare_step separator c) e) e (λ cell piece is. inr is) closed)
        by false true e f =
            let here : step_at separator RowStart c ≡ step.Nothing RowStart =
            ap (λ b. if b then step.Nothing Quoted else if c == 10 then step.Nothing RowStart else bare_step separator c) e
            ∙ ap (λ b. if b then step.Nothing RowStart else bare_step separator c) f in
            let rest = text (ap is_quoted (end_by_nothing separator RowStart c more RowStart (sym here)) ∙ closed) in
            record {
              rows = rest.rows;
              left = sym (left_by_nothing separator RowStart c more RowStart (sym here)) ∙ rest.left;
              written = subst (λ n. AreRowsWritten separator rest.rows (n ∷ more)) (sym (eqb-true c 10 f)) (feed_before rest.rows more rest.written);
            }
        by false false e f =
            row_on f
            (bare RowStart refl
            (ap (λ b. if b then step.Nothing Quoted else if c == 10 then step.Nothing RowStart else bare_step separator c) e
            ∙ ap (λ b. if b then step.Nothing RowStart else bare_step separator c) f)
            (λ cell piece letters same. inl (record { letters = letters; start = e }, ap (λ l. c ∷ l) same)) closed)

  all : (cs : List ℕ) → ((at : At) → is_row_start at ≡ false → Closed at cs → Rest at cs) × (Closed RowStart cs → Text cs)
  unfolding left_at end_at
  all [] = (λ at started closed. at_end at started closed, λ closed. record { rows = []; left = refl; written = refl })
  all (c ∷ more) = let ih = all more in (rest_on c more ih.0 ih.1, text_on c more ih.0 ih.1)

  pub written_for : (cs : List ℕ) → is_quoted (end_at separator RowStart cs) ≡ false
      → (rows : Rows) × (left_at separator RowStart cs ≡ map (map encode_utf8_all) rows) × AreRowsWritten separator rows cs
  written_for cs closed = let text = (all cs).1 closed in (text.rows, text.left, text.written)
