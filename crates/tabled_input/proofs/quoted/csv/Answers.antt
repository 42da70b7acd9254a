-- The text is read from the start of a row on.
use Rattle.std.proofs.Common.{◌≡◌, ◌+◌, ◌-◌, ◌++◌, ◌∷◌, [], true, chars, length, inl, inr, sym, ap, ◌∙◌, arith}
use Rattle.std.proofs.lemmas.List.{length-append}
use Rattle.tabled_input.specs.Lines.{line_feeds}
use Rattle.tabled_input.specs.Quoted.{csv_rows, end_at, has_open_quote, is_quoted, line_of_last, without_returns}
use Rattle.tabled_input.specs.declared.quoted.CsvError.TheVariants.{OpenQuote}
use Rattle.tabled_input.proofs.Grammar.{written_for}
use Rattle.tabled_input.proofs.ReadBack.{read_back}
use Rattle.tabled_input.proofs.Steps.{first_taken, last_of_row_open, row_open}
use Rattle.tabled_input.proofs.quoted.csv.Goals as goal

pub returns-then-is_within_quotes-clause-refused : goal.returns-then-is_within_quotes-clause-refused
unfolding csv_rows has_open_quote
returns-then-is_within_quotes-clause-refused c =
    let new = c.new-reader.ensures in
    let read = c.read.new.reader in
    let opened : is_quoted read.at ≡ true = sym c.is_within_quotes.ensures ∙ c.if-is_within_quotes.true in
    let within : is_quoted read.at ≡ has_open_quote c.args.separator c.args.text.now =
    ap is_quoted (c.in_ok-read.ensures.end ∙ ap (λ n. end_at n c.new-reader.result.at (without_returns (chars c.args.text.now))) new.separator
    ∙ ap (λ at. end_at c.args.separator at (without_returns (chars c.args.text.now))) new.at) in
    let rows : read.read.rows ++ (read.read.row ++ read.read.cell ∷ []) ∷ [] ≡ csv_rows c.args.separator c.args.text.now =
    sym (row_open read.separator read.at read.read.rows read.read.row read.read.cell opened) ∙ c.in_ok-read.ensures.rows
    ∙ first_taken c.args.separator _ _ _ _ _ (without_returns (chars c.args.text.now)) new.separator new.at new.rows new.row new.cell in
    let line : c.line_of_last.result ≡ line_of_last c.args.text.now (csv_rows c.args.separator c.args.text.now) =
    c.line_of_last.ensures ∙ ap (λ cell. line_feeds c.args.text.now - line_feeds cell + 1) (c.open_cell.ensures ∙ sym (last_of_row_open read.read.rows read.read.row read.read.cell))
    ∙ ap (line_of_last c.args.text.now) rows in
    let count : c.count.result + 1 ≡ length (csv_rows c.args.separator c.args.text.now) =
    omega (arith, c.count.ensures.count, length-append read.read.rows ((read.read.row ++ read.read.cell ∷ []) ∷ []), ap length rows) in
    inr (sym within ∙ opened, (λ i. OpenQuote (line i) (count i)))

pub returns-clause-rows : goal.returns-clause-rows
unfolding csv_rows
returns-clause-rows c =
    let new = c.new-reader.ensures in
    c.in_ok-end.ensures ∙ c.in_ok-read.ensures.rows
    ∙ first_taken c.args.separator _ _ _ _ _ (without_returns (chars c.args.text.now)) new.separator new.at new.rows new.row new.cell

pub returns-clause-closed : goal.returns-clause-closed
unfolding has_open_quote
returns-clause-closed c =
    let new = c.new-reader.ensures in
    let within : is_quoted c.read.new.reader.at ≡ has_open_quote c.args.separator c.args.text.now =
    ap is_quoted (c.in_ok-read.ensures.end ∙ ap (λ n. end_at n c.new-reader.result.at (without_returns (chars c.args.text.now))) new.separator
    ∙ ap (λ at. end_at c.args.separator at (without_returns (chars c.args.text.now))) new.at) in
    sym within ∙ sym c.is_within_quotes.ensures ∙ c.if-is_within_quotes.false

pub returns-clause-grammar : goal.returns-clause-grammar
unfolding csv_rows has_open_quote
returns-clause-grammar c = λ no_quote no_feed.
    let read = written_for c.args.separator (without_returns (chars c.args.text.now)) (returns-clause-closed c) in
    record { no_quote = no_quote; no_feed = no_feed; characters = read.0; are = returns-clause-rows c ∙ read.1; written = read.2 }

pub returns-clause-written : goal.returns-clause-written
returns-clause-written c = λ rows is. returns-clause-rows c ∙ (read_back c.args.separator rows c.args.text.now is).0

pub returns-then-is_within_quotes-clause-memory_alone : goal.returns-then-is_within_quotes-clause-memory_alone
returns-then-is_within_quotes-clause-memory_alone c = λ rows is.
    let closed = (read_back c.args.separator rows c.args.text.now is).1 in
    elim (returns-then-is_within_quotes-clause-refused c) [ inl e ↦ e | inr quote ↦ let opened = quote.0 in absurd (cc) ]
