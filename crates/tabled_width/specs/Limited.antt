-- A text within so many terminal columns, by what is done with its lines that are too wide.
use Rattle.std.specs.Prelude.{◌≡◌, ℕ, Bool, true, if◌then◌else◌, List, [], ◌∷◌}
use Rattle.std.specs.List.{All, list_all}
use Rattle.std.specs.Str.{IsUtf8}
use Rattle.tabled_width.specs.declared.limit.Overflow.{Overflow}
use Rattle.tabled_width.specs.declared.limit.Overflow.TheVariants.{Wrap, WrapWords, Truncate}
use Rattle.tabled_width.specs.Texts.{is_printable, pieces}
use Rattle.tabled_width.specs.Rows.{ClustersFit, WordsFit, wrapped, wrapped_words}
use Rattle.tabled_width.specs.CutOff.{truncated}

abbrev pub limited : Overflow → ℕ → List ℕ → List ℕ
limited Wrap width text = wrapped width text
limited WrapWords width text = wrapped_words width text
limited (Truncate suffix) width text = truncated width suffix.now text

-- what it asks of a text that each line fits afterwards: that no cluster is wider; and that no suffix begins a new line
abbrev pub CanFit : Overflow → ℕ → List ℕ → Type 0
CanFit Wrap width text = ClustersFit width text
CanFit WrapWords width text = All (WordsFit width) (pieces text)
CanFit (Truncate suffix) width text = IsUtf8 suffix.now × (pieces suffix.now ≡ suffix.now ∷ [])

-- each line of a text is of printable ASCII alone
abbrev pub IsPrintableText : List ℕ → Type 0
IsPrintableText text = All (λ line. list_all is_printable line ≡ true) (pieces text)

-- whether what is written after a line that is too wide is of printable ASCII alone, if anything is
abbrev pub ends_printable : Overflow → Bool
ends_printable Wrap = true
ends_printable WrapWords = true
ends_printable (Truncate suffix) = list_all is_printable suffix.now

-- how lines are wrapped, by whether words are kept
abbrev pub overflow_of : Bool → Overflow
overflow_of keeps_words = if keeps_words then WrapWords else Wrap
