-- Printable ASCII before a text takes a column for each byte, unless the text begins with U+FE0F, which widens what it follows.
use Rattle.std.proofs.Common.{◌≡◌, ◌==◌, ℕ, ◌+◌, Bool, true, false, if◌then◌else◌, Option, Some, None, List, [], ◌∷◌, ◌++◌, length, chars, refl, ap, ◌∙◌, arith}
use Rattle.std.specs.List.{list_all}
use Rattle.std.proofs.lemmas.Bool.{and_parts}
use Rattle.std.proofs.lemmas.Bool.Decides.{nat_tests}
use Rattle.std.proofs.lemmas.Str.{chars-append, chars-IsAscii, IsUtf8-from_ascii}
use Rattle.unicode_width.specs.declared.kind.Kind.{Kind}
use Rattle.unicode_width.specs.declared.kind.Kind.TheVariants as kinds
use Rattle.unicode_width.specs.declared.state.After.{After}
use Rattle.unicode_width.specs.declared.state.State.{State}
use Rattle.unicode_width.specs.declared.state.Change.{Change}
use Rattle.unicode_width.specs.Kind.{kind}
use Rattle.unicode_width.specs.Width.{plain, single, of_kind, alone, joined_or, is_kept, if_kept, past_selectors, in_context, past_emoji, step, read_before, str_width}
use Rattle.tabled_width.specs.Texts.{is_printable, begins_with, width_of_text}
use Rattle.tabled_width.proofs.Printing.{printable_ascii}

-- what was read does not begin with U+FE0F
abbrev IsApart : ℕ × State → Type 0
IsApart r = r.1.emoji ≡ false

module _ (c : ℕ) (is_other : (c == 0xFE0F) ≡ false) where
  single_apart : IsApart (single false c)
  single_apart = grind (arith, is_other)

  kind_apart : (k : Kind) → IsApart (of_kind false c k)
  kind_apart kinds.Zero = refl
  kind_apart kinds.Narrow = refl
  kind_apart kinds.Wide = refl
  kind_apart kinds.Ambiguous = refl
  kind_apart kinds.Alef = refl
  kind_apart kinds.KhmerLetter = refl
  kind_apart kinds.TifinaghConsonant = refl
  kind_apart kinds.LisuTone = refl
  kind_apart kinds.RegionalIndicator = refl
  kind_apart kinds.EmojiModifier = refl
  kind_apart kinds.Emoji = refl
  kind_apart kinds.Single = single_apart

  alone_apart : IsApart (alone false c)
  unfolding alone
  alone_apart = kind_apart (kind c)

  joined_apart : (total : ℕ) (j : Option (Change × After)) → IsApart (joined_or total j (alone false c))
  joined_apart total None = alone_apart
  joined_apart total (Some j) = refl

  selectors_apart : (total : ℕ) (after : After) → IsApart (past_selectors false c total after)
  unfolding past_selectors
  selectors_apart total after = grind (arith, joined_apart)

  kept_apart : (s : State) → s.emoji ≡ false → (if_kept s).emoji ≡ false
  kept_apart s apart = by (is_kept s.after)
    where
      by : (b : Bool) → (if b then s else plain).emoji ≡ false
      by true = apart
      by false = refl

  context_apart : (total : ℕ) (s : State) → s.emoji ≡ false → IsApart (in_context false c total s)
  unfolding in_context
  context_apart total s apart = grind (arith, is_other, kept_apart s apart, selectors_apart)

  past_apart : (total : ℕ) (s : State) → s.emoji ≡ false → IsApart (past_emoji false c total s)
  unfolding past_emoji
  past_apart total s apart = grind (arith, alone_apart, context_apart total s apart)

  step_by : (total : ℕ) (s : State) (b : Bool) → s.emoji ≡ b → IsApart (step false c (total, s))
  unfolding step
  step_by total s true e = grind (arith, past_apart total (record (if_kept s) { emoji = false }) refl)
  step_by total s false e = grind (arith, past_apart total s e)

  step_apart : (r : ℕ × State) → IsApart (step false c r)
  step_apart r = step_by r.0 r.1 r.1.emoji refl

read_apart : (cs : List ℕ) → begins_with 0xFE0F cs ≡ false → IsApart (read_before false cs (0, plain))
read_apart [] apart = refl
read_apart (c ∷ cs) apart = step_apart c apart (read_before false cs (0, plain))

step_printable : (c total : ℕ) (s : State) → is_printable c ≡ true → s.emoji ≡ false → step false c (total, s) ≡ (total + 1, plain)
unfolding step past_emoji
step_printable c total s printable apart = grind (arith, nat_tests)

-- the width of the text, and a state that does not begin with U+FE0F
read_more : (bs cs : List ℕ) → list_all is_printable bs ≡ true → begins_with 0xFE0F cs ≡ false
    → ((read_before false (bs ++ cs) (0, plain)).0 ≡ length bs + str_width false cs) × IsApart (read_before false (bs ++ cs) (0, plain))
unfolding str_width
read_more [] cs printable apart = (omega arith, read_apart cs apart)
read_more (b ∷ bs) cs printable apart =
    let parts = and_parts (is_printable b) (list_all is_printable bs) printable in
    let rest = read_more bs cs parts.1 apart in
    let next = step_printable b (read_before false (bs ++ cs) (0, plain)).0 (read_before false (bs ++ cs) (0, plain)).1 parts.0 rest.1 in
    (ap (λ r. r.0) next ∙ ap (λ n. n + 1) rest.0 ∙ omega arith, ap (λ r. r.1.emoji) next)

pub width_before : (bs text : List ℕ) → list_all is_printable bs ≡ true → begins_with 0xFE0F (chars text) ≡ false → width_of_text (bs ++ text) ≡ length bs + width_of_text text
unfolding str_width
width_before bs text printable apart =
    let ascii = printable_ascii bs printable in
    ap (str_width false) (chars-append bs text (IsUtf8-from_ascii bs ascii) ∙ ap (λ cs. cs ++ chars text) (chars-IsAscii bs ascii))
    ∙ (read_more bs (chars text) printable apart).0
