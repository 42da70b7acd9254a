-- The lines that are had of a text.
use Rattle.std.proofs.Common.{◌≡◌, ℕ, ◌+◌, ◌-◌, ◌<◌, ◌≤◌, List, [], ◌∷◌, take, drop, length, get_or, sym, ap, ◌∙◌, arith}
use Rattle.std.proofs.lemmas.List.{drop-drop, get_or-map, get_or-take, length-take-le}
use Rattle.tabled_width.specs.Texts.{pieces}
use Rattle.tabled_cells.specs.declared.shown_lines.ShownLines.{ShownLines}
use Rattle.tabled_cells.specs.Shown.{shown}
use Rattle.tabled_cells.specs.Trimmed.{line_trimmed}
use Rattle.tabled_cells.proofs.Trimming.{line_is, left_below}

pub shown_at : (lines : ShownLines) (n : ℕ) → n < lines.count → get_or (shown lines) n [] ≡ line_trimmed lines.trims (get_or (pieces lines.text.now) n [])
unfolding shown
shown_at lines n inside =
    let front : List (List ℕ) = take lines.count (pieces lines.text.now) in
    let long : length front ≡ lines.count = length-take-le lines.count (pieces lines.text.now) lines.within in
    get_or-map (line_trimmed lines.trims) front n [] [] (omega (arith, long)) ∙ ap (line_trimmed lines.trims) (get_or-take lines.count (pieces lines.text.now) n [] inside)

-- what is left from a line on, its first line, and what is left after that
module _ (lines from left : List (List ℕ)) (line : List ℕ) (n first : ℕ) (before : first ≤ n) (begins : from ≡ drop first lines) (found : drop (n - first) from ≡ line ∷ left) where
  at_n : line ∷ left ≡ drop n lines
  at_n =
      let sum : first + (n - first) ≡ n = omega arith in
      sym found ∙ ap (drop (n - first)) begins ∙ drop-drop (n - first) first lines ∙ ap (λ k. drop k lines) sum

  pub line_found : line ≡ get_or lines n []
  line_found = line_is lines line left n at_n

  pub left_found : left ≡ drop (n + 1) lines
  left_found = left_below lines line left n at_n
