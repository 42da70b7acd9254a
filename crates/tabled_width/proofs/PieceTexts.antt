-- The pieces of a text are texts without line feeds.
use Rattle.std.proofs.Common.{◌≡◌, ℕ, ◌<◌, List, [], ◌∷◌, length, get_or, refl, sym, subst, arith, lit<, ⊎_elim}
use Rattle.std.specs.Str.{IsUtf8}
use Rattle.std.specs.List.{join_with_byte, All}
use Rattle.std.proofs.lemmas.Bool.{cases_lt}
use Rattle.std.proofs.lemmas.List.{get_or_past}
use Rattle.std.proofs.lemmas.List.Elements.{All-nil}
use Rattle.std.proofs.lemmas.Str.{IsUtf8-nil}
use Rattle.tabled_width.proofs.PieceFacts.{all_lack, all_texts}
use Rattle.tabled_width.proofs.TextLaws.{cut_rows}
use Rattle.tabled_width.specs.Texts.{pieces}
use Rattle.tabled_width.proofs.Tiles.{IsOther, Lacks}

-- what holds of each piece, and of a text that is empty, holds at any place
at_any_place : (P : List ℕ → Type 0) (text : List ℕ) → P [] → All P (pieces text) → (k : ℕ) → P (get_or (pieces text) k [])
at_any_place P text none all k =
    ⊎_elim (all k []) (λ past. subst P (sym (get_or_past (pieces text) k [] past)) none) (cases_lt k (length (pieces text)))

pub IsUtf8-piece : (k : ℕ) (text : List ℕ) → IsUtf8 text → IsUtf8 (get_or (pieces text) k [])
IsUtf8-piece k text u = at_any_place IsUtf8 text IsUtf8-nil (all_texts 10 (lit< tt) text u) k

pub piece_lacks : (k : ℕ) (text : List ℕ) → Lacks (get_or (pieces text) k [])
piece_lacks k text = at_any_place Lacks text (All-nil IsOther) (all_lack 10 text) k

-- lines without line feeds, joined, are cut into exactly these
pub cut_lines : (lines : List (List ℕ)) → 0 < length lines → All Lacks lines → pieces (join_with_byte 10 lines) ≡ lines
cut_lines [] some lack = absurd (omega arith)
cut_lines (line ∷ lines) some lack = cut_rows (line ∷ lines) (line, lines, refl) lack
