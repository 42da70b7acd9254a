-- What stands for a text in a cell of a table of markdown, as GitHub has it.
use Rattle.std.specs.Prelude.{ℕ, Bool, ◌==◌, ◌&&◌, ◌||◌, if◌then◌else◌, List, [], ◌∷◌, ◌++◌, codes, Option, Some, None, unwrap_or}
use Rattle.std.specs.List.{list_any}

-- ---- a byte

-- a space, a tabulator, a vertical one or a form feed: it is lost at an end of a cell
abbrev pub is_blank : ℕ → Bool
is_blank c = (c == 32) || (c == 9) || (c == 11) || (c == 12)

-- one of $ * [ \ ] _ ` | ~, at which something else than a text may begin or end
abbrev pub is_mark : ℕ → Bool
is_mark c = list_any (λ mark. c == mark) (36 ∷ 42 ∷ 91 ∷ 92 ∷ 93 ∷ 95 ∷ 96 ∷ 124 ∷ 126 ∷ [])

-- a slash after a colon, as in "://", or a point after a w, as in "www.": an address would become a link, in which a backslash is shown
abbrev pub is_of_address : ℕ → ℕ → Bool
is_of_address before c = ((before == 58) && (c == 47)) || ((before == 119) && (c == 46))

-- the word that stands for a byte, if one does
abbrev pub word_of : ℕ → Option (List ℕ)
word_of c =
    if c == 10 then Some (codes "<br>")
    else if c == 13 then Some (codes "&#13;")
    else if c == 38 then Some (codes "&amp;")
    else if c == 60 then Some (codes "&lt;")
    else None

-- the word that stands for a blank at an end of a text
abbrev pub blank_word : ℕ → Option (List ℕ)
blank_word c =
    if c == 32 then Some (codes "&#32;")
    else if c == 9 then Some (codes "&#9;")
    else if c == 11 then Some (codes "&#11;")
    else if c == 12 then Some (codes "&#12;")
    else None

-- the backslash before a byte that comes after another, where it needs one
abbrev pub backslash : ℕ → ℕ → List ℕ
backslash before c = if is_mark c || is_of_address before c then 92 ∷ [] else []

-- what stands for a byte after another, and for one at an end of a text
unfoldable pub source_of : ℕ → ℕ → List ℕ
source_of before c = unwrap_or (word_of c) (backslash before c ++ c ∷ [])

abbrev pub at_end : ℕ → ℕ → List ℕ
at_end before c = unwrap_or (blank_word c) (source_of before c)

-- ---- a text

-- what stands for bytes after another
abbrev pub source_after : ℕ → List ℕ → List ℕ
source_after before [] = []
source_after before (c ∷ more) = source_of before c ++ source_after c more

-- what stands for the bytes after another, of which the last is that of a text
abbrev pub to_end : ℕ → List ℕ → List ℕ
to_end before [] = []
to_end before (c ∷ []) = at_end before c
to_end before (c ∷ next ∷ more) = source_of before c ++ to_end c (next ∷ more)

-- what stands for a text, which begins after a space
unfoldable pub escaped : List ℕ → List ℕ
escaped [] = []
escaped (c ∷ more) = at_end 32 c ++ to_end c more
