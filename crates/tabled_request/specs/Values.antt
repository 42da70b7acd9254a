-- What the values of options may be, and what they mean.
use Rattle.std.specs.Prelude.{ℕ, Bool, not, ◌==◌, ◌&&◌, ◌||◌, nat_lt, if◌then◌else◌, List, codes, length, slice_index, Option, Some, None}
use Rattle.std.specs.List.{list_any}
use Rattle.std.specs.Str.{bytes_eq}
use Rattle.tabled_request.specs.declared.request.FrameColor.{FrameColor}
use Rattle.tabled_request.specs.declared.request.FrameColor.TheVariants.{Black, Red, Green, Yellow, Blue, Magenta, Cyan, White}
use Rattle.tabled_request.specs.declared.request.When.{When}
use Rattle.tabled_request.specs.declared.request.When.TheVariants.{Auto, Always, Never}

-- the color that a word names
abbrev pub color_named : List ℕ → Option FrameColor
color_named word =
    if bytes_eq word (codes "black") then Some Black else if bytes_eq word (codes "red") then Some Red
    else if bytes_eq word (codes "green") then Some Green else if bytes_eq word (codes "yellow") then Some Yellow
    else if bytes_eq word (codes "blue") then Some Blue else if bytes_eq word (codes "magenta") then Some Magenta
    else if bytes_eq word (codes "cyan") then Some Cyan else if bytes_eq word (codes "white") then Some White
    else None

-- when there are colors, by the word that says so
abbrev pub when_named : List ℕ → Option When
when_named word =
    if bytes_eq word (codes "auto") then Some Auto else if bytes_eq word (codes "always") then Some Always
    else if bytes_eq word (codes "never") then Some Never else None

-- a separator: one character of ASCII, but for a quote, a line feed and a carriage return; a backslash and t is the tabulator, one and 0 the character 0
unfoldable pub separator_named : List ℕ → Option ℕ
separator_named word =
    if bytes_eq word (codes "\\t") then Some 9 else if bytes_eq word (codes "\\0") then Some 0
    else if (length word == 1) && nat_lt (slice_index word 0) 128 && not ((slice_index word 0 == 34) || (slice_index word 0 == 10) || (slice_index word 0 == 13))
    then Some (slice_index word 0) else None

-- a text for a line: it has no line feed
abbrev pub is_line : List ℕ → Bool
is_line word = not (list_any (λ b. b == 10) word)
