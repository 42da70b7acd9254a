-- Lines that are too wide, cut off, and texts that are too high.
use Rattle.std.specs.Prelude.{ℕ, nat_le, if◌then◌else◌, zero, suc, List, [], ◌∷◌, ◌++◌, length, take}
use Rattle.std.specs.List.{join_with_byte}
use Rattle.tabled_width.specs.Texts.{pieces, fits}
use Rattle.tabled_width.specs.Clusters.{clusters}
use Rattle.tabled_width.specs.Rows.{by_lines}

-- a beginning of a line and clusters that follow it: it takes each as long as it then fits with the suffix
unfoldable pub beginning : ℕ → List ℕ → List ℕ → List (List ℕ) → List ℕ
beginning width suffix taken [] = taken
beginning width suffix taken (cluster ∷ more) =
    if fits width ((taken ++ cluster) ++ suffix) then beginning width suffix (taken ++ cluster) more else taken

-- the suffix, cut off itself where it does not fit alone
abbrev pub suffix_shown : ℕ → List ℕ → List ℕ
suffix_shown width suffix = if fits width suffix then suffix else beginning width [] [] (clusters suffix)

-- a line that is too wide is cut off, so that it fits with the suffix that is shown
unfoldable pub cut_off : ℕ → List ℕ → List ℕ → List ℕ
cut_off width shown line = if fits width line then line else beginning width shown [] (clusters line) ++ shown

-- each line of a text is cut off
unfoldable pub truncated : ℕ → List ℕ → List ℕ → List ℕ
truncated width suffix = by_lines (cut_off width (suffix_shown width suffix))

-- a text of more than so many lines keeps its first ones, with the suffix after the last of these; for no line, nothing
unfoldable pub shortened : ℕ → List ℕ → List ℕ → List ℕ
shortened zero suffix text = []
shortened (suc count) suffix text =
    if nat_le (length (pieces text)) (suc count) then text else join_with_byte 10 (take (suc count) (pieces text)) ++ suffix
