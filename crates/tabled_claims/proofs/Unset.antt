-- A cell for which nothing is set: its text stands at the left and at the top.
use Rattle.std.proofs.Common.{◌≡◌, ℕ, ◌-◌, Bool, if◌then◌else◌, List, [], ◌∷◌, ◌++◌, length, get_or, ltb, nat_lt, replicate, refl, ap, ◌∙◌, arith}
use Rattle.std.proofs.lemmas.Bool.{cond_both, le-ltb}
use Rattle.std.proofs.lemmas.List.{map-id}
use Rattle.tabled_settings.specs.CellSettings.{first_settings}
use Rattle.tabled_settings.specs.Padding.{first_padding}
use Rattle.tabled_width.specs.Texts.{pieces, width_of_text}
use Rattle.tabled_cells.specs.declared.placement.Placement.{Placement}
use Rattle.tabled_cells.specs.Placements.{placement_at}
use Rattle.tabled_cells.specs.Trimmed.{lines_shown}
use Rattle.tabled_cells.specs.Placed.{filled, line_parts, aligned_width}
use Rattle.tabled_cells.proofs.Fits.{empty_line, placed_line, placed_at}
use Rattle.tabled_width.proofs.TimesLemmas.{times_spaces}

-- a line
unset_line : (row col width aligned : ℕ) (line : List ℕ) → placed_line (placement_at first_settings row col) width aligned line ≡ 32 ∷ line ++ replicate (width - 2 - width_of_text line) 32 ++ 32 ∷ []
unfolding placed_line line_parts placement_at
unset_line row col width aligned line =
    let after : ℕ = width - 1 - 1 - 0 - width_of_text line in
    let same : after ≡ width - 2 - width_of_text line = omega arith in
    ap (λ character. filled first_padding character 0 after line) (cond_both _ 32 32 (λ n. n ≡ 32) (λ _. refl) (λ _. refl))
    ∙ (λ i. times_spaces 1 i ++ [] ++ line ++ times_spaces after i ++ times_spaces 1 i)
    ∙ ap (λ n. 32 ∷ line ++ replicate n 32 ++ 32 ∷ []) same

-- all lines that are shown
unset_shown : (row col : ℕ) (text : List ℕ) → lines_shown (placement_at first_settings row col) text ≡ pieces text
unfolding lines_shown placement_at
unset_shown row col text = map-id (pieces text)

-- line n of such a cell
abbrev pub at_left_and_top : ℕ → List (List ℕ) → ℕ → List ℕ
at_left_and_top width lines n =
    let line = get_or lines n [] in
    if nat_lt n (length lines) then 32 ∷ line ++ replicate (width - 2 - width_of_text line) 32 ++ 32 ∷ [] else replicate width 32

pub unset_at : (row col width height : ℕ) (text : List ℕ) (n : ℕ)
    → placed_at (placement_at first_settings row col) width height (lines_shown (placement_at first_settings row col) text) n ≡ at_left_and_top width (pieces text) n
unfolding placement_at
unset_at row col width height text n =
    let how : Placement = placement_at first_settings row col in
    let lines : List (List ℕ) = pieces text in
    let shown : ℕ → List ℕ = λ k. placed_line how width (aligned_width how lines (get_or lines k [])) (get_or lines k []) in
    let at : Bool → ℕ → List ℕ = λ above k. if above then empty_line how.padding.top width else if ltb k (length lines) then shown k else empty_line how.padding.bottom width in
    let same : n - 0 ≡ n = omega arith in
    ap (λ lines. placed_at how width height lines n) (unset_shown row col text)
    ∙ (λ i. at (le-ltb n 0 (omega arith) i) (same i))
    ∙ (λ i. if ltb n (length lines) then unset_line row col width (aligned_width how lines (get_or lines n [])) (get_or lines n []) i else times_spaces width i)
