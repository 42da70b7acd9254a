-- Lists of writes, added to step by step.
use Rattle.std.proofs.Common.{◌≡◌, ℕ, suc, ◌+◌, List, [], ◌∷◌, ◌++◌, map, take, sym, ap, ◌∙◌, arith, flat_map, append-nil, append_assoc}
use Rattle.std.proofs.lemmas.List.{map-append}
use Rattle.tabled_object.specs.Entities.{below}
use Rattle.tabled_places.specs.declared.event.Event.{Event}
use Rattle.tabled_places.specs.declared.writes.Write as grid
use Rattle.tabled_places.specs.Writes.{writes_made}
use Rattle.tabled_places.proofs.EntityBorders.{writes_made-append, nothing_written}
use Rattle.tabled_configuration.specs.Configuration.{Configuration, cell_colors_of}
use Rattle.tabled_changes.proofs.ColoredLemmas.{none_by_characters}
use Rattle.tabled_correction.specs.Correction.{Write, Spanned, after_writes, columns_corrected, rows_corrected, inner_corrected, corrected, spanned, crossing_written, correction_events}
use Rattle.tabled_correction.specs.Corners.{corners_of, joined_corner_events}
use Rattle.tabled_configuration.proofs.Below.{flat_map_below}

-- one number more
pub one_more : {A : Type 0} (f : ℕ → List A) (k : ℕ) (start before after here : List A) → before ≡ start ++ flat_map f (below k) → after ≡ before ++ here → here ≡ f k → after ≡ start ++ flat_map f (below (k + 1))
one_more f k start before after here so_far added is =
    added ∙ (λ i. so_far i ++ is i) ∙ append_assoc start (flat_map f (below k)) (f k) ∙ ap (λ all. start ++ all) (sym (flat_map_below f k))

-- one item less to come
pub one_less : {A X : Type 0} (f : X → List A) (x : X) (all left rest : List X) (start before after : List A) → before ++ flat_map f left ≡ start ++ flat_map f all → left ≡ x ∷ rest → after ≡ before ++ f x → after ++ flat_map f rest ≡ start ++ flat_map f all
one_less f x all left rest start before after so_far next added =
    ap (λ ws. ws ++ flat_map f rest) added ∙ append_assoc before (f x) (flat_map f rest)
    ∙ ap (λ xs. before ++ flat_map f xs) (sym next) ∙ so_far

-- none left to come
pub none_left : {A X : Type 0} (f : X → List A) (all left : List X) (start before : List A) → before ++ flat_map f left ≡ start ++ flat_map f all → left ≡ [] → before ≡ start ++ flat_map f all
none_left f all left start before so_far done =
    sym (append-nil before) ∙ ap (λ xs. before ++ flat_map f xs) (sym done) ∙ so_far

next : (i : ℕ) → i + 1 ≡ suc i
next i = omega arith

-- one crossing more among the writes
pub crossing_pushed : (start : List (Event ℕ)) (before after : List (grid.Write ℕ)) (crossings : List Write) (i : ℕ) (crossing : Write) (entry : grid.Write ℕ) → writes_made before ≡ start ++ map crossing_written (take i crossings)
    → after ≡ before ++ entry ∷ [] → writes_made (entry ∷ []) ≡ crossing_written crossing ∷ [] → take (suc i) crossings ≡ take i crossings ++ crossing ∷ []
    → writes_made after ≡ start ++ map crossing_written (take (i + 1) crossings)
crossing_pushed start before after crossings i crossing entry so_far pushed is taken =
    ap writes_made pushed ∙ writes_made-append before (entry ∷ []) ∙ (λ i. so_far i ++ is i)
    ∙ append_assoc start (map crossing_written (take i crossings)) (crossing_written crossing ∷ [])
    ∙ ap (λ es. start ++ es) (sym (map-append crossing_written (take i crossings) (crossing ∷ [])) ∙ ap (map crossing_written) (sym (ap (λ n. take n crossings) (next i) ∙ taken)))

-- none of the events is one of the colors of cells
pub none_in_correction : (shape : ℕ × ℕ) (cfg : Configuration) → cell_colors_of (correction_events shape cfg) ≡ []
unfolding correction_events
none_in_correction shape cfg = none_by_characters (map crossing_written (corrected (spanned shape cfg)))

pub none_in_corners : (shape : ℕ × ℕ) (cfg : Configuration) → cell_colors_of (joined_corner_events shape cfg) ≡ []
unfolding joined_corner_events
none_in_corners shape cfg = none_by_characters (map crossing_written (corners_of shape cfg))

-- three lists of crossings, written one after the other
pub three_pushed : (none first_made second_made third_made : List (grid.Write ℕ)) (first second third : List Write) → none ≡ [] → writes_made first_made ≡ writes_made none ++ map crossing_written first → writes_made second_made ≡ writes_made first_made ++ map crossing_written second
    → writes_made third_made ≡ writes_made second_made ++ map crossing_written third → writes_made third_made ≡ map crossing_written (first ++ (second ++ third))
three_pushed none first_made second_made third_made first second third empty one two three =
    three ∙ ap (λ es. es ++ map crossing_written third) (two ∙ ap (λ es. es ++ map crossing_written second) (one ∙ ap (λ es. es ++ map crossing_written first) (nothing_written none empty)))
    ∙ append_assoc (map crossing_written first) (map crossing_written second) (map crossing_written third)
    ∙ ap (λ es. map crossing_written first ++ es) (sym (map-append crossing_written second third)) ∙ sym (map-append crossing_written first (second ++ third))

-- the three steps, each on the picture that the one before it left
pub three_steps : (table first second third : Spanned) (by_columns by_rows inner : List Write) → first ≡ table → by_columns ≡ columns_corrected first → second ≡ after_writes first by_columns → by_rows ≡ rows_corrected second
    → third ≡ after_writes second by_rows → inner ≡ inner_corrected third → by_columns ++ (by_rows ++ inner) ≡ corrected table
three_steps table first second third by_columns by_rows inner started columns after_columns rows after_rows last =
    let columns_are : by_columns ≡ columns_corrected table = columns ∙ ap columns_corrected started in
    let second_is : second ≡ after_writes table (columns_corrected table) = after_columns ∙ (λ i. after_writes (started i) (columns_are i)) in
    let rows_are : by_rows ≡ rows_corrected (after_writes table (columns_corrected table)) = rows ∙ ap rows_corrected second_is in
    let third_is = after_rows ∙ (λ i. after_writes (second_is i) (rows_are i)) in
    λ i. columns_are i ++ (rows_are i ++ (last ∙ ap inner_corrected third_is) i)

-- a list that began as the empty one
pub from_nothing : {A : Type 0} (none made added : List A) → none ≡ [] → made ≡ none ++ added → made ≡ added
from_nothing none made added empty is = is ∙ ap (λ xs. xs ++ added) empty
