-- What options change that read nothing of what stands before them, and what is shown then.
use Rattle.std.proofs.Common.{◌≡◌, ℕ, ◌+◌, ◌<◌, suc, Bool, true, false, if◌then◌else◌, Option, Some, None, List, [], ◌∷◌, ◌++◌, map, take, length, get_or, flat_map, sym, ap, subst, ◌∙◌, append-nil, append_assoc, arith}
use Rattle.std.proofs.Math.Seq.{take-suc}
use Rattle.std.proofs.lemmas.List.{length-take-le}
use Rattle.tabled_object.specs.declared.entity.Entity.{Entity}
use Rattle.tabled_object.specs.declared.entity.Entity.TheVariants.{Column, Global}
use Rattle.tabled_configuration.specs.ChangeLaws.{both_change, none_change}
use Rattle.tabled_configuration.specs.Colored.{Colored, Changes}
use Rattle.tabled_configuration.specs.Configuration.{ConfigEvent}
use Rattle.tabled_configuration.specs.Options.{MakesInTurn}
use Rattle.tabled_configuration.proofs.InTurn.{all_unread, by_all_events}
use Rattle.tabled_formatting.specs.Formatting.{alignment_set}
use Rattle.tabled_formatting.specs.declared.alignment.Alignment.{Alignment}
use Rattle.tabled_request.specs.declared.sides.ColumnSide.{ColumnSide}
use Rattle.tabled_border.specs.declared.border.Border.{Border}
use Rattle.tabled_color.specs.Shade.{Shade}
use Rattle.tabled_color.specs.BorderColors.{border_texts, full_border}
use Rattle.tabled_color.specs.Coloring.{entity_colored}
use Rattle.tabled_width.specs.Texts.{Table}
use Rattle.tabled_measure.specs.Sizes.{column_count}
use Rattle.tabled_request.specs.declared.request.FrameColor.{FrameColor}
use Rattle.tabled_viewing.specs.Colors.{aligned, aligned_column, frame_colored, shade_of}

-- an option applied to entities in turn, of which each makes its own events
pub in_turn : (events : Entity → List ConfigEvent) (members : List Entity) (made : List ConfigEvent) (old new : Colored)
    → MakesInTurn Changes (map (λ member _. events member) members) made old new → Changes (flat_map events members) old new
in_turn events members made old new by =
    subst (λ es. Changes es old new) (all_unread Changes events members made old new by)
    (by_all_events Changes none_change both_change (map (λ member _. events member) members) made old new by)

-- the cells of one column get an alignment
pub column_set : (alignment given : Alignment) (index col : ℕ) (made : List ConfigEvent) (old new : Colored) → alignment ≡ given → index ≡ col
    → MakesInTurn Changes (map (λ member _. alignment_set alignment member) (Column index ∷ [])) made old new
    → Changes (alignment_set given (Column col)) old new
column_set alignment given index col made old new is at by =
    subst (λ es. Changes es old new) (append-nil (alignment_set alignment (Column index)) ∙ (λ i. alignment_set (is i) (Column (at i))))
    (in_turn (alignment_set alignment) (Column index ∷ []) made old new by)

-- one column more
aligned-append : (col : ℕ) (first : List ColumnSide) (here : ColumnSide)
    → aligned col (first ++ here ∷ []) ≡ aligned col first ++ aligned_column here (col + length first)
unfolding aligned
aligned-append col [] here =
    append-nil (aligned_column here col)
    ∙ ap (λ n. aligned_column here n) (let same : col ≡ col + 0 = omega arith in same)
aligned-append col (side ∷ first) here =
    ap (λ rest. aligned_column side col ++ rest) (aligned-append (col + 1) first here)
    ∙ sym (append_assoc (aligned_column side col) (aligned (col + 1) first) (aligned_column here (col + 1 + length first)))
    ∙ ap (λ n. (aligned_column side col ++ aligned (col + 1) first) ++ aligned_column here n)
    (let same : col + 1 + length first ≡ col + suc (length first) = omega arith in same)

pub one_column_more : (sides : List ColumnSide) (col : ℕ) (d : ColumnSide) (old between new : Colored) → col < length sides
    → Changes (aligned 0 (take col sides)) old between → Changes (aligned_column (get_or sides col d) col) between new
    → Changes (aligned 0 (take (col + 1) sides)) old new
one_column_more sides col d old between new inside before last =
    let here : ColumnSide = get_or sides col d in
    let next : col + 1 ≡ suc col = omega arith in
    let front : take (col + 1) sides ≡ take col sides ++ here ∷ [] =
    ap (λ n. take n sides) next ∙ take-suc sides col d inside in
    let count : 0 + length (take col sides) ≡ col = omega (arith, length-take-le col sides (omega (arith, inside))) in
    subst (λ es. Changes es old new)
    (sym (ap (aligned 0) front ∙ aligned-append 0 (take col sides) here
    ∙ ap (λ n. aligned 0 (take col sides) ++ aligned_column here n) count))
    (both_change (aligned 0 (take col sides)) (aligned_column here col) old between new before last)

pub no_column : (old : Colored) (sides : List ColumnSide) → Changes (aligned 0 (take 0 sides)) old old
unfolding aligned
no_column old sides = none_change old

-- events that are made only where they are wanted
pub wanted : (b : Bool) (events : List ConfigEvent) (old new : Colored) → b ≡ true → Changes events old new → Changes (if b then events else []) old new
wanted b events old new is changes = subst (λ b. Changes (if b then events else []) old new) (sym is) changes

pub unwanted : (b : Bool) (events : List ConfigEvent) (old : Colored) → b ≡ false → Changes (if b then events else []) old old
unwanted b events old is = subst (λ b. Changes (if b then events else []) old old) (sym is) (none_change old)

-- the borders of all cells colored, where a color is given
pub frame_changed : (name : FrameColor) (given : Option FrameColor) (border : Border Shade) (table : Table) (made : List ConfigEvent) (old new : Colored) → given ≡ Some name
    → (let shade = shade_of name in border ≡ full_border shade shade shade shade shade shade shade shade)
    → MakesInTurn Changes (map (λ member _. entity_colored (border_texts border) (length table, column_count table) member) (Global ∷ [])) made old new
    → Changes (frame_colored given table) old new
unfolding frame_colored
frame_changed name given border table made old new is filled by =
    let shape : ℕ × ℕ = (length table, column_count table) in
    subst (λ given. Changes (frame_colored given table) old new) (sym is)
    (subst (λ es. Changes es old new) (append-nil (entity_colored (border_texts border) shape Global) ∙ ap (λ border. entity_colored (border_texts border) shape Global) filled)
    (in_turn (entity_colored (border_texts border) shape) (Global ∷ []) made old new by))

pub frame_left : (given : Option FrameColor) (table : Table) (old : Colored) → given ≡ None → Changes (frame_colored given table) old old
unfolding frame_colored
frame_left given table old is = subst (λ given. Changes (frame_colored given table) old old) (sym is) (none_change old)
