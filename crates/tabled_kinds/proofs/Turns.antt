-- Options applied in a row to a table of texts.
use Rattle.std.proofs.Common.{◌≡◌, List, [], ◌∷◌, ◌++◌, sym, subst, append_assoc}
use Rattle.std.proofs.lemmas.List.{append-nil}
use Rattle.tabled_object.specs.declared.dimension.FixedDimension.{FixedDimension}
use Rattle.tabled_configuration.specs.Configuration.{ConfigEvent}
use Rattle.tabled_configuration.specs.Colored.{Colored, Changes}
use Rattle.tabled_configuration.specs.Options.{MakesInTurn}
use Rattle.tabled_width.specs.Texts.{Table}
use Rattle.tabled_configuration.proofs.InTurn.{one_more, none_made}
use Rattle.tabled_kinds.specs.EveryKind.{Step, InTurn}

-- no option yet
pub nothing_yet : (cfg : Colored) → InTurn [] cfg cfg
nothing_yet cfg = ([], none_made Changes cfg)

-- one option more, which reads the same texts and sizes
pub then_one : (step : Table → FixedDimension → Step) (steps : List Step) (texts here : Table) (sizes sized : FixedDimension) (old between new : Colored)
    → here ≡ texts → sized ≡ sizes → InTurn steps old between → Changes (step here sized between) between new → InTurn (steps ++ step texts sizes ∷ []) old new
then_one step steps texts here sizes sized old between new same_texts same_sizes (made, by) one =
    (made ++ step texts sizes between, one_more Changes steps (step texts sizes) made old between new by (subst (λ events. Changes events between new) (λ i. step (same_texts i) (same_sizes i) between) one))

-- options in a row after others
both : (steps more : List Step) (made after : List ConfigEvent) (old between new : Colored) → MakesInTurn Changes steps made old between → MakesInTurn Changes more after between new → InTurn (steps ++ more) old new
unfolding MakesInTurn
both steps [] made after old between new by rest = (made, subst (λ all. MakesInTurn Changes all made old new) (sym (append-nil steps)) (subst (λ cfg. MakesInTurn Changes steps made old cfg) (sym rest.0) by))
both steps (step ∷ more) made after old between new by rest =
    subst (λ all. InTurn all old new) (append_assoc steps (step ∷ []) more)
    (both (steps ++ step ∷ []) more (made ++ step between) rest.1 old rest.0 new (one_more Changes steps step made old between rest.0 by rest.2) rest.3)

pub then_all : (steps more : List Step) (old between new : Colored) → InTurn steps old between → InTurn more between new → InTurn (steps ++ more) old new
then_all steps more old between new made after = both steps more made.0 after.0 old between new made.1 after.1

-- several options more, which read the same texts and sizes
pub then_those : (more : Table → FixedDimension → List Step) (steps : List Step) (texts here : Table) (sizes sized : FixedDimension) (old between new : Colored)
    → here ≡ texts → sized ≡ sizes → InTurn steps old between → InTurn (more here sized) between new → InTurn (steps ++ more texts sizes) old new
then_those more steps texts here sizes sized old between new same_texts same_sizes made after =
    then_all steps (more texts sizes) old between new made (subst (λ those. InTurn those between new) (λ i. more (same_texts i) (same_sizes i)) after)
