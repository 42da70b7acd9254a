-- Events of one item of a list after another.
use Rattle.std.proofs.Common.{◌≡◌, ℕ, suc, ◌+◌, ◌<◌, arith, List, [], ◌∷◌, ◌++◌, flat_map, length, take, slice_index_or, refl, sym, ap, subst, ◌∙◌, append-nil}
use Rattle.std.proofs.Math.Seq.{take-suc}
use Rattle.std.proofs.lemmas.Grind.{flat_map-append}
use Rattle.std.proofs.lemmas.List.Elements.{filter_map-append}
use Rattle.tabled_configuration.specs.ChangeLaws.{both_change_borders}
use Rattle.tabled_configuration.specs.Configuration.{Changes, Configuration, ConfigEvent, cell_color_event, cell_colors_of}

module _ {X : Type 0} (put : X → List ConfigEvent) where
  -- no cell is colored by all of them where none is by one
  pub none_colored : ((x : X) → cell_colors_of (put x) ≡ []) → (xs : List X) → cell_colors_of (flat_map put xs) ≡ []
  none_colored none [] = refl
  none_colored none (x ∷ xs) = filter_map-append cell_color_event (put x) (flat_map put xs) ∙ (λ i. none x i ++ none_colored none xs i)

  behind : (i : ℕ) → i + 1 ≡ suc i
  behind i = omega arith

  -- the events of one item more
  one_more : (xs : List X) (i : ℕ) (d : X) → i < length xs → flat_map put (take (i + 1) xs) ≡ flat_map put (take i xs) ++ put (slice_index_or xs i d)
  one_more xs i d here =
      ap (λ n. flat_map put (take n xs)) (behind i) ∙ ap (flat_map put) (take-suc xs i d here)
      ∙ flat_map-append put (take i xs) (slice_index_or xs i d ∷ []) ∙ ap (λ last. flat_map put (take i xs) ++ last) (append-nil (put (slice_index_or xs i d)))

  pub one_put : (xs : List X) (i : ℕ) (d : X) (old between new : Configuration) → i < length xs → Changes (flat_map put (take i xs)) old between
      → Changes (put (slice_index_or xs i d)) between new → Changes (flat_map put (take (i + 1) xs)) old new
  one_put xs i d old between new here before next =
      subst (λ es. Changes es old new) (sym (one_more xs i d here)) (both_change_borders (flat_map put (take i xs)) (put (slice_index_or xs i d)) old between new before next)
