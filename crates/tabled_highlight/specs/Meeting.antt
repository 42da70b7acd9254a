-- The edges that meet at a crossing.
use Rattle.std.specs.Prelude.{ℕ, zero, suc, Bool, false, not, if◌then◌else◌, List, [], ◌∷◌, ◌++◌, filter}
use Rattle.tabled_places.specs.declared.site.Direction.TheVariants.{Horizontal, Vertical}
use Rattle.tabled_places.specs.declared.site.Spot.{Spot}
use Rattle.tabled_places.specs.declared.site.Spot.TheVariants.{Edge, Crossing}
use Rattle.tabled_highlight.specs.Outline.{CellSet, upper_right, lower_left, lower_right}

-- whether exactly one of two is true
abbrev pub exactly_one : Bool → Bool → Bool
exactly_one a b = if a then not b else b

-- whether exactly one of the two cells beside an edge is in the set
abbrev pub parts : CellSet → Spot → Bool
parts cells (Edge Horizontal r c) = exactly_one (upper_right cells r c) (lower_right cells r c)
parts cells (Edge Vertical r c) = exactly_one (lower_left cells r c) (lower_right cells r c)
parts cells (Crossing r c) = false

-- the edge that ends at a crossing from the left, and the one from above; there is none at the first lines
abbrev pub edge_before : ℕ → ℕ → List Spot
edge_before r zero = []
edge_before r (suc c) = Edge Horizontal r c ∷ []

abbrev pub edge_above : ℕ → ℕ → List Spot
edge_above zero c = []
edge_above (suc r) c = Edge Vertical r c ∷ []

-- the edges that meet at a crossing: before it, above it, after it and below it
abbrev pub edges_meeting : ℕ → ℕ → List Spot
edges_meeting r c = edge_before r c ++ edge_above r c ++ Edge Horizontal r c ∷ Edge Vertical r c ∷ []

-- those that have exactly one cell of the set beside them
abbrev pub parting_edges : CellSet → ℕ → ℕ → List Spot
parting_edges cells r c = filter (parts cells) (edges_meeting r c)
