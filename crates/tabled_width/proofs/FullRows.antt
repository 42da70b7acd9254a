-- A row that another follows is full.
use Rattle.std.proofs.Common.{◌≡◌, ℕ, ◌<◌, Bool, true, false, if◌then◌else◌, List, [], ◌∷◌, ◌++◌, map, length, refl, sym, ap, subst, ◌∙◌, arith, append_assoc, append-nil, length-append}
use Rattle.std.specs.List.{All, Contains}
use Rattle.std.proofs.lemmas.List.Elements.{All-head, All-tail}
use Rattle.tabled_width.specs.Texts.{fits}
use Rattle.tabled_width.specs.Clusters.{clusters}
use Rattle.tabled_width.specs.Rows.{close, joined, before, rows, line_rows, AreFull}
use Rattle.tabled_width.proofs.ClusterLemmas.{clusters_nonempty}
use Rattle.tabled_width.proofs.Filling.{before_some, step_fits, step_full, step_end}
use Rattle.tabled_width.proofs.RowLaws.{contains_each}

-- rows of which the first begins with something
abbrev pub BeginWith : List ℕ → List (List ℕ) → Type 0
BeginWith row rs = (rest : List ℕ) × (more : List (List ℕ)) × (rs ≡ (row ++ rest) ∷ more)

more_of : (row u : List ℕ) (rs : List (List ℕ)) → BeginWith (row ++ u) rs → BeginWith row rs
more_of row u rs begin = (u ++ begin.0, begin.1, begin.2 ∙ ap (λ r. r ∷ begin.1) (append_assoc row u begin.0))

longer : (row u : List ℕ) → 0 < length row → 0 < length (row ++ u)
longer row u some = omega (arith, length-append row u)

begin_by : (width : ℕ) (row u : List ℕ) (us : List (List ℕ)) (b : Bool) → fits width (joined row (close u)) ≡ b → 0 < length row
    → BeginWith (row ++ u) (rows width (row ++ u) (map close us)) → BeginWith row (rows width row (map close (u ∷ us)))
begin_by width row u us true e some next = subst (BeginWith row) (sym (step_fits width row (close u) (map close us) e)) (more_of row u (rows width (row ++ u) (map close us)) next)
begin_by width row u us false e some next =
    ([], rows width u (map close us), step_full width row (close u) (map close us) e ∙ before_some row (rows width u (map close us)) some ∙ ap (λ r. r ∷ rows width u (map close us)) (sym (append-nil row)))

pub rows_begin : (width : ℕ) (row : List ℕ) (us : List (List ℕ)) → 0 < length row → BeginWith row (rows width row (map close us))
rows_begin width row [] some = ([], [], step_end width row ∙ ap (λ r. r ∷ []) (sym (append-nil row)))
rows_begin width row (u ∷ us) some = begin_by width row u us (fits width (joined row (close u))) refl some (rows_begin width (row ++ u) us (longer row u some))

module _ (width : ℕ) (all : List (List ℕ)) where
  full_next : (row u : List ℕ) (rs : List (List ℕ)) → Contains all u → fits width (row ++ u) ≡ false → BeginWith u rs → AreFull width all rs → AreFull width all (row ∷ rs)
  full_next row u rs one over begin rest =
      subst (λ qs. AreFull width all (row ∷ qs)) (sym begin.2)
      ((u, begin.0, one, refl, over), subst (AreFull width all) begin.2 rest)

  full_before : (row u : List ℕ) (rs : List (List ℕ)) → Contains all u → fits width (row ++ u) ≡ false → BeginWith u rs → AreFull width all rs → AreFull width all (before row rs)
  full_before [] u rs one over begin rest = rest
  full_before (b ∷ bs) u rs one over begin rest = full_next (b ∷ bs) u rs one over begin rest

  full_by : (row u : List ℕ) (us : List (List ℕ)) (b : Bool) → fits width (joined row (close u)) ≡ b → Contains all u → 0 < length u
      → AreFull width all (rows width (row ++ u) (map close us)) → AreFull width all (rows width u (map close us)) → AreFull width all (rows width row (map close (u ∷ us)))
  full_by row u us true e one some here next = subst (AreFull width all) (sym (step_fits width row (close u) (map close us) e)) here
  full_by row u us false e one some here next =
      subst (AreFull width all) (sym (step_full width row (close u) (map close us) e)) (full_before row u (rows width u (map close us)) one e (rows_begin width u us some) next)

  pub rows_full : (row : List ℕ) (us : List (List ℕ)) → All (Contains all) us → All (λ u. 0 < length u) us → AreFull width all (rows width row (map close us))
  rows_full row [] among some = subst (AreFull width all) (sym (step_end width row)) tt
  rows_full row (u ∷ us) among some =
      full_by row u us (fits width (joined row (close u))) refl (All-head (Contains all) u us among) (All-head (λ u. 0 < length u) u us some)
      (rows_full (row ++ u) us (All-tail (Contains all) u us among) (All-tail (λ u. 0 < length u) u us some)) (rows_full u us (All-tail (Contains all) u us among) (All-tail (λ u. 0 < length u) u us some))

pub line_full : (width : ℕ) (line : List ℕ) → AreFull width (clusters line) (line_rows width line)
unfolding line_rows
line_full width line = by (fits width line) refl
  where
    by : (b : Bool) → fits width line ≡ b → AreFull width (clusters line) (if b then line ∷ [] else rows width [] (map close (clusters line)))
    by true e = tt
    by false e = rows_full width (clusters line) [] (clusters line) (contains_each (clusters line)) (clusters_nonempty line)
