-- What is shown at a place: the cell above, that at the left, or its own.
use Rattle.std.proofs.Common.{◌≡◌, ℕ, zero, suc, ◌+◌, ◌<◌, ◌≤◌, ◌==◌, ◌&&◌, Bool, true, false, nat_lt, if◌then◌else◌, Option, Some, None, inl, inr, refl, sym, ap, subst, ◌∙◌, arith}
use Rattle.std.proofs.lemmas.Bool.{cases_eq}
use Rattle.std.proofs.lemmas.Bool.Decides.{nat_tests}
use Rattle.tabled_rooms.specs.Hosts.{Cell, Counts, from_above, from_left, shown_from, shown_left, shown_above, host, Takes, IsAlone}

module _ (columns rows : Counts) where
  -- what stands above a place of a row but the first, and at the left of one in a column but the first
  pub above_is : (r c : ℕ) → shown_above columns rows (suc r) c ≡ Some (host columns rows r c)
  unfolding shown_above host
  above_is r c = refl

  pub left_is : (r c : ℕ) → shown_left columns rows (shown_above columns rows r) r (suc c) ≡ Some (host columns rows r c)
  unfolding shown_left host
  left_is r c = refl

  pub none_above_is : (c : ℕ) → shown_above columns rows zero c ≡ None
  unfolding shown_above
  none_above_is c = refl

  pub none_left_is : (r : ℕ) → shown_left columns rows (shown_above columns rows r) r zero ≡ None
  unfolding shown_left
  none_left_is r = refl

  pub host_is : (r c : ℕ) (up left : Option Cell) → shown_above columns rows r c ≡ up → shown_left columns rows (shown_above columns rows r) r c ≡ left → host columns rows r c ≡ shown_from columns rows up left r c
  unfolding host
  host_is r c up left is_up is_left = λ i. shown_from columns rows (is_up i) (is_left i) r c

  -- the four kinds of places
  pub host_first : host columns rows zero zero ≡ (zero, zero)
  host_first = host_is zero zero None None (none_above_is zero) (none_left_is zero)

  pub host_top : (c : ℕ) → host columns rows zero (suc c) ≡ from_left columns rows (Some (host columns rows zero c)) zero (suc c)
  host_top c = host_is zero (suc c) None (Some (host columns rows zero c)) (none_above_is (suc c)) (left_is zero c)

  pub host_side : (r : ℕ) → host columns rows (suc r) zero ≡ from_above columns rows (Some (host columns rows r zero)) (suc r) (suc r, zero)
  host_side r = host_is (suc r) zero (Some (host columns rows r zero)) None (above_is r zero) (none_left_is (suc r))

  pub host_inside : (r c : ℕ) → host columns rows (suc r) (suc c) ≡ from_above columns rows (Some (host columns rows r (suc c))) (suc r) (from_left columns rows (Some (host columns rows (suc r) c)) (suc r) (suc c))
  host_inside r c = host_is (suc r) (suc c) (Some (host columns rows r (suc c))) (Some (host columns rows (suc r) c)) (above_is r (suc c)) (left_is (suc r) c)

  -- a fact of what is shown, by how it comes to be shown there
  module _ (P : ℕ → ℕ → Cell → Type 0)
      (own : (r c : ℕ) → host columns rows r c ≡ (r, c) → P r c (r, c))
      (down : (r c : ℕ) (shown : Cell) → host columns rows r c ≡ shown → P r c shown → suc r < shown.0 + rows shown.0 shown.1 → P (suc r) c shown)
      (right : (r c : ℕ) (shown : Cell) → host columns rows r c ≡ shown → P r c shown → shown.0 ≡ r → suc c < shown.1 + columns shown.0 shown.1 → P r (suc c) shown) where
    by_left : (r c : ℕ) (left : Cell) → host columns rows r c ≡ left → P r c left → host columns rows r (suc c) ≡ from_left columns rows (Some left) r (suc c)
        → P r (suc c) (from_left columns rows (Some left) r (suc c))
    by_left r c left was before is = choose (left.0 == r) (nat_lt (suc c) (left.1 + columns left.0 left.1)) refl refl
      where
        choose : (same reached : Bool) → (left.0 == r) ≡ same → nat_lt (suc c) (left.1 + columns left.0 left.1) ≡ reached → P r (suc c) (from_left columns rows (Some left) r (suc c))
        choose true true a b =
            let there : left.0 ≡ r = grind (arith, nat_tests) in
            let within : suc c < left.1 + columns left.0 left.1 = grind (arith, nat_tests) in
            subst (P r (suc c)) (λ i. if sym a i && sym b i then left else (r, suc c)) (right r c left was before there within)
        choose true false a b =
            let e : from_left columns rows (Some left) r (suc c) ≡ (r, suc c) = (λ i. if a i && b i then left else (r, suc c)) in
            subst (P r (suc c)) (sym e) (own r (suc c) (is ∙ e))
        choose false true a b =
            let e : from_left columns rows (Some left) r (suc c) ≡ (r, suc c) = (λ i. if a i && b i then left else (r, suc c)) in
            subst (P r (suc c)) (sym e) (own r (suc c) (is ∙ e))
        choose false false a b =
            let e : from_left columns rows (Some left) r (suc c) ≡ (r, suc c) = (λ i. if a i && b i then left else (r, suc c)) in
            subst (P r (suc c)) (sym e) (own r (suc c) (is ∙ e))

    by_above : (r c : ℕ) (up other : Cell) → host columns rows r c ≡ up → P r c up → (from_above columns rows (Some up) (suc r) other ≡ other → P (suc r) c other)
        → P (suc r) c (from_above columns rows (Some up) (suc r) other)
    by_above r c up other was before else_other = choose (nat_lt (suc r) (up.0 + rows up.0 up.1)) refl
      where
        choose : (reached : Bool) → nat_lt (suc r) (up.0 + rows up.0 up.1) ≡ reached → P (suc r) c (from_above columns rows (Some up) (suc r) other)
        choose true a =
            let within : suc r < up.0 + rows up.0 up.1 = grind (arith, nat_tests) in
            subst (P (suc r) c) (λ i. if sym a i then up else other) (down r c up was before within)
        choose false a =
            let e : from_above columns rows (Some up) (suc r) other ≡ other = (λ i. if a i then up else other) in
            subst (P (suc r) c) (sym e) (else_other e)

    first_row : (c : ℕ) → P zero c (host columns rows zero c)
    first_row zero = subst (P zero zero) (sym host_first) (own zero zero host_first)
    first_row (suc c) = subst (P zero (suc c)) (sym (host_top c)) (by_left zero c (host columns rows zero c) refl (first_row c) (host_top c))

    next_row : (r : ℕ) → ((c : ℕ) → P r c (host columns rows r c)) → (c : ℕ) → P (suc r) c (host columns rows (suc r) c)
    next_row r above zero =
        subst (P (suc r) zero) (sym (host_side r)) (by_above r zero (host columns rows r zero) (suc r, zero) refl (above zero) (λ e. own (suc r) zero (host_side r ∙ e)))
    next_row r above (suc c) =
        let left = host columns rows (suc r) c in
        subst (P (suc r) (suc c)) (sym (host_inside r c))
        (by_above r (suc c) (host columns rows r (suc c)) (from_left columns rows (Some left) (suc r) (suc c)) refl (above (suc c))
        (λ e. by_left (suc r) c left refl (next_row r above c) (host_inside r c ∙ e)))

    pub each_host : (r c : ℕ) → P r c (host columns rows r c)
    each_host zero c = first_row c
    each_host (suc r) c = next_row r (each_host r) c

  -- with no spans each cell is shown at its own place
  pub alone : ((r c : ℕ) → columns r c ≤ 1) → ((r c : ℕ) → rows r c ≤ 1) → (r c : ℕ) → host columns rows r c ≡ (r, c)
  alone no_columns no_rows =
      each_host (λ r c shown. shown ≡ (r, c)) (λ r c _. refl)
      (λ r c shown _ is within. absurd (let a = ap (λ (s : Cell). s.0) is in omega (arith, no_rows shown.0 shown.1)))
      (λ r c shown _ is _ within. absurd (let a = ap (λ (s : Cell). s.1) is in omega (arith, no_columns shown.0 shown.1)))

  -- what is shown takes the place
  pub takes : ((r c : ℕ) → 1 ≤ columns r c) → ((r c : ℕ) → 1 ≤ rows r c) → (r c : ℕ) → Takes columns rows (host columns rows r c) r c
  takes some_columns some_rows =
      each_host (λ r c shown. Takes columns rows shown r c)
      (λ r c _. record { from_row = omega arith; before_row = omega (arith, some_rows r c); from_column = omega arith; before_column = omega (arith, some_columns r c) })
      (λ r c shown _ before within. record { from_row = omega (arith, before.from_row); before_row = within; from_column = before.from_column; before_column = before.before_column })
      (λ r c shown _ before _ within. record { from_row = before.from_row; before_row = before.before_row; from_column = omega (arith, before.from_column); before_column = within })

  -- and is shown at its own place
  pub at_home : (r c : ℕ) → host columns rows (host columns rows r c).0 (host columns rows r c).1 ≡ host columns rows r c
  at_home = each_host (λ r c shown. host columns rows shown.0 shown.1 ≡ shown) (λ r c is. is) (λ r c shown _ is _. is) (λ r c shown _ is _ _. is)

  -- a cell over whose places no other spans
  module _ (some_columns : (r c : ℕ) → 1 ≤ columns r c) (some_rows : (r c : ℕ) → 1 ≤ rows r c) (cell : Cell) (is_alone : IsAlone columns rows cell) where
    same_cell : (r c : ℕ) → cell.0 ≡ r → cell.1 ≡ c → (r, c) ≡ cell
    same_cell r c is_row is_column = λ i. (sym is_row i, sym is_column i)

    left_case : (r c : ℕ) → Takes columns rows cell r (suc c) → cell.0 ≡ r → (Takes columns rows cell r c → host columns rows r c ≡ cell)
        → from_left columns rows (Some (host columns rows r c)) r (suc c) ≡ cell
    left_case r c there in_row before = elim (cases_eq cell.1 (suc c)) [
      | inl begins ↦ own begins (nat_lt (suc c) (left.1 + columns left.0 left.1)) refl
      | inr begun ↦
          let earlier : cell.1 ≤ c = omega (arith, there.from_column) in
          let is : left ≡ cell = before (record { from_row = there.from_row; before_row = there.before_row; from_column = earlier; before_column = omega (arith, there.before_column) }) in
          let same : (cell.0 == r) ≡ true = grind (arith, nat_tests) in
          let reached : nat_lt (suc c) (cell.1 + columns cell.0 cell.1) ≡ true = let w = there.before_column in grind (arith, nat_tests) in
          ap (λ l. from_left columns rows (Some l) r (suc c)) is ∙ (λ i. if same i && reached i then cell else (r, suc c))
    ]
      where
        left : Cell
        left = host columns rows r c

        never : (b d : Bool) → d ≡ false → b && d ≡ false
        never b d is = grind (arith, nat_tests)

        own : cell.1 ≡ suc c → (reached : Bool) → nat_lt (suc c) (left.1 + columns left.0 left.1) ≡ reached → from_left columns rows (Some left) r (suc c) ≡ cell
        own begins true a =
            let stands = takes some_columns some_rows r c in
            let within : suc c < left.1 + columns left.0 left.1 = grind (arith, nat_tests) in
            let too : Takes columns rows left r (suc c) = record { from_row = stands.from_row; before_row = stands.before_row; from_column = omega (arith, stands.from_column); before_column = within } in
            absurd (elim (is_alone left r (suc c) there too) [
              | inl is ↦ (let e = ap (λ (s : Cell). s.1) is in omega (arith, e, stands.from_column))
              | inr is ↦ (let e = ap (λ (s : Cell). s.1) is in omega (arith, e, stands.from_column))
            ])
        own begins false a = ap (λ b. if b then left else (r, suc c)) (never (left.0 == r) (nat_lt (suc c) (left.1 + columns left.0 left.1)) a) ∙ same_cell r (suc c) in_row begins

    up_case : (r c : ℕ) (other : Cell) → Takes columns rows cell (suc r) c → (Takes columns rows cell r c → host columns rows r c ≡ cell) → (cell.0 ≡ suc r → other ≡ cell)
        → from_above columns rows (Some (host columns rows r c)) (suc r) other ≡ cell
    up_case r c other there before begun = elim (cases_eq cell.0 (suc r)) [
      | inl begins ↦ own begins (nat_lt (suc r) (up.0 + rows up.0 up.1)) refl
      | inr not_yet ↦
          let earlier : cell.0 ≤ r = omega (arith, there.from_row) in
          let is : up ≡ cell = before (record { from_row = earlier; before_row = omega (arith, there.before_row); from_column = there.from_column; before_column = there.before_column }) in
          let reached : nat_lt (suc r) (cell.0 + rows cell.0 cell.1) ≡ true = let w = there.before_row in grind (arith, nat_tests) in
          ap (λ u. from_above columns rows (Some u) (suc r) other) is ∙ (λ i. if reached i then cell else other)
    ]
      where
        up : Cell
        up = host columns rows r c

        own : cell.0 ≡ suc r → (reached : Bool) → nat_lt (suc r) (up.0 + rows up.0 up.1) ≡ reached → from_above columns rows (Some up) (suc r) other ≡ cell
        own begins true a =
            let stands = takes some_columns some_rows r c in
            let within : suc r < up.0 + rows up.0 up.1 = grind (arith, nat_tests) in
            let too : Takes columns rows up (suc r) c = record { from_row = omega (arith, stands.from_row); before_row = within; from_column = stands.from_column; before_column = stands.before_column } in
            absurd (elim (is_alone up (suc r) c there too) [
              | inl is ↦ (let e = ap (λ (s : Cell). s.0) is in omega (arith, e, stands.from_row))
              | inr is ↦ (let e = ap (λ (s : Cell). s.0) is in omega (arith, e, stands.from_row))
            ])
        own begins false a = ap (λ b. if b then up else other) a ∙ begun begins

    whole_top : (c : ℕ) → Takes columns rows cell zero c → host columns rows zero c ≡ cell
    whole_top zero there = host_first ∙ same_cell zero zero (omega (arith, there.from_row)) (omega (arith, there.from_column))
    whole_top (suc c) there = host_top c ∙ left_case zero c there (omega (arith, there.from_row)) (whole_top c)

    whole_next : (r : ℕ) → ((c : ℕ) → Takes columns rows cell r c → host columns rows r c ≡ cell) → (c : ℕ) → Takes columns rows cell (suc r) c → host columns rows (suc r) c ≡ cell
    whole_next r above zero there = host_side r ∙ up_case r zero (suc r, zero) there (above zero) (λ begins. same_cell (suc r) zero begins (omega (arith, there.from_column)))
    whole_next r above (suc c) there =
        host_inside r c
        ∙ up_case r (suc c) (from_left columns rows (Some (host columns rows (suc r) c)) (suc r) (suc c)) there (above (suc c)) (λ begins. left_case (suc r) c there begins (whole_next r above c))

    pub whole : (r c : ℕ) → Takes columns rows cell r c → host columns rows r c ≡ cell
    whole zero c = whole_top c
    whole (suc r) c = whole_next r (whole r) c
