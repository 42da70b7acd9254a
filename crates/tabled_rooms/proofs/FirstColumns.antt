-- What is shown over several rows stands in the same columns of each.
use Rattle.std.proofs.Common.{◌≡◌, ℕ, zero, suc, ◌+◌, ◌<◌, ◌≤◌, ◌==◌, ◌&&◌, Bool, true, false, nat_lt, if◌then◌else◌, Some, refl, sym, ap, ◌∙◌, arith}
use Rattle.std.proofs.lemmas.Bool.Decides.{nat_tests}
use Rattle.tabled_rooms.specs.Hosts.{Cell, Counts, from_above, from_left, host}
use Rattle.tabled_rooms.specs.Rooms.{one_if, width_part, room_width}
use Rattle.tabled_rooms.proofs.LawLemmas.{host_side, host_inside, takes, at_home}
use Rattle.tabled_rooms.proofs.OpenLemmas.{top_row, above_open}
use Rattle.tabled_rooms.proofs.SizeLemmas.{sum_same}

-- two tests that come out alike
pub same_test : (a b : Bool) → (a ≡ true → b ≡ true) → (b ≡ true → a ≡ true) → a ≡ b
same_test true b there back = sym (there refl)
same_test false true there back = back refl
same_test false false there back = refl

module _ (columns rows : Counts) (some_columns : (r c : ℕ) → 1 ≤ columns r c) (some_rows : (r c : ℕ) → 1 ≤ rows r c) where
  abbrev at : ℕ → ℕ → Cell
  at = host columns rows

  reach : (shown other : Cell) (r : ℕ) → suc r < shown.0 + rows shown.0 shown.1 → from_above columns rows (Some shown) (suc r) other ≡ shown
  reach shown other r within =
      let reached : nat_lt (suc r) (shown.0 + rows shown.0 shown.1) ≡ true = grind (arith, nat_tests) in
      ap (λ b. if b then shown else other) reached

  -- what reaches down is shown in the next row too
  pub stays : (r c : ℕ) (shown : Cell) → at r c ≡ shown → suc r < shown.0 + rows shown.0 shown.1 → at (suc r) c ≡ shown
  stays r zero shown is within = host_side columns rows r ∙ ap (λ up. from_above columns rows (Some up) (suc r) (suc r, zero)) is ∙ reach shown (suc r, zero) r within
  stays r (suc c) shown is within =
      let other : Cell = from_left columns rows (Some (at (suc r) c)) (suc r) (suc c) in
      host_inside columns rows r c ∙ ap (λ up. from_above columns rows (Some up) (suc r) other) is ∙ reach shown other r within

  home : (r c : ℕ) → (at r c).0 ≡ r → at r (at r c).1 ≡ at r c
  home r c own = ap (λ k. at k (at r c).1) (sym own) ∙ at_home columns rows r c

  -- it is shown in the first of its columns
  pub first_column : (r c : ℕ) → at r (at r c).1 ≡ at r c
  first_column zero c = home zero c (top_row columns rows c)
  first_column (suc r) c = by_row ((at (suc r) c).0 == suc r) refl (first_column r c)
    where
      by_row : (own : Bool) → ((at (suc r) c).0 == suc r) ≡ own → at r (at r c).1 ≡ at r c → at (suc r) (at (suc r) c).1 ≡ at (suc r) c
      by_row true e above = home (suc r) c (let there : (at (suc r) c).0 ≡ suc r = grind (arith, nat_tests) in there)
      by_row false e above =
          let up = above_open columns rows r c e in
          let before : at r (at (suc r) c).1 ≡ at (suc r) c = ap (λ (shown : Cell). at r shown.1) up ∙ above ∙ sym up in
          stays r (at (suc r) c).1 (at (suc r) c) before (takes columns rows some_columns some_rows (suc r) c).before_row

  pub not_after : (r c : ℕ) → (at r c).1 ≤ c
  not_after r c = (takes columns rows some_columns some_rows r c).from_column

  -- what is shown from a column on where that one is, is the same
  pub same_shown : (r c k : ℕ) → (at r c).1 ≡ c → (at r k).1 ≡ c → at r k ≡ at r c
  same_shown r c k own is = sym (first_column r k) ∙ ap (at r) is

  one_row : (r c k : ℕ) → (at (suc r) c).1 ≡ c → ((at (suc r) c).0 == suc r) ≡ false → ((at (suc r) k).1 == c) ≡ ((at r k).1 == c)
  one_row r c k own opens =
      let up : at (suc r) c ≡ at r c = above_open columns rows r c opens in
      same_test ((at (suc r) k).1 == c) ((at r k).1 == c) (λ is. down is up) (λ is. back is up)
    where
      down : ((at (suc r) k).1 == c) ≡ true → at (suc r) c ≡ at r c → ((at r k).1 == c) ≡ true
      down is up =
          let there : (at (suc r) k).1 ≡ c = grind (arith, nat_tests) in
          let same : at (suc r) k ≡ at (suc r) c = same_shown (suc r) c k own there in
          let open_too : ((at (suc r) k).0 == suc r) ≡ false = ap (λ (shown : Cell). shown.0 == suc r) same ∙ opens in
          ap (λ (shown : Cell). shown.1 == c) (sym (above_open columns rows r k open_too)) ∙ is

      back : ((at r k).1 == c) ≡ true → at (suc r) c ≡ at r c → ((at (suc r) k).1 == c) ≡ true
      back is up =
          let there : (at r k).1 ≡ c = grind (arith, nat_tests) in
          let own_above : (at r c).1 ≡ c = ap (λ (shown : Cell). shown.1) (sym up) ∙ own in
          let same : at r k ≡ at (suc r) c = same_shown r c k own_above there ∙ sym up in
          let within = (takes columns rows some_columns some_rows (suc r) c).before_row in
          ap (λ (shown : Cell). shown.1 == c) (stays r k (at (suc r) c) same within) ∙ (let yes : ((at (suc r) c).1 == c) ≡ true = grind (arith, nat_tests) in yes)

  -- in each of its rows, and in its first
  pub rows_alike : (r c k : ℕ) → (at r c).1 ≡ c → ((at r k).1 == c) ≡ ((at (at r c).0 k).1 == c)
  rows_alike zero c k own = ap (λ m. (at m k).1 == c) (sym (top_row columns rows c))
  rows_alike (suc r) c k own = by_row ((at (suc r) c).0 == suc r) refl (rows_alike r c k)
    where
      by_row : (begins : Bool) → ((at (suc r) c).0 == suc r) ≡ begins → ((at r c).1 ≡ c → ((at r k).1 == c) ≡ ((at (at r c).0 k).1 == c)) → ((at (suc r) k).1 == c) ≡ ((at (at (suc r) c).0 k).1 == c)
      by_row true e above = ap (λ m. (at m k).1 == c) (let there : suc r ≡ (at (suc r) c).0 = grind (arith, nat_tests) in there)
      by_row false e above =
          let up : at (suc r) c ≡ at r c = above_open columns rows r c e in
          one_row r c k own e ∙ above (ap (λ (shown : Cell). shown.1) (sym up) ∙ own) ∙ ap (λ (shown : Cell). (at shown.0 k).1 == c) (sym up)

  -- so its room is as wide in each of them
  pub room_alike : (widths : ℕ → ℕ) (vertical : ℕ → Bool) (n r c : ℕ) → (at r c).1 ≡ c
      → room_width widths vertical (at r) n c ≡ room_width widths vertical (at (at r c).0) n c
  unfolding room_width
  room_alike widths vertical n r c own =
      sum_same (width_part widths vertical (at r) c) (width_part widths vertical (at (at r c).0) c) n
      (λ k within. ap (λ (b : Bool). if b then widths k + one_if (nat_lt c k && vertical k) else 0) (rows_alike r c k own))
