-- Places passed by a pen, in a row.
use Rattle.std.proofs.Common.{◌≡◌, ℕ, zero, suc, ◌+◌, ◌-◌, ◌≤◌, ◌<◌, min, List, [], ◌∷◌, ◌++◌, length, map, drop, ap, sym, subst, ◌∙◌, append_assoc, arith, length-append}
use Rattle.std.specs.List.{zip, range_with_len}
use Rattle.std.proofs.lemmas.List.{drop-drop, drop_all, append-nil, map-append, nil_from_length}
use Rattle.std.proofs.lemmas.List.FromFn.{length-map-range_with_len, map-range_with_len_more}
use Rattle.tabled_object.specs.Entities.{below}
use Rattle.tabled_places.specs.declared.place.Place.{Place}
use Rattle.tabled_options.specs.declared.pen.Pen.{Pen}
use Rattle.tabled_options.specs.Passing.{Passed}
use Rattle.tabled_options.proofs.Zipping.{zip-nil, laid_in_two}

-- no place
pub Passed-none : (pen : Pen) → Passed [] pen pen
Passed-none pen = record {
  passed_over = omega arith;
  left = let none : 0 ≡ 0 - pen.skip = omega arith in ap (λ n. drop n pen.letters.now) none;
  laid = sym (append-nil pen.taken.items) ∙ ap (λ more. pen.taken.items ++ more) (sym (ap (λ places. zip places pen.letters.now) (drop_all pen.skip [] (omega arith))));
}

-- some places, and then others
pub Passed-append : (ps qs : List Place) (old between new : Pen) → Passed ps old between → Passed qs between new → Passed (ps ++ qs) old new
Passed-append ps qs old between new first second =
    let p : ℕ = length ps in
    let q : ℕ = length qs in
    let all : length (ps ++ qs) ≡ p + q = length-append ps qs in
    record {
      passed_over = second.passed_over ∙ ap (λ n. n - q) first.passed_over ∙ (omega (arith, all));
      left = second.left ∙ (λ i. drop (q - first.passed_over i) (first.left i)) ∙ drop-drop (q - (old.skip - p)) (p - old.skip) old.letters.now
          ∙ ap (λ n. drop n old.letters.now) (omega (arith, all));
      laid = second.laid ∙ (λ i. first.laid i ++ zip (drop (first.passed_over i) qs) (first.left i))
          ∙ append_assoc old.taken.items (zip (drop old.skip ps) old.letters.now) (zip (drop (old.skip - p) qs) (drop (p - old.skip) old.letters.now))
          ∙ ap (λ more. old.taken.items ++ more) (sym (laid_in_two old.skip ps qs old.letters.now));
    }

-- a pen without letters lays nothing on what is left
pub Passed-empty : (places : List Place) (pen : Pen) → pen.skip ≡ 0 → pen.letters.now ≡ [] → Passed places pen pen
Passed-empty places pen here empty = record {
  passed_over = let less : pen.skip ≡ pen.skip - length places = omega arith in less;
  left = empty ∙ sym (drop_all (length places - pen.skip) [] (omega arith)) ∙ ap (λ letters. drop (length places - pen.skip) letters) (sym empty);
  laid = sym (append-nil pen.taken.items) ∙ ap (λ more. pen.taken.items ++ more) (sym (ap (λ letters. zip (drop pen.skip places) letters) empty ∙ zip-nil (drop pen.skip places)));
}

-- the places of an edge so far, and one more
pub edge_more : (edge : ℕ → Place) (at : ℕ) (old between new : Pen) → Passed (map edge (below at)) old between → Passed (edge at ∷ []) between new → Passed (map edge (below (at + 1))) old new
edge_more edge at old between new first one =
    subst (λ places. Passed places old new) (sym (map-range_with_len_more edge 0 at at (omega arith))) (Passed-append (map edge (below at)) (edge at ∷ []) old between new first one)

-- those that were passed over at first
pub edge_begun : (edge : ℕ → Place) (count : ℕ) → length (map edge (below count)) ≡ count
edge_begun edge count = length-map-range_with_len edge 0 count

-- all of them
pub edge_done : (edge : ℕ → Place) (at size asked : ℕ) (old now : Pen) → at ≡ size → size ≡ asked → Passed (map edge (below at)) old now → Passed (map edge (below asked)) old now
edge_done edge at size asked old now last is passed = subst (λ n. Passed (map edge (below n)) old now) (last ∙ is) passed

range_in_two : (a n m : ℕ) → range_with_len a (n + m) ≡ range_with_len a n ++ range_with_len (a + n) m
range_in_two a zero m =
    let none : 0 + m ≡ m = omega arith in
    let here : a ≡ a + 0 = omega arith in ap (λ k. range_with_len a k) none ∙ ap (λ b. range_with_len b m) here
range_in_two a (suc n) m =
    let more : suc n + m ≡ suc (n + m) = omega arith in
    let there : a + 1 + n ≡ a + suc n = omega arith in
    ap (λ k. range_with_len a k) more ∙ ap (λ rest. a ∷ rest) (range_in_two (a + 1) n m ∙ ap (λ b. range_with_len (a + 1) n ++ range_with_len b m) there)

edge_in_two : (edge : ℕ → Place) (at size : ℕ) → at ≤ size → map edge (below size) ≡ map edge (below at) ++ map edge (range_with_len at (size - at))
edge_in_two edge at size within =
    let whole : size ≡ at + (size - at) = omega arith in
    let there : 0 + at ≡ at = omega arith in
    ap (λ n. map edge (below n)) whole ∙ ap (map edge) (range_in_two 0 at (size - at) ∙ ap (λ b. below at ++ range_with_len b (size - at)) there)
    ∙ map-append edge (below at) (range_with_len at (size - at))

-- and all of them where no letter was left
pub edge_empty : (edge : ℕ → Place) (at size passed asked : ℕ) (old now : Pen) → passed ≡ min old.skip size → passed ≤ at → at < size → size ≡ asked → length now.letters.now ≡ 0 → Passed (map edge (below at)) old now → Passed (map edge (below asked)) old now
edge_empty edge at size passed asked old now begun from within is empty so_far =
    let long : length (map edge (below at)) ≡ at = edge_begun edge at in
    let skip : now.skip ≡ old.skip - length (map edge (below at)) = so_far.passed_over in
    let here : now.skip ≡ 0 = omega arith in
    subst (λ n. Passed (map edge (below n)) old now) is
    (subst (λ places. Passed places old now) (sym (edge_in_two edge at size (omega arith)))
    (Passed-append (map edge (below at)) (map edge (range_with_len at (size - at))) old now now so_far
    (Passed-empty (map edge (range_with_len at (size - at))) now here (nil_from_length now.letters.now empty))))
