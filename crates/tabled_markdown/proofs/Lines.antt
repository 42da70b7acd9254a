-- What is put for rows are the lines of a table.
use Rattle.std.proofs.Common.{◌≡◌, ℕ, ◌+◌, List, [], ◌∷◌, ◌++◌, map, append_assoc, append-nil, zero-add, length, arith, sym, ap, ◌∙◌}
use Rattle.std.specs.List.{flat_map, join_with_byte, range_with_len}
use Rattle.std.proofs.lemmas.List.{flat_map_more, map-append}
use Rattle.std.proofs.lemmas.List.Folds.{flat_map-map}
use Rattle.std.proofs.lemmas.List.FromFn.{map-range_with_len_more}
use Rattle.tabled_markdown.specs.declared.table.Side.{Side}
use Rattle.tabled_markdown.specs.Table.{in_cell, markdown, row_line, side_line, table_lines}

-- so many cells were put, and one more is
pub cells_more : {X : Type 0} (source : X → List ℕ) (f : ℕ → X) (start old new : List ℕ) (n : ℕ) → new ≡ old ++ in_cell (source (f n))
    → old ≡ start ++ flat_map in_cell (map source (map f (range_with_len 0 n))) → new ≡ start ++ flat_map in_cell (map source (map f (range_with_len 0 (n + 1))))
cells_more source f start old new n put before =
    put ∙ ap (λ bs. bs ++ in_cell (source (f n))) before ∙ flat_map_more in_cell start (map source (map f (range_with_len 0 n))) (source (f n))
    ∙ ap (λ sources. start ++ flat_map in_cell sources) (sym (ap (map source) (map-range_with_len_more f 0 n n (zero-add n)) ∙ map-append source (map f (range_with_len 0 n)) (f n ∷ [])))

joined : (first : List ℕ) (more : List (List ℕ)) → join_with_byte 10 (first ∷ more) ≡ first ++ flat_map (λ line. 10 ∷ line) more
joined first [] = sym (append-nil first)
joined first (next ∷ more) = ap (λ bs. first ++ 10 ∷ bs) (joined next more)

-- the lines were put one after the other
pub table_put : {X : Type 0} (texts : X → List (List ℕ)) (count : ℕ) (sides : List Side) (rows : List X) (first : X) (others : List X) (cells : List (List ℕ)) (old headed ended sided new : List ℕ) → rows ≡ first ∷ others → cells ≡ texts first
    → headed ≡ old ++ row_line count cells → ended ≡ headed ++ 10 ∷ [] → sided ≡ ended ++ side_line count sides → new ≡ sided ++ flat_map (λ x. 10 ∷ row_line count (texts x)) others
    → new ≡ old ++ markdown count sides (map texts rows)
unfolding markdown
table_put texts count sides rows first others cells old headed ended sided new are head_is h e s n =
    let head = row_line count (texts first) in
    let side = side_line count sides in
    let rest = flat_map (λ x. 10 ∷ row_line count (texts x)) others in
    let lines : flat_map (λ line. 10 ∷ line) (map (row_line count) (map texts others)) ≡ rest =
    flat_map-map (λ line. 10 ∷ line) (row_line count) (map texts others) ∙ flat_map-map (λ row. 10 ∷ row_line count row) texts others in
    n ∙ ap (λ bs. bs ++ rest) (s ∙ ap (λ bs. bs ++ side) (e ∙ ap (λ bs. bs ++ 10 ∷ []) (h ∙ ap (λ row. old ++ row_line count row) head_is)))
    ∙ append_assoc ((old ++ head) ++ 10 ∷ []) side rest ∙ append_assoc (old ++ head) (10 ∷ []) (side ++ rest) ∙ append_assoc old head (10 ∷ (side ++ rest))
    ∙ ap (λ bs. old ++ (head ++ 10 ∷ (side ++ bs))) (sym lines)
    ∙ ap (λ bs. old ++ bs) (sym (joined head (side ∷ map (row_line count) (map texts others))))
    ∙ ap (λ each. old ++ join_with_byte 10 (table_lines count sides (map texts each))) (sym are)

pub none_put : {X : Type 0} (texts : X → List (List ℕ)) (count : ℕ) (sides : List Side) (rows : List X) (old : List ℕ) → length rows ≡ 0 → old ≡ old ++ markdown count sides (map texts rows)
unfolding markdown
none_put texts count sides [] old e = sym (append-nil old)
none_put texts count sides (row ∷ rows) old e = absurd (omega arith)
