-- Marks that are put into something, run by run, and the meter on the way.
use Rattle.std.proofs.Common.{◌≡◌, ℕ, ◌+◌, ◌<◌, Option, List, [], ◌∷◌, ◌++◌, length, map, replicate, encode_utf8_all, ap, sym, ◌∙◌, arith}
use Rattle.std.proofs.lemmas.List.{map-append, get_or-replicate, length-replicate}
use Rattle.std.proofs.lemmas.List.FromFn.{fill_by_all, get_or-map-range_with_len, map-range_with_len_more, length-map-range_with_len}
use Rattle.std.proofs.lemmas.Simd.{map-map}
use Rattle.tabled_border.specs.Texts.{Texts}
use Rattle.tabled_places.specs.declared.place.Place.{Place}
use Rattle.tabled_places.specs.declared.place.LineOf.{LineOf}
use Rattle.tabled_object.specs.Entities.{below}
use Rattle.tabled_printing.specs.Picture.{Look, Shown, character, text_shown, text_marked, mark_at}
use Rattle.tabled_printing.specs.LinePieces.{piece_size, edge_of, edge_places}
use Rattle.tabled_printing.specs.declared.mark.Run.{Run}
use Rattle.tabled_printing.specs.Marks.{mark_of, run_marks}
use Rattle.tabled_width.specs.Texts.{times}

-- a mark by its two parts
pub mark_by : (a b : Option ℕ) (x y : Option Texts) → a ≡ b → x ≡ y → ◌≡◌ {A = Shown} (a, x) (b, y)
mark_by a b x y p q = λ i. (p i, q i)

-- one mark more of a run, and marks that are alike
pub alike_more : {A : Type 0} (m : A) (n : ℕ) → map (λ _. m) (below (n + 1)) ≡ map (λ _. m) (below n) ++ m ∷ []
alike_more {A} m n = map-range_with_len_more {X = A} (λ _. m) 0 n n (omega arith)

pub place_more : {A B : Type 0} (f : A → B) (g : ℕ → A) (n : ℕ) → map f (map g (below (n + 1))) ≡ map f (map g (below n)) ++ f (g n) ∷ []
place_more f g n = ap (map f) (map-range_with_len_more g 0 n n (omega arith)) ∙ map-append f (map g (below n)) (g n ∷ [])

alike_all : {A B : Type 0} (f : A → B) (g : ℕ → A) (m : B) (n : ℕ) → ((k : ℕ) → k < n → f (g k) ≡ m) → map f (map g (below n)) ≡ map (λ _. m) (below n)
alike_all f g m n alike =
    map-map f g (below n)
    ∙ fill_by_all (λ _. m) (map (λ k. f (g k)) (below n)) n m (length-map-range_with_len (λ k. f (g k)) 0 n)
    (λ k within. get_or-map-range_with_len (λ k. f (g k)) 0 n k k m within (omega arith) ∙ alike k within)

-- the characters of a run
pub run_text : (run : Run) → text_marked (run_marks run) ≡ times run.count (character run.mark.shown)
run_text run =
    let shown : ℕ = character run.mark.shown in
    let replicated = fill_by_all (λ _. shown) (replicate run.count shown) run.count 32 (length-replicate run.count shown) (λ k within. get_or-replicate run.count k shown 32 within) in
    ap encode_utf8_all (ap (map character) (map-map (λ m. m.0) (λ _. mark_of run.mark) (below run.count)) ∙ map-map character (λ _. run.mark.shown) (below run.count) ∙ sym replicated)

-- how many marks a run has
pub run_count : (run : Run) → length (run_marks run) ≡ run.count
run_count run = length-map-range_with_len (λ _. mark_of run.mark) 0 run.count

-- an edge whose places all have one mark
pub alike_edge : (view : Look) (line : LineOf) (n size : ℕ) (mark : Shown) → size ≡ piece_size view.widths view.heights line n → ((k : ℕ) → k < piece_size view.widths view.heights line n → mark ≡ mark_at view (edge_of line n k))
    → map (λ _. mark) (below size) ≡ map (mark_at view) (edge_places view line n)
alike_edge view line n size mark sized alike =
    ap (λ count. map (λ _. mark) (below count)) sized
    ∙ sym (alike_all (mark_at view) (edge_of line n) mark (piece_size view.widths view.heights line n) (λ k within. sym (alike k within)))

-- the characters of marks are what the places show
pub characters_of_marks : (view : Look) (places : List Place) → text_marked (map (mark_at view) places) ≡ text_shown (map view.shown places)
characters_of_marks view places = ap text_shown (map-map (λ mark. mark.0) (mark_at view) places)
