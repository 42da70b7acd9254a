-- Lines painted one after another.
use Rattle.std.proofs.Common.{◌≡◌, ℕ, List, [], ◌∷◌, ◌++◌, map, refl, sym, ap, ◌∙◌, append_assoc, Bor}
use Rattle.std.specs.List.{join_with_byte}
use Rattle.std.proofs.lemmas.List.{map-append}
use Rattle.tabled_color.specs.Shade.{Shade}
use Rattle.tabled_color.specs.Painting.{painted}

-- what stands between these pieces and a next one
abbrev pub feed : {A : Type 0} → List A → List ℕ
feed [] = []
feed (_ ∷ _) = 10 ∷ []

pub feed-push : {A : Type 0} (xs : List A) (x : A) → feed (xs ++ x ∷ []) ≡ 10 ∷ []
feed-push [] x = refl
feed-push (_ ∷ _) x = refl

feed-map : {A B : Type 0} (f : A → B) (xs : List A) → feed (map f xs) ≡ feed xs
feed-map f [] = refl
feed-map f (_ ∷ _) = refl

join-push : (pieces : List (List ℕ)) (piece : List ℕ) → join_with_byte 10 (pieces ++ piece ∷ []) ≡ (join_with_byte 10 pieces ++ feed pieces) ++ piece
join-push [] piece = refl
join-push (first ∷ []) piece = sym (append_assoc first (10 ∷ []) piece)
join-push (first ∷ second ∷ pieces) piece =
    ap (λ joined. first ++ (10 ∷ joined)) (join-push (second ∷ pieces) piece)
    ∙ sym (append_assoc first ((10 ∷ join_with_byte 10 (second ∷ pieces)) ++ (10 ∷ [])) piece)
    ∙ ap (λ joined. joined ++ piece) (sym (append_assoc first (10 ∷ join_with_byte 10 (second ∷ pieces)) (10 ∷ [])))

-- the lines that were given so far, painted
abbrev pub painted_so_far : Shade → List (Bor (List ℕ)) → List ℕ
painted_so_far shade lines = join_with_byte 10 (map (painted shade) (map (λ line. line.now) lines))

pub painted-push : (shade : Shade) (lines : List (Bor (List ℕ))) (line : Bor (List ℕ)) → painted_so_far shade (lines ++ line ∷ []) ≡ (painted_so_far shade lines ++ feed lines) ++ painted shade line.now
painted-push shade lines line =
    ap (join_with_byte 10) (ap (map (painted shade)) (map-append (λ l. l.now) lines (line ∷ [])) ∙ map-append (painted shade) (map (λ l. l.now) lines) (line.now ∷ []))
    ∙ join-push (map (painted shade) (map (λ l. l.now) lines)) (painted shade line.now)
    ∙ ap (λ between. (painted_so_far shade lines ++ between) ++ painted shade line.now) (feed-map (painted shade) (map (λ l. l.now) lines) ∙ feed-map (λ l. l.now) lines)
