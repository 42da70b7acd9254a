-- The writes of a character at edges.
use Rattle.std.proofs.Common.{◌≡◌, Bool, true, false, cond, List, [], ◌∷◌, ◌++◌, map, ap, sym, ◌∙◌, append_assoc, filter}
use Rattle.tabled_object.specs.declared.position.Position.{Position}
use Rattle.tabled_places.specs.declared.event.Event.{Event}
use Rattle.tabled_places.specs.declared.writes.Write.{Write}
use Rattle.tabled_places.specs.Writes.{writes_made}
use Rattle.tabled_places.proofs.EntityBorders.{writes_made-append}

module _ {T : Type 0} (test : Position → Bool) (made : Position → Event T) where
  -- a position that counts, and then the others
  counted : (pos : Position) (rest : List Position) → test pos ≡ true → map made (filter test (pos ∷ rest)) ≡ made pos ∷ map made (filter test rest)
  counted pos rest h = ap (λ b. map made (cond b (pos ∷ filter test rest) (filter test rest))) h

  -- one more write, and what is left to be written
  pub one_more : (all ws : List (Write T)) (entry : Write T) (events : List (Event T)) (cells rest : List Position) (pos : Position)
      → all ≡ ws ++ entry ∷ [] → writes_made (entry ∷ []) ≡ made pos ∷ [] → cells ≡ pos ∷ rest → test pos ≡ true
      → writes_made ws ++ map made (filter test cells) ≡ events → writes_made all ++ map made (filter test rest) ≡ events
  one_more all ws entry events cells rest pos pushed one next inside so_far =
      ap (λ es. writes_made es ++ map made (filter test rest)) pushed
      ∙ ap (λ es. es ++ map made (filter test rest)) (writes_made-append ws (entry ∷ []) ∙ ap (λ es. writes_made ws ++ es) one)
      ∙ append_assoc (writes_made ws) (made pos ∷ []) (map made (filter test rest))
      ∙ ap (λ es. writes_made ws ++ es) (sym (counted pos rest inside) ∙ ap (λ ps. map made (filter test ps)) (sym next))
      ∙ so_far

  -- a position that is passed over
  pub passed : (ws : List (Write T)) (events : List (Event T)) (cells rest : List Position) (pos : Position) → cells ≡ pos ∷ rest → test pos ≡ false
      → writes_made ws ++ map made (filter test cells) ≡ events → writes_made ws ++ map made (filter test rest) ≡ events
  passed ws events cells rest pos next outside so_far =
      ap (λ es. writes_made ws ++ es) (sym (ap (λ b. map made (cond b (pos ∷ filter test rest) (filter test rest))) outside) ∙ ap (λ ps. map made (filter test ps)) (sym next))
      ∙ so_far
