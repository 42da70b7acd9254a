-- What is told of styles, one by one.
use Rattle.std.proofs.Common.{◌≡◌, ℕ, ◌+◌, ◌<◌, suc, List, [], ◌∷◌, ◌++◌, take, length, get_or, flat_map, sym, ap, ◌∙◌, append-nil, arith}
use Rattle.std.proofs.Math.Seq.{take-suc}
use Rattle.std.proofs.lemmas.List.Concat.{flat_map-append}
use Rattle.tabled_style.specs.declared.ready_style.ReadyStyle.{ReadyStyle}
use Rattle.tabled_viewing.specs.Itself.{style_told}

pub flat_map_more : {X A : Type 0} (f : X → List A) (xs : List X) (i : ℕ) (d : X) → i < length xs → flat_map f (take (i + 1) xs) ≡ flat_map f (take i xs) ++ f (get_or xs i d)
flat_map_more f xs i d inside =
    let next : i + 1 ≡ suc i = omega arith in
    ap (λ n. flat_map f (take n xs)) next ∙ ap (flat_map f) (take-suc xs i d inside)
    ∙ flat_map-append f (take i xs) (get_or xs i d ∷ []) ∙ ap (λ last. flat_map f (take i xs) ++ last) (append-nil (f (get_or xs i d)))

-- a style more is told after those before it
pub told_more : (styles : List ReadyStyle) (i : ℕ) (d : ReadyStyle) (old new : List ℕ) → i < length styles → new ≡ old ++ style_told (get_or styles i d)
    → old ≡ flat_map style_told (take i styles) → new ≡ flat_map style_told (take (i + 1) styles)
told_more styles i d old new inside told before = told ∙ ap (λ front. front ++ style_told (get_or styles i d)) before ∙ sym (flat_map_more style_told styles i d inside)
