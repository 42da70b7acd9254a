-- What holds of rows, whatever they are made of.
use Rattle.std.proofs.Common.{◌≡◌, ◌⊎◌, inl, inr, ℕ, nat_le, Bool, true, false, if◌then◌else◌, List, [], ◌∷◌, ◌++◌, map, get_or, refl, sym, ap, ◌∙◌, append_assoc, append-nil}
use Rattle.std.specs.List.{All, Contains, concat}
use Rattle.std.specs.Str.{IsUtf8}
use Rattle.std.proofs.lemmas.List.Elements.{All-nil, All-cons, All-head, All-tail}
use Rattle.std.proofs.lemmas.List.{get_or_default}
use Rattle.std.proofs.lemmas.Str.{chars-nil}
use Rattle.unicode_width.specs.Width.{str_width}
use Rattle.std.proofs.Math.Dec.{leb-zero}
use Rattle.tabled_width.specs.Texts.{fits}
use Rattle.tabled_width.specs.Clusters.{clusters}
use Rattle.tabled_width.specs.Rows.{close, joined, before, rows, line_rows, Chunk}
use Rattle.tabled_width.specs.CutOff.{beginning, suffix_shown, cut_off}
use Rattle.tabled_width.proofs.ClusterLemmas.{concat_clusters}
use Rattle.tabled_width.proofs.Filling.{step_fits, step_full, step_end, line_long}

-- ---- nothing is lost

concat_before : (row : List ℕ) (rs : List (List ℕ)) → concat (before row rs) ≡ row ++ concat rs
concat_before [] rs = refl
concat_before (b ∷ bs) rs = refl

pub concat_rows : (width : ℕ) (row : List ℕ) (us : List (List ℕ)) → concat (rows width row (map close us)) ≡ row ++ concat us
concat_rows width row [] = ap concat (step_end width row)
concat_rows width row (u ∷ us) = by (fits width (joined row (close u))) refl (λ r. concat_rows width r us)
  where
    by : (b : Bool) → fits width (joined row (close u)) ≡ b → ((r : List ℕ) → concat (rows width r (map close us)) ≡ r ++ concat us) → concat (rows width row (map close (u ∷ us))) ≡ row ++ (u ++ concat us)
    by true e rest = ap concat (step_fits width row (close u) (map close us) e) ∙ rest (row ++ u) ∙ append_assoc row u (concat us)
    by false e rest =
        ap concat (step_full width row (close u) (map close us) e) ∙ concat_before row (rows width u (map close us))
        ∙ ap (λ bs. row ++ bs) (rest u)

pub concat_line : (width : ℕ) (line : List ℕ) → IsUtf8 line → concat (line_rows width line) ≡ line
unfolding line_rows
concat_line width line text = by (fits width line) refl
  where
    by : (b : Bool) → fits width line ≡ b → concat (line_rows width line) ≡ line
    by true e = ap (λ b. concat (if b then line ∷ [] else rows width [] (map close (clusters line)))) e ∙ append-nil line
    by false e = ap concat (line_long width line e) ∙ concat_rows width [] (clusters line) ∙ concat_clusters line text

-- ---- each row fits, or is one cluster

abbrev pub Stands : ℕ → (List ℕ → Type 0) → List ℕ → Type 0
Stands width Alone row = (fits width row ≡ true) ⊎ Alone row

pub nothing_fits : (width : ℕ) → fits width [] ≡ true
unfolding str_width
nothing_fits width = ap (λ cs. nat_le (str_width false cs) width) chars-nil ∙ leb-zero width

-- what a part has
abbrev pub PartStands : ℕ → (List ℕ → Type 0) → Chunk → Type 0
PartStands width Alone part = Stands width Alone part.text

module _ (width : ℕ) (Alone : List ℕ → Type 0) where
  before_stands : (row : List ℕ) (rs : List (List ℕ)) → Stands width Alone row → All (Stands width Alone) rs → All (Stands width Alone) (before row rs)
  before_stands [] rs here all = all
  before_stands (b ∷ bs) rs here all = All-cons (Stands width Alone) (b ∷ bs) rs here all

  pub parts_stand : (row : List ℕ) (ps : List Chunk) → Stands width Alone row → All (PartStands width Alone) ps → All (Stands width Alone) (rows width row ps)
  unfolding rows
  parts_stand row [] here all = All-cons (Stands width Alone) row [] here (All-nil (Stands width Alone))
  parts_stand row (p ∷ ps) here all = by (fits width (joined row p)) refl (λ r there. parts_stand r ps there (All-tail (PartStands width Alone) p ps all))
    where
      by : (b : Bool) → fits width (joined row p) ≡ b → ((r : List ℕ) → Stands width Alone r → All (Stands width Alone) (rows width r ps)) → All (Stands width Alone) (if b then rows width (joined row p) ps else before row (rows width p.text ps))
      by true e rest = rest (joined row p) (inl e)
      by false e rest = before_stands row (rows width p.text ps) here (rest p.text (All-head (PartStands width Alone) p ps all))

  pub close_stand : (us : List (List ℕ)) → All Alone us → All (PartStands width Alone) (map close us)
  close_stand [] all = All-nil (PartStands width Alone)
  close_stand (u ∷ us) all = All-cons (PartStands width Alone) (close u) (map close us) (inr (All-head Alone u us all)) (close_stand us (All-tail Alone u us all))

pub contains_each : (xs : List (List ℕ)) → All (Contains xs) xs
contains_each xs k d within = (k, within, get_or_default xs k (get_or xs k d) d within)

pub line_stands : (width : ℕ) (line : List ℕ) → All (Stands width (Contains (clusters line))) (line_rows width line)
unfolding line_rows
line_stands width line = by (fits width line) refl
  where
    by : (b : Bool) → fits width line ≡ b → All (Stands width (Contains (clusters line))) (if b then line ∷ [] else rows width [] (map close (clusters line)))
    by true e = All-cons (Stands width (Contains (clusters line))) line [] (inl e) (All-nil (Stands width (Contains (clusters line))))
    by false e = parts_stand width (Contains (clusters line)) [] (map close (clusters line)) (inl (nothing_fits width)) (close_stand width (Contains (clusters line)) (clusters line) (contains_each (clusters line)))

-- ---- a line that is cut off fits

pub beginning_fits : (width : ℕ) (suffix taken : List ℕ) (us : List (List ℕ)) → fits width (taken ++ suffix) ≡ true → fits width (beginning width suffix taken us ++ suffix) ≡ true
unfolding beginning
beginning_fits width suffix taken [] here = here
beginning_fits width suffix taken (u ∷ us) here = by (fits width ((taken ++ u) ++ suffix)) refl (beginning_fits width suffix (taken ++ u) us)
  where
    by : (b : Bool) → fits width ((taken ++ u) ++ suffix) ≡ b → (fits width ((taken ++ u) ++ suffix) ≡ true → fits width (beginning width suffix (taken ++ u) us ++ suffix) ≡ true) → fits width ((if b then beginning width suffix (taken ++ u) us else taken) ++ suffix) ≡ true
    by true e rest = rest e
    by false e rest = here

pub shown_fits : (width : ℕ) (suffix : List ℕ) → fits width (suffix_shown width suffix) ≡ true
shown_fits width suffix = by (fits width suffix) refl
  where
    by : (b : Bool) → fits width suffix ≡ b → fits width (if b then suffix else beginning width [] [] (clusters suffix)) ≡ true
    by true e = e
    by false e = ap (fits width) (sym (append-nil (beginning width [] [] (clusters suffix)))) ∙ beginning_fits width [] [] (clusters suffix) (nothing_fits width)

pub cut_off_fits : (width : ℕ) (shown line : List ℕ) → fits width shown ≡ true → fits width (cut_off width shown line) ≡ true
unfolding cut_off
cut_off_fits width shown line fit = by (fits width line) refl
  where
    by : (b : Bool) → fits width line ≡ b → fits width (if b then line else beginning width shown [] (clusters line) ++ shown) ≡ true
    by true e = e
    by false e = beginning_fits width shown [] (clusters line) fit
