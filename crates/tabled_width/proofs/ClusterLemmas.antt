-- How a cluster grows, character by character.
use Rattle.std.proofs.Common.{◌≡◌, ◌==◌, ℕ, ◌+◌, ◌-◌, ◌<◌, Bool, true, false, ◌||◌, ◌&&◌, if◌then◌else◌, List, [], ◌∷◌, ◌++◌, map, length, drop, take, slice_range, encode_utf8, encode_utf8_all, chars, refl, sym, ap, subst, ◌∙◌, arith, append_assoc, append-nil, length-append, take_at, drop_at}
use Rattle.std.specs.List.{All, concat}
use Rattle.std.specs.Str.{IsUtf8, IsCharBoundary}
use Rattle.std.proofs.lemmas.List.Elements.{All-nil, All-cons, All-head, All-tail}
use Rattle.std.proofs.lemmas.Str.{encodes-append, encodes-chars, length-le-encodes, IsCharBoundary-from_drop}
use Rattle.tabled_width.specs.Marks.{is_spacing_mark}
use Rattle.tabled_width.specs.Clusters.{takes_none, is_skin_tone, is_indicator, is_half_flag, ends_with_joiner, belongs, grouped, clusters_of, clusters, IsAfterCluster}

half_flag_after : (front : List ℕ) (last c : ℕ) → is_half_flag ((front ++ last ∷ []) ++ c ∷ []) ≡ false
half_flag_after [] last c = refl
half_flag_after (x ∷ []) last c = refl
half_flag_after (x ∷ y ∷ front) last c = refl

joiner_after : (front : List ℕ) (last : ℕ) → ends_with_joiner (front ++ last ∷ []) ≡ (last == 0x200D)
joiner_after [] last = refl
joiner_after (x ∷ []) last = refl
joiner_after (x ∷ y ∷ front) last = joiner_after (y ∷ front) last

-- whether a character belongs to a cluster, by the last character of the cluster
pub belongs_by : (front : List ℕ) (last : ℕ) (half : Bool) (c : ℕ) → half ≡ is_half_flag (front ++ last ∷ [])
    → (takes_none c || is_skin_tone c || (last == 0x200D) || (half && is_indicator c) || is_spacing_mark c) ≡ belongs (front ++ last ∷ []) c
unfolding belongs
belongs_by front last half c lone =
    ap (λ joiner. takes_none c || is_skin_tone c || joiner || (half && is_indicator c) || is_spacing_mark c) (sym (joiner_after front last))
    ∙ ap (λ flag. takes_none c || is_skin_tone c || ends_with_joiner (front ++ last ∷ []) || (flag && is_indicator c) || is_spacing_mark c) lone

grouped_more : (cluster : List ℕ) (c : ℕ) (cs : List ℕ) → belongs cluster c ≡ true → grouped cluster (c ∷ cs) ≡ grouped (cluster ++ c ∷ []) cs
unfolding grouped
grouped_more cluster c cs e = ap (λ b. if b then grouped (cluster ++ c ∷ []) cs else cluster ∷ grouped (c ∷ []) cs) e

grouped_next : (cluster : List ℕ) (c : ℕ) (cs : List ℕ) → belongs cluster c ≡ false → grouped cluster (c ∷ cs) ≡ cluster ∷ grouped (c ∷ []) cs
unfolding grouped
grouped_next cluster c cs e = ap (λ b. if b then grouped (cluster ++ c ∷ []) cs else cluster ∷ grouped (c ∷ []) cs) e

grouped_end : (cluster : List ℕ) → grouped cluster [] ≡ cluster ∷ []
unfolding grouped
grouped_end cluster = refl

-- a cluster so far: the characters `front`, and then `last`
pub record Begun (first : ℕ) (start rest : List ℕ) (last : ℕ) (half : Bool) : Type 0 where
  pub front : List ℕ
  pub groups : grouped (first ∷ []) (chars start) ≡ grouped (front ++ last ∷ []) (chars rest)
  pub whole : encode_utf8 first ++ start ≡ encode_utf8_all (front ++ last ∷ []) ++ rest
  pub lone : half ≡ is_half_flag (front ++ last ∷ [])

pub grown : (first : ℕ) (start rest more : List ℕ) (last c : ℕ) (half joins : Bool) → Begun first start rest last half → chars rest ≡ c ∷ chars more → rest ≡ encode_utf8 c ++ more
    → joins ≡ (takes_none c || is_skin_tone c || (last == 0x200D) || (half && is_indicator c) || is_spacing_mark c) → joins ≡ true → Begun first start more c false
grown first start rest more last c half joins so_far next cut is good = record {
  front = so_far.front ++ last ∷ [];
  groups = so_far.groups ∙ ap (grouped (so_far.front ++ last ∷ [])) next
      ∙ grouped_more (so_far.front ++ last ∷ []) c (chars more) (sym (belongs_by so_far.front last half c so_far.lone) ∙ sym is ∙ good);
  whole = so_far.whole ∙ ap (λ bs. encode_utf8_all (so_far.front ++ last ∷ []) ++ bs) cut
      ∙ sym (append_assoc (encode_utf8_all (so_far.front ++ last ∷ [])) (encode_utf8 c) more)
      ∙ ap (λ bs. (encode_utf8_all (so_far.front ++ last ∷ []) ++ bs) ++ more) (sym (append-nil (encode_utf8 c)))
      ∙ ap (λ bs. bs ++ more) (sym (encodes-append (so_far.front ++ last ∷ []) (c ∷ [])));
  lone = sym (half_flag_after so_far.front last c);
}

pub ended : (first : ℕ) (start rest more : List ℕ) (last c : ℕ) (half joins : Bool) → Begun first start rest last half → chars rest ≡ c ∷ chars more
    → joins ≡ (takes_none c || is_skin_tone c || (last == 0x200D) || (half && is_indicator c) || is_spacing_mark c) → joins ≡ false → IsAfterCluster first start rest
ended first start rest more last c half joins so_far next is bad = record {
  cluster = so_far.front ++ last ∷ [];
  clusters = so_far.groups ∙ ap (grouped (so_far.front ++ last ∷ [])) next
      ∙ grouped_next (so_far.front ++ last ∷ []) c (chars more) (sym (belongs_by so_far.front last half c so_far.lone) ∙ sym is ∙ bad)
      ∙ ap (λ cs. (so_far.front ++ last ∷ []) ∷ clusters_of cs) (sym next);
  whole = so_far.whole;
}

pub ended_last : (first : ℕ) (start rest : List ℕ) (last : ℕ) (half : Bool) → Begun first start rest last half → chars rest ≡ [] → IsAfterCluster first start rest
ended_last first start rest last half so_far none = record {
  cluster = so_far.front ++ last ∷ [];
  clusters = so_far.groups ∙ ap (grouped (so_far.front ++ last ∷ [])) none ∙ grouped_end (so_far.front ++ last ∷ [])
      ∙ ap (λ cs. (so_far.front ++ last ∷ []) ∷ clusters_of cs) (sym none);
  whole = so_far.whole;
}

-- ---- a line and its first cluster

module _ (line rest after : List ℕ) (first : ℕ) (next : chars line ≡ first ∷ chars rest) (cut : line ≡ encode_utf8 first ++ rest) (is : IsAfterCluster first rest after) where
  whole : line ≡ encode_utf8_all is.cluster ++ after
  whole = cut ∙ is.whole

  size : length line ≡ length (encode_utf8_all is.cluster) + length after
  size = ap length whole ∙ length-append (encode_utf8_all is.cluster) after

  pub cut_front : take (length line - length after) line ≡ encode_utf8_all is.cluster
  cut_front = ap (take (length line - length after)) whole ∙ take_at (encode_utf8_all is.cluster) after (length line - length after) (omega (arith, size))

  pub cut_back : drop (length line - length after) line ≡ after
  cut_back = ap (drop (length line - length after)) whole ∙ drop_at (encode_utf8_all is.cluster) after (length line - length after) (omega (arith, size))

  pub cut_boundary : IsUtf8 line → IsUtf8 after → IsCharBoundary line (length line - length after)
  cut_boundary text left =
      IsCharBoundary-from_drop line (length line - length after) (omega arith) (subst IsUtf8 (sym cut_back) left)

  pub cut_clusters : (front back : List ℕ) → front ≡ slice_range line 0 (length line - length after) → back ≡ drop (length line - length after) line → clusters line ≡ front ∷ clusters back
  unfolding clusters
  cut_clusters front back is_front is_back =
      let same : length line - length after - 0 ≡ length line - length after = omega arith in
      ap (λ cs. map encode_utf8_all (clusters_of cs)) next
      ∙ ap (map encode_utf8_all) is.clusters
      ∙ ap (λ bs. bs ∷ clusters after) (sym (is_front ∙ ap (λ n. take n line) same ∙ cut_front))
      ∙ ap (λ bs. front ∷ clusters bs) (sym (is_back ∙ cut_back))

pub no_clusters : (line : List ℕ) → chars line ≡ [] → clusters line ≡ []
unfolding clusters
no_clusters line none = ap (λ cs. map encode_utf8_all (clusters_of cs)) none

-- ---- the clusters of a line, put together, are the line, and none is empty

concat_grouped : (cluster cs : List ℕ) → concat (grouped cluster cs) ≡ cluster ++ cs
concat_grouped cluster [] = ap concat (grouped_end cluster)
concat_grouped cluster (c ∷ cs) = by (belongs cluster c) refl (λ next. concat_grouped next cs)
  where
    by : (b : Bool) → belongs cluster c ≡ b → ((next : List ℕ) → concat (grouped next cs) ≡ next ++ cs) → concat (grouped cluster (c ∷ cs)) ≡ cluster ++ c ∷ cs
    by true e rest = ap concat (grouped_more cluster c cs e) ∙ rest (cluster ++ c ∷ []) ∙ append_assoc cluster (c ∷ []) cs
    by false e rest = ap concat (grouped_next cluster c cs e) ∙ ap (λ bs. cluster ++ bs) (rest (c ∷ []))

concat_encoded : (groups : List (List ℕ)) → concat (map encode_utf8_all groups) ≡ encode_utf8_all (concat groups)
concat_encoded [] = refl
concat_encoded (g ∷ groups) = ap (λ bs. encode_utf8_all g ++ bs) (concat_encoded groups) ∙ sym (encodes-append g (concat groups))

concat_of : (cs : List ℕ) → concat (clusters_of cs) ≡ cs
concat_of [] = refl
concat_of (c ∷ cs) = concat_grouped (c ∷ []) cs

pub concat_clusters : (line : List ℕ) → IsUtf8 line → concat (clusters line) ≡ line
unfolding clusters
concat_clusters line text = concat_encoded (clusters_of (chars line)) ∙ ap encode_utf8_all (concat_of (chars line)) ∙ encodes-chars line text

nonempty_grouped : (cluster cs : List ℕ) → 0 < length cluster → All (λ u. 0 < length u) (grouped cluster cs)
nonempty_grouped cluster [] some = subst (All (λ u. 0 < length u)) (sym (grouped_end cluster)) (All-cons (λ u. 0 < length u) cluster [] some (All-nil (λ u. 0 < length u)))
nonempty_grouped cluster (c ∷ cs) some = by (belongs cluster c) refl (λ next more. nonempty_grouped next cs more)
  where
    by : (b : Bool) → belongs cluster c ≡ b → ((next : List ℕ) → 0 < length next → All (λ u. 0 < length u) (grouped next cs)) → All (λ u. 0 < length u) (grouped cluster (c ∷ cs))
    by true e rest = subst (All (λ u. 0 < length u)) (sym (grouped_more cluster c cs e)) (rest (cluster ++ c ∷ []) (omega (arith, length-append cluster (c ∷ []))))
    by false e rest = subst (All (λ u. 0 < length u)) (sym (grouped_next cluster c cs e)) (All-cons (λ u. 0 < length u) cluster (grouped (c ∷ []) cs) some (rest (c ∷ []) (omega arith)))

nonempty_encoded : (groups : List (List ℕ)) → All (λ u. 0 < length u) groups → All (λ u. 0 < length u) (map encode_utf8_all groups)
nonempty_encoded [] some = All-nil (λ u. 0 < length u)
nonempty_encoded (g ∷ groups) some =
    let here = All-head (λ u. 0 < length u) g groups some in
    All-cons (λ u. 0 < length u) (encode_utf8_all g) (map encode_utf8_all groups) (omega (arith, here, length-le-encodes g))
    (nonempty_encoded groups (All-tail (λ u. 0 < length u) g groups some))

nonempty_of : (cs : List ℕ) → All (λ u. 0 < length u) (clusters_of cs)
nonempty_of [] = All-nil (λ u. 0 < length u)
nonempty_of (c ∷ cs) = nonempty_grouped (c ∷ []) cs (omega arith)

pub clusters_nonempty : (line : List ℕ) → All (λ u. 0 < length u) (clusters line)
unfolding clusters
clusters_nonempty line = nonempty_encoded (clusters_of (chars line)) (nonempty_of (chars line))
