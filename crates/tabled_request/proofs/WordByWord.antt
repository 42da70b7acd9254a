-- One word more.
use Rattle.std.proofs.Common.{◌≡◌, ℕ, suc, ◌+◌, ◌<◌, ◌≤◌, List, [], ◌∷◌, ◌++◌, append_assoc, append-nil, map, string_bytes, length, drop, drop-cons, get_or, sym, ap, ◌∙◌, Result, Ok, Err, arith}
use Rattle.std.proofs.lemmas.List.{get_or-map, length-map, drop_all}
use Rattle.std.specs.Result.{IsErrAnd}
use Rattle.std.specs.declared.string.String.{String}
use Rattle.tabled_request.specs.declared.error.WordsError.{WordsError}
use Rattle.tabled_request.specs.declared.request.Request.{Request}
use Rattle.tabled_request.specs.declared.spread.Next.{Next}
use Rattle.tabled_request.specs.declared.words.Reading.{Reading}
use Rattle.tabled_request.specs.Words.{after, at_end, parts, spread, with_word, words_read}

-- a refusal that is passed on
pub passed_on : (r : Result Request WordsError) (e : WordsError) → IsErrAnd r (λ x. x ≡ e) → r ≡ Err e
passed_on (Ok request) e h = absurd h
passed_on (Err x) e h = ap (λ w. Err w) h

go_on : Next → ℕ → List (List ℕ) → Result Reading WordsError → Result Request WordsError
go_on next n words step = elim step [ Ok more ↦ words_read next more n words | Err e ↦ Err e ]

read_first : (next : Next) (reading : Reading) (n : ℕ) (word : List ℕ) (words : List (List ℕ)) (step : Result Reading WordsError) → step ≡ with_word next n word reading
    → go_on (after next word) (n + 1) words step ≡ words_read next reading n (word ∷ words)
unfolding words_read go_on
read_first next reading n word words step e = ap (go_on (after next word) (n + 1) words) e

module _ {Z : Type 0} (words : List (String Z)) where
  pub split_at : (n : ℕ) (word : String Z) → n < length words → word ≡ get_or words n word
      → drop n (map string_bytes words) ≡ string_bytes word ∷ drop (n + 1) (map string_bytes words)
  split_at n word inside is =
      let within : n < length (map string_bytes words) = omega (arith, inside, length-map words string_bytes) in
      let next : suc n ≡ n + 1 = omega arith in
      drop-cons (map string_bytes words) n [] within
      ∙ ap (λ k. get_or (map string_bytes words) n [] ∷ drop k (map string_bytes words)) next
      ∙ ap (λ bytes. bytes ∷ drop (n + 1) (map string_bytes words)) (get_or-map string_bytes words n word [] inside ∙ ap string_bytes (sym is))

  pub read_more : (next then : Next) (reading more : Reading) (n : ℕ) (word : String Z) → n < length words → word ≡ get_or words n word
      → Ok more ≡ with_word next n (string_bytes word) reading → then ≡ after next (string_bytes word)
      → words_read then more (n + 1) (drop (n + 1) (map string_bytes words)) ≡ words_read next reading n (drop n (map string_bytes words))
  unfolding go_on
  read_more next then reading more n word inside is step goes =
      ap (λ it. words_read it more (n + 1) (drop (n + 1) (map string_bytes words))) goes
      ∙ read_first next reading n (string_bytes word) (drop (n + 1) (map string_bytes words)) (Ok more) step ∙ ap (words_read next reading n) (sym (split_at n word inside is))

  pub read_wrong : (next : Next) (reading : Reading) (e : WordsError) (n : ℕ) (word : String Z) → n < length words → word ≡ get_or words n word
      → Err e ≡ with_word next n (string_bytes word) reading
      → Err e ≡ words_read next reading n (drop n (map string_bytes words))
  unfolding go_on
  read_wrong next reading e n word inside is step =
      read_first next reading n (string_bytes word) (drop (n + 1) (map string_bytes words)) (Err e) step ∙ ap (words_read next reading n) (sym (split_at n word inside is))

  pub read_all : (next : Next) (reading : Reading) (n : ℕ) → length words ≤ n → at_end next reading.request ≡ words_read next reading n (drop n (map string_bytes words))
  unfolding words_read
  read_all next reading n past = ap (words_read next reading n) (sym (drop_all n (map string_bytes words) (omega (arith, past, length-map words string_bytes))))

  -- the parts of a word more
  pub spread_more : (next then : Next) (before after_it : List (List ℕ)) (n : ℕ) (word : String Z) → n < length words → word ≡ get_or words n word
      → after_it ≡ before ++ parts next (string_bytes word) → then ≡ after next (string_bytes word)
      → after_it ++ spread then (drop (n + 1) (map string_bytes words)) ≡ before ++ spread next (drop n (map string_bytes words))
  unfolding spread
  spread_more next then before after_it n word inside is put goes =
      let left = drop (n + 1) (map string_bytes words) in
      ap (λ front. front ++ spread then left) put ∙ ap (λ it. (before ++ parts next (string_bytes word)) ++ spread it left) goes
      ∙ append_assoc before (parts next (string_bytes word)) (spread (after next (string_bytes word)) left)
      ∙ ap (λ rest. before ++ spread next rest) (sym (split_at n word inside is))

  pub spread_all : (next : Next) (done : List (List ℕ)) (n : ℕ) → length words ≤ n → done ≡ done ++ spread next (drop n (map string_bytes words))
  unfolding spread
  spread_all next done n past = sym (append-nil done) ∙ ap (λ rest. done ++ spread next rest) (sym (drop_all n (map string_bytes words) (omega (arith, past, length-map words string_bytes))))
