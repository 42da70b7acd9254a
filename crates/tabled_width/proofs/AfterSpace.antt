-- A space ends whatever follows it: widths add up there.
use Rattle.std.proofs.Common.{◌≡◌, ℕ, ◌+◌, ◌<◌, zero, suc, Bool, true, false, not, cond, if◌then◌else◌, List, [], ◌∷◌, ◌++◌, length, replicate, chars, refl, sym, ap, ◌∙◌, arith, append-nil}
use Rattle.std.specs.List.{list_all}
use Rattle.std.specs.Str.{IsUtf8}
use Rattle.std.proofs.lemmas.List.{length-replicate}
use Rattle.std.proofs.lemmas.Str.{IsUtf8-from_ascii, chars-append, chars-nil, chars-IsAscii}
use Rattle.unicode_width.specs.Width.{str_width, step, past_emoji, read_before, plain, Reading, is_emoji_variation_base}
use Rattle.unicode_width.proofs.Rules.{str_width-append_simple, str_width-printable, is_simple}
use Rattle.unicode_width.proofs.WidthLemmas.{read_before-printable}
use Rattle.unicode_width.proofs.Computing.{unicode_width}
use Rattle.tabled_width.specs.Texts.{is_printable, width_of_text}
use Rattle.tabled_width.proofs.Printing.{printable_ascii}

pub spaces_simple : (n : ℕ) → list_all is_simple (replicate n 32) ≡ true
spaces_simple zero = refl
spaces_simple (suc n) = spaces_simple n

pub spaces_printable : (n : ℕ) → list_all is_printable (replicate n 32) ≡ true
spaces_printable zero = refl
spaces_printable (suc n) = spaces_printable n

read_append : (xs ys : List ℕ) (r : Reading) → read_before false (xs ++ ys) r ≡ read_before false xs (read_before false ys r)
read_append [] ys r = refl
read_append (x ∷ xs) ys r = ap (step false x) (read_append xs ys r)

-- n spaces are read as n columns
read_spaces : (n : ℕ) → ◌≡◌ {A = Reading} (n, plain) (read_before false (replicate n 32) (0, plain))
read_spaces n =
    let all : n ≡ 0 + length (replicate n 32) = omega (arith, length-replicate {A = ℕ} n 32) in
    ap (λ m. (m, plain)) all ∙ read_before-printable false (replicate n 32) [] 0 (spaces_printable n) refl
    ∙ ap (λ l. read_before false l (0, plain)) (append-nil (replicate n 32))

-- where what follows takes n columns and joins nothing, a text adds its own width
read_from : (xs : List ℕ) (n : ℕ) → (read_before false xs (n, plain)).0 ≡ str_width false xs + n
unfolding str_width
read_from xs n =
    ap (λ r. (read_before false xs r).0) (read_spaces n) ∙ sym (ap (λ r. r.0) (read_append xs (replicate n 32) (0, plain)))
    ∙ str_width-append_simple false xs (replicate n 32) (spaces_simple n)
    ∙ ap (λ m. str_width false xs + m) (str_width-printable false (replicate n 32) (spaces_printable n) ∙ length-replicate n 32)

not_a_base : is_emoji_variation_base 32 ≡ false
unfolding unicode_width
not_a_base = refl

by_emoji : (emoji : Bool) (n : ℕ) (other : Reading) → ◌≡◌ {A = Reading} (cond (not emoji) (n + 1, plain) (if is_emoji_variation_base 32 then other else (n + 1, plain))) (n + 1, plain)
by_emoji false n other = refl
by_emoji true n other = ap (λ b. if b then other else (n + 1, plain)) not_a_base

read_space : (r : Reading) → step false 32 r ≡ (r.0 + 1, plain)
unfolding step past_emoji
read_space r = by_emoji r.1.emoji r.0 _

-- a space takes one column, whatever follows it
pub space_first : (cs : List ℕ) → str_width false (32 ∷ cs) ≡ str_width false cs + 1
unfolding str_width
space_first cs = ap (λ r. r.0) (read_space (read_before false cs (0, plain)))

pub from_space : (xs ys : List ℕ) → str_width false (xs ++ 32 ∷ ys) ≡ str_width false xs + str_width false (32 ∷ ys)
unfolding str_width
from_space xs ys =
    let n : ℕ = (read_before false ys (0, plain)).0 + 1 in
    let here : read_before false (32 ∷ ys) (0, plain) ≡ (n, plain) = read_space (read_before false ys (0, plain)) in
    ap (λ r. r.0) (read_append xs (32 ∷ ys) (0, plain)) ∙ ap (λ r. (read_before false xs r).0) here ∙ read_from xs n
    ∙ ap (λ m. (read_before false xs (0, plain)).0 + m) (sym (ap (λ r. r.0) here))

-- ---- the same of texts

pub IsUtf8-spaces : (n : ℕ) → IsUtf8 (replicate n 32)
IsUtf8-spaces n = IsUtf8-from_ascii (replicate n 32) (printable_ascii (replicate n 32) (spaces_printable n))

pub nothing_wide : 0 ≡ width_of_text []
unfolding str_width
nothing_wide = sym (ap (str_width false) chars-nil)

pub space_read : (text : List ℕ) → chars (32 ∷ text) ≡ 32 ∷ chars text
space_read text = chars-append (32 ∷ []) text (IsUtf8-spaces 1) ∙ ap (λ cs. cs ++ chars text) (chars-IsAscii (32 ∷ []) (printable_ascii (32 ∷ []) (spaces_printable 1)))

pub one_space : (text : List ℕ) → width_of_text (32 ∷ text) ≡ width_of_text text + 1
one_space text = ap (str_width false) (space_read text) ∙ space_first (chars text)

-- what stands before a space does not join it
pub widths_add : (front text : List ℕ) → IsUtf8 front → width_of_text (front ++ 32 ∷ text) ≡ width_of_text front + width_of_text (32 ∷ text)
widths_add front text u =
    ap (str_width false) (chars-append front (32 ∷ text) u ∙ ap (λ cs. chars front ++ cs) (space_read text)) ∙ from_space (chars front) (chars text)
    ∙ ap (λ cs. width_of_text front + str_width false cs) (sym (space_read text))

pub spaces_before : (n : ℕ) (text : List ℕ) → width_of_text (replicate n 32 ++ text) ≡ n + width_of_text text
spaces_before zero text = omega arith
spaces_before (suc n) text = let rest = spaces_before n text in let here = one_space (replicate n 32 ++ text) in omega (arith, here, rest)

-- spaces, one at least, part a text from what follows
pub parted : (front text : List ℕ) (n : ℕ) → IsUtf8 front → 0 < n → width_of_text (front ++ (replicate n 32 ++ text)) ≡ width_of_text front + n + width_of_text text
parted front text zero u some = absurd (omega arith)
parted front text (suc n) u some =
    let apart = widths_add front (replicate n 32 ++ text) u in
    let spaced = spaces_before (suc n) text in
    omega (arith, apart, spaced)
