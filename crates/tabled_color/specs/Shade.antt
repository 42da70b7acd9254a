-- What a color is: its two texts, and whether it owns them.
use Rattle.std.specs.Prelude.{ℕ, Bool, true, false, ◌==◌, if◌then◌else◌, List, ◌∷◌, ◌++◌, codes}
use Rattle.std.specs.Cmp.Lexicographic.{pointwise}
use Rattle.std.specs.Fmt.{decimal}
use Rattle.tabled_border.specs.Texts.{Texts}

-- whether the texts are owned or static, and what is written before and after what is colored, each as the bytes of a text
pub record Shade : Type 0 where
  pub owned : Bool
  pub prefix : List ℕ
  pub suffix : List ℕ

abbrev pub texts_of : Shade → Texts
texts_of shade = record { prefix = shade.prefix; suffix = shade.suffix }

abbrev pub owned_shade : List ℕ → List ℕ → Shade
owned_shade prefix suffix = record { owned = true; prefix = prefix; suffix = suffix }

abbrev pub static_shade : List ℕ → List ℕ → Shade
static_shade prefix suffix = record { owned = false; prefix = prefix; suffix = suffix }

-- the sequence of a terminal for a code: ESC, `[`, the code, `m`
abbrev pub sequence : List ℕ → List ℕ
sequence code = (27 ∷ codes "[") ++ code ++ codes "m"

-- the sequence of a color by its red, green and blue part: the code says whether characters or the background have it
abbrev pub rgb_sequence : List ℕ → ℕ → ℕ → ℕ → List ℕ
rgb_sequence code r g b = (27 ∷ codes "[") ++ code ++ codes ";2;" ++ (decimal r ++ (codes ";" ++ (decimal g ++ (codes ";" ++ (decimal b ++ codes "m")))))

-- a text, followed by another one where the two differ
abbrev pub joined_text : List ℕ → List ℕ → List ℕ
joined_text first second = if pointwise ◌==◌ first second then first else first ++ second

-- two colors at once
abbrev pub joined : Shade → Shade → Shade
joined first second = owned_shade (joined_text first.prefix second.prefix) (joined_text first.suffix second.suffix)
