-- Which characters of a line belong together: a line is cut between its clusters, and never within one.
use Rattle.std.specs.Prelude.{◌≡◌, ℕ, Bool, false, ◌||◌, ◌&&◌, ◌==◌, nat_le, List, [], ◌∷◌, ◌++◌, map, if◌then◌else◌, chars, encode_utf8, encode_utf8_all, unwrap_or}
use Rattle.unicode_width.specs.Width.{char_width}
use Rattle.tabled_width.specs.Marks.{is_spacing_mark}

-- whether a character takes no columns of its own, as an accent, a variation selector or a joiner
abbrev pub takes_none : ℕ → Bool
takes_none character = unwrap_or (char_width false character) 1 == 0

-- whether a character is one of the five skin tones of emoji
abbrev pub is_skin_tone : ℕ → Bool
is_skin_tone character = nat_le 0x1F3FB character && nat_le character 0x1F3FF

-- whether a character is a regional indicator, of which two make a flag
abbrev pub is_indicator : ℕ → Bool
is_indicator character = nat_le 0x1F1E6 character && nat_le character 0x1F1FF

-- whether characters are a regional indicator alone
abbrev pub is_half_flag : List ℕ → Bool
is_half_flag (character ∷ []) = is_indicator character
is_half_flag _ = false

-- whether the last of some characters is the joiner, U+200D
abbrev pub ends_with_joiner : List ℕ → Bool
ends_with_joiner [] = false
ends_with_joiner (character ∷ []) = character == 0x200D
ends_with_joiner (_ ∷ character ∷ more) = ends_with_joiner (character ∷ more)

-- whether a character belongs to the cluster before it: it takes no columns, or is a skin tone, or follows the joiner, or makes
-- a flag of a regional indicator that stands alone, or is a spacing mark
unfoldable pub belongs : List ℕ → ℕ → Bool
belongs cluster character =
    takes_none character || is_skin_tone character || ends_with_joiner cluster || (is_half_flag cluster && is_indicator character)
    || is_spacing_mark character

-- the clusters of characters of which the first ones, `cluster`, are together
unfoldable pub grouped : List ℕ → List ℕ → List (List ℕ)
grouped cluster [] = cluster ∷ []
grouped cluster (character ∷ more) =
    if belongs cluster character then grouped (cluster ++ character ∷ []) more else cluster ∷ grouped (character ∷ []) more

abbrev pub clusters_of : List ℕ → List (List ℕ)
clusters_of [] = []
clusters_of (character ∷ more) = grouped (character ∷ []) more

-- the clusters of a line, each as its bytes
unfoldable pub clusters : List ℕ → List (List ℕ)
clusters line = map encode_utf8_all (clusters_of (chars line))

-- what follows the first cluster of a line, which is a character and the rest of the line
pub record IsAfterCluster (first : ℕ) (rest after : List ℕ) : Type 0 where
  pub cluster : List ℕ
  pub clusters : grouped (first ∷ []) (chars rest) ≡ cluster ∷ clusters_of (chars after)
  pub whole : encode_utf8 first ++ rest ≡ encode_utf8_all cluster ++ after
