-- What is read of a class record after a line was put into it.
use Rattle.std.proofs.Common.{◌≡◌, Option, refl, ap, sym}
use Rattle.tabled_places.specs.declared.borders.Borders.{Borders}
use Rattle.tabled_places.specs.declared.lines.HorizontalLine.{HorizontalLine}
use Rattle.tabled_places.specs.declared.lines.VerticalLine.{VerticalLine}
use Rattle.tabled_places.specs.Site.{Rank, first, inner, last, horizontal_meeting, vertical_meeting}
use Rattle.tabled_places.specs.Borders.{horizontal_of, vertical_of, put_horizontal, put_vertical}
use Rattle.tabled_places.specs.CustomLines.{put_horizontal_meeting, put_vertical_meeting}

module _ {T : Type 0} where
  -- at its rank, the line
  pub horizontal_of-put : (rank : Rank) (line : HorizontalLine T) (borders : Borders T) → horizontal_of rank (put_horizontal rank line borders) ≡ line
  horizontal_of-put first line borders = refl
  horizontal_of-put inner line borders = refl
  horizontal_of-put last line borders = refl

  pub vertical_of-put : (rank : Rank) (line : VerticalLine T) (borders : Borders T) → vertical_of rank (put_vertical rank line borders) ≡ line
  vertical_of-put first line borders = refl
  vertical_of-put inner line borders = refl
  vertical_of-put last line borders = refl

  -- across it, the line that was there, with the crossing that it shares with the new one
  pub horizontal_of-put_vertical : (rank column : Rank) (line : VerticalLine T) (borders : Borders T) → horizontal_of rank (put_vertical column line borders) ≡ put_horizontal_meeting column (vertical_meeting rank line) (horizontal_of rank borders)
  horizontal_of-put_vertical first first line borders = refl
  horizontal_of-put_vertical first inner line borders = refl
  horizontal_of-put_vertical first last line borders = refl
  horizontal_of-put_vertical inner first line borders = refl
  horizontal_of-put_vertical inner inner line borders = refl
  horizontal_of-put_vertical inner last line borders = refl
  horizontal_of-put_vertical last first line borders = refl
  horizontal_of-put_vertical last inner line borders = refl
  horizontal_of-put_vertical last last line borders = refl

  pub vertical_of-put_horizontal : (rank row : Rank) (line : HorizontalLine T) (borders : Borders T) → vertical_of rank (put_horizontal row line borders) ≡ put_vertical_meeting row (horizontal_meeting rank line) (vertical_of rank borders)
  vertical_of-put_horizontal first first line borders = refl
  vertical_of-put_horizontal first inner line borders = refl
  vertical_of-put_horizontal first last line borders = refl
  vertical_of-put_horizontal inner first line borders = refl
  vertical_of-put_horizontal inner inner line borders = refl
  vertical_of-put_horizontal inner last line borders = refl
  vertical_of-put_horizontal last first line borders = refl
  vertical_of-put_horizontal last inner line borders = refl
  vertical_of-put_horizontal last last line borders = refl

  -- a line with what it has at a crossing set there
  pub put_horizontal_meeting-same : (rank : Rank) (x : Option T) (line : HorizontalLine T) → horizontal_meeting rank line ≡ x → put_horizontal_meeting rank x line ≡ line
  put_horizontal_meeting-same first x line is = ap (λ (y : Option T). record line { left = y }) (sym is)
  put_horizontal_meeting-same inner x line is = ap (λ (y : Option T). record line { intersection = y }) (sym is)
  put_horizontal_meeting-same last x line is = ap (λ (y : Option T). record line { right = y }) (sym is)

  pub put_vertical_meeting-same : (rank : Rank) (x : Option T) (line : VerticalLine T) → vertical_meeting rank line ≡ x → put_vertical_meeting rank x line ≡ line
  put_vertical_meeting-same first x line is = ap (λ (y : Option T). record line { top = y }) (sym is)
  put_vertical_meeting-same inner x line is = ap (λ (y : Option T). record line { intersection = y }) (sym is)
  put_vertical_meeting-same last x line is = ap (λ (y : Option T). record line { bottom = y }) (sym is)
