-- Lines that are put into a style and inherited again.
use Rattle.std.proofs.Common.{◌≡◌, ℕ, Option, None, Some, refl, ap, ◌∙◌}
use Rattle.tabled_places.specs.declared.borders.Borders.{Borders}
use Rattle.tabled_places.specs.declared.lines.HorizontalLine.{HorizontalLine}
use Rattle.tabled_places.specs.declared.lines.VerticalLine.{VerticalLine}
use Rattle.tabled_places.specs.declared.place.Rank.{Rank}
use Rattle.tabled_places.specs.declared.place.Rank.TheVariants.{First as first, Inner as inner, Last as last}
use Rattle.tabled_places.specs.Site.{horizontal_meeting, vertical_meeting}
use Rattle.tabled_places.specs.Borders.{horizontal_of, vertical_of, put_horizontal, put_vertical}
use Rattle.tabled_places.specs.CustomLines.{no_horizontal, no_vertical, put_horizontal_meeting, put_vertical_meeting}
use Rattle.tabled_places.proofs.SixLines.{horizontal_of-put, vertical_of-put, horizontal_of-put_vertical, vertical_of-put_horizontal, put_horizontal_meeting-same, put_vertical_meeting-same}
use Rattle.tabled_style.specs.Shown.{StyleShown}
use Rattle.tabled_style.specs.LineCalls.{space_where, spaced_vertical, spaced_horizontal, followed_vertical, followed_horizontal, settled_horizontal, settled_vertical, with_line_horizontal, with_line_vertical}

-- a line stays as it is where one is put across it that has the same at their crossing
alike_horizontal : (rank column : Rank) (x : Option ℕ) (put : VerticalLine ℕ) (borders : Borders ℕ) → horizontal_meeting column (horizontal_of rank borders) ≡ x → vertical_meeting rank put ≡ x
    → horizontal_of rank (put_vertical column put borders) ≡ horizontal_of rank borders
alike_horizontal rank column x put borders has gets =
    horizontal_of-put_vertical rank column put borders
    ∙ ap (λ (y : Option ℕ). put_horizontal_meeting column y (horizontal_of rank borders)) gets
    ∙ put_horizontal_meeting-same column x (horizontal_of rank borders) has

alike_vertical : (rank row : Rank) (x : Option ℕ) (put : HorizontalLine ℕ) (borders : Borders ℕ) → vertical_meeting row (vertical_of rank borders) ≡ x → horizontal_meeting rank put ≡ x
    → vertical_of rank (put_horizontal row put borders) ≡ vertical_of rank borders
alike_vertical rank row x put borders has gets =
    vertical_of-put_horizontal rank row put borders
    ∙ ap (λ (y : Option ℕ). put_vertical_meeting row y (vertical_of rank borders)) gets
    ∙ put_vertical_meeting-same row x (vertical_of rank borders) has

-- so it stays through each part of the second step, which asks for what it has itself at a crossing
dropped_vertical : (rank column : Rank) (borders : Borders ℕ) → horizontal_meeting column (horizontal_of rank borders) ≡ None → horizontal_of rank (put_vertical column no_vertical borders) ≡ horizontal_of rank borders
dropped_vertical first column borders has = alike_horizontal first column None no_vertical borders has refl
dropped_vertical inner column borders has = alike_horizontal inner column None no_vertical borders has refl
dropped_vertical last column borders has = alike_horizontal last column None no_vertical borders has refl

dropped_horizontal : (rank row : Rank) (borders : Borders ℕ) → vertical_meeting row (vertical_of rank borders) ≡ None → vertical_of rank (put_horizontal row no_horizontal borders) ≡ vertical_of rank borders
dropped_horizontal first row borders has = alike_vertical first row None no_horizontal borders has refl
dropped_horizontal inner row borders has = alike_vertical inner row None no_horizontal borders has refl
dropped_horizontal last row borders has = alike_vertical last row None no_horizontal borders has refl

followed_still : (rank column : Rank) (crossing : Option ℕ) (borders : Borders ℕ) → horizontal_meeting column (horizontal_of rank borders) ≡ crossing → horizontal_of rank (followed_vertical column crossing borders) ≡ horizontal_of rank borders
unfolding followed_vertical spaced_vertical
followed_still rank column None borders has = dropped_vertical rank column borders has
followed_still first inner (Some c) borders has = alike_horizontal first inner (Some c) (spaced_vertical borders) borders has (ap (space_where _) has)
followed_still inner inner (Some c) borders has = alike_horizontal inner inner (Some c) (spaced_vertical borders) borders has has
followed_still last inner (Some c) borders has = alike_horizontal last inner (Some c) (spaced_vertical borders) borders has (ap (space_where _) has)
followed_still rank column crossing borders has = refl

still_followed : (rank row : Rank) (crossing : Option ℕ) (borders : Borders ℕ) → vertical_meeting row (vertical_of rank borders) ≡ crossing → vertical_of rank (followed_horizontal row crossing borders) ≡ vertical_of rank borders
unfolding followed_horizontal spaced_horizontal
still_followed rank row None borders has = dropped_horizontal rank row borders has
still_followed first inner (Some c) borders has = alike_vertical first inner (Some c) (spaced_horizontal borders) borders has (ap (space_where _) has)
still_followed inner inner (Some c) borders has = alike_vertical inner inner (Some c) (spaced_horizontal borders) borders has has
still_followed last inner (Some c) borders has = alike_vertical last inner (Some c) (spaced_horizontal borders) borders has (ap (space_where _) has)
still_followed rank row crossing borders has = refl

pub horizontal_again : (rank : Rank) (line : HorizontalLine ℕ) (style : StyleShown) → horizontal_of rank (with_line_horizontal rank line style).borders ≡ line
unfolding with_line_horizontal settled_horizontal
horizontal_again rank line style =
    let put : Borders ℕ = put_horizontal rank line style.borders in
    let crossed : Borders ℕ = followed_vertical inner line.intersection put in
    let ended : Borders ℕ = followed_vertical first line.left crossed in
    let is : horizontal_of rank put ≡ line = horizontal_of-put rank line style.borders in
    let still : horizontal_of rank crossed ≡ line = followed_still rank inner line.intersection put (ap (λ (l : HorizontalLine ℕ). l.intersection) is) ∙ is in
    let again : horizontal_of rank ended ≡ line = followed_still rank first line.left crossed (ap (λ (l : HorizontalLine ℕ). l.left) still) ∙ still in
    followed_still rank last line.right ended (ap (λ (l : HorizontalLine ℕ). l.right) again) ∙ again

pub vertical_again : (rank : Rank) (line : VerticalLine ℕ) (style : StyleShown) → vertical_of rank (with_line_vertical rank line style).borders ≡ line
unfolding with_line_vertical settled_vertical
vertical_again rank line style =
    let put : Borders ℕ = put_vertical rank line style.borders in
    let crossed : Borders ℕ = followed_horizontal inner line.intersection put in
    let ended : Borders ℕ = followed_horizontal first line.top crossed in
    let is : vertical_of rank put ≡ line = vertical_of-put rank line style.borders in
    let still : vertical_of rank crossed ≡ line = still_followed rank inner line.intersection put (ap (λ (l : VerticalLine ℕ). l.intersection) is) ∙ is in
    let again : vertical_of rank ended ≡ line = still_followed rank first line.top crossed (ap (λ (l : VerticalLine ℕ). l.top) still) ∙ still in
    still_followed rank last line.bottom ended (ap (λ (l : VerticalLine ℕ). l.bottom) again) ∙ again
