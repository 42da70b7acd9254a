use Rattle.std.proofs.Common.{ap}
use Rattle.std.specs.List.{join_with_byte}
use Rattle.tabled_places.specs.State.{state_at}
use Rattle.tabled_places.proofs.DrawnLemmas.{value-shown, Drawn-drawn}
use Rattle.tabled_configuration.specs.Configuration.{characters_of, colors_of}
use Rattle.tabled_printing.specs.Picture.{text_lines}
use Rattle.tabled_configuration.specs.Colored.{Changes}
use Rattle.tabled_configuration.specs.ChangeLaws.{none_change, both_change}
use Rattle.tabled_changes.proofs.ColoredLemmas.{Shows_after_change_colored}
use Rattle.tabled_printing.proofs.LookLemmas.{same_look}
use Rattle.tabled_configuration.proofs.InTurn.{by_all_events, all_unread}
use Rattle.tabled_border_claims.proofs.lists.any_list.Goals as goal

pub returns-clause-shows : goal.returns-clause-shows
returns-clause-shows c = λ steps before made old new by shows.
    Shows_after_change_colored before made old new (by_all_events Changes none_change both_change steps made old new by) shows

pub returns-clause-characters : goal.returns-clause-characters
returns-clause-characters c = λ es cfg shape size place shows.
    value-shown (characters_of es) (state_at cfg.spanned.characters) shape size place shows.spanned_shown.characters_shown

pub returns-clause-colors : goal.returns-clause-colors
returns-clause-colors c = λ es cfg shape size place shows.
    value-shown (colors_of es) (state_at cfg.spanned.colors) shape size place shows.spanned_shown.colors_shown

pub returns-clause-lines : goal.returns-clause-lines
returns-clause-lines c = λ es cfg count line shows.
    Drawn-drawn (characters_of es) (state_at cfg.spanned.characters) count line shows.spanned_shown.characters_shown

pub returns-clause-text : goal.returns-clause-text
returns-clause-text c = λ es fs cfg shape widths heights cells by with.
    ap (λ view. join_with_byte 10 (text_lines view cells)) (same_look cfg.spanned es fs shape widths heights by.spanned_shown with.spanned_shown)

pub returns-clause-unread : goal.returns-clause-unread
returns-clause-unread c = λ events entities made old new by. all_unread Changes events entities made old new by
