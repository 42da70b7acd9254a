-- The text is written on the line, or stands beside the table.
use Rattle.std.proofs.Common.{◌≡◌, ◌++◌, ◌&&◌, Bool, true, false, if◌then◌else◌, List, ℕ, [], sym, ap, subst, ◌∙◌, append-nil, string_bytes}
use Rattle.tabled_configuration.specs.Colored.{Changes, Shows}
use Rattle.tabled_configuration.specs.Configuration.{ConfigEvent}
use Rattle.tabled_changes.proofs.ColoredLemmas.{Shows_after_change_colored}
use Rattle.tabled_viewing.specs.Captions.{has_room, written_on_line}
use Rattle.tabled_viewing.proofs.captions.put_text.Goals as goal

pub returns-then-stands_on_line-clause-config : goal.returns-then-stands_on_line-clause-config
returns-then-stands_on_line-clause-config g c = λ before shows nothing.
    let table = c.args.table.now in
    let events : List ConfigEvent = written_on_line before table.texts (string_bytes c.args.text) c.args.line in
    let stands : (c.args.is_drawn && has_room table.texts (string_bytes c.args.text)) ≡ true =
    ap (λ text. c.args.is_drawn && has_room table.texts text) (sym c.as_str.ensures.value) ∙ sym c.stands_on_line.ensures ∙ c.if-stands_on_line.true in
    subst (λ (b : Bool). Shows (before ++ (if b then events else [])) c.write_on_line.new.table.config) (sym stands)
    (Shows_after_change_colored before events table.config c.write_on_line.new.table.config
    (subst (λ (text : List ℕ). Changes (written_on_line before table.texts text c.args.line) table.config c.write_on_line.new.table.config) c.as_str-then-stands_on_line.ensures.value
    (c.in_ok-write_on_line.ensures.config before shows nothing)) shows)

pub returns-clause-config : goal.returns-clause-config
returns-clause-config g c = λ before shows nothing.
    let table = c.args.table.now in
    let events : List ConfigEvent = written_on_line before table.texts (string_bytes c.args.text) c.args.line in
    let stands : (c.args.is_drawn && has_room table.texts (string_bytes c.args.text)) ≡ false =
    ap (λ text. c.args.is_drawn && has_room table.texts text) (sym c.as_str.ensures.value) ∙ sym c.stands_on_line.ensures ∙ c.if-stands_on_line.false in
    subst (λ (b : Bool). Shows (before ++ (if b then events else [])) table.config) (sym stands)
    (subst (λ (es : List ConfigEvent). Shows es table.config) (sym (append-nil before)) shows)
