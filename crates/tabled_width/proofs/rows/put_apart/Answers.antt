-- Widths add up at the spaces before the part.
use Rattle.std.proofs.Common.{◌≡◌, ℕ, ◌+◌, ◌<◌, nat_le, List, ◌++◌, replicate, string_bytes, sym, ap, ◌∙◌, arith, append_assoc}
use Rattle.std.specs.declared.string.String.{String}
use Rattle.std.specs.Str.{IsUtf8}
use Rattle.std.proofs.lemmas.Str.{IsUtf8-string_bytes}
use Rattle.tabled_width.specs.Rows.{Chunk, joined}
use Rattle.tabled_width.specs.Texts.{fits, width_of_text}
use Rattle.tabled_width.proofs.AfterSpace.{parted}
use Rattle.tabled_width.proofs.Filling.{put_here, put_next}
use Rattle.tabled_width.proofs.rows.put_apart.Goals as goal

written : {Z : Type 0} (row spaced there : String Z) (part : Chunk) → string_bytes spaced ≡ string_bytes row ++ replicate part.gap 32 → string_bytes there ≡ string_bytes spaced ++ part.text
    → string_bytes there ≡ joined (string_bytes row) part
written row spaced there part e f = f ∙ ap (λ bs. bs ++ part.text) e ∙ append_assoc (string_bytes row) (replicate part.gap 32) part.text

module _ (row : List ℕ) (part : Chunk) (taken asked : ℕ) (text : IsUtf8 row) (some : 0 < part.gap) (row_wide : taken ≡ width_of_text row) (part_wide : asked ≡ width_of_text part.text) where
  joined_wide : width_of_text (joined row part) ≡ taken + part.gap + asked
  joined_wide = let sum = parted row part.text part.gap text some in omega (arith, sum, row_wide, part_wide)

  whether : (width : ℕ) → fits width (joined row part) ≡ nat_le (taken + part.gap + asked) width
  whether width = ap (λ n. nat_le n width) joined_wide

  measured : (there : List ℕ) → there ≡ joined row part → taken + (part.gap + asked) ≡ width_of_text there
  measured there is = let same = ap width_of_text is in omega (arith, same, joined_wide)

pub returns-then-not-has_room-clause-rows : goal.returns-then-not-has_room-clause-rows
returns-then-not-has_room-clause-rows c =
    let part : Chunk = record { gap = c.args.gap; text = c.args.part.now } in
    put_next (string_bytes c.args.out.now) (string_bytes c.begin.new.out) (string_bytes c.args.row.now.text) (string_bytes c.begin.new.row.text) c.args.width part
    (whether (string_bytes c.args.row.now.text) part c.args.row.now.width c.width_of-asked.result (IsUtf8-string_bytes c.args.row.now.text) c.requires.some c.requires.measured c.width_of-asked.ensures c.args.width
    ∙ sym c.has_room.ensures ∙ c.if-not-has_room.true)
    c.in_ok-begin.ensures.text c.in_ok-begin.ensures.rows

pub returns-clause-rows : goal.returns-clause-rows
returns-clause-rows c =
    let part : Chunk = record { gap = c.args.gap; text = c.args.part.now } in
    let is = written c.args.row.now.text c.push_spaces.new.row c.push_str.new.self part c.in_ok-push_spaces.ensures c.in_ok-push_str.ensures.bytes in
    put_here (string_bytes c.args.out.now) (string_bytes c.args.row.now.text) (string_bytes c.push_str.new.self) c.args.width part is
    (ap (fits c.args.width) is
    ∙ whether (string_bytes c.args.row.now.text) part c.args.row.now.width c.width_of-asked.result (IsUtf8-string_bytes c.args.row.now.text) c.requires.some c.requires.measured c.width_of-asked.ensures c.args.width
    ∙ sym c.has_room.ensures ∙ c.if-not-has_room.false)

pub returns-clause-measured : goal.returns-clause-measured
returns-clause-measured c =
    let part : Chunk = record { gap = c.args.gap; text = c.args.part.now } in
    measured (string_bytes c.args.row.now.text) part c.args.row.now.width c.width_of-asked.result (IsUtf8-string_bytes c.args.row.now.text) c.requires.some c.requires.measured c.width_of-asked.ensures
    (string_bytes c.push_str.new.self) (written c.args.row.now.text c.push_spaces.new.row c.push_str.new.self part c.in_ok-push_spaces.ensures c.in_ok-push_str.ensures.bytes)
