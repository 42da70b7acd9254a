-- The row may be cut where the cluster, or the suffix, was appended.
use Rattle.std.proofs.Common.{◌++◌, sym, ap, ◌∙◌, string_bytes, append_assoc}
use Rattle.std.proofs.lemmas.Str.{IsUtf8-string_bytes}
use Rattle.tabled_width.proofs.Filling.{seam, len_is}
use Rattle.tabled_width.proofs.cut_off.take.Goals as goal

pub truncate-requires : goal.truncate-requires
truncate-requires c = λ within.
    let at = seam (string_bytes c.push_str.new.self) c.args.suffix.now (string_bytes c.push_str-2.new.self) c.len-with.result (IsUtf8-string_bytes c.push_str.new.self)
    c.in_ok-push_str-2.ensures.bytes (c.len-with.ensures ∙ sym (len_is c.push_str.new.self)) (IsUtf8-string_bytes c.push_str-2.new.self) in
    (at.0, λ some. at.1)

pub truncate-requires-2 : goal.truncate-requires-2
truncate-requires-2 c = λ within.
    let whole = c.in_ok-push_str-2.ensures.bytes ∙ ap (λ bs. bs ++ c.args.suffix.now) c.in_ok-push_str.ensures.bytes ∙ append_assoc (string_bytes c.args.row.now) c.args.cluster.now c.args.suffix.now in
    let at = seam (string_bytes c.args.row.now) (c.args.cluster.now ++ c.args.suffix.now) (string_bytes c.push_str-2.new.self) c.len-without.result (IsUtf8-string_bytes c.args.row.now)
    whole (c.len-without.ensures ∙ sym (len_is c.args.row.now)) (IsUtf8-string_bytes c.push_str-2.new.self) in
    (at.0, λ some. at.1)
