-- Where no cell spans nothing is kept.
use Rattle.std.proofs.Common.{◌≡◌, not, Bool, true, false, length, replicate, refl, sym, ap, ◌∙◌, arith}
use Rattle.tabled_painting.specs.RoomLines.{nobody}
use Rattle.tabled_painting.proofs.AloneLemmas.{one_each}
use Rattle.tabled_painting.proofs.spans.Spans.new.Goals as goal

none_set : (b : Bool) → not b ≡ false → b ≡ true
none_set true e = refl
none_set false e = sym e

pub returns : goal.returns
returns c =
    let one = one_each c.args.lines.now.frame.cfg.now.settings (none_set _ (sym c.has_spans.ensures ∙ c.if-has_spans.false)) in
    let hosts = c.new-3.ensures.items in
    let none = ap length hosts in
    record {
      keeps = record { none = λ e. record { columns = one.0; rows = one.1 }; some = λ some. absurd (omega (arith, some, none)); each = λ some. absurd (omega (arith, some, none)) };
      hosts = hosts ∙ ap (λ n. replicate n nobody) (sym none);
      wides = ap length c.new-4.ensures.items ∙ sym none;
    }
