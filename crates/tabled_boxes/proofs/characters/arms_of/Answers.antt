use Rattle.std.proofs.Common.{◌≡◌, ◌+◌, ◌-◌, ◌<◌, None, sym, inl, inr, arith}
use Rattle.std.specs.Prelude.{slice_index_or}
use Rattle.tabled_boxes.specs.declared.characters.TheConstants.{ARMS}
use Rattle.tabled_boxes.specs.Arms.{arms_of}
use Rattle.tabled_boxes.proofs.Tables.{listed-there, no-arms}
use Rattle.tabled_boxes.proofs.characters.arms_of.Goals as goal
use Rattle.tabled_boxes.proofs.characters.arms_of.Goals.{then-code-lt-FIRST-via-then-code-lt-FIRST, then-code-lt-FIRST-via-else-code-lt-FIRST+then-code}

pub returns-then-code-lt-FIRST : goal.returns-then-code-lt-FIRST
returns-then-code-lt-FIRST c = sym (no-arms c.args.character (elim c.then-code-lt-FIRST.branch [ then-code-lt-FIRST-via-then-code-lt-FIRST w ↦ inl (omega arith) | then-code-lt-FIRST-via-else-code-lt-FIRST+then-code w ↦ inr (omega arith) ]))

pub returns : goal.returns
returns c =
    let back : 0x2500 + (c.args.character - 0x2500) ≡ c.args.character = omega arith in
    let within : c.args.character - 0x2500 < 128 = omega arith in
    let there : slice_index_or ARMS (c.args.character - 0x2500) None ≡ arms_of c.args.character = rw back at (listed-there (c.args.character - 0x2500) within) in
    cc
