-- The flags of the columns that the parts so far name.
use Rattle.std.proofs.Common.{◌≡◌, ℕ, ◌<◌, false, get_or, length, map}
use Rattle.std.specs.List.{flat_map}
use Rattle.tabled_request.specs.Columns.{columns_of_part, is_one}
use Rattle.tabled_request.proofs.columns.flags_of.Given as goal

abbrev pub invariant-loop-part : goal.invariant-loop-part
invariant-loop-part g l = record {
  same_length : length l.flags.items ≡ l.count;
  set : (col : ℕ) → col < l.count → get_or l.flags.items col false ≡ is_one (flat_map (columns_of_part (map g.T.AsStr.text l.headings) l.count) (map (λ part. part.now) l.yielded)) col;
}
