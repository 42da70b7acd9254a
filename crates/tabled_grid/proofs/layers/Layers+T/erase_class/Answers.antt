-- A record with nothing stays, and any other gives way to one with nothing.
use Rattle.std.proofs.Common.{refl, sym, subst, ◌∙◌}
use Rattle.tabled_places.specs.State.{HasNothing}
use Rattle.tabled_places.proofs.ClassWrites.{nothing_in}
use Rattle.tabled_places.proofs.Changing.{class_erased}
use Rattle.tabled_grid.proofs.Seen.{seen, changed}
use Rattle.tabled_grid.proofs.layers.Layers+T.erase_class.Goals as goal

pub returns-then-is_empty : goal.returns-then-is_empty
returns-then-is_empty g c =
    changed _ (seen c.self.inside) c.args.self.now _ _ c.self.view_is (sym c.self.view_is)
    (class_erased (seen c.self.inside) (seen c.self.inside).class_record (subst HasNothing c.get.ensures (c.if-is_empty.ensures.0 refl)))

pub returns : goal.returns
returns g c = changed _ (seen c.self.inside) c.args.self.now _ _ c.self.view_is refl (class_erased (seen c.self.inside) c.replace.new.self (nothing_in c.replace.new.self (c.replace.ensures.kept ∙ c.empty.ensures)))
