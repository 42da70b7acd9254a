use Rattle.std.proofs.Common.{sym, ◌∙◌, subst}
use Rattle.std.specs.BTreeMap.{IsFromIterResult}
use Rattle.std.proofs.lemmas.List.{map-id}
use Rattle.std.proofs.lemmas.Iterator.{items_from_drains}
use Rattle.std.proofs.lemmas.Iterator.Adapters.{YieldsList-from_vec}
use Rattle.tabled_kept.proofs.Ascending.{entries_made}
use Rattle.tabled_kept.proofs.copies.map_of.Goals as goal

pub returns : goal.returns
returns g c =
    let made = c.in_ok-from_iter.field-0 in
    let ran = c.in_ok-from_iter.ensures.ran in
    let all = sym (map-id ran.1) ∙ items_from_drains ran.1 ran.3 (YieldsList-from_vec c.args.entries.items ran.2.0 (ran.2.1 ∙ c.args.entries.ok.0)) in
    entries_made g.met.K.Ord.total g.met.K.Key.exact c.args.entries.items c.requires made (subst (λ es. IsFromIterResult g.K.Ord.cmp es made) all ran.4)
