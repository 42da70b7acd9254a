use Rattle.std.proofs.Common.{List, [], ◌∷◌, ◌++◌, map, length, take, refl, sym, subst, ◌∙◌}
use Rattle.std.proofs.lemmas.List.{map-append}
use Rattle.tabled_object.specs.declared.entity.Entity.{Entity}
use Rattle.tabled_object.specs.Listing.{Lists}
use Rattle.tabled_object.proofs.Listings.{given_so_far, given_all, nothing_given}
use Rattle.tabled_configuration.specs.Options.{MakesInTurn}
use Rattle.tabled_configuration.proofs.InTurn.{one_more, none_made, where_refused}
use Rattle.tabled_changes.proofs.cell_option.modify.Goals as goal

pub returns-in_err-entity-items-clause-err : goal.returns-in_err-entity-items-clause-err
returns-in_err-entity-items-clause-err g c = where_refused c.from_residual.result (0, [], none_made _ c.args.cfg.now)

pub loop-entity-init : goal.loop-entity-init
loop-entity-init g c =
    let listing = g.O.Object.listing c.args.object.now (g.R.ExactRecords.row_count c.args.records.now) (g.R.Records.column_count c.args.records.now) in
    let lists = subst (λ items. Lists g.O.Iter.Iterator.can_next g.O.Iter.Iterator.next_gives g.O.Iter.Iterator.remaining items listing) (sym c.into_iter-entity-iterator.ensures.into_iter_gives) c.in_ok-entity-items.ensures.listed in
    (lists.may_begin, lists.ends, refl, ([], none_made _ c.args.cfg.now))

pub loop-entity-preserved : goal.loop-entity-preserved
loop-entity-preserved g c =
    let makes : Entity → g.row.C.Denot → List g.row.C-Event.Denot = g.P.CellOption.makes c.args.option.now c.args.records.now in (
      (c.in-Some.ensures.goes.on c.loop-entity.invariant.1).0,
      (c.in-Some.ensures.goes.on c.loop-entity.invariant.1).1,
      c.in_ok-change.ensures.records ∙ c.loop-entity.invariant.2,
      (
        c.loop-entity.invariant.3.0 ++ makes c.in-Some.entity c.loop-entity.cfg,
        subst (λ steps. MakesInTurn g.C.Configured.changes steps (c.loop-entity.invariant.3.0 ++ makes c.in-Some.entity c.loop-entity.cfg) c.args.cfg.now c.change.new.cfg) (sym (map-append makes c.loop-entity.yielded (c.in-Some.entity ∷ [])))
            (one_more g.C.Configured.changes (map makes c.loop-entity.yielded) (makes c.in-Some.entity) c.loop-entity.invariant.3.0 c.args.cfg.now c.loop-entity.cfg c.change.new.cfg c.loop-entity.invariant.3.1
            (subst (λ records. g.C.Configured.changes (g.P.CellOption.makes c.args.option.now records c.in-Some.entity c.loop-entity.cfg) c.loop-entity.cfg c.change.new.cfg) c.loop-entity.invariant.2 c.in_ok-change.ensures.ok)),
      ),
    )

pub returns-in_err-change-clause-err : goal.returns-in_err-change-clause-err
returns-in_err-change-clause-err g c =
    let listing = g.O.Object.listing c.args.object.now (g.R.ExactRecords.row_count c.args.records.now) (g.R.Records.column_count c.args.records.now) in
    let lists = subst (λ items. Lists g.O.Iter.Iterator.can_next g.O.Iter.Iterator.next_gives g.O.Iter.Iterator.remaining items listing) (sym c.into_iter-entity-iterator.ensures.into_iter_gives) c.in_ok-entity-items.ensures.listed in
    let makes : Entity → g.row.C.Denot → List g.row.C-Event.Denot = g.P.CellOption.makes c.args.option.now c.args.records.now in
    where_refused c.from_residual-in_err-change.result (
      length c.loop-entity.yielded,
      c.loop-entity.invariant.3.0,
      subst (λ cfg. MakesInTurn g.C.Configured.changes (map makes (take (length c.loop-entity.yielded) listing)) c.loop-entity.invariant.3.0 c.args.cfg.now cfg) (sym c.in_err-change.ensures.err)
          (subst (λ entities. MakesInTurn g.C.Configured.changes (map makes entities) c.loop-entity.invariant.3.0 c.args.cfg.now c.loop-entity.cfg) (given_so_far lists c.loop-entity.yielded c.loop-entity.entity-iterator c.loop-entity.yielded_by) c.loop-entity.invariant.3.1),
    )

pub returns-clause-ok : goal.returns-clause-ok
returns-clause-ok g c =
    let listing = g.O.Object.listing c.args.object.now (g.R.ExactRecords.row_count c.args.records.now) (g.R.Records.column_count c.args.records.now) in
    let lists = subst (λ items. Lists g.O.Iter.Iterator.can_next g.O.Iter.Iterator.next_gives g.O.Iter.Iterator.remaining items listing) (sym c.into_iter-entity-iterator.ensures.into_iter_gives) c.in_ok-entity-items.ensures.listed in
    let makes : Entity → g.row.C.Denot → List g.row.C-Event.Denot = g.P.CellOption.makes c.args.option.now c.args.records.now in
    (c.loop-entity.invariant.3.0, subst (λ entities. MakesInTurn g.C.Configured.changes (map makes entities) c.loop-entity.invariant.3.0 c.args.cfg.now c.loop-entity.cfg) (given_all lists c.loop-entity.yielded c.loop-entity.entity-iterator c.loop-entity.yielded_by c.next.result c.next.new.self c.in-None.is c.next.ensures.steps) c.loop-entity.invariant.3.1)

pub returns-in_err-entity-items-clause-without_entities : goal.returns-in_err-entity-items-clause-without_entities
returns-in_err-entity-items-clause-without_entities g c = λ free none. absurd (let sure = c.in_err-entity-items.ensures.always free in cc)

pub returns-in_err-change-clause-without_entities : goal.returns-in_err-change-clause-without_entities
returns-in_err-change-clause-without_entities g c = λ free none.
    let listing = g.O.Object.listing c.args.object.now (g.R.ExactRecords.row_count c.args.records.now) (g.R.Records.column_count c.args.records.now) in
    let lists = subst (λ items. Lists g.O.Iter.Iterator.can_next g.O.Iter.Iterator.next_gives g.O.Iter.Iterator.remaining items listing) (sym c.into_iter-entity-iterator.ensures.into_iter_gives) c.in_ok-entity-items.ensures.listed in
    absurd (nothing_given listing lists none c.loop-entity.yielded c.loop-entity.entity-iterator c.loop-entity.yielded_by c.in-Some.entity c.next.new.self c.in-Some.ensures.steps)
