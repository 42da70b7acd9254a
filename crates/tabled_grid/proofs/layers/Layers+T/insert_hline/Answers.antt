use Rattle.tabled_places.proofs.Changing.{horizontal_line_put}
use Rattle.tabled_grid.proofs.Seen.{seen, changed, on_ok, with_horizontal}
use Rattle.tabled_grid.proofs.layers.Layers+T.insert_hline.Goals as goal

pub returns-clause-ok : goal.returns-clause-ok
returns-clause-ok g c = on_ok c.put_line.result (λ e. changed _ (seen c.self.inside) c.args.self.now _ _ c.self.view_is (with_horizontal (seen c.self.inside) _ _ e) (horizontal_line_put (seen c.self.inside) c.args.line c.args.fields)) c.put_line.ensures.ok
