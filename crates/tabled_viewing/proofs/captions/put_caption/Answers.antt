-- Without a text nothing is written; and what is written for one is that.
use Rattle.std.proofs.Common.{◌++◌, List, ℕ, Option, string_bytes, sym, ap, subst, append-nil}
use Rattle.std.specs.Prelude.{option_map}
use Rattle.tabled_configuration.specs.Colored.{Shows}
use Rattle.tabled_configuration.specs.Configuration.{ConfigEvent}
use Rattle.tabled_viewing.specs.Captions.{on_line}
use Rattle.tabled_viewing.proofs.captions.put_caption.Goals as goal

pub returns-in-None-clause-config : goal.returns-in-None-clause-config
returns-in-None-clause-config g c = λ before shows nothing.
    subst (λ (text : Option (List ℕ)). Shows (before ++ on_line c.args.is_drawn before c.args.table.now.texts c.args.line text) c.args.table.now.config) (sym (ap (option_map string_bytes) c.in-None.is))
    (subst (λ (es : List ConfigEvent). Shows es c.args.table.now.config) (sym (append-nil before)) shows)
