-- What was put is read as the text.
use Rattle.std.proofs.Common.{◌++◌, ap, ◌∙◌}
use Rattle.tabled_markdown.specs.Reading.{read_text}
use Rattle.tabled_markdown.specs.Source.{escaped}
use Rattle.tabled_markdown.proofs.Rows.{source_read}
use Rattle.tabled_markdown.proofs.source.escaped.Goals as goal

pub returns-clause-source : goal.returns-clause-source
returns-clause-source c = c.in_ok-put_escaped.ensures ∙ ap (λ bs. bs ++ escaped c.args.text.now) c.new-source.ensures.bytes

pub returns-clause-read_back : goal.returns-clause-read_back
returns-clause-read_back c = ap read_text (returns-clause-source c) ∙ source_read c.args.text.now
