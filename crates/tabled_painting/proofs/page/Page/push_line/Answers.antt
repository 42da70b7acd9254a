-- A line as it was written before, between sides without room.
use Rattle.std.proofs.Common.{[], ◌∷◌, ◌++◌, ap, refl, sym, subst, ◌∙◌, append-nil, option_copied}
use Rattle.tabled_painting.specs.InColor.{feed_if}
use Rattle.tabled_painting.specs.Margin.{side_of}
use Rattle.tabled_painting.specs.Pages.{PaintsWhole, line_text}
use Rattle.tabled_painting.proofs.MarginLemmas.{counted_none}
use Rattle.tabled_painting.proofs.page.Page.push_line.Goals as goal

pub returns : goal.returns
returns g c painted is =
    let page = c.args.self.now in
    let gains = g.O.Output.gains in
    let feed = feed_if page.painter.has_begun in
    record {
      whole =
          subst (λ lines. PaintsWhole gains lines page.painter (record c.begin_line.new.self { out = c.push_str.new.self })) (sym (counted_none (side_of page.left) (side_of page.right) page.high page.number (painted ∷ []) c.requires.left c.requires.right))
          (record {
            text =
                subst (λ bs. gains bs page.painter.out c.push_str.new.self) ((λ i. feed ++ is i) ∙ sym (append-nil (feed ++ line_text page.painter.with_colors painted)))
                (g.met.O.Output.gains_both feed c.args.line.now page.painter.out c.begin_line.new.self.out c.push_str.new.self c.in_ok-begin_line.ensures.text c.in_ok-push_str.ensures);
            begun = c.in_ok-begin_line.ensures.begun;
            ended = ap option_copied c.begin_line.ensures.color ∙ c.requires.ended;
            same_colors = c.begin_line.ensures.same_colors;
          });
      number = c.saturating_add-self.ensures;
      same = record { left = refl; right = refl; high = refl };
    }
