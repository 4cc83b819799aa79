use Rattle.std.proofs.Common.{◌≡◌}
use Rattle.std.specs.Prelude.{codes}
use Rattle.tt_page.specs.Heading.{legend_text}
use Rattle.tt_page_text.proofs.Growing.{then_put}
use Rattle.tt_page_text.specs.Puts.{put_text}
use Rattle.tt_page.proofs.heading.put_legend.Goals as goal

-- the end of the tables was written
end_put : (c : goal.After-put_token-2) → c.put_token.new.out ≡ put_text c.args.out.now (codes "</div>\n")
end_put c = c.put_token.ensures

pub returns : goal.returns
unfolding legend_text
returns c =
    let first = c.args.out.now in
    then_put first _ _ _ _ (then_put first _ _ (codes "</div>\n") _ (end_put c) c.put_marks.ensures) c.put_token-2.ensures
