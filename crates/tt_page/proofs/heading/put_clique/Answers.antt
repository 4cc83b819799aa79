use Rattle.tt_page.specs.Heading.{clique_text}
use Rattle.tt_page_text.proofs.Growing.{then_put}
use Rattle.tt_page.proofs.heading.put_clique.Goals as goal

pub returns : goal.returns
unfolding clique_text
returns c = then_put _ _ _ _ _ (then_put _ _ _ _ _ c.put_token.ensures c.put_next_courses.ensures) c.put_token-2.ensures
