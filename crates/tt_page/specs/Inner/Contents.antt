-- What a page is made of.
use Rattle.std.specs.Prelude.{ℕ, List}
use Rattle.tt_rules.specs.Score.{IsScore}
use Rattle.tt_page.specs.Pages.{shown_text}
use Rattle.tt_page.specs.Proofs.{IsShownOf}
use Rattle.tt_page.specs.declared.content.PageContent.{PageContent}

-- Whether the score is the timetable's, and all shown parts are in the range of its instance.
pub record IsContent (content : PageContent) : Type 0 where
  pub score : IsScore content.plan.now.problem content.plan.now.table content.score.now
  pub shown : IsShownOf content.plan.now.problem content.shown

-- The text for what is shown.
abbrev pub content_text : PageContent → List ℕ
content_text content =
    shown_text content.plan.now.problem content.plan.now.table content.look.now.labels.now content.shown content.look.now.style.now
