use Rattle.std.proofs.Common.{◌∙◌, sym, arith}
use Rattle.tt_text.proofs.Runs.{tokens-none, tokens-some, is_a_token}
use Rattle.tt_text.proofs.token.Tokens.next.Goals as goal

pub returns-then-len-eq0-clause-gives : goal.returns-then-len-eq0-clause-gives
returns-then-len-eq0-clause-gives c =
    let none = tokens-none c.self.inside.at c.gap_len-gap.result c.token_len-len.result _ _ _ c.split_at.ensures.back
    c.gap_len-gap.ensures.len c.token_len-len.ensures.len c.split_at-2.ensures.back (omega arith) in
    (sym c.self.view_is ∙ none.0, none.1)

pub returns-clause-gives : goal.returns-clause-gives
returns-clause-gives c = sym c.self.view_is
    ∙ tokens-some c.self.inside.at c.gap_len-gap.result c.token_len-len.result _ _ _ _ c.split_at.ensures.back c.gap_len-gap.ensures.len
    c.token_len-len.ensures.len c.split_at-2.ensures.front c.split_at-2.ensures.back (omega arith)

pub returns-clause-token : goal.returns-clause-token
returns-clause-token c = is_a_token c.token_len-len.result _ _ c.token_len-len.ensures.len c.split_at-2.ensures.front (omega arith)
