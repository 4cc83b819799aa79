use Rattle.tt_text.proofs.Places.{tokens_are_read, read_are_tokens}
use Rattle.tt_text.proofs.laws.tokens_are_apart.Goals as goal

pub returns-clause-read : goal.returns-clause-read
returns-clause-read c = λ bytes. read_are_tokens bytes

pub returns-clause-only : goal.returns-clause-only
returns-clause-only c = λ bytes tokens h. tokens_are_read 0 bytes tokens h
