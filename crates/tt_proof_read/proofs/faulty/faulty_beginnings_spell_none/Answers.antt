use Rattle.tt_proof_read.proofs.BeginningLaws.{token_is_there, others_spell_none}
use Rattle.tt_proof_read.proofs.faulty.faulty_beginnings_spell_none.Goals as goal

pub returns-clause-token : goal.returns-clause-token
returns-clause-token c = λ sizes bytes e at fails there. token_is_there at sizes bytes e fails there

pub returns-clause-none : goal.returns-clause-none
returns-clause-none c = λ p sizes is are bytes other e at fails there begins v b tree spelled. others_spell_none at sizes bytes e fails
    there p is are other begins v b tree spelled
