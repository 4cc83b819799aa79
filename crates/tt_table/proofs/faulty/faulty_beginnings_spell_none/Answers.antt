use Rattle.tt_table.proofs.BeginningLaws.{fault_stands, fault_stays}
use Rattle.tt_table.proofs.faulty.faulty_beginnings_spell_none.Goals as goal

pub returns-clause-token : goal.returns-clause-token
returns-clause-token c = λ p bytes e at failed reported. fault_stands p bytes e at failed reported

pub returns-clause-none : goal.returns-clause-none
returns-clause-none c = λ p is bytes other e at failed reported begins t spelled. fault_stays p bytes other e at is.within failed
    reported begins t spelled
