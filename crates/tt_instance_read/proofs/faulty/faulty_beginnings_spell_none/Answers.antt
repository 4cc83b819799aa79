use Rattle.tt_instance_read.proofs.BeginningLaws.{fault_stands, fault_stays}
use Rattle.tt_instance_read.proofs.faulty.faulty_beginnings_spell_none.Goals as goal

pub returns-clause-token : goal.returns-clause-token
returns-clause-token c = λ bytes e at failed offset_of. fault_stands bytes e at failed offset_of

pub returns-clause-none : goal.returns-clause-none
returns-clause-none c = λ bytes other e at failed offset_of begins p spelled. fault_stays bytes other e at failed offset_of begins p spelled
