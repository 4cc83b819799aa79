-- The numbers of a header, as a contract sees them.
use Rattle.tt_instance_read.specs.declared.header.Header.{Header}
use Rattle.tt_instance_read.specs.Reading.{Counts}

-- The six numbers of a header, as a contract sees them.
abbrev pub counts_seen : Header → Counts
counts_seen h = record { courses = h.courses; rooms = h.rooms; days = h.days; periods = h.periods; curricula = h.curricula; unavailabilities = h.unavailabilities }
