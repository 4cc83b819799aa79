use Rattle.tt_proof_check.proofs.stream.check_proof_on.Goals as goal

pub returns-clause-visited : goal.returns-clause-visited
returns-clause-visited g c = rw c.new-checker.ensures at c.check.ensures.visited

pub returns-clause-found : goal.returns-clause-found
returns-clause-found g c = rw c.new-checker.ensures at c.check.ensures.found

pub returns-clause-only : goal.returns-clause-only
returns-clause-only g c = rw c.new-checker.ensures at c.check.ensures.only

pub returns-clause-holds : goal.returns-clause-holds
returns-clause-holds g c = rw c.new-checker.ensures at c.check.ensures.holds

pub returns-clause-fault : goal.returns-clause-fault
returns-clause-fault g c = rw c.new-checker.ensures at c.check.ensures.fault

pub returns-clause-up_to_failed_read : goal.returns-clause-up_to_failed_read
returns-clause-up_to_failed_read g c = rw c.new-checker.ensures at c.check.ensures.up_to_failed_read
