use Rattle.ioa_serving.proofs.covered.cover.Goals as goal

pub returns-then-log-clause-ok : goal.returns-then-log-clause-ok
returns-then-log-clause-ok c = rw c.if-log.true c.covered_log.ensures.ok

pub returns-then-log-clause-refused : goal.returns-then-log-clause-refused
returns-then-log-clause-refused c = rw c.if-log.true c.covered_log.ensures.refused

pub returns-else-log-clause-ok : goal.returns-else-log-clause-ok
returns-else-log-clause-ok c = rw c.if-log.false c.covered_list.ensures.ok

pub returns-else-log-clause-refused : goal.returns-else-log-clause-refused
returns-else-log-clause-refused c = rw c.if-log.false c.covered_list.ensures.refused
