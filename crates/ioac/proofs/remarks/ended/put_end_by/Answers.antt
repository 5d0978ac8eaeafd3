use Rattle.ioac.proofs.remarks.ended.put_end_by.Goals as goal

pub returns-then-log : goal.returns-then-log
returns-then-log c = rw c.if-log.true c.put_end_of_log.ensures

pub returns-else-log : goal.returns-else-log
returns-else-log c = rw c.if-log.false c.put_end_of_list.ensures
