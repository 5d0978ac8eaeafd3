use Rattle.ioa_value.proofs.SequenceLemmas.{last_given}
use Rattle.ioa_value.proofs.sequences.last.Goals as goal

pub returns-in-Some : goal.returns-in-Some
returns-in-Some c = last_given c.args.items.items c.pop.new.self.items c.in-Some.item c.in-Some.ensures.items
