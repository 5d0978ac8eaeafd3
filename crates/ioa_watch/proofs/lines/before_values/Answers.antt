use Rattle.std.proofs.Common.{rules}
use Rattle.ioa_watch.proofs.Listened.{no_values, values_at}
use Rattle.ioa_watch.proofs.lines.before_values.Goals as goal

pub returns-in-Some : goal.returns-in-Some
returns-in-Some c = values_at c.args.text.now c.in-Some.at (search rules) (search rules) (search rules)

pub returns-in-None : goal.returns-in-None
returns-in-None c = no_values c.args.text.now (search rules)
