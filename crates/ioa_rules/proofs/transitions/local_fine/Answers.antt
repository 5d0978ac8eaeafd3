use Rattle.std.proofs.Common.{rules}
use Rattle.ioa_tree.specs.View.{automaton_of}
use Rattle.ioa_rules.proofs.transitions.local_fine.Goals as goal

pub returns : goal.returns
returns c = let h = c.all_proposed.ensures (automaton_of c.args.automaton.now) in search rules
