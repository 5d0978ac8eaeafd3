use Rattle.std.proofs.Common.{rules}
use Rattle.ioa_tree.specs.View.{automaton_of}
use Rattle.ioa_rules.proofs.transitions.before_effect_fine.Goals as goal

pub returns-then-is_input : goal.returns-then-is_input
returns-then-is_input c = let h = c.input_fine.ensures (automaton_of c.args.automaton.now) in search rules
