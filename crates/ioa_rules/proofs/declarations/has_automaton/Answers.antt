use Rattle.std.proofs.Common.{◌∙◌}
use Rattle.ioa_tree.specs.View.{name_of, automaton_of, tree_of}
use Rattle.ioa_rules.proofs.DeclarationLemmas.{automaton_found}
use Rattle.ioa_rules.proofs.declarations.has_automaton.Goals as goal

pub returns : goal.returns
returns c =
    c.is_some.ensures
    ∙ automaton_found (λ a. automaton_of a.now) c.automaton_named.result (tree_of c.args.declarations.now) (name_of c.args.name.now) c.automaton_named.ensures
