use Rattle.std.proofs.Common.{◌≡◌, ◌∙◌, List, ap, arith, length, take}
use Rattle.ioa_value.specs.declared.value.Value.{Value}
use Rattle.ioa_tree.specs.View.{tree_of}
use Rattle.ioa_coverage.proofs.Declared.{instance_same}
use Rattle.ioa_coverage.proofs.origin.shared_by.Goals as goal

pub returns-clause-instance : goal.returns-clause-instance
returns-clause-instance c =
    let a = c.declared_automaton-automaton.result.now in
    let long : c.len.result ≡ length a.formals.items = omega (arith, c.len.ensures, a.formals.ok.0) in
    instance_same (tree_of c.args.declarations.now) c.args.types.now c.args.component.now a c.len.result c.first_of.result.now c.declared_automaton-automaton.ensures long
    (c.first_of.ensures ∙ ap (λ (vs : List Value). take c.len.result vs) c.as_slice.ensures.value)
