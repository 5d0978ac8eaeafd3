use Rattle.std.proofs.Common.{[], IfOk, ap, subst, ◌≡◌, ◌∙◌, map}
use Rattle.std.specs.Option.{option_map}
use Rattle.ioa_value.specs.Operators.{answer_of}
use Rattle.ioa_tree.specs.View.{expr_of, field_of, variable_of, automaton_of}
use Rattle.ioa_tree.specs.Meaning.{val}
use Rattle.ioa_tree.specs.WellFormed.{type_of, context_of}
use Rattle.ioa_tree.proofs.Starts.{start_typed}
use Rattle.ioa_compose.specs.Scopes.{context, environment}
use Rattle.ioa_compose.proofs.StartLemmas.{started-at}
use Rattle.ioa_compose.proofs.starts.start_value.Goals as goal

pub value_of-requires-clause-typed : goal.value_of-requires-clause-typed
value_of-requires-clause-typed c =
    let types = c.args.types.now in
    let scope = c.of_starts-scope.result in
    let e = expr_of c.in-Some.expression in
    let t = start_typed types [] (automaton_of c.args.binding.now.automaton.now) (variable_of c.args.variable.now) e (ap (option_map expr_of) c.in-Some.is) c.requires.fine in (
      t.0,
      ap (λ u. type_of u u (context scope) e) c.of_starts-scope.ensures.types ∙ ap (λ k. type_of types types k e) c.of_starts-scope.ensures.names
          ∙ ap (λ fs. type_of types types (context_of types (map field_of fs)) e) c.deref.ensures.value ∙ t.1,
    )

pub returns-in-Some : goal.returns-in-Some
returns-in-Some c =
    let scope = c.of_starts-scope.result in
    let e = expr_of c.in-Some.expression in
    let evaluated = subst (λ u. IfOk c.value_of.result (λ r. answer_of r ≡ val u e (environment scope))) c.of_starts-scope.ensures.types c.value_of.ensures in
    started-at c.args.types.now c.value_of.result e (variable_of c.args.variable.now) _ _ _ _ c.deref.ensures.value c.deref-in-Some.ensures.value (ap (option_map expr_of) c.in-Some.is)
    (subst (λ env. IfOk c.value_of.result (λ r. answer_of r ≡ val c.args.types.now e env)) c.of_starts-scope.ensures.values evaluated)
