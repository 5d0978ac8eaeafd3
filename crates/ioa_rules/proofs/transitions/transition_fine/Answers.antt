use Rattle.std.proofs.Common.{[], List, subst}
use Rattle.std.proofs.lemmas.Bool.{or_right}
use Rattle.ioa_tree.specs.declared.tree.Statement.{Statement}
use Rattle.ioa_tree.specs.View.{automaton_of, entry_of, transition_of, stmts_of}
use Rattle.ioa_tree.specs.WellFormed as well_formed
use Rattle.ioa_rules.specs.KnownTypes.{whole, early}
use Rattle.ioa_rules.specs.Reasons as reasons
use Rattle.ioa_rules.specs.Verdicts.{Says}
use Rattle.ioa_rules.proofs.SayLemmas.{says-first, says-more, second-passed}
use Rattle.ioa_rules.proofs.transitions.transition_fine.Goals as goal

pub returns-in_err-before_effect_fine : goal.returns-in_err-before_effect_fine
returns-in_err-before_effect_fine c =
    let w = whole c.args.known.now in
    let k = early c.args.known.now in
    let a = automaton_of c.args.automaton.now in
    let e = entry_of c.args.entry.now in
    let r = transition_of c.args.transition.now in
    second-passed c.before_effect_fine.result c.from_residual.result _ (well_formed.effect_fine w k c.args.globals.now a e r) _ _ (reasons.in_stmts w k c.args.globals.now a e [] r.effect)
    c.in_err-before_effect_fine.was c.from_residual.ensures.1 c.before_effect_fine.ensures

pub returns : goal.returns
returns c =
    let w = whole c.args.known.now in
    let k = early c.args.known.now in
    let a = automaton_of c.args.automaton.now in
    let e = entry_of c.args.entry.now in
    let r = c.statements_fine.result in
    let P : List Statement → Type 0 = λ ss. Says r (well_formed.stmts_fine w k c.args.globals.now a e [] (stmts_of ss)) (reasons.in_stmts w k c.args.globals.now a e [] (stmts_of ss)) in
    let effect : P c.args.transition.now.effect.items = subst P c.deref.ensures.value c.statements_fine.ensures in
    says-more r _ _ _ (λ x h. or_right _ _ h) (says-first r _ _ _ c.in_ok-before_effect_fine.ensures effect)
