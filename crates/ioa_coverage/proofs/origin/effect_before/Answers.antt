use Rattle.std.proofs.Common.{◌≡◌, ◌∙◌, ap, arith, length, map, replicate, sym}
use Rattle.std.proofs.lemmas.List.{length-replicate}
use Rattle.ioa_tree.specs.Tree.{Stmts}
use Rattle.ioa_tree.specs.View.{automaton_of, entry_of, stmts_of, transition_of}
use Rattle.ioa_compile.specs.Shown.{entry_code, member_code}
use Rattle.ioa_coverage.specs.Effects.{entry_effect, instance_of}
use Rattle.ioa_coverage.proofs.Declared.{as_many_counts}
use Rattle.ioa_coverage.proofs.origin.effect_before.Goals as goal

pub returns-clause-effect : goal.returns-clause-effect
returns-clause-effect c =
    let shared = c.args.shared in
    let a = automaton_of shared.automaton.now in
    let i = instance_of shared.types.now shared.automaton.now shared.arguments.now in
    ap (λ (ss : Stmts). record (entry_effect shared.number (member_code shared.member.now) i (entry_of c.args.declared.now) (entry_code c.args.entry.now)) { statements = ss })
    (c.statements_for-statements.ensures a (ap (map transition_of) (sym c.deref.ensures.value)))

pub returns-clause-places : goal.returns-clause-places
returns-clause-places c =
    let same : c.in_ok-taken.taken.items ≡ replicate c.len.result 0 = c.in_ok-taken.ensures.items_if_clones_equal (λ y e. e) in
    let labels = c.in_ok-labels.labels in
    let many = as_many_counts labels.items (stmts_of c.statements_for-statements.result.now) c.len.result (omega (arith, c.len.ensures, labels.ok.0)) c.in_ok-labels.ensures in
    (c.in_ok-labels.ensures, ap length same ∙ length-replicate c.len.result 0 ∙ many)

pub returns-clause-none : goal.returns-clause-none
returns-clause-none c =
    let same : c.in_ok-taken.taken.items ≡ replicate c.len.result 0 = c.in_ok-taken.ensures.items_if_clones_equal (λ y e. e) in
    let labels = c.in_ok-labels.labels in
    let many = as_many_counts labels.items (stmts_of c.statements_for-statements.result.now) c.len.result (omega (arith, c.len.ensures, labels.ok.0)) c.in_ok-labels.ensures in
    same ∙ ap (λ n. replicate n 0) many
