use Rattle.std.proofs.Common.{◌≡◌, ◌+◌, ◌++◌, [], ◌∷◌, ℕ, List, map, take, subst, sym, ap, ◌∙◌, arith}
use Rattle.std.proofs.lemmas.List.{length-map, length-take, map-append, take_all}
use Rattle.ioa_value.proofs.ItemLemmas.{take_item}
use Rattle.ioa_value.specs.Actions.{Act, act_of}
use Rattle.ioa_system.specs.Progress.{IsRunOver}
use Rattle.ioa_system.proofs.Subjects.{run_of}
use Rattle.ioa_system.proofs.Tracing.{performed_within}
use Rattle.ioa_system.proofs.runs.run_list.Goals as goal

pub record-requires : goal.record-requires
record-requires c =
    let i : ℕ = c.loop-action.action-index in
    let before : List Act = map act_of (take i c.args.actions.now) in
    let few = performed_within c.args.program.now before (map act_of c.loop-action.trace.items) c.loop-action.runner c.loop-action.invariant in
    omega (arith, few, length-map (take i c.args.actions.now) act_of, length-take i c.args.actions.now, c.loop-action-test.true)

pub loop-action-preserved : goal.loop-action-preserved
loop-action-preserved c =
    let i : ℕ = c.loop-action.action-index in
    let before : List Act = map act_of (take i c.args.actions.now) in
    let n : map act_of (take (i + 1) c.args.actions.now) ≡ before ++ act_of c.action-item.result ∷ [] =
    ap (map act_of) (take_item c.args.actions.now i c.action-item.result c.loop-action-test.true c.action-item.is) ∙ map-append act_of (take i c.args.actions.now) (c.action-item.result ∷ []) in
    subst (λ acts. IsRunOver c.args.program.now acts (map act_of c.record.new.trace.items) c.record.new.self) (sym n)
    (c.in_ok-record.ensures.run c.args.program.now before c.loop-action.invariant)

pub returns : goal.returns
returns c = λ s runs.
    let acts : List Act = map act_of c.args.actions.now in
    let over = subst (λ xs. IsRunOver c.args.program.now (map act_of xs) (map act_of c.loop-action.trace.items) c.loop-action.runner)
    (take_all c.loop-action.action-index c.args.actions.now (omega arith)) c.loop-action.invariant in
    run_of c.args.program.now s runs acts c.into_run.result (c.into_run.ensures c.args.program.now acts over)
