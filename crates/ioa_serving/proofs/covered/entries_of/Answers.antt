use Rattle.std.proofs.Common.{◌∙◌, ◌++◌, ◌∷◌, [], List, ap, map, map-id, sym}
use Rattle.std.proofs.lemmas.Iterator.Adapters.{YieldsList-from_vec}
use Rattle.std.proofs.lemmas.Iterator.Consumers.{YieldsList-end}
use Rattle.std.proofs.lemmas.List.{map-append}
use Rattle.ioa_value.specs.Actions.{Act, act_of}
use Rattle.ioa_system.specs.declared.log.LogEntry.{LogEntry}
use Rattle.ioa_coverage.specs.Counts.{entered}
use Rattle.ioa_serving.proofs.covered.entries_of.Goals as goal

pub loop-action-preserved : goal.loop-action-preserved
loop-action-preserved c =
    ap entered c.in_ok-push.ensures.items
    ∙ map-append (λ (e : LogEntry). act_of e.action) c.loop-action.entries.items (record { who = 0; action = c.in-Some.action } ∷ [])
    ∙ ap (λ (acts : List Act). acts ++ act_of c.in-Some.action ∷ []) c.loop-action.invariant
    ∙ sym (map-append act_of c.loop-action.yielded (c.in-Some.action ∷ []))

pub returns : goal.returns
returns c =
    let gives = c.into_iter-action-iterator.ensures.into_iter_gives in
    let all = YieldsList-end (YieldsList-from_vec {s = c.into_iter-action-iterator.result} c.args.actions.items gives.0 (gives.1 ∙ c.args.actions.ok.0)) c.loop-action.yielded c.loop-action.action-iterator
    c.loop-action.yielded_by c.next.result c.next.new.self c.in-None.is c.next.ensures.steps in
    c.loop-action.invariant ∙ ap (map act_of) (sym (map-id c.loop-action.yielded) ∙ all.0)
