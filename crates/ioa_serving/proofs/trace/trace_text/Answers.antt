use Rattle.std.proofs.Common.{◌≡◌, ◌≤◌, ◌+◌, ◌++◌, ◌∷◌, [], cond, codes, filter, map, take, take_all, length, ap, ap₂, ◌∙◌, sym, rules}
use Rattle.std.specs.String.{string_bytes}
use Rattle.std.proofs.lemmas.List.{map_more}
use Rattle.std.proofs.lemmas.Result.{IfOk-weaker}
use Rattle.ioa_value.specs.Actions.{Act, act_of}
use Rattle.ioa_value.specs.Written.{written_action}
use Rattle.ioa_tree.specs.Runs.{is_external, trace}
use Rattle.ioa_compile.specs.Tables.{tabled}
use Rattle.ioa_log.specs.Replays.{lines_of}
use Rattle.ioa_system.specs.Endings.{ending_text}
use Rattle.ioa_system.specs.Logs.{actions_of, logged}
use Rattle.ioa_system.specs.Outcomes.{ending_of}
use Rattle.ioa_system.specs.declared.log.LogEntry.{LogEntry}
use Rattle.ioa_serving.specs.Traces.{performed, traced_text}
use Rattle.ioa_serving.proofs.Traced.{acts_taken, traced_more}
use Rattle.ioa_serving.proofs.trace.trace_text.Goals as goal

act_in : LogEntry → Act
act_in e = act_of e.action

pub loop-entry-preserved : goal.loop-entry-preserved
unfolding act_in
loop-entry-preserved c =
    let p = c.args.program.now in
    let shown = is_external p.hidden (tabled p) in
    let items = take c.performed.result c.deref.result.now in
    let i = c.loop-entry.entry-index in
    let x = c.entry-item.result in
    let so_far = map act_in (take i items) in
    let more : map act_in (take (i + 1) items) ≡ so_far ++ act_in x ∷ [] = map_more act_in items i x (search rules) ∙ ap (λ y. so_far ++ act_in y ∷ []) (sym c.entry-item.is) in
    c.in_ok-push_external.ensures ∙ ap (λ bs. bs ++ cond (shown (act_in x)) (written_action p.types (act_in x) ++ 10 ∷ []) []) c.loop-entry.invariant
    ∙ sym (traced_more p.types shown so_far (act_in x)) ∙ ap (λ as'. lines_of p.types (filter shown as')) (sym more)

pub returns : goal.returns
returns c =
    let p = c.args.program.now in
    let log = c.args.log.now in
    let shown = is_external p.hidden (tabled p) in
    let items = take c.performed.result c.deref.result.now in
    let i = c.loop-entry.entry-index in
    let past : length items ≤ i = search rules in
    let whole : take i items ≡ items = take_all i items past in
    let acts = acts_taken log c.performed.result items (ap (take c.performed.result) c.deref.ensures.value) ∙ ap (λ k. take k (actions_of (logged log))) c.performed.ensures in
    let told : c.loop-entry.trace ≡ lines_of p.types (trace p.hidden (tabled p) (actions_of (logged log)) (performed log.end)) =
    c.loop-entry.invariant ∙ ap (λ es. lines_of p.types (filter shown (map (λ (e : LogEntry). act_of e.action) es))) whole ∙ ap (λ as'. lines_of p.types (filter shown as')) acts in
    IfOk-weaker c.end.result (λ text. string_bytes text ≡ c.loop-entry.trace ++ (codes "end: " ++ (ending_text (ending_of c.end-end.result) ++ 10 ∷ [])))
    (λ text. string_bytes text ≡ traced_text p (logged log) (performed log.end))
    (λ text e. e ∙ ap₂ (λ bs e. bs ++ (codes "end: " ++ (ending_text e ++ 10 ∷ []))) told c.end-end.ensures) c.end.ensures
