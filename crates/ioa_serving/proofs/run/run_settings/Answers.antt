use Rattle.std.proofs.Common.{◌≡◌, ◌∙◌, List, Vec, ap, length, map, subst, sym, arith}
use Rattle.std.specs.Global.{Global}
use Rattle.std.specs.Vec.{vec_len}
use Rattle.std.proofs.lemmas.List.{length-map}
use Rattle.std.proofs.lemmas.Result.{err_from_is_err_and}
use Rattle.ioa_value.specs.declared.action.Action.{Action}
use Rattle.ioa_value.specs.Actions.{act_of}
use Rattle.ioa_system.specs.Logs.{log_entry, logged}
use Rattle.ioa_serving.specs.Alone.{IsReady}
use Rattle.ioa_serving.proofs.Hosted.{count_same}
use Rattle.ioa_serving.proofs.RunServed.{has_run}
use Rattle.ioa_serving.proofs.Refused.{err_so}
use Rattle.ioa_serving.proofs.RoundRobin.{exactly}
use Rattle.ioa_serving.proofs.Unrun.{count_is, unrun_by}
use Rattle.ioa_serving.proofs.run.run_settings.Goals as goal

pub returns-in_err-outcome-clause-refused : goal.returns-in_err-outcome-clause-refused
returns-in_err-outcome-clause-refused g c =
    let e = err_from_is_err_and c.from_residual-in_err-outcome.result c.from_residual-in_err-outcome.ensures.1 in
    let k = c.in_ok-ready.ensures.ready in
    let r = c.in_ok-ready.ready in
    let ready = subst (λ (xs : List Action). IsReady (g.F.Store.holds c.args.store.now) c.args.settings.now k.subject (map act_of xs) (logged r.log)) (sym c.as_slice.ensures.value) k.ready in
    err_so c.from_residual-in_err-outcome.result e.0 _ _ e.1 e.2
    (unrun_by r.program k.subject (g.F.Store.holds c.args.store.now) (g.F.Store.lacks c.args.store.now) c.args.settings.now (map act_of c.as_slice.result.now) (logged r.log) c.in_err-outcome.field-0.0 k.runs
    ready c.in_err-outcome.ensures.refused c.in_err-outcome.ensures.threads)

pub run_sources-requires-clause-sources : goal.run_sources-requires-clause-sources
run_sources-requires-clause-sources g c κs within =
    count_is (g.F.Store.holds c.args.store.now) c.args.settings.now.words (length c.in_ok-ready.ready.program.members) c.in_ok-ready.ready.words c.in_ok-ready.ensures.ready.words

pub returns-clause-ran : goal.returns-clause-ran
returns-clause-ran g c =
    let k = c.in_ok-ready.ensures.ready in
    let r = c.in_ok-ready.ready in
    let ready = subst (λ (xs : List Action). IsReady (g.F.Store.holds c.args.store.now) c.args.settings.now k.subject (map act_of xs) (logged r.log)) (sym c.as_slice.ensures.value) k.ready in
    let script = ap (λ (xs : Vec Action Global). map act_of xs.items) c.ran_of.ensures.script ∙ ap (map act_of) (sym c.as_slice.ensures.value) in
    let items : vec_len r.log.entries ≡ length r.log.entries.items = omega (arith, r.log.entries.ok.0) in
    let began = c.ran_of.ensures.before ∙ c.len-before.ensures ∙ items ∙ sym (length-map r.log.entries.items log_entry) in
    has_run (g.F.Store.holds c.args.store.now) c.args.settings.now c.ran_of.result r.program r.source c.in_ok-outcome.outcome c.run_sources.new.tallies k.subject (map act_of c.as_slice.result.now) (logged r.log) c.ran_of.ensures.program c.ran_of.ensures.source
    c.ran_of.ensures.entries c.ran_of.ensures.end c.ran_of.ensures.reports c.ran_of.ensures.tallies began script c.in_ok-outcome.ensures.tallied ready k.runs k.declares c.in_ok-outcome.ensures.refused c.in_ok-outcome.ensures.outcome c.in_ok-outcome.ensures.ended
    (exactly (g.F.Store.holds c.args.store.now) c.args.settings.now r.program k.subject (logged r.log) (map act_of c.as_slice.result.now) c.in_ok-outcome.outcome r.words (length r.program.members) k.program k.runs
    (count_same r.program k.subject k.runs) k.words c.in_ok-outcome.ensures.alone)
