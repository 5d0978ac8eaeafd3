use Rattle.std.proofs.Common.{◌≡◌, ◌∙◌, ℕ, List, Ok, ap, length, map, refl, subst, sym}
use Rattle.std.proofs.lemmas.List.{length-map}
use Rattle.ioa_value.specs.declared.action.Action.{Action}
use Rattle.ioa_value.specs.Actions.{act_of}
use Rattle.ioa_compile.specs.Shown.{member_code}
use Rattle.ioa_system.specs.Logs.{logged}
use Rattle.ioa_run.specs.Alone.{IsAloneSince, IsOutcomeFrom, NoMemory, RefusesResumed}
use Rattle.ioa_run.specs.Seeds.{words_from}
use Rattle.ioa_board.specs.declared.report.Report.{Report}
use Rattle.ioa_serving.specs.Streams.{AreStreams}
use Rattle.ioa_serving.proofs.seeds.run_seed.Goals as goal

pub returns-then-has_memory-clause-ended : goal.returns-then-has_memory-clause-ended
returns-then-has_memory-clause-ended c =
    let p = c.args.ready.now.program in
    let o = c.in_ok-outcome.outcome in
    let turns = c.args.turns in
    let before = logged c.args.ready.now.log in
    let sources = c.in-Ok.words.items in
    let memory : NoMemory o.reports.items = subst (λ (rs : List Report). NoMemory rs) c.as_slice-2.ensures.value (c.has_memory.ensures.0 c.if-has_memory.true) in
    let count : length c.members.result.now ≡ length p.members = sym (length-map c.members.result.now member_code) ∙ ap length c.members.ensures.value in
    record {
      outcome = o;
      sources = sources;
      came = subst (λ (xs : List Action). IsOutcomeFrom p before.entries (map act_of xs) turns o) c.as_slice.ensures.value c.in_ok-outcome.ensures.outcome;
      ended = c.in_ok-outcome.ensures.ended;
      memory = memory;
      streams = subst (λ (k : List ℕ). AreStreams k (length p.members) sources) c.numbered_key-key.ensures (subst (λ n. AreStreams c.numbered_key-key.result n sources) count c.in-Ok.ensures);
      alone = subst (λ (xs : List Action). IsAloneSince p before (map words_from sources) (map act_of xs) turns o) c.as_slice.ensures.value (c.in_ok-outcome.ensures.alone memory);
      begun = subst (λ (xs : List Action). RefusesResumed p (map act_of xs) turns before (Ok o)) c.as_slice.ensures.value c.in_ok-outcome.ensures.refused;
      is_log = refl;
    }
