use Rattle.std.proofs.Common.{◌≡◌, ◌∙◌, ◌+◌, ◌<◌, ◌≤◌, ℕ, List, Option, ap, drop, get_or, length, rules, subst, sym}
use Rattle.ioa_value.specs.Actions.{Act, act_of}
use Rattle.ioa_tree.specs.Runs.{Ending}
use Rattle.ioa_compile.specs.Programs.{Prog}
use Rattle.ioa_compile.specs.Tables.{start_states, tabled}
use Rattle.ioa_system.specs.declared.log.LogEntry.{LogEntry}
use Rattle.ioa_system.specs.Logs.{logged}
use Rattle.ioa_monitor.specs.Monitoring.{monitored, monitored_from}
use Rattle.ioa_monitor.proofs.Monitored.{by_answer, monitored_next}
use Rattle.ioa_serving.specs.Logs.{performed_in}
use Rattle.ioa_serving.proofs.Judging.{all_heard, passed, performed_at}
use Rattle.ioa_serving.proofs.judged.answer_of.Goals as goal

pub returns-in-NotEnabled : goal.returns-in-NotEnabled
returns-in-NotEnabled c =
    let p : Prog = c.args.specification.now in
    let i : ℕ = c.loop-index.index in
    let acts : List Act = performed_in (logged c.args.log.now) in
    let a : Act = act_of c.index-entries-index.result.action in
    let l : i < length acts = subst (λ (n : ℕ). i < n) c.performed_count-index-end.ensures (search rules) in
    let rest : Option Ending = monitored_from (i + 1) (tabled p) (drop (i + 1) acts) c.step.new.self.states in
    let more : monitored (tabled p) acts (start_states p) ≡ by_answer i c.in_ok-answer.answer rest =
    monitored_next p c.loop-index.system.program acts i a c.loop-index.system.states c.step.new.self.states c.in_ok-answer.answer c.loop-index.invariant.program l
    (performed_at c.args.log.now i c.index-entries-index.result l
    (c.index-entries-index.is ∙ ap (λ (es : List LogEntry). get_or es i c.index-entries-index.result) c.as_slice-entries.ensures.value)) c.loop-index.invariant.rest c.in_ok-answer.ensures.step c.in_ok-answer.ensures.kept in
    sym (more ∙ ap (λ s. by_answer i s rest) c.in-NotEnabled.is)

pub returns-in-Fault : goal.returns-in-Fault
returns-in-Fault c =
    let p : Prog = c.args.specification.now in
    let i : ℕ = c.loop-index.index in
    let acts : List Act = performed_in (logged c.args.log.now) in
    let a : Act = act_of c.index-entries-index.result.action in
    let l : i < length acts = subst (λ (n : ℕ). i < n) c.performed_count-index-end.ensures (search rules) in
    let rest : Option Ending = monitored_from (i + 1) (tabled p) (drop (i + 1) acts) c.step.new.self.states in
    let more : monitored (tabled p) acts (start_states p) ≡ by_answer i c.in_ok-answer.answer rest =
    monitored_next p c.loop-index.system.program acts i a c.loop-index.system.states c.step.new.self.states c.in_ok-answer.answer c.loop-index.invariant.program l
    (performed_at c.args.log.now i c.index-entries-index.result l
    (c.index-entries-index.is ∙ ap (λ (es : List LogEntry). get_or es i c.index-entries-index.result) c.as_slice-entries.ensures.value)) c.loop-index.invariant.rest c.in_ok-answer.ensures.step c.in_ok-answer.ensures.kept in
    sym (more ∙ ap (λ s. by_answer i s rest) c.in-Fault.is)

pub loop-index-preserved : goal.loop-index-preserved
loop-index-preserved c =
    let p : Prog = c.args.specification.now in
    let i : ℕ = c.loop-index.index in
    let acts : List Act = performed_in (logged c.args.log.now) in
    let a : Act = act_of c.index-entries-index.result.action in
    let l : i < length acts = subst (λ (n : ℕ). i < n) c.performed_count-index-end.ensures (search rules) in
    let rest : Option Ending = monitored_from (i + 1) (tabled p) (drop (i + 1) acts) c.step.new.self.states in
    let more : monitored (tabled p) acts (start_states p) ≡ by_answer i c.in_ok-answer.answer rest =
    monitored_next p c.loop-index.system.program acts i a c.loop-index.system.states c.step.new.self.states c.in_ok-answer.answer c.loop-index.invariant.program l
    (performed_at c.args.log.now i c.index-entries-index.result l
    (c.index-entries-index.is ∙ ap (λ (es : List LogEntry). get_or es i c.index-entries-index.result) c.as_slice-entries.ensures.value)) c.loop-index.invariant.rest c.in_ok-answer.ensures.step c.in_ok-answer.ensures.kept in
    record { program = c.in_ok-answer.ensures.program ∙ c.loop-index.invariant.program; rest = more ∙ passed c.in_ok-answer.answer i rest c.in-Next.is }

pub returns : goal.returns
returns c =
    let p : Prog = c.args.specification.now in
    let i : ℕ = c.loop-index.index in
    let acts : List Act = performed_in (logged c.args.log.now) in
    let least : length acts ≤ i = subst (λ (n : ℕ). n ≤ i) c.performed_count-index-end.ensures (search rules) in
    sym (c.loop-index.invariant.rest ∙ all_heard p acts i c.loop-index.system.states least)
