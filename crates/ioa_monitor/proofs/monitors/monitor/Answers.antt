use Rattle.std.proofs.Common.{◌≡◌, ◌⊎◌, ◌+◌, ◌<◌, ◌≤◌, ℕ, List, Option, map, drop, length, refl, sym, ap, subst, ◌∙◌, arith}
use Rattle.std.proofs.lemmas.List.{drop_all, length-map}
use mathlib.Core.Logic.{inl, inr}
use Rattle.ioa_arithmetic.specs.declared.arithmetic.Fault.{Fault}
use Rattle.ioa_value.specs.Actions.{Act, act_of}
use Rattle.ioa_tree.specs.Runs.{Ending}
use Rattle.ioa_compile.specs.Programs.{Prog}
use Rattle.ioa_compile.specs.Tables.{tabled, start_states}
use Rattle.ioa_system.specs.declared.outcomes.Step.{Step}
use Rattle.ioa_system.proofs.Finding.{read_map}
use Rattle.ioa_monitor.specs.Monitoring.{IsRefusedAt, monitored, monitored_from}
use Rattle.ioa_monitor.proofs.Monitored.{by_answer, monitored_next}
use Rattle.ioa_monitor.proofs.Subjects.{monitored_as}
use Rattle.ioa_monitor.proofs.monitors.monitor.Goals as goal

refused : (s : Step) (i : ℕ) (o rest : Option Ending) → (s ≡ Step.NotEnabled) ⊎ ((x : ℕ) × (f : Fault) × (s ≡ Step.Fault x f))
    → o ≡ by_answer i s rest → IsRefusedAt i s o
refused Step.Next i o rest (inl e) h = absurd (cc)
refused Step.Next i o rest (inr (x, f, e)) h = absurd (cc)
refused Step.NotAnAction i o rest (inl e) h = absurd (cc)
refused Step.NotAnAction i o rest (inr (x, f, e)) h = absurd (cc)
refused Step.NotEnabled i o rest e h = h
refused (Step.Fault c g) i o rest e h = h

passed : (s : Step) (i : ℕ) (rest : Option Ending) → (s ≡ Step.Next) ⊎ (s ≡ Step.NotAnAction) → by_answer i s rest ≡ rest
passed s i rest (inl e) = rw e refl
passed s i rest (inr e) = rw e refl

pub returns-in-NotEnabled-clause-refused : goal.returns-in-NotEnabled-clause-refused
returns-in-NotEnabled-clause-refused c =
    let p : Prog = c.args.program.now in
    let i : ℕ = c.loop-index.index in
    let acts : List Act = map act_of c.args.actions.now in
    let a : Act = act_of c.index-actions-index.result in
    let l : i < length acts = omega (arith, length-map c.args.actions.now act_of) in
    let rest : Option Ending = monitored_from (i + 1) (tabled p) (drop (i + 1) acts) c.step.new.self.states in
    let more : monitored (tabled p) acts (start_states p) ≡ by_answer i c.in_ok-answer.answer rest =
    monitored_next p c.loop-index.system.program acts i a c.loop-index.system.states c.step.new.self.states c.in_ok-answer.answer c.loop-index.invariant.program l
    (read_map act_of c.args.actions.now i _ _ c.index-actions-index.is) c.loop-index.invariant.rest c.in_ok-answer.ensures.step c.in_ok-answer.ensures.kept in
    let its = refused c.in_ok-answer.answer i _ rest c.in-NotEnabled.is more in
    λ s runs. (c.if-hides_actions.ensures.open refl s runs, subst (IsRefusedAt i c.in_ok-answer.answer) (sym (monitored_as p s runs acts)) its)

pub loop-index-preserved : goal.loop-index-preserved
loop-index-preserved c =
    let p : Prog = c.args.program.now in
    let i : ℕ = c.loop-index.index in
    let acts : List Act = map act_of c.args.actions.now in
    let a : Act = act_of c.index-actions-index.result in
    let l : i < length acts = omega (arith, length-map c.args.actions.now act_of) in
    let rest : Option Ending = monitored_from (i + 1) (tabled p) (drop (i + 1) acts) c.step.new.self.states in
    let more : monitored (tabled p) acts (start_states p) ≡ by_answer i c.in_ok-answer.answer rest =
    monitored_next p c.loop-index.system.program acts i a c.loop-index.system.states c.step.new.self.states c.in_ok-answer.answer c.loop-index.invariant.program l
    (read_map act_of c.args.actions.now i _ _ c.index-actions-index.is) c.loop-index.invariant.rest c.in_ok-answer.ensures.step c.in_ok-answer.ensures.kept in
    record { program = c.in_ok-answer.ensures.program ∙ c.loop-index.invariant.program; rest = more ∙ passed c.in_ok-answer.answer i rest c.in-Next.is }

pub returns-clause-accepted : goal.returns-clause-accepted
returns-clause-accepted c = λ s runs.
    let p : Prog = c.args.program.now in
    let i : ℕ = c.loop-index.index in
    let acts : List Act = map act_of c.args.actions.now in
    let l : length acts ≤ i = omega (arith, length-map c.args.actions.now act_of) in
    let none = c.loop-index.invariant.rest ∙ ap (λ (xs : List Act). monitored_from i (tabled p) xs c.loop-index.system.states) (drop_all i acts l) in
    (c.if-hides_actions.ensures.open refl s runs, monitored_as p s runs acts ∙ none)
