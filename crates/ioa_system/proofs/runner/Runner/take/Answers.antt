use Rattle.std.proofs.Common.{◌≡◌, ◌+◌, ◌++◌, ◌∷◌, [], ℕ, List, Bool, false, Some, sym, ap, subst, ◌∙◌, refl, rules, if◌then◌else◌}
use Rattle.ioa_value.specs.Actions.{Act, act_of}
use Rattle.ioa_value.specs.Plain.{Val}
use Rattle.ioa_tree.specs.Steps.{next, step}
use Rattle.ioa_compile.specs.Programs.{Prog}
use Rattle.ioa_compile.specs.Tables.{tabled}
use Rattle.ioa_system.specs.declared.outcomes.End.{End}
use Rattle.ioa_system.specs.declared.outcomes.Step.{Step}
use Rattle.ioa_system.specs.Outcomes.{step_of}
use Rattle.ioa_system.specs.Logs.{worker}
use Rattle.ioa_system.specs.Progress.{Progress, IsRunOver, next_worker, worker_after}
use Rattle.ioa_system.proofs.Tracing.{none_after, over_ended, over_refused, over_next}
use Rattle.ioa_system.proofs.runner.Runner.take.Goals as goal
use Rattle.ioa_system.proofs.runner.Runner.take.Goals.{in-Some, in-None}

abbrev progress : Prog → List (List Val) → End → Progress
progress p ss e = record { program = p; states = ss; end = e }

pub returns-in_default-clause-run : goal.returns-in_default-clause-run
returns-in_default-clause-run c = λ p acts traced over.
    over_ended p acts traced (act_of c.args.action.now) c.args.self.now over (λ k e. c.in_default.not-Done k (ap (λ (r : Progress). r.end) c.self.view_is ∙ e))

pub returns-in_default-clause-worker : goal.returns-in_default-clause-worker
returns-in_default-clause-worker c =
    none_after c.args.self.now.end _ (λ k e. c.in_default.not-Done k (ap (λ (r : Progress). r.end) c.self.view_is ∙ e))

pub returns-clause-run : goal.returns-clause-run
returns-clause-run c =
    λ q acts traced over.
    let p : Prog = c.self.inside.system.program in
    let a : Act = act_of c.args.action.now in
    let ss : List (List Val) = c.self.inside.system.states in
    let us : List (List Val) = c.perform.new.self.states in
    let old : Progress = progress p ss c.self.inside.end in
    let P : Prog → End × Bool → Type 0 = λ x t. IsRunOver x (acts ++ a ∷ []) (traced ++ (if t.1 then a ∷ [] else [])) (progress c.perform.new.self.program us t.0) in
    let e : p ≡ q = ap (λ (r : Progress). r.program) c.self.view_is ∙ over.program in
    let o : IsRunOver p acts traced old = subst (λ x. IsRunOver x acts traced old) (sym e) (subst (λ (r : Progress). IsRunOver q acts traced r) (sym c.self.view_is) over) in
    elim c.match-end_at.branch [
      | in-Some w ↦
          subst (P q) (sym w.end-is)
          (subst (λ (x : Prog). P x (w.in-Some.end, false)) e
          (over_refused p acts traced a old o c.in-Done.count w.in-Some.end (step_of c.in_ok-performed.performed.step us)
          (progress c.perform.new.self.program us w.in-Some.end) c.in-Done.is c.in_ok-performed.ensures.step
          (λ ts f. w.in-Some.ensures.some ss us f) w.in-Some.ensures.performed c.in_ok-performed.ensures.program
          (w.in-Some.ensures.kept ss us c.in_ok-performed.ensures.kept) refl))
      | in-None w ↦
          let s : next us ≡ step (tabled p) a ss = sym (ap (λ (x : Step). step_of x us) w.in-None.ensures.none) ∙ c.in_ok-performed.ensures.step in
          subst (P q) (sym w.end-is)
          (subst (λ (x : Prog). P x (End.Done (c.in-Done.count + 1), c.in_ok-performed.performed.external)) e
          (over_next p acts traced a old o c.in-Done.count c.in_ok-performed.performed.external (progress c.perform.new.self.program us (End.Done (c.in-Done.count + 1))) c.in-Done.is s
          (sym c.in_ok-performed.ensures.external) c.in_ok-performed.ensures.program refl))
    ]

pub returns-clause-worker : goal.returns-clause-worker
returns-clause-worker c =
    let w : ℕ = worker (tabled c.self.inside.system.program) (act_of c.args.action.now) in
    ap (λ (n : ℕ). Some n) c.in_ok-performed.ensures.worker ∙ ap (λ e. worker_after e w) (sym c.in-Done.is)
    ∙ ap (λ (r : Progress). next_worker r (act_of c.args.action.now)) c.self.view_is
