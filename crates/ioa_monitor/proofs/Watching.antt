-- A specification that is handed one action more.
use Rattle.std.proofs.Common.{◌≡◌, ◌⊎◌, ◌≤◌, inl, inr, ℕ, ◌+◌, List, [], ◌∷◌, ◌++◌, Option, Some, None, refl, sym, ap, subst, ◌∙◌, append_assoc, arith, length, length-append}
use Rattle.std.specs.Option.{option_map}
use Rattle.ioa_value.specs.Actions.{Act}
use Rattle.ioa_value.specs.Plain.{Val}
use Rattle.ioa_tree.specs.Components.{Component}
use Rattle.ioa_tree.specs.Runs.{Ending}
use Rattle.ioa_tree.specs.Steps.{step}
use Rattle.ioa_compile.specs.Programs.{Prog}
use Rattle.ioa_compile.specs.Tables.{start_states, tabled}
use Rattle.ioa_system.specs.declared.outcomes.Step.{Step}
use Rattle.ioa_system.specs.Outcomes.{KeepsUnlessNext, ending_of, step_of}
use Rattle.ioa_monitor.specs.declared.watch.Watch.{Watch}
use Rattle.ioa_monitor.specs.Monitoring.{monitored, monitored_from}
use Rattle.ioa_monitor.specs.Watching.{HasWatched, or_from}
use Rattle.ioa_monitor.proofs.Monitored.{by_answer, monitored_more}

pub watched_none : (p : Prog) (w : Watch) → w.system.program ≡ p → w.system.states ≡ start_states p → w.count ≡ 0 → w.answer ≡ None → HasWatched p [] w
watched_none p w program states count answer = record {
  program = program;
  counted = omega (arith, count);
  told = λ more.
      ap (λ ss. monitored_from 0 (tabled p) more ss) (sym states) ∙ ap (λ n. monitored_from n (tabled p) more w.system.states) (sym count)
      ∙ ap (λ o. or_from (option_map ending_of o) w.count (tabled p) more w.system.states) (sym answer);
}

module _ (p : Prog) (acts : List Act) (w : Watch) (h : HasWatched p acts w) (a : Act) where
  -- of one action more, and others
  told_more : (more : List Act) → monitored (tabled p) ((acts ++ a ∷ []) ++ more) (start_states p) ≡ or_from (option_map ending_of w.answer) w.count (tabled p) (a ∷ more) w.system.states
  told_more more = ap (λ xs. monitored (tabled p) xs (start_states p)) (append_assoc acts (a ∷ []) more) ∙ h.told (a ∷ more)

  answered : (o : Option Ending) (end : Ending) → o ≡ Some end → (n : ℕ) (xs ys : List Act) (ss : List (List Val))
      → or_from o n (tabled p) xs ss ≡ or_from o n (tabled p) ys ss
  answered (Some e) end k n xs ys ss = refl
  answered None end k n xs ys ss = absurd (cc)

  more_counted : (n : ℕ) → n ≤ w.count + 1 → n ≤ length (acts ++ a ∷ [])
  more_counted n l = omega (arith, l, h.counted, length-append acts (a ∷ []))

  -- an answer stays
  pub watched_still : (end : Ending) → option_map ending_of w.answer ≡ Some end → HasWatched p (acts ++ a ∷ []) w
  watched_still end k = record {
    program = h.program;
    counted = more_counted w.count (omega arith);
    told = λ more. told_more more ∙ answered (option_map ending_of w.answer) end k w.count (a ∷ more) more w.system.states;
  }

  -- without one, the step tells
  pub watched_next : (new : Watch) (s : Step) → w.answer ≡ None → new.system.program ≡ w.system.program
      → step_of s new.system.states ≡ step (tabled w.system.program) a w.system.states → KeepsUnlessNext s w.system.states new.system.states
      → ((more : List Act) → by_answer w.count s (monitored_from (w.count + 1) (tabled p) more new.system.states)
      ≡ or_from (option_map ending_of new.answer) new.count (tabled p) more new.system.states)
      → new.count ≤ w.count + 1 → HasWatched p (acts ++ a ∷ []) new
  watched_next new s none same e k by counted = record {
    program = same ∙ h.program;
    counted = more_counted new.count counted;
    told = λ more.
        told_more more ∙ ap (λ o. or_from (option_map ending_of o) w.count (tabled p) (a ∷ more) w.system.states) none
        ∙ monitored_more w.count (tabled p) a more w.system.states new.system.states s (subst (λ q. step_of s new.system.states ≡ step (tabled q) a w.system.states) h.program e) k
        ∙ by more;
  }

  -- it is performed, or no component has it
  pub watched_on : (new : Watch) (s : Step) → w.answer ≡ None → new.system.program ≡ w.system.program
      → step_of s new.system.states ≡ step (tabled w.system.program) a w.system.states → KeepsUnlessNext s w.system.states new.system.states
      → (s ≡ Step.Next) ⊎ (s ≡ Step.NotAnAction) → new.answer ≡ w.answer → new.count ≡ w.count + 1 → HasWatched p (acts ++ a ∷ []) new
  watched_on new s none same e k goes kept count =
      watched_next new s none same e k (λ more.
      passed s goes (monitored_from (w.count + 1) (tabled p) more new.system.states)
      ∙ ap (λ n. monitored_from n (tabled p) more new.system.states) (sym count)
      ∙ ap (λ o. or_from (option_map ending_of o) new.count (tabled p) more new.system.states) (sym (kept ∙ none))) (omega (arith, count))
    where
      passed : (s : Step) → (s ≡ Step.Next) ⊎ (s ≡ Step.NotAnAction) → (rest : Option Ending) → by_answer w.count s rest ≡ rest
      passed s (inl q) rest = ap (λ t. by_answer w.count t rest) q
      passed s (inr q) rest = ap (λ t. by_answer w.count t rest) q

  -- it is refused
  pub watched_last : (new : Watch) (s : Step) (end : Ending) → w.answer ≡ None → new.system.program ≡ w.system.program
      → step_of s new.system.states ≡ step (tabled w.system.program) a w.system.states → KeepsUnlessNext s w.system.states new.system.states
      → ((rest : Option Ending) → by_answer w.count s rest ≡ Some end) → option_map ending_of new.answer ≡ Some end → new.count ≡ w.count → HasWatched p (acts ++ a ∷ []) new
  watched_last new s end none same e k refused told count =
      watched_next new s none same e k (λ more.
      refused (monitored_from (w.count + 1) (tabled p) more new.system.states)
      ∙ sym (ap (λ o. or_from o new.count (tabled p) more new.system.states) told)) (omega (arith, count))
