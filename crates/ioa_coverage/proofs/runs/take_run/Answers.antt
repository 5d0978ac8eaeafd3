use Rattle.std.proofs.Common.{◌≡◌, ◌∙◌, ◌++◌, ◌+◌, ℕ, List, [], ap, arith, drop, map, refl, subst, sym}
use Rattle.std.proofs.lemmas.List.{drop_all}
use Rattle.ioa_value.specs.Actions.{act_of}
use Rattle.ioa_value.specs.Plain.{Val}
use Rattle.ioa_tree.specs.Steps.{step}
use Rattle.ioa_compile.specs.Programs.{Prog}
use Rattle.ioa_compile.specs.Tables.{tabled}
use Rattle.ioa_system.specs.Outcomes.{step_of}
use Rattle.ioa_system.specs.declared.log.LogEntry.{LogEntry}
use Rattle.ioa_coverage.specs.Counts.{entered}
use Rattle.ioa_coverage.specs.Effects.{EntryEffect, MayTake, counts_of, taken_at}
use Rattle.ioa_coverage.proofs.Walked.{no_next, performs, performs_not, same_again, still, taken_from, taken_more, taken_same, with_taken}
use Rattle.ioa_coverage.proofs.runs.take_run.Goals as goal

pub take_all-requires-clause-may : goal.take_all-requires-clause-may
take_all-requires-clause-may c = still (MayTake c.args.program.now) c.args.effects.now c.loop-entry.effects c.loop-entry.invariant.effects c.requires.may

pub loop-entry-preserved : goal.loop-entry-preserved
loop-entry-preserved c =
    let p = c.args.program.now in
    let log = c.args.log.now in
    let i = c.loop-entry.entry-index in
    let a = act_of c.entry-item.result.action in
    let ss = c.loop-entry.before.states in
    let us = c.step.new.self.states in
    let vs = c.step-in-Next.new.self.states in
    let s = c.in_ok-step.field-0 in
    let t = c.in_ok-step-in-Next.field-0 in
    let old = c.loop-entry.effects in
    let new = c.take_all.new.effects in
    let inv = c.loop-entry.invariant in
    let now : EntryEffect → List ℕ = λ e. taken_at e a ss in
    let later : EntryEffect → List ℕ = taken_from p (entered (drop (i + 1) log)) vs in
    let ahead : step_of s us ≡ step (tabled p) a ss =
    subst (λ (q : Prog). step_of s us ≡ step (tabled q) a ss) inv.ahead
    (subst (λ (ws : List (List Val)). step_of s us ≡ step (tabled c.loop-entry.after.program) a ws) inv.same c.in_ok-step.ensures.step) in
    let behind : step_of t vs ≡ step (tabled p) a ss = subst (λ (q : Prog). step_of t vs ≡ step (tabled q) a ss) inv.program c.in_ok-step-in-Next.ensures.step in
    let same : us ≡ vs = same_again s t us vs (step (tabled p) a ss) c.in-Next.is ahead behind in
    let is : step_of s vs ≡ step (tabled p) a ss = subst (λ (ws : List (List Val)). step_of s ws ≡ step (tabled p) a ss) same ahead in
    let counted : map counts_of new ≡ with_taken now old = c.in_ok-take_all-in-Next.ensures.counts ∙ ap (λ (ws : List (List Val)). with_taken (λ e. taken_at e a ws) old) c.states.ensures.values in
    record {
      program = c.in_ok-step-in-Next.ensures.program ∙ inv.program;
      ahead = c.in_ok-step.ensures.program ∙ inv.ahead;
      same = same;
      effects = c.in_ok-take_all-in-Next.ensures.effects ∙ inv.effects;
      places = c.in_ok-take_all-in-Next.ensures.places;
      counts = taken_more now later old new c.in_ok-take_all-in-Next.ensures.effects counted
          ∙ taken_same (λ e. now e ++ later e) (taken_from p (entered (drop i log)) ss) old
          (performs p p log i c.entry-item.result ss vs s refl c.loop-entry-test.true c.entry-item.is is c.in-Next.is)
          ∙ inv.counts;
    }

pub returns-in-NotAnAction : goal.returns-in-NotAnAction
returns-in-NotAnAction c =
    let p = c.args.program.now in
    let log = c.args.log.now in
    let i = c.loop-entry.entry-index in
    let a = act_of c.entry-item.result.action in
    let ss = c.loop-entry.before.states in
    let us = c.step.new.self.states in
    let s = c.in_ok-step.field-0 in
    let q = c.loop-entry.after.program in
    let inv = c.loop-entry.invariant in
    let is : step_of s us ≡ step (tabled q) a ss = subst (λ (ws : List (List Val)). step_of s us ≡ step (tabled q) a ws) inv.same c.in_ok-step.ensures.step in
    record {
      effects = inv.effects;
      places = inv.places;
      counts = taken_same (λ e. []) (taken_from p (entered (drop i log)) ss) c.loop-entry.effects
          (performs_not p q log i c.entry-item.result ss us s inv.ahead c.loop-entry-test.true c.entry-item.is is (no_next s c.in-NotAnAction.is))
          ∙ inv.counts;
    }

pub returns-clause-counts : goal.returns-clause-counts
returns-clause-counts c =
    let log = c.args.log.now in
    let i = c.loop-entry.entry-index in
    ap (λ (l : List LogEntry). with_taken (taken_from c.args.program.now (entered l) c.loop-entry.before.states) c.loop-entry.effects) (sym (drop_all i log (omega arith))) ∙ c.loop-entry.invariant.counts
