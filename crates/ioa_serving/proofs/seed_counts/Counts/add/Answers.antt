use Rattle.std.proofs.Common.{◌≡◌, ◌∙◌, ◌+◌, ◌-◌, ◌<◌, ◌≤◌, ◌^◌, ℕ, All, List, Option, ap, arith, cond, length, map, not, option_map, subst, sym}
use Rattle.std.proofs.lemmas.List.Elements.{All-weaker}
use Rattle.ioa_tree.specs.Runs.{Ending}
use Rattle.ioa_system.specs.declared.outcomes.End.{End}
use Rattle.ioa_system.specs.Outcomes.{ending_of}
use Rattle.ioa_serving.specs.SeedRuns.{judged_of}
use Rattle.ioa_serving.specs.Seeds.{refusals_among, with_refusals}
use Rattle.ioa_serving.proofs.SeedLines.{counted_more, refilled, refusals_few, with_count}
use Rattle.ioa_serving.proofs.seed_counts.Counts.add.Goals as goal

pub add_refusals-requires-clause-roomy : goal.add_refusals-requires-clause-roomy
add_refusals-requires-clause-roomy c =
    let k = c.requires.counted in
    let few : length k.1 ≤ 2 ^ 64 = k.3 in
    subst (All (λ n. n < 2 ^ 128 - 1)) (sym (c.deref_mut.ensures.value ∙ k.2.refusals))
    (All-weaker (λ n. n ≤ length k.1) (λ n. n < 2 ^ 128 - 1) (λ n le. omega (arith, le, few)) (refusals_among k.0 k.1) (refusals_few k.0 k.1))

pub returns : goal.returns
returns c = λ k js so.
    let old = c.args.self.now in
    let ns : List ℕ = old.refusals.items in
    let counts : List ℕ = c.add_refusals.new.counts in
    let answers : List (Option Ending) = map (option_map ending_of) c.args.judged.now.answers.items in
    let same : counts ≡ with_refusals ns answers =
    c.add_refusals.ensures ∙ ap (λ ms. with_refusals ms (map (option_map ending_of) c.deref.result.now)) c.deref_mut.ensures.value
    ∙ ap (λ (os : List (Option End)). with_refusals ns (map (option_map ending_of) os)) c.deref.ensures.value in
    let long : length counts ≡ old.refusals.len = omega (arith, ap length same, with_count ns answers, old.refusals.ok.0) in
    counted_more k old _ js (judged_of c.args.judged.now) so
    (ap (λ n. old.done + n) (c.one_if.ensures ∙ ap (λ b. cond (not b) 1 0) c.is_faulted-faulted.ensures))
    (ap (λ n. old.fault + n) (c.one_if-2.ensures ∙ ap (λ b. cond b 1 0) c.is_faulted-faulted.ensures))
    (refilled old.refusals.len counts ns long ∙ same)
    (ap (λ n. old.broken + n) (c.one_if-3.ensures ∙ ap (λ b. cond b 1 0) c.is_broken.ensures))
