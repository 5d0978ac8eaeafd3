use Rattle.std.proofs.Common.{◌≡◌, ◌≤◌, length, map, ap, arith}
use Rattle.std.proofs.lemmas.List.{length-map}
use Rattle.ioa_value.proofs.ItemLemmas.{image_at, item_there}
use Rattle.ioa_tree.specs.Compositions.{Member, instances_of}
use Rattle.ioa_tree.specs.Instances.{Instance}
use Rattle.ioa_tree.specs.View.{invariant_of}
use Rattle.ioa_compose.specs.Held.{composed_of, member_of}
use Rattle.ioa_account.specs.Counts.{asked_of}
use Rattle.ioa_account.proofs.Counting.{summed_more}
use Rattle.ioa_account.proofs.counts.asked_of_all.Goals as goal

pub overflow_add-count : goal.overflow_add-count
overflow_add-count c =
    let few_invariants : length (map invariant_of c.args.composition.now.invariants) ≤ 256 = c.members-component-end.ensures.sound.few_invariants in
    let few_members : length (map member_of c.args.composition.now.members) ≤ 32 = c.members-component-end.ensures.sound.few in
    let end : length c.members-component-end.result.now ≡ length c.args.composition.now.members = ap length c.members-component-end.ensures.value in
    omega (arith, length-map c.args.composition.now.invariants invariant_of, length-map c.args.composition.now.members member_of)

pub loop-component-preserved : goal.loop-component-preserved
loop-component-preserved c =
    let composed = composed_of c.args.composition.now in
    let few_invariants : length (map invariant_of c.args.composition.now.invariants) ≤ 256 = c.members-component-end.ensures.sound.few_invariants in
    let end : length c.members-component-end.result.now ≡ length c.args.composition.now.members = ap length c.members-component-end.ensures.value in
    let here = item_there composed.members c.loop-component.component (omega (arith, length-map c.args.composition.now.members member_of)) in
    record {
      counted = summed_more (λ (i : Instance). asked_of composed.invariants i.automaton.name) (instances_of composed) c.loop-component.component here.0.instance c.loop-component.count
          c.asked_of-count.result (image_at (λ (m : Member). m.instance) composed.members c.loop-component.component here.0 here.1) c.loop-component.invariant.counted
          (c.asked_of-count.ensures.count here.0 here.1);
      within = omega (arith, length-map c.args.composition.now.invariants invariant_of);
    }
