use Rattle.std.proofs.Common.{◌≡◌, ◌++◌, List, map, get_or, subst}
use Rattle.ioa_value.specs.Plain.{Val, plain}
use Rattle.ioa_tree.specs.Instances.{state_of}
use Rattle.ioa_compose.specs.Held.{Held, composed_of}
use Rattle.ioa_compose.specs.Faults.{condition_fault, fault_of}
use Rattle.ioa_compose.specs.Fine.{IsSound}
use Rattle.ioa_compose.proofs.QuestionLemmas.{answerable, answers, whatever}
use Rattle.ioa_compose.proofs.composition.Composition.fault_of.Goals as goal

pub condition_fault-requires : goal.condition_fault-requires
condition_fault-requires c =
    let at = subst (λ (h : Held). c.index-asked.result.now ≡ get_or h.members c.args.component c.index-asked.result.now) c.self.view_is c.index-asked.ensures in
    let there = subst (λ (h : Held). c.index.result.now ≡ get_or h.invariants c.args.invariant c.index.result.now) c.self.view_is c.index.ensures in
    answerable c.args.self.now c.args.component c.args.invariant (map plain c.args.values.now) c.requires.asked c.index-asked.result.now c.index.result.now at there
    (subst (λ (h : Held). IsSound (composed_of h)) c.self.view_is c.self.invariant.sound)

pub returns : goal.returns
returns c =
    let at = subst (λ (h : Held). c.index-asked.result.now ≡ get_or h.members c.args.component c.index-asked.result.now) c.self.view_is c.index-asked.ensures in
    let there = subst (λ (h : Held). c.index.result.now ≡ get_or h.invariants c.args.invariant c.index.result.now) c.self.view_is c.index.ensures in
    answers c.args.self.now c.args.component c.args.invariant (map plain c.args.values.now) c.requires.asked c.index-asked.result.now c.index.result.now at there c.condition_fault.result
    (λ f m v. (more : List Val) → f ≡ condition_fault m.instance.types m.instance v.condition (state_of m.instance.automaton (map plain c.args.values.now ++ more)))
    (whatever c.args.self.now c.args.component c.args.invariant (map plain c.args.values.now) c.requires.asked c.index-asked.result.now c.index.result.now at there fault_of
    (subst (λ (h : Held). IsSound (composed_of h)) c.self.view_is c.self.invariant.sound) c.condition_fault.result c.condition_fault.ensures)
