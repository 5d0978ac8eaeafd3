use Rattle.std.proofs.Common.{◌≡◌, ◌<◌, ◌≤◌, length, map, ap, subst, arith}
use Rattle.std.proofs.lemmas.List.{length-map}
use Rattle.ioa_tree.specs.View.{invariant_of}
use Rattle.ioa_compose.specs.Held.{composed_of}
use Rattle.ioa_system.specs.Systems.{values_of}
use Rattle.ioa_account.proofs.Faulting.{faults_alike, no_invariant, on_answer}
use Rattle.ioa_account.proofs.faults.invariant_fault.Goals as goal

pub slots_fault-requires : goal.slots_fault-requires
slots_fault-requires c = record {
  states = c.requires;
  invariant = subst (λ vs. c.args.invariant < length vs) c.invariants.ensures.value c.in-Some.ensures.lookup.3.0;
}

pub returns-in-Some : goal.returns-in-Some
returns-in-Some c =
    on_answer c.slots_fault.result
    (λ f e. faults_alike (composed_of c.args.composition.now) (values_of c.args.states.now) c.args.component c.args.invariant f c.invariants.ensures.sound e)
    c.slots_fault.ensures

pub returns-in-None : goal.returns-in-None
returns-in-None c = λ h hs stands holds.
    let invariants = c.args.composition.now.invariants in
    let same : length c.invariants.result.now ≡ length invariants = ap length c.invariants.ensures.value in
    let past : length (map invariant_of invariants) ≤ c.args.invariant = omega (arith, length-map invariants invariant_of, c.in-None.ensures.lookup.3) in
    no_invariant (composed_of c.args.composition.now) c.args.component c.args.invariant past h hs stands
