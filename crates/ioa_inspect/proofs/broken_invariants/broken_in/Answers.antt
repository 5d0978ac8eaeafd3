use Rattle.std.proofs.Common.{◌≤◌, length, Some, refl, sym, ◌∙◌, arith}
use Rattle.std.proofs.lemmas.List.{length-map}
use Rattle.std.proofs.lemmas.Option.{slice_get_read}
use Rattle.ioa_value.proofs.ItemLemmas.{at_map}
use Rattle.ioa_parts.specs.Nodes.{Node}
use Rattle.ioa_compose.specs.Held.{composed_of}
use Rattle.ioa_system.specs.Systems.{values_of}
use Rattle.ioa_inspect.proofs.Breaking.{next_state, looked_more, looked_next, looked_all}
use Rattle.ioa_inspect.proofs.broken_invariants.broken_in.Goals as goal

pub broken_by-requires-clause-state : goal.broken_by-requires-clause-state
broken_by-requires-clause-state c =
    next_state (composed_of c.args.asked.now) c.args.count (values_of c.args.states.now) c.loop-component.component c.index-states-component.result.values
    (at_map (λ (x : Node). x.values) c.args.states.now c.loop-component.component c.index-states-component.result c.loop-component-test.true c.index-states-component.is)
    c.loop-component.invariant

pub broken_by-requires-clause-typed : goal.broken_by-requires-clause-typed
broken_by-requires-clause-typed c =
    c.requires.typed c.loop-component.component c.index-states-component.result
    (slice_get_read c.args.states.now (length c.args.states.now) c.loop-component.component c.index-states-component.result refl c.loop-component-test.true c.index-states-component.is)

pub returns-in-Some : goal.returns-in-Some
returns-in-Some c =
    sym (looked_more (composed_of c.args.asked.now) c.args.count (values_of c.args.states.now) c.loop-component.component c.index-states-component.result.values
    (at_map (λ (x : Node). x.values) c.args.states.now c.loop-component.component c.index-states-component.result c.loop-component-test.true c.index-states-component.is)
    c.loop-component.invariant
    (Some c.in-Some.invariant) (λ m p. sym c.in-Some.is ∙ c.in_ok-first.ensures m p))

pub loop-component-preserved : goal.loop-component-preserved
loop-component-preserved c =
    looked_next (composed_of c.args.asked.now) c.args.count (values_of c.args.states.now) c.loop-component.component c.index-states-component.result.values
    (at_map (λ (x : Node). x.values) c.args.states.now c.loop-component.component c.index-states-component.result c.loop-component-test.true c.index-states-component.is)
    c.loop-component.invariant
    (λ m p. sym c.in_default.is ∙ c.in_ok-first.ensures m p)

pub returns : goal.returns
returns c =
    let l : length (values_of c.args.states.now) ≤ c.loop-component.component = omega (arith, length-map c.args.states.now (λ (x : Node). x.values)) in
    sym (looked_all (composed_of c.args.asked.now) c.args.count (values_of c.args.states.now) c.loop-component.component l c.loop-component.invariant)
