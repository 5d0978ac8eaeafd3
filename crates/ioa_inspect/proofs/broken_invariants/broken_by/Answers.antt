use Rattle.std.proofs.Common.{◌≡◌, ◌<◌, ◌≤◌, map, length, true, false, sym, ap, ◌∙◌, arith}
use Rattle.std.proofs.lemmas.List.{length-map}
use Rattle.ioa_tree.specs.View.{invariant_of}
use Rattle.ioa_compose.specs.Held.{Held, composed_of}
use Rattle.ioa_inspect.proofs.Breaking.{sought_more, sought_none}
use Rattle.ioa_inspect.proofs.broken_invariants.broken_by.Goals as goal

pub returns-then-broken : goal.returns-then-broken
returns-then-broken c = λ m e.
    let k : length c.invariants-number-end.result.now ≡ length c.args.asked.now.invariants = ap length c.invariants-number-end.ensures.value ∙ ap (λ (h : Held). length h.invariants) c.composition.ensures in
    let l : c.loop-number.number < length (map invariant_of c.args.asked.now.invariants) = omega (arith, length-map c.args.asked.now.invariants invariant_of) in
    sym (sought_more (composed_of c.args.asked.now) c.args.component c.args.state.now.values c.loop-number.number true l c.loop-number.invariant
    (λ n v p q. sym c.if-broken.true ∙ c.in_ok-broken.ensures n v p q) m e)

pub loop-number-preserved : goal.loop-number-preserved
loop-number-preserved c = λ m e.
    let k : length c.invariants-number-end.result.now ≡ length c.args.asked.now.invariants = ap length c.invariants-number-end.ensures.value ∙ ap (λ (h : Held). length h.invariants) c.composition.ensures in
    let l : c.loop-number.number < length (map invariant_of c.args.asked.now.invariants) = omega (arith, length-map c.args.asked.now.invariants invariant_of) in
    sought_more (composed_of c.args.asked.now) c.args.component c.args.state.now.values c.loop-number.number false l c.loop-number.invariant
    (λ n v p q. sym c.if-broken.false ∙ c.in_ok-broken.ensures n v p q) m e

pub returns : goal.returns
returns c = λ m e.
    let k : length c.invariants-number-end.result.now ≡ length c.args.asked.now.invariants = ap length c.invariants-number-end.ensures.value ∙ ap (λ (h : Held). length h.invariants) c.composition.ensures in
    let l : length (map invariant_of c.args.asked.now.invariants) ≤ c.loop-number.number = omega (arith, length-map c.args.asked.now.invariants invariant_of) in
    sym (sought_none (composed_of c.args.asked.now) c.args.component c.args.state.now.values c.loop-number.number l c.loop-number.invariant m e)
