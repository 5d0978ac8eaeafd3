use Rattle.std.proofs.Common.{◌≡◌, ◌∷◌, [], ◌++◌, List, length, map, sym, ap, subst, ◌∙◌, append_assoc, append-nil, arith, rules}
use Rattle.std.specs.List.{AllZip}
use Rattle.std.specs.Vec.Iter.{into_iter_items}
use Rattle.std.proofs.lemmas.List.Elements.{All-get_or}
use Rattle.ioa_value.proofs.ItemLemmas.{at_map}
use Rattle.ioa_compose.specs.declared.binding.Binding.{Binding}
use Rattle.ioa_compose.specs.declared.member.Member as held
use Rattle.ioa_compose.specs.Bindings.{instance_in, IsOwn, IsStarted}
use Rattle.ioa_compose.specs.Held.{member_of, KeepsPositions}
use Rattle.ioa_compose.proofs.BindingLemmas.{startable-at, faults-in}
use Rattle.ioa_clash.proofs.ZipLemmas.{zip-append}
use Rattle.ioa_compose.proofs.StartLemmas.{taken, as_many, none_left, none-faulted}
use Rattle.ioa_compose.proofs.starts.start_all.Goals as goal

pub start-requires-clause-startable : goal.start-requires-clause-startable
start-requires-clause-startable c =
    let at = c.loop-binding in
    let steps : into_iter_items at.binding-iterator ≡ c.in-Some.binding ∷ into_iter_items c.next.new.self = c.in-Some.ensures.steps.0 in
    let here = ap (λ us. at.yielded ++ us) (sym steps) ∙ at.invariant.parts ∙ c.into_iter-binding-iterator.ensures.into_iter_gives.0 in
    let t = taken at.yielded c.args.bindings.items c.in-Some.binding (into_iter_items c.next.new.self) here in
    startable-at c.args.types.now c.args.bindings.items (length at.yielded) c.in-Some.binding c.requires.startable t.0 t.1

pub start-requires-clause-own : goal.start-requires-clause-own
start-requires-clause-own c =
    let at = c.loop-binding in
    let steps : into_iter_items at.binding-iterator ≡ c.in-Some.binding ∷ into_iter_items c.next.new.self = c.in-Some.ensures.steps.0 in
    let here = ap (λ us. at.yielded ++ us) (sym steps) ∙ at.invariant.parts ∙ c.into_iter-binding-iterator.ensures.into_iter_gives.0 in
    let t = taken at.yielded c.args.bindings.items c.in-Some.binding (into_iter_items c.next.new.self) here in
    subst IsOwn (sym t.1) (All-get_or IsOwn c.args.bindings.items (length at.yielded) c.in-Some.binding t.0 c.requires.own)

pub returns-in_err-member-clause-refused : goal.returns-in_err-member-clause-refused
returns-in_err-member-clause-refused c =
    let at = c.loop-binding in
    let types = c.args.types.now in
    let bs = c.args.bindings.items in
    let steps : into_iter_items at.binding-iterator ≡ c.in-Some.binding ∷ into_iter_items c.next.new.self = c.in-Some.ensures.steps.0 in
    let here = ap (λ us. at.yielded ++ us) (sym steps) ∙ at.invariant.parts ∙ c.into_iter-binding-iterator.ensures.into_iter_gives.0 in
    let t = taken at.yielded bs c.in-Some.binding (into_iter_items c.next.new.self) here in
    let many = as_many (λ b m. IsStarted types b (member_of m)) at.yielded at.members.items at.invariant.started in
    faults-in c.from_residual.result (map (instance_in types) bs) (length at.yielded) (instance_in types c.in-Some.binding)
    (at_map (instance_in types) bs (length at.yielded) c.in-Some.binding t.0 t.1)
    (none-faulted types bs at.members.items (length at.yielded)
    (subst (λ (us : List Binding). AllZip (λ b m. IsStarted types b (member_of m)) us at.members.items) (sym t.2) at.invariant.started)) (search rules)

pub loop-binding-preserved : goal.loop-binding-preserved
loop-binding-preserved c =
    let at = c.loop-binding in
    let x = c.in-Some.binding in
    let types = c.args.types.now in
    let steps : into_iter_items at.binding-iterator ≡ x ∷ into_iter_items c.next.new.self = c.in-Some.ensures.steps.0 in
    record {
      parts = append_assoc at.yielded (x ∷ []) _ ∙ ap (λ us. at.yielded ++ us) (sym steps) ∙ at.invariant.parts;
      started = subst (λ (ms : List held.Member). AllZip (λ b m. IsStarted types b (member_of m)) (at.yielded ++ x ∷ []) ms) (sym c.in_ok-push.ensures.items)
          (zip-append (λ b m. IsStarted types b (member_of m)) at.yielded at.members.items x c.in_ok-member.member at.invariant.started c.in_ok-member.ensures.started);
      kept = subst (AllZip KeepsPositions (at.yielded ++ x ∷ [])) (sym c.in_ok-push.ensures.items)
          (zip-append KeepsPositions at.yielded at.members.items x c.in_ok-member.member at.invariant.kept c.in_ok-member.ensures.positions);
      left = let was = at.invariant.left in
          let gone = c.in-Some.ensures.steps.1 in
          let short = ap length steps in
          omega arith;
    }

pub returns-clause-started : goal.returns-clause-started
returns-clause-started c =
    let at = c.loop-binding in
    let types = c.args.types.now in
    let empty : into_iter_items at.binding-iterator ≡ [] = none_left _ (sym at.invariant.left ∙ c.in-None.ensures.steps.0) in
    let all = sym (append-nil at.yielded) ∙ ap (λ us. at.yielded ++ us) (sym empty) ∙ at.invariant.parts ∙ c.into_iter-binding-iterator.ensures.into_iter_gives.0 in
    subst (λ (us : List Binding). AllZip (λ b m. IsStarted types b (member_of m)) us at.members.items) all at.invariant.started

pub returns-clause-positions : goal.returns-clause-positions
returns-clause-positions c =
    let at = c.loop-binding in
    let empty : into_iter_items at.binding-iterator ≡ [] = none_left _ (sym at.invariant.left ∙ c.in-None.ensures.steps.0) in
    let all = sym (append-nil at.yielded) ∙ ap (λ us. at.yielded ++ us) (sym empty) ∙ at.invariant.parts ∙ c.into_iter-binding-iterator.ensures.into_iter_gives.0 in
    subst (λ (us : List Binding). AllZip KeepsPositions us at.members.items) all at.invariant.kept
