use Rattle.std.proofs.Common.{◌≡◌, ◌+◌, ℕ, List, [], ◌∷◌, ◌++◌, Vec, Some, None, get_or, append-nil, refl, sym, ap, ◌∙◌, arith}
use Rattle.std.specs.Global.{Global}
use Rattle.std.specs.Option.{option_map}
use Rattle.std.specs.Prelude.{slice_get}
use Rattle.std.proofs.lemmas.List.{take_all, map-append}
use Rattle.std.proofs.lemmas.Option.{slice_get-map, slice_get-get_or, slice_get_past}
use Rattle.ioa_node.specs.declared.state.NodeState.{NodeState}
use Rattle.ioa_compile.specs.Programs.{MemberCode}
use Rattle.ioa_value.specs.Actions.{act_of}
use Rattle.ioa_tree.specs.Steps.{participants}
use Rattle.ioa_compile.specs.Tables.{tabled}
use Rattle.ioa_system.specs.Participants.{taken}
use Rattle.ioa_system.specs.Systems.{slot_types, slots_of, types_of}
use Rattle.ioa_tests.proofs.Lent.{found_more}
use Rattle.ioa_tests.proofs.tests.calls.lent.Goals.{in-Some+in_ok-try_copy+in_ok-push, in_default}
use Rattle.ioa_tests.proofs.tests.calls.lent.Goals as goal

pub loop-i-preserved : goal.loop-i-preserved
loop-i-preserved c = elim c.match-get.branch [
  | in-Some+in_ok-try_copy+in_ok-push w ↦
      let i : ℕ = get_or is c.loop-i.i-index 0 in
      let x = w.in-Some.state.now in
      let at : slice_get states i ≡ Some x = slice_get-get_or states i x w.in-Some.ensures.lookup.3.0 ∙ ap Some (sym w.in-Some.ensures.lookup.1) in
      let here : slice_get (slot_types ms) i ≡ Some (slots_of x) = typed i ∙ ap (option_map slots_of) at in
      let after : types_of c.match-get.lent.items ≡ types_of c.loop-i.lent.items ++ slots_of x ∷ [] =
      ap (λ (l : Vec NodeState Global). types_of l.items) w.lent-is ∙ ap types_of w.in_ok-push.ensures.items
      ∙ map-append slots_of c.loop-i.lent.items (w.in_ok-try_copy.field-0 ∷ []) ∙ ap (λ n. types_of c.loop-i.lent.items ++ slots_of n ∷ []) w.in_ok-try_copy.ensures in
      found_more (slot_types ms) (types_of c.loop-i.lent.items) (types_of c.match-get.lent.items) is c.loop-i.i-index i (Some (slots_of x)) (omega arith) refl here c.loop-i.invariant after
  | in_default w ↦
      let i : ℕ = get_or is c.loop-i.i-index 0 in
      let here : slice_get (slot_types ms) i ≡ None = typed i ∙ ap (option_map slots_of) (slice_get_past states i w.in_default.ensures.lookup.3) in
      let after : types_of c.match-get.lent.items ≡ types_of c.loop-i.lent.items ++ [] =
      ap (λ (l : Vec NodeState Global). types_of l.items) w.lent-is ∙ sym (append-nil (types_of c.loop-i.lent.items)) in
      found_more (slot_types ms) (types_of c.loop-i.lent.items) (types_of c.match-get.lent.items) is c.loop-i.i-index i None (omega arith) refl here c.loop-i.invariant after
]
  where
    is : List ℕ
    is = c.deref-i-items.result.now

    states : List NodeState
    states = c.states.result.now

    ms : List MemberCode
    ms = c.args.system.now.program.members

    typed : (i : ℕ) → slice_get (slot_types ms) i ≡ option_map slots_of (slice_get states i)
    typed i = ap (λ l. slice_get l i) (sym c.states.ensures.types) ∙ slice_get-map slots_of states i

pub returns : goal.returns
returns c =
    let p = c.args.system.now.program in
    let xs = c.deref-i-items.result.now in
    let all = take_all c.loop-i.i-index xs (omega arith) in
    let numbers = c.deref-i-items.ensures.value ∙ c.in_ok-participants.ensures ∙ ap (λ q. participants (tabled q) (act_of c.args.action.now)) c.program.ensures in
    c.loop-i.invariant ∙ ap (λ ns. taken ns (slot_types p.members)) (all ∙ numbers)
