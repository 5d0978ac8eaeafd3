use Rattle.std.proofs.Common.{◌≡◌, ◌∙◌, ◌++◌, ◌∷◌, [], take, sym, ap, rules, refl}
use Rattle.ioa_value.proofs.ItemLemmas.{take_item}
use Rattle.ioa_system.specs.Participants.{taken}
use Rattle.ioa_system.specs.Systems.{Slots}
use Rattle.ioa_board.proofs.Numbers.{got, item_taken, same_slots, same_taken, taken_all, taken_more, values_taken}
use Rattle.ioa_board.proofs.plan.same_states.Goals as goal

pub same-requires-clause-table : goal.same-requires-clause-table
same-requires-clause-table c =
    ap (λ (s : Slots). s.table)
    (same_slots c.args.numbers.now c.args.states.now c.args.copied.now c.loop-k.k _ c.index-states-numbers.result c.index-copied-k.result c.requires.within c.requires.types (search rules) (search rules)
    (search rules) c.index-states-numbers.is c.index-copied-k.is)

pub same-requires-clause-types : goal.same-requires-clause-types
same-requires-clause-types c =
    ap (λ (s : Slots). s.types)
    (same_slots c.args.numbers.now c.args.states.now c.args.copied.now c.loop-k.k _ c.index-states-numbers.result c.index-copied-k.result c.requires.within c.requires.types (search rules) (search rules)
    (search rules) c.index-states-numbers.is c.index-copied-k.is)

pub returns-then-not-same : goal.returns-then-not-same
returns-then-not-same c = (
  λ e. absurd (cc),
  λ v.
      let t : taken c.args.numbers.now c.args.states.now ≡ c.args.copied.now = same_taken c.args.numbers.now c.args.states.now c.args.copied.now c.requires.types v in
      let e : c.index-states-numbers.result ≡ c.index-copied-k.result =
      item_taken c.args.numbers.now c.args.states.now c.args.copied.now c.loop-k.k _ c.index-states-numbers.result c.index-copied-k.result c.requires.within (search rules) t
      (got c.args.states.now _ c.index-states-numbers.result (search rules) c.index-states-numbers.is) (got c.args.copied.now c.loop-k.k c.index-copied-k.result (search rules) c.index-copied-k.is) in
      sym c.if-not-same.true ∙ c.same.ensures.1 e,
)

pub loop-k-preserved : goal.loop-k-preserved
loop-k-preserved c =
    let e : c.index-states-numbers.result ≡ c.index-copied-k.result = c.same.ensures.0 c.if-not-same.false in
    taken_more c.args.numbers.now c.args.states.now c.loop-k.k _ c.index-states-numbers.result (search rules) (got c.args.states.now _ c.index-states-numbers.result (search rules) c.index-states-numbers.is)
    ∙ ap (λ zs. zs ++ c.index-states-numbers.result ∷ []) c.loop-k.invariant ∙ ap (λ z. take c.loop-k.k c.args.copied.now ++ z ∷ []) e
    ∙ sym (take_item c.args.copied.now c.loop-k.k c.index-copied-k.result (search rules) c.index-copied-k.is)

pub returns : goal.returns
returns c = (
  λ e.
      values_taken c.args.numbers.now c.args.states.now c.args.copied.now
      (taken_all c.args.numbers.now c.args.states.now c.args.copied.now c.loop-k.k (search rules) c.requires.count c.loop-k.invariant),
  λ e. refl,
)
