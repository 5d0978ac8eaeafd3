use Rattle.std.proofs.Common.{◌≡◌, ◌∙◌, ℕ, List, OnOk, ap, length, map, refl, subst, sym}
use Rattle.std.proofs.lemmas.Option.{slice_get_read}
use Rattle.ioa_value.specs.Actions.{act_of}
use Rattle.ioa_value.specs.Plain.{Val, plain}
use Rattle.ioa_coverage.specs.Effects.{counts_of, effect_of, environment_in, taken_in_slots}
use Rattle.ioa_coverage.specs.Following.{MayFollowAll, with_marks}
use Rattle.ioa_coverage.proofs.Walked.{in_slots, in_state, not_its}
use Rattle.ioa_coverage.proofs.effect.Effect.take.Goals as goal

pub take_in-requires : goal.take_in-requires
take_in-requires c =
    let x = effect_of c.args.self.now in
    let a = act_of c.args.action.now in
    let ns = c.args.states.now in
    let n = c.in-Some.state.now in
    let found = c.in-Some.ensures.lookup in
    let at = slice_get_read ns (length ns) c.args.self.now.number n refl found.3.0 found.1 in
    let has = sym c.has.ensures ∙ c.if-not-has.false in
    let slots : map plain c.deref.result.now ≡ n.values = ap (map plain) c.deref.ensures.value ∙ c.in_ok-slots.ensures in
    record {
      has = has;
      types = c.requires.may.1.types;
      may = subst (λ (vs : List Val). MayFollowAll x.instance.types (environment_in x a vs) x.statements) (sym slots)
          (in_slots c.requires.may.0 x c.requires.may.1 ns c.requires.may.2 a n at c.types-types.ensures.typed has);
      places = c.requires.places;
    }

pub returns-clause-counts : goal.returns-clause-counts
returns-clause-counts c =
    let x = effect_of c.args.self.now in
    let a = act_of c.args.action.now in
    let ns = c.args.states.now in
    let n = c.in-Some.state.now in
    let found = c.in-Some.ensures.lookup in
    let at = slice_get_read ns (length ns) c.args.self.now.number n refl found.3.0 found.1 in
    let slots : map plain c.deref.result.now ≡ n.values = ap (map plain) c.deref.ensures.value ∙ c.in_ok-slots.ensures in
    subst (λ (ks : List ℕ). OnOk c.take_in.result (counts_of c.take_in.new.self ≡ with_marks (counts_of c.args.self.now) ks))
    (ap (taken_in_slots x a) slots ∙ sym (in_state x a ns n at)) c.take_in.ensures.counts

pub returns-then-not-has-clause-counts : goal.returns-then-not-has-clause-counts
returns-then-not-has-clause-counts c =
    let x = effect_of c.args.self.now in
    let a = act_of c.args.action.now in
    let ns = c.args.states.now in
    let n = c.in-Some.state.now in
    let found = c.in-Some.ensures.lookup in
    let at = slice_get_read ns (length ns) c.args.self.now.number n refl found.3.0 found.1 in
    ap (with_marks c.args.self.now.taken.items) (sym (in_state x a ns n at ∙ not_its x a n.values (sym c.has.ensures ∙ c.if-not-has.true)))
