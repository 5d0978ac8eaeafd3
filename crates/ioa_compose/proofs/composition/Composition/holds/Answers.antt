use Rattle.std.proofs.Common.{◌≡◌, ◌++◌, List, map, get_or, subst}
use Rattle.ioa_value.specs.Plain.{Val, plain}
use Rattle.ioa_tree.specs.Instances.{state_of}
use Rattle.ioa_tree.specs.Invariants as meaning
use Rattle.ioa_compose.specs.Held.{Held, composed_of}
use Rattle.ioa_compose.specs.Fine.{IsSound}
use Rattle.ioa_compose.proofs.QuestionLemmas.{answerable, answers, whatever}
use Rattle.ioa_compose.proofs.composition.Composition.holds.Goals as goal

pub is_kept-requires : goal.is_kept-requires
is_kept-requires c =
    let at = subst (λ (h : Held). c.index-member.result.now ≡ get_or h.members c.args.component c.index-member.result.now) c.self.view_is c.index-member.ensures in
    let there = subst (λ (h : Held). c.index.result.now ≡ get_or h.invariants c.args.invariant c.index.result.now) c.self.view_is c.index.ensures in
    answerable c.args.self.now c.args.component c.args.invariant (map plain c.args.values.now) c.requires.asked c.index-member.result.now c.index.result.now at there
    (subst (λ (h : Held). IsSound (composed_of h)) c.self.view_is c.self.invariant.sound)

pub returns : goal.returns
returns c =
    let at = subst (λ (h : Held). c.index-member.result.now ≡ get_or h.members c.args.component c.index-member.result.now) c.self.view_is c.index-member.ensures in
    let there = subst (λ (h : Held). c.index.result.now ≡ get_or h.invariants c.args.invariant c.index.result.now) c.self.view_is c.index.ensures in
    answers c.args.self.now c.args.component c.args.invariant (map plain c.args.values.now) c.requires.asked c.index-member.result.now c.index.result.now at there c.is_kept.result
    (λ b m v. (more : List Val) → b ≡ meaning.holds m.instance v.condition (state_of m.instance.automaton (map plain c.args.values.now ++ more)))
    (whatever c.args.self.now c.args.component c.args.invariant (map plain c.args.values.now) c.requires.asked c.index-member.result.now c.index.result.now at there meaning.is_true
    (subst (λ (h : Held). IsSound (composed_of h)) c.self.view_is c.self.invariant.sound) c.is_kept.result c.is_kept.ensures)
