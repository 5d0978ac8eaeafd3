use Rattle.std.proofs.Common.{◌≡◌, ◌∙◌, ap, arith, length, map, subst, sym}
use Rattle.ioa_value.specs.Actions.{act_of}
use Rattle.ioa_value.specs.Plain.{plain}
use Rattle.ioa_tree.specs.Meaning.{Env}
use Rattle.ioa_coverage.specs.Effects.{effect_of, taken_in_slots}
use Rattle.ioa_coverage.specs.Following.{MayFollowAll, with_marks}
use Rattle.ioa_coverage.specs.Known.{known}
use Rattle.ioa_coverage.specs.Taken.{marks_in}
use Rattle.ioa_coverage.proofs.Marked.{marks_keep}
use Rattle.ioa_coverage.proofs.Walked.{is_down, scope_shown, takes, up_shown, written_back}
use Rattle.ioa_coverage.proofs.effect.Effect.take_in.Goals as goal

pub follow_all-requires-clause-types : goal.follow_all-requires-clause-types
follow_all-requires-clause-types c = c.requires.types

pub follow_all-requires-clause-typed : goal.follow_all-requires-clause-typed
follow_all-requires-clause-typed c =
    let x = effect_of c.args.self.now in
    let scope = scope_shown c.args.self.now c.args.slots.now c.args.action.now c.deref.result.now (known c.in_ok-scope.scope.items) c.deref.ensures.value c.in_ok-scope.ensures in
    subst (λ (env : Env). MayFollowAll x.instance.types env x.statements) scope c.requires.may

pub returns-in_ok-follow_all-clause-counts : goal.returns-in_ok-follow_all-clause-counts
returns-in_ok-follow_all-clause-counts c =
    let x = effect_of c.args.self.now in
    let a = act_of c.args.action.now in
    let slots = c.args.slots.now in
    let old = c.args.self.now.taken.items in
    let new = c.follow_all.new.counts in
    let env = known c.in_ok-scope.scope.items in
    let scope = scope_shown c.args.self.now slots c.args.action.now c.deref.result.now env c.deref.ensures.value c.in_ok-scope.ensures in
    let up = up_shown c.args.self.now slots c.is_up.result c.is_up.ensures ∙ c.if-is_up.true in
    let marked : new ≡ with_marks old (marks_in x.instance.types 0 x.statements env) =
    c.in_ok-follow_all.ensures.marked ∙ ap (λ cs. with_marks cs (marks_in x.instance.types 0 x.statements env)) c.deref_mut.ensures.value in
    let long : length new ≡ length old = ap length marked ∙ marks_keep old (marks_in x.instance.types 0 x.statements env) in
    let its : taken_in_slots x a (map plain slots) ≡ marks_in x.instance.types 0 x.statements env =
    takes x a (map plain slots) c.requires.has up ∙ ap (marks_in x.instance.types 0 x.statements) scope in
    written_back c.args.self.now.taken.len new old (omega (arith, c.args.self.now.taken.ok.0)) long ∙ marked ∙ ap (with_marks old) (sym its)

pub returns-else-is_up-clause-counts : goal.returns-else-is_up-clause-counts
returns-else-is_up-clause-counts c =
    let slots = c.args.slots.now in
    let down = up_shown c.args.self.now slots c.is_up.result c.is_up.ensures ∙ c.if-is_up.false in
    ap (with_marks c.args.self.now.taken.items) (sym (is_down (effect_of c.args.self.now) (act_of c.args.action.now) (map plain slots) c.requires.has down))
