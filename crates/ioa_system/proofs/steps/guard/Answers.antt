use Rattle.std.proofs.Common.{List, map, sym, subst, ap₂, ◌∙◌}
use Rattle.ioa_value.specs.declared.value.Value.{Value}
use Rattle.ioa_value.specs.Actions.{act_of}
use Rattle.ioa_value.specs.Plain.{plain}
use Rattle.ioa_value.specs.Typing.{HaveTypes}
use Rattle.ioa_words.specs.Layout.{flat_all}
use Rattle.ioa_compile.specs.Shown.{entry_code, member_code}
use Rattle.ioa_system.specs.Systems.{Slots, slots_of}
use Rattle.ioa_system.proofs.Matching.{Asks, asks}
use Rattle.ioa_system.proofs.steps.guard.Goals as goal

asked : (c : goal.After-deref) → Asks (act_of c.args.action.now) (slots_of c.args.state.now) c.in-Some.code
asked c =
    asks (member_code c.args.member.now) (act_of c.args.action.now) (entry_code c.args.entry.now) c.in-Some.code (slots_of c.args.state.now)
    c.requires.sound c.requires.found c.requires.slots c.in-Some.is

pub enabled_on-requires-clause-types : goal.enabled_on-requires-clause-types
enabled_on-requires-clause-types c = (asked c).types

pub enabled_on-requires-clause-kind : goal.enabled_on-requires-clause-kind
enabled_on-requires-clause-kind c = (asked c).kind

pub enabled_on-requires-clause-result : goal.enabled_on-requires-clause-result
enabled_on-requires-clause-result c = (asked c).result

pub enabled_on-requires-clause-slots : goal.enabled_on-requires-clause-slots
enabled_on-requires-clause-slots c = (asked c).slots_are

pub enabled_on-requires-clause-arguments : goal.enabled_on-requires-clause-arguments
enabled_on-requires-clause-arguments c =
    subst (λ (vs : List Value). HaveTypes c.in-Some.code.code.types (map plain vs) c.in-Some.code.args) (sym c.deref.ensures.value) (asked c).arguments

pub enabled_on-requires-clause-words : goal.enabled_on-requires-clause-words
enabled_on-requires-clause-words c =
    c.requires.words ∙ ap₂ (λ (s : Slots) (vs : List Value). flat_all s.table (map plain vs)) (sym c.requires.slots) (sym c.deref.ensures.value)
