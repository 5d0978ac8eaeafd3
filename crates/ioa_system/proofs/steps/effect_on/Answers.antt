use Rattle.std.proofs.Common.{List, map, sym, subst, ap₂, ◌∙◌}
use Rattle.ioa_value.specs.declared.value.Value.{Value}
use Rattle.ioa_value.specs.Actions.{act_of}
use Rattle.ioa_value.specs.Plain.{plain}
use Rattle.ioa_value.specs.Typing.{HaveTypes}
use Rattle.ioa_words.specs.Layout.{flat_all}
use Rattle.ioa_compile.specs.Shown.{entry_code, member_code}
use Rattle.ioa_system.specs.Systems.{Slots, slots_of}
use Rattle.ioa_system.proofs.Matching.{Acts, acts}
use Rattle.ioa_system.proofs.steps.effect_on.Goals as goal

acted : (c : goal.After-deref) → Acts (act_of c.args.action.now) (slots_of c.args.state.now) c.args.entry.now.effect
acted c =
    acts (member_code c.args.member.now) (act_of c.args.action.now) (entry_code c.args.entry.now) (slots_of c.args.state.now)
    c.requires.sound c.requires.found c.requires.slots

pub draft_effect-requires-clause-types : goal.draft_effect-requires-clause-types
draft_effect-requires-clause-types c = (acted c).types

pub draft_effect-requires-clause-kind : goal.draft_effect-requires-clause-kind
draft_effect-requires-clause-kind c = (acted c).kind

pub draft_effect-requires-clause-result : goal.draft_effect-requires-clause-result
draft_effect-requires-clause-result c = (acted c).result

pub draft_effect-requires-clause-slots : goal.draft_effect-requires-clause-slots
draft_effect-requires-clause-slots c = (acted c).slots_are

pub draft_effect-requires-clause-arguments : goal.draft_effect-requires-clause-arguments
draft_effect-requires-clause-arguments c =
    subst (λ (vs : List Value). HaveTypes c.args.entry.now.effect.code.types (map plain vs) c.args.entry.now.effect.args) (sym c.deref.ensures.value) (acted c).arguments

pub draft_effect-requires-clause-words : goal.draft_effect-requires-clause-words
draft_effect-requires-clause-words c =
    c.requires.words ∙ ap₂ (λ (s : Slots) (vs : List Value). flat_all s.table (map plain vs)) (sym c.requires.slots) (sym c.deref.ensures.value)
