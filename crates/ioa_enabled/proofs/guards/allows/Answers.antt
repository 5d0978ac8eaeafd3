use Rattle.std.proofs.Common.{map, subst, sym, List}
use Rattle.ioa_value.specs.declared.value.Value.{Value}
use Rattle.ioa_value.specs.Actions.{act_of}
use Rattle.ioa_value.specs.Plain.{plain}
use Rattle.ioa_value.specs.Typing.{HaveTypes}
use Rattle.ioa_compile.specs.Shown.{entry_code, member_code}
use Rattle.ioa_system.specs.Systems.{slots_of}
use Rattle.ioa_system.proofs.Matching.{Asks, asks}
use Rattle.ioa_enabled.proofs.guards.allows.Goals as goal

asked : (c : goal.After-deref) → Asks (act_of c.args.action.now) (slots_of c.args.state.now) c.in-Some.code
asked c =
    asks (member_code c.args.member.now) (act_of c.args.action.now) (entry_code c.args.entry.now) c.in-Some.code (slots_of c.args.state.now)
    c.requires.sound c.requires.found c.requires.slots c.in-Some.is

pub enabled_with-requires-clause-types : goal.enabled_with-requires-clause-types
enabled_with-requires-clause-types c = (asked c).types

pub enabled_with-requires-clause-kind : goal.enabled_with-requires-clause-kind
enabled_with-requires-clause-kind c = (asked c).kind

pub enabled_with-requires-clause-result : goal.enabled_with-requires-clause-result
enabled_with-requires-clause-result c = (asked c).result

pub enabled_with-requires-clause-slots : goal.enabled_with-requires-clause-slots
enabled_with-requires-clause-slots c = (asked c).slots_are

pub enabled_with-requires-clause-arguments : goal.enabled_with-requires-clause-arguments
enabled_with-requires-clause-arguments c =
    subst (λ (vs : List Value). HaveTypes c.in-Some.code.code.types (map plain vs) c.in-Some.code.args) (sym c.deref.ensures.value) (asked c).arguments
