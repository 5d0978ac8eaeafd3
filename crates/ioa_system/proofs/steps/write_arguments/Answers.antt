use Rattle.std.proofs.Common.{map, ap, ap₂, sym, ◌∙◌, rules}
use Rattle.ioa_value.specs.Actions.{act_of}
use Rattle.ioa_value.specs.Plain.{plain}
use Rattle.ioa_words.specs.Layout.{flat_all}
use Rattle.ioa_system.specs.declared.participation.Participant.{Participant}
use Rattle.ioa_system.specs.Found.{member_of}
use Rattle.ioa_system.proofs.Readying.{arguments_of}
use Rattle.ioa_system.proofs.steps.write_arguments.Goals as goal

pub returns : goal.returns
returns c =
    let first = c.layout-layout.ensures ∙ ap (λ (q : Participant). (member_of q).start.table) (sym c.index-participants-0.is) in
    arguments_of (act_of c.args.action.now) c.args.participants.now c.index-participants-0.result c.write_values.new.out.items c.requires (search rules) c.index-participants-0.is
    (c.in_ok-write_values.ensures ∙ ap₂ (λ t vs. flat_all t (map plain vs)) first c.deref.ensures.value)
