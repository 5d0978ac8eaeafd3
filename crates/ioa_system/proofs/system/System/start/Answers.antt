use Rattle.std.proofs.Common.{◌≡◌, List, map, ap, ◌∙◌}
use Rattle.ioa_value.specs.Plain.{Val}
use Rattle.ioa_compile.specs.Programs.{MemberCode}
use Rattle.ioa_compile.specs.Tables.{start_states}
use Rattle.ioa_system.specs.Systems.{values_of}
use Rattle.ioa_system.proofs.Running.{start_types, start_values, running}
use Rattle.ioa_system.proofs.system.System.start.Goals as goal

pub of-requires : goal.of-requires
of-requires c = start_types c.args.program.now.members c.in_ok-states.states.items (c.in_ok-states.ensures ∙ ap (λ (ms : List MemberCode). map (λ (m : MemberCode). m.start) ms) c.members.ensures.value)

pub returns : goal.returns
returns c =
    let e : values_of c.in_ok-states.states.items ≡ start_states c.args.program.now =
    start_values c.args.program.now.members c.in_ok-states.states.items (c.in_ok-states.ensures ∙ ap (λ (ms : List MemberCode). map (λ (m : MemberCode). m.start) ms) c.members.ensures.value) in
    c.of.ensures ∙ ap (λ (ss : List (List Val)). running c.args.program.now ss) e
