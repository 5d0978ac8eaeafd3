use Rattle.std.proofs.Common.{Option, Some, string_bytes}
use Rattle.ioa_value.specs.Actions.{Name}
use Rattle.ioa_causes.proofs.Found.{if_found}
use Rattle.ioac.specs.declared.remarks.composed.Said.{Said}
use Rattle.ioac.specs.Composed.{IsRefusedAs}
use Rattle.ioac.proofs.remarks.composed.first_in.Goals as goal

pub returns-in-Some : goal.returns-in-Some
returns-in-Some c =
    let ts = c.args.placed.now.tokens.items in
    let ds = c.args.placed.now.checked in
    let e = c.args.failure.now in
    let own = Some c.in-Some.name.now in
    if_found (λ (s : Said). IsRefusedAs ts ds own e s.line (string_bytes s.words)) (λ (s : Said). (name : Option Name) × IsRefusedAs ts ds name e s.line (string_bytes s.words)) c.picked_in.result
    (λ said refused. (own, refused))
    c.picked_in.ensures
