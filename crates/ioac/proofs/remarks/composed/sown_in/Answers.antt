use Rattle.std.proofs.Common.{◌≡◌, ◌⊎◌, Option, Some, inr, refl, string_bytes}
use Rattle.std.specs.List.{Contains}
use Rattle.std.specs.Option.{option_copied}
use Rattle.ioa_value.specs.Actions.{Name}
use Rattle.ioa_request.specs.Pasted.{texts}
use Rattle.ioa_causes.proofs.Found.{if_found}
use Rattle.ioac.specs.declared.remarks.composed.Said.{Said}
use Rattle.ioac.specs.Composed.{IsRefusedAs}
use Rattle.ioac.proofs.remarks.composed.sown_in.Goals as goal

-- one of the specifications
pub returns : goal.returns
returns c =
    let ts = c.args.placed.now.tokens.items in
    let ds = c.args.placed.now.checked in
    let e = c.args.failure.now in
    let seeds = c.args.seeds.now in
    if_found (λ (s : Said). (x : Name) × Contains (texts seeds.monitors.now) x × IsRefusedAs ts ds (Some x) e s.line (string_bytes s.words))
    (λ (s : Said). (name : Option Name) × ((name ≡ option_copied seeds.run.composition) ⊎ ((x : Name) × Contains (texts seeds.monitors.now) x × (name ≡ Some x)))
    × IsRefusedAs ts ds name e s.line (string_bytes s.words)) c.watched_in.result
    (λ said refused. (Some refused.0, inr (refused.0, refused.1, refl), refused.2))
    c.watched_in.ensures
