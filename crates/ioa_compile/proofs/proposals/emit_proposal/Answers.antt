use Rattle.std.proofs.Common.{◌≡◌, Some, sym, ap, ◌∙◌, subst}
use Rattle.std.specs.Option.{option_map}
use Rattle.std.proofs.lemmas.Result.{on_ok_weaker}
use Rattle.ioa_value.specs.Table.{type_named}
use Rattle.ioa_code.specs.Parts.{listing}
use Rattle.ioa_tree.specs.View.{field_of, proposal_of}
use Rattle.ioa_emit.specs.Emitting.{AddsProposal}
use Rattle.ioa_emit.proofs.Emitted.{adds_pick, adds_proposed}
use Rattle.ioa_compile.proofs.proposals.emit_proposal.Goals as goal

pub returns-in-Some : goal.returns-in-Some
returns-in-Some c =
    let s = c.args.scope.now in
    let types = c.args.scope.now.types in
    let c0 = listing types c.args.out.now in
    let c1 = listing types c.emit_choice.new.out in
    let f = field_of c.args.field.now in
    on_ok_weaker c.emit_choice.result
    (λ z. subst (λ o. AddsProposal c0 c1 s f (option_map (λ r. proposal_of r.now) o)) (sym c.in-Some.is) (adds_proposed c0 c1 s f (proposal_of c.in-Some.proposal.now) z))
    c.emit_choice.ensures

pub returns-in-None : goal.returns-in-None
returns-in-None c =
    let s = c.args.scope.now in
    let types = c.args.scope.now.types in
    let c0 = listing types c.args.out.now in
    let c1 = listing types c.put.new.out in
    let f = field_of c.args.field.now in
    let of_type : type_named types f.ty ≡ Some c.named_type.result.0 = ap (λ l. type_named l f.ty) (sym c.types.ensures) ∙ c.named_type.ensures in
    on_ok_weaker c.put.result
    (λ z. subst (λ o. AddsProposal c0 c1 s f (option_map (λ r. proposal_of r.now) o)) (sym c.in-None.is) (adds_pick c0 c1 s f c.named_type.result.0 of_type (z types)))
    c.put.ensures
