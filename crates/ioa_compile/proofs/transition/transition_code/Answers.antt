use Rattle.std.proofs.Common.{◌≡◌, ap, ◌∙◌, List, map, Vec, Global, refl, subst, sym, arith}
use Rattle.std.proofs.lemmas.List.{length-map}
use Rattle.ioa_value.specs.Plain.{Val, plain}
use Rattle.ioa_value.specs.Table.{Table}
use Rattle.ioa_value.specs.Typing.{OwnTypes}
use Rattle.ioa_code.specs.declared.instr.Code.{Code}
use Rattle.ioa_code.specs.declared.instr.Instr.{Instr}
use Rattle.ioa_code.specs.Machine.{Listing}
use Rattle.ioa_code.specs.Parts.{listing}
use Rattle.ioa_tree.specs.View.{stmts_of, proposal_of, entry_of, transition_of}
use Rattle.ioa_tree.specs.WellFormed.{stmts_nodes}
use Rattle.ioa_emit.specs.Emitting.{proposals_nodes}
use Rattle.ioa_compile.specs.Translated.{IsGuard, IsProposing, IsEffect}
use Rattle.ioa_compile.proofs.Grown.{local_is, with_consts, grown_guard, grown_proposals, grown_on}
use Rattle.ioa_compile.proofs.transition.transition_code.Goals as goal

-- the same instructions, with these constants
same_code : (types : Table) (code : Code) (instrs : Vec Instr Global) (old : Listing) (consts : List Val) → old.types ≡ types → old.instrs ≡ instrs.items → code.instrs ≡ instrs → map plain code.consts.items ≡ consts → with_consts old consts ≡ listing types code
same_code types code instrs old consts over begins is these =
    let one : with_consts old consts ≡ record { types = types; instrs = old.instrs; consts = consts } = ap (λ t. record { types = t; instrs = old.instrs; consts = consts }) over in
    let two : record { types = types; instrs = old.instrs; consts = consts } ≡ record { types = types; instrs = code.instrs.items; consts = consts } = ap (λ l. record { types = types; instrs = l; consts = consts }) (begins ∙ sym (ap (λ (v : Vec Instr Global). v.items) is)) in
    let three : record { types = types; instrs = code.instrs.items; consts = consts } ≡ listing types code = ap (λ l. record { types = types; instrs = code.instrs.items; consts = l }) (sym these) in
    one ∙ two ∙ three

pub returns-in_ok-with_constants-in-Output-2 : goal.returns-in_ok-with_constants-in-Output-2
returns-in_ok-with_constants-in-Output-2 c =
    let s = c.args.scope.now in
    let h = c.args.held.now in
    let types = s.types in
    let e = entry_of c.args.entry.now in
    let t = transition_of c.args.transition.now in
    let guard = listing types c.in_ok-guard-in-Output.guard in
    let proposals = listing h.types c.in_ok-proposals-in-Output.proposals in
    let code = listing types c.in_ok-effect-in-Output.effect in
    let guard_copy = c.in_ok-with_constants-in-Output.field-0 in
    let proposals_copy = c.in_ok-with_constants-in-Output-2.field-0 in
    let guard_same : map plain guard_copy.consts.items ≡ code.consts = c.in_ok-with_constants-in-Output.ensures.consts ∙ ap (map plain) c.deref-in-Output-3.ensures.value in
    let proposals_same : map plain proposals_copy.consts.items ≡ code.consts = c.in_ok-with_constants-in-Output-2.ensures.consts ∙ ap (map plain) c.deref-in-Output-4.ensures.value in
    let effect = subst (λ l. IsEffect code s (stmts_of l)) c.deref-in-Output-2.ensures.value c.in_ok-effect-in-Output.ensures.effect in
    let proposing = subst (λ l. IsProposing proposals h (map proposal_of l) e.positions) c.deref-in-Output.ensures.value c.in_ok-proposals-in-Output.ensures.proposals in
    let more = c.in_ok-effect-in-Output.ensures.grown in
    let all = grown_on guard.consts proposals.consts code.consts c.in_ok-proposals-in-Output.ensures.grown more in
    let held_typed = subst (λ l. OwnTypes l code.consts) (sym c.requires.types) effect.typed in
    let guard_is = same_code types guard_copy c.in_ok-guard-in-Output.guard.instrs guard code.consts refl refl c.in_ok-with_constants-in-Output.ensures.instrs guard_same in
    let proposals_is = same_code types proposals_copy c.in_ok-proposals-in-Output.proposals.instrs proposals code.consts c.requires.types refl c.in_ok-with_constants-in-Output-2.ensures.instrs proposals_same in
    let few_proposals = ap (λ l. proposals_nodes (map proposal_of l) e.positions) c.deref-in-Output.ensures.value in
    let few_stmts = ap (λ l. stmts_nodes (stmts_of l)) c.deref-in-Output-2.ensures.value in
    record {
      pre = local_is (λ k. IsGuard k s t.pre) e.kind (listing types guard_copy) c.in-Output.is (subst (λ k. IsGuard k s t.pre) guard_is (grown_guard s t.pre guard code.consts c.in_ok-guard-in-Output.ensures.guard all effect.typed));
      propose = local_is (λ k. IsProposing k h t.proposals e.positions) e.kind (listing types proposals_copy) c.in-Output.is (subst (λ k. IsProposing k h t.proposals e.positions) proposals_is (grown_proposals h t.proposals e.positions proposals code.consts proposing more held_typed));
      effect = effect;
      consts = guard_same;
      same_consts = proposals_same;
      few = omega (arith, c.in_ok-guard-in-Output.ensures.few, c.in_ok-proposals-in-Output.ensures.few, c.in_ok-effect-in-Output.ensures.few, few_proposals, few_stmts, length-map c.in_ok-effect-in-Output.effect.consts.items plain);
    }
