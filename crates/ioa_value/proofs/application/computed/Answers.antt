use Rattle.std.proofs.Common.{◌<◌, ◌^◌, pos, length, map, not, sym, subst, ap, ◌∙◌, arith, w64}
use Rattle.std.proofs.lemmas.Int.{to_z_pos}
use Rattle.std.proofs.lemmas.List.{length-map}
use Rattle.std.specs.Prelude.{is_some}
use Rattle.std.specs.List.{list_any}
use Rattle.ioa_value.specs.Plain.{plain, plain_all, truth, num}
use Rattle.ioa_value.specs.Operators.{gives, operate, Takes}
use Rattle.ioa_value.specs.Operands.{operands_of}
use Rattle.ioa_value.specs.Same.{same}
use Rattle.ioa_value.proofs.LentLemmas.{alike_given, sequence_given, member_given}
use Rattle.ioa_value.proofs.PlainLemmas.{listed-plain}
use Rattle.ioa_value.proofs.SequenceLemmas.{any_placed}
use Rattle.ioa_value.proofs.application.computed.Goals as goal

pub returns-in-Eq : goal.returns-in-Eq
returns-in-Eq c types =
    let vs = operands_of c.args.operands in
    let t = subst (λ o. Takes c.requires.takes.0 o vs) c.in-Eq.is c.requires.takes.1 in
    ap (λ b. gives (truth b)) c.same.ensures ∙ alike_given (λ v w. gives (truth (same v w))) vs _ _ t.0 t.1 t.2 t.3 c.both.ensures ∙ ap (λ o. operate types o vs) (sym c.in-Eq.is)

pub returns-in-Ne : goal.returns-in-Ne
returns-in-Ne c types =
    let vs = operands_of c.args.operands in
    let t = subst (λ o. Takes c.requires.takes.0 o vs) c.in-Ne.is c.requires.takes.1 in
    ap (λ b. gives (truth (not b))) c.same-in-Ne.ensures ∙ alike_given (λ v w. gives (truth (not (same v w)))) vs _ _ t.0 t.1 t.2 t.3 c.both-in-Ne.ensures ∙ ap (λ o. operate types o vs) (sym c.in-Ne.is)

pub returns-in-Len : goal.returns-in-Len
returns-in-Len c types =
    let vs = operands_of c.args.operands in
    let its = c.items_of.result.now in
    let s = c.items_of.ensures in
    let small : length its < 2 ^ 63 = omega (arith, c.items_of.type_inv.1) in
    ap (λ z. gives (num z)) (to_z_pos w64 (length its) small)
    ∙ ap (λ n. gives (num (pos n))) (sym (length-map its plain))
    ∙ ap (λ xs. gives (num (pos (length xs)))) (sym (listed-plain its))
    ∙ sequence_given (λ s xs. gives (num (pos (length xs)))) vs _ s.0 (plain_all its) c.only.ensures s.1
    ∙ ap (λ o. operate types o vs) (sym c.in-Len.is)

pub returns-in-Member : goal.returns-in-Member
returns-in-Member c types =
    let vs = operands_of c.args.operands in
    let its = c.items_of-in-Member.result.now in
    let s = c.items_of-in-Member.ensures in
    let x = plain c.both-in-Member.result.0.now in
    ap (λ b. gives (truth b)) (c.is_some.ensures ∙ ap is_some c.place_of.ensures.place ∙ any_placed x (map plain its))
    ∙ ap (λ xs. gives (truth (list_any (same x) xs))) (sym (listed-plain its))
    ∙ member_given (λ y ys. gives (truth (list_any (same y) ys))) vs x _ s.0 (plain_all its) c.both-in-Member.ensures s.1
    ∙ ap (λ o. operate types o vs) (sym c.in-Member.is)
