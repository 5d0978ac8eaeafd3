use Rattle.std.proofs.Common.{◌≡◌, ◌++◌, List, ℕ, map, length, subst, sym, ap, ◌∙◌}
use Rattle.std.specs.Prelude.{OnOk}
use Rattle.ioa_value.specs.Plain.{Val, number, plain}
use Rattle.ioa_value.specs.Table.{Table}
use Rattle.ioa_words.specs.Decoding.{decoded, Does}
use Rattle.ioa_words.specs.Layout.{flat_all}
use Rattle.ioa_words.specs.WordOperators.{window, Fits}
use Rattle.ioa_tests.proofs.Agreeing.{found}
use Rattle.ioa_tests.proofs.tests.words.agrees.Goals as goal

pub work-made-requires-clause-whole : goal.work-made-requires-clause-whole
work-made-requires-clause-whole g c = ap length words ∙ does.takes ∙ ap window (sym c.decode.ensures)
  where
    types : Table
    types = c.args.layout.now

    vs : List Val
    vs = map plain c.args.operands.now

    does : Does types c.args.op vs (decoded types c.args.op (map number c.args.own.now))
    does = (found c.types-types.result.now types c.args.op (map number c.args.own.now) vs c.op_type.result c.in-Some.field-0 c.types-types.ensures.value c.types-types.ensures.types (c.have_types.ensures (cc)) c.op_type.ensures c.in-Some.is).1

    words : c.deref_mut.result.now ≡ flat_all types vs
    words = c.deref_mut.ensures.value ∙ subst (λ r. OnOk r (c.push_values.new.out.items ≡ c.new-words.result.items ++ flat_all types vs)) c.got.ensures c.push_values.ensures ∙ ap (λ l. l ++ flat_all types vs) c.new-words.ensures.items

pub work-made-requires-clause-fits : goal.work-made-requires-clause-fits
work-made-requires-clause-fits g c = subst (λ ws. Fits c.decode.result ws) (sym words) (subst (λ w. Fits w (flat_all types vs)) (sym c.decode.ensures) does.fits)
  where
    types : Table
    types = c.args.layout.now

    vs : List Val
    vs = map plain c.args.operands.now

    does : Does types c.args.op vs (decoded types c.args.op (map number c.args.own.now))
    does = (found c.types-types.result.now types c.args.op (map number c.args.own.now) vs c.op_type.result c.in-Some.field-0 c.types-types.ensures.value c.types-types.ensures.types (c.have_types.ensures (cc)) c.op_type.ensures c.in-Some.is).1

    words : c.deref_mut.result.now ≡ flat_all types vs
    words = c.deref_mut.ensures.value ∙ subst (λ r. OnOk r (c.push_values.new.out.items ≡ c.new-words.result.items ++ flat_all types vs)) c.got.ensures c.push_values.ensures ∙ ap (λ l. l ++ flat_all types vs) c.new-words.ensures.items

pub apply-requires : goal.apply-requires
apply-requires g c = (found c.types-types.result.now c.args.layout.now c.args.op (map number c.args.own.now) (map plain c.args.operands.now) c.op_type.result c.in-Some.field-0 c.types-types.ensures.value c.types-types.ensures.types (c.have_types.ensures (cc)) c.op_type.ensures c.in-Some.is).0
