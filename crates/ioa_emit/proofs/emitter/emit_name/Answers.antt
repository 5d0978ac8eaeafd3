use Rattle.std.proofs.Common.{◌≡◌, Some, None, sym, ap, ◌∙◌}
use Rattle.std.specs.Prelude.{slice_get}
use Rattle.std.proofs.lemmas.Result.{on_ok_weaker}
use Rattle.ioa_value.specs.Plain.{plain}
use Rattle.ioa_value.specs.Table.{place_from}
use Rattle.ioa_value.proofs.TypingLemmas.{OwnTypes-get}
use Rattle.ioa_code.specs.Parts.{listing}
use Rattle.ioa_tree.specs.Types.{constant}
use Rattle.ioa_tree.specs.View.{name_of}
use Rattle.ioa_emit.proofs.Emitted.{none_from, origin_item, origin_slot, origin_parameter, adds_item, adds_slot, adds_argument, origin_formal, adds_named, missing_from, origin_fixed, adds_fixed}
use Rattle.ioa_emit.proofs.Fixed.{constant_own}
use Rattle.ioa_emit.proofs.emitter.emit_name.Goals as goal

pub returns-in-Some : goal.returns-in-Some
returns-in-Some c =
    let s = c.args.scope.now in
    let x = name_of c.args.name.now in
    on_ok_weaker c.put.result (λ more. adds_item (listing s.types c.args.out.now) (listing s.types c.put.new.out) s x c.in-Some.d (origin_item s x c.in-Some.d (sym c.item_place.ensures ∙ c.in-Some.is)) (more s.types)) c.put.ensures

pub returns-in-Some-variable : goal.returns-in-Some-variable
returns-in-Some-variable c =
    let s = c.args.scope.now in
    let x = name_of c.args.name.now in
    let no_item = sym c.item_place.ensures ∙ none_from c.item_place.result c.in_default.not-Some in
    on_ok_weaker c.put-in-Some-variable.result (λ more. adds_slot (listing s.types c.args.out.now) (listing s.types c.put-in-Some-variable.new.out) s x c.in-Some-variable.i (origin_slot s x c.in-Some-variable.i no_item (sym c.variable.ensures ∙ c.in-Some-variable.is)) (more s.types)) c.put-in-Some-variable.ensures

pub returns-in-Some-formal : goal.returns-in-Some-formal
returns-in-Some-formal c =
    let s = c.args.scope.now in
    let x = name_of c.args.name.now in
    let v = plain c.in_ok-try_copy.field-0 in
    let found = c.in-Some-formal.ensures.found in
    let at : slice_get s.arguments found.0 ≡ Some v = found.2 ∙ ap Some (sym c.in_ok-try_copy.ensures) in
    let no_item = sym c.item_place.ensures ∙ none_from c.item_place.result c.in_default.not-Some in
    let from = origin_formal s x found.0 no_item (sym c.variable.ensures ∙ none_from c.variable.result c.in_default-variable.not-Some) found.1 in
    on_ok_weaker c.put_constant.result (λ more. adds_named (listing s.types c.args.out.now) (listing s.types c.put_constant.new.out) s x found.0 v from at (more s.types (OwnTypes-get s.types s.arguments found.0 v c.formal.ensures.typed at))) c.put_constant.ensures

pub returns-in-Some-parameter : goal.returns-in-Some-parameter
returns-in-Some-parameter c =
    let s = c.args.scope.now in
    let x = name_of c.args.name.now in
    let i = c.in-Some-parameter.i in
    let no_item = sym c.item_place.ensures ∙ none_from c.item_place.result c.in_default.not-Some in
    let first = sym c.variable.ensures ∙ none_from c.variable.result c.in_default-variable.not-Some in
    let second = missing_from c.formal.result (place_from 0 s.formals x ≡ None) c.in_default-formal.not-Some c.formal.ensures.missing in
    let from = origin_parameter s x i no_item first second (sym c.parameter.ensures ∙ c.in-Some-parameter.is) in
    on_ok_weaker c.put-in-Some-parameter.result (λ more. adds_argument (listing s.types c.args.out.now) (listing s.types c.put-in-Some-parameter.new.out) s x i from (more s.types)) c.put-in-Some-parameter.ensures

pub returns-in-None : goal.returns-in-None
returns-in-None c =
    let s = c.args.scope.now in
    let x = name_of c.args.name.now in
    let v = plain c.constant.result in
    let no_item = sym c.item_place.ensures ∙ none_from c.item_place.result c.in_default.not-Some in
    let first = sym c.variable.ensures ∙ none_from c.variable.result c.in_default-variable.not-Some in
    let second = missing_from c.formal.result (place_from 0 s.formals x ≡ None) c.in_default-formal.not-Some c.formal.ensures.missing in
    let is : constant s.types x ≡ Some v = ap (λ l. constant l x) (sym c.types.ensures) ∙ c.constant.ensures in
    let from = origin_fixed s x v no_item first second (sym c.parameter.ensures ∙ c.in-None.is) is in
    on_ok_weaker c.put_constant-in-None.result (λ more. adds_fixed (listing s.types c.args.out.now) (listing s.types c.put_constant-in-None.new.out) s x v from (more s.types (constant_own s.types x v is))) c.put_constant-in-None.ensures
