use Rattle.std.proofs.Common.{◌≡◌, ◌∙◌, ◌++◌, ◌==◌, Bool, true, false, [], ap, append-nil, cond, length, map, string_bytes, sym, arith}
use Rattle.std.specs.Vec.{vec_len}
use Rattle.std.proofs.lemmas.List.{length-map}
use Rattle.std.proofs.lemmas.Result.{on_ok_weaker}
use Rattle.ioa_value.specs.Actions.{act_of}
use Rattle.ioa_enabled.specs.Told.{is_none, offer_lines, tells}
use Rattle.ioa_enabled.proofs.telling.put_offer.Goals as goal

pub returns-then-tells : goal.returns-then-tells
returns-then-tells c =
    let enabled = c.args.offer.now.enabled in
    let old = string_bytes c.args.text.now in
    let lines = offer_lines c.args.types.now c.args.component.now c.args.entry.now c.args.offer.now.more (map act_of enabled.items) in
    let items : vec_len enabled ≡ length enabled.items = omega (arith, enabled.ok.0) in
    let none : c.is_empty.result ≡ is_none (map act_of enabled.items) = c.is_empty.ensures ∙ ap (λ n. n == 0) (items ∙ sym (length-map enabled.items act_of)) in
    let told : tells c.args.part (is_none (map act_of enabled.items)) ≡ true = ap (tells c.args.part) (sym none) ∙ sym c.tells.ensures ∙ c.if-tells.true in
    on_ok_weaker c.put_lines.result (λ put. put ∙ ap (λ (b : Bool). old ++ cond b lines []) (sym told)) c.put_lines.ensures

pub returns : goal.returns
returns c =
    let enabled = c.args.offer.now.enabled in
    let old = string_bytes c.args.text.now in
    let lines = offer_lines c.args.types.now c.args.component.now c.args.entry.now c.args.offer.now.more (map act_of enabled.items) in
    let items : vec_len enabled ≡ length enabled.items = omega (arith, enabled.ok.0) in
    let none : c.is_empty.result ≡ is_none (map act_of enabled.items) = c.is_empty.ensures ∙ ap (λ n. n == 0) (items ∙ sym (length-map enabled.items act_of)) in
    let passed : tells c.args.part (is_none (map act_of enabled.items)) ≡ false = ap (tells c.args.part) (sym none) ∙ sym c.tells.ensures ∙ c.if-tells.false in
    sym (append-nil old) ∙ ap (λ (b : Bool). old ++ cond b lines []) (sym passed)
