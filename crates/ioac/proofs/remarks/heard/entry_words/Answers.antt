use Rattle.std.proofs.Common.{◌≡◌, string_bytes, ap, ◌∙◌}
use Rattle.ioa_value.specs.Actions.{act_of}
use Rattle.ioa_value.specs.Written.{written_action}
use Rattle.ioa_causes.proofs.Found.{if_ok}
use Rattle.ioac.specs.Owners.{owned_text, owner_text, performer}
use Rattle.ioac.proofs.remarks.heard.entry_words.Goals as goal

pub returns : goal.returns
returns c =
    let p = c.args.program.now in
    let who = c.args.entry.now.who in
    let a = act_of c.args.entry.now.action in
    let told = written_action p.types a in
    let k = c.in_ok-number.number in
    let x = c.performer-name.result.now in
    let same : owned_text c.as_str.result.now x k who ≡ owner_text p who a =
    ap (λ t. owned_text t x k who) (c.as_str.ensures.value ∙ c.in_ok-action.ensures ∙ ap (λ ts. written_action ts a) c.types.ensures.value)
    ∙ ap (λ y. owned_text told y k who) (c.performer-name.ensures ∙ ap (λ ms. performer ms k) c.members.ensures.value)
    ∙ ap (λ j. owned_text told (performer p.members j) j who) c.in_ok-number.ensures in
    if_ok (λ words. string_bytes words ≡ owned_text c.as_str.result.now x k who) (λ words. string_bytes words ≡ owner_text p who a) c.owned_words.result (λ words e. e ∙ same) c.owned_words.ensures
