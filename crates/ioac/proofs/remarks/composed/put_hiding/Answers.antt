use Rattle.std.proofs.Common.{◌≡◌, ◌++◌, string_bytes, subst}
use Rattle.ioa_account.proofs.Remarking.{on_ok}
use Rattle.ioac.specs.UnseenLines.{line_text}
use Rattle.ioac.proofs.remarks.composed.put_hiding.Goals as goal

pub returns : goal.returns
returns c =
    let before = string_bytes c.args.text.now in
    let after = string_bytes c.put_words.new.text in
    on_ok c.put_words.result
    (λ put. subst (λ words. after ≡ before ++ line_text c.args.name.now c.args.hiding.now.line c.args.code words c.args.bytes.now) c.as_str.ensures.value put)
    c.put_words.ensures
