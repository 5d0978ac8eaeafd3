use Rattle.std.proofs.Common.{◌≡◌, ◌++◌, IfSome, inr, string_bytes, subst}
use Rattle.ioa_account.proofs.Remarking.{on_ok}
use Rattle.ioac.specs.Composed.{IsMissingFrom}
use Rattle.ioac.specs.Remarks.{flat_text}
use Rattle.ioac.proofs.remarks.composed.put_missing_in.Goals as goal

pub returns-in-Some : goal.returns-in-Some
returns-in-Some c =
    let words = string_bytes c.in-Some.words in
    let before = string_bytes c.args.text.now in
    let after = string_bytes c.put_flat.new.text in
    on_ok c.put_flat.result
    (λ put. inr (
      words,
      subst (λ o. IfSome o (λ w. IsMissingFrom c.args.asked.now c.args.bytes.now (string_bytes w))) c.in-Some.is c.in_ok-words.ensures,
      subst (λ w. after ≡ before ++ flat_text c.args.name.now c.args.code w) c.as_str.ensures.value put,
    ))
    c.put_flat.ensures
