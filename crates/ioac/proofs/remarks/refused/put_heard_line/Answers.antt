use Rattle.std.proofs.Common.{◌≡◌, ◌++◌, string_bytes, subst}
use Rattle.ioa_account.proofs.Remarking.{on_ok}
use Rattle.ioa_serving.specs.FailureCodes.{failure_code}
use Rattle.ioac.specs.Remarks.{jump_text}
use Rattle.ioac.proofs.remarks.refused.put_heard_line.Goals as goal

pub returns : goal.returns
returns g c =
    let before = string_bytes c.args.text.now in
    let after = string_bytes c.put_jump.new.text in
    let file = c.args.named.name.now in
    let bytes = c.args.named.bytes.now in
    let line = c.args.line in
    let words = string_bytes c.in_ok-words.words in
    let e = c.args.failure.now in
    on_ok c.put_jump.result
    (λ put. (
      words,
      c.in_ok-words.ensures,
      subst (λ w. after ≡ before ++ jump_text file line (failure_code e) w bytes) c.as_str.ensures.value
          (subst (λ code. after ≡ before ++ jump_text file line code c.as_str.result.now bytes) c.code.ensures put),
    ))
    c.put_jump.ensures
