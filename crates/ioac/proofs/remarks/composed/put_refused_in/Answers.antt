use Rattle.std.proofs.Common.{◌≡◌, ◌++◌, IfSome, inr, string_bytes, subst}
use Rattle.ioa_account.proofs.Remarking.{on_ok}
use Rattle.ioac.specs.Composed.{IsRefusedAt}
use Rattle.ioac.specs.Remarks.{jump_text}
use Rattle.ioac.proofs.remarks.composed.put_refused_in.Goals as goal

pub returns-in-Some : goal.returns-in-Some
returns-in-Some c =
    let source = c.args.source.now in
    let said = c.in-Some.said in
    let words = string_bytes said.words in
    let before = string_bytes c.args.text.now in
    let after = string_bytes c.put_said.new.text in
    on_ok c.put_said.result
    (λ put. inr (
      said.line,
      words,
      subst (λ o. IfSome o (λ s. IsRefusedAt c.args.asked.now source c.args.failure.now s.line (string_bytes s.words))) c.in-Some.is c.in_ok-said.ensures,
      subst (λ code. after ≡ before ++ jump_text c.args.name.now said.line code words source) c.code-code.ensures put,
    ))
    c.put_said.ensures
