use Rattle.std.proofs.Common.{◌≡◌, ◌++◌, string_bytes, subst}
use Rattle.ioa_account.proofs.Remarking.{on_ok}
use Rattle.ioac.specs.Remarks.{jump_text}
use Rattle.ioac.proofs.remarks.composed.put_said.Goals as goal

pub returns : goal.returns
returns c =
    let before = string_bytes c.args.text.now in
    let after = string_bytes c.put_jump.new.text in
    on_ok c.put_jump.result
    (λ put. subst (λ words. after ≡ before ++ jump_text c.args.name.now c.args.said.now.line c.args.code words c.args.source.now) c.as_str.ensures.value put)
    c.put_jump.ensures
