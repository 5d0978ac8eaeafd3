use Rattle.std.proofs.Common.{◌≡◌, ◌==◌, length, ap, ◌∙◌, arith}
use Rattle.std.specs.Vec.{vec_len}
use Rattle.ioa_value.specs.Actions.{act_of}
use Rattle.ioa_compile.specs.Tables.{tabled}
use Rattle.ioa_account.proofs.Counting.{is_known}
use Rattle.ioa_account.proofs.counts.is_known.Goals as goal

pub returns : goal.returns
returns c =
    let found = c.in_ok-found.found in
    let long : vec_len found ≡ length found.items = omega (arith, found.ok.0) in
    is_known (tabled c.args.program.now) (act_of c.args.action.now) found.items c.is_empty.result c.in_ok-found.ensures (c.is_empty.ensures ∙ ap (λ n. n == 0) long)
