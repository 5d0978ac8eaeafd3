use Rattle.std.specs.Option.{option_copied}
use Rattle.ioa_request.specs.Pasted.{texts}
use Rattle.ioa_request.proofs.Asked.{none_so}
use Rattle.ioa_request.proofs.ToldWords.{pasted_none, pasted_some, untold}
use Rattle.ioa_request.proofs.pasted.pasted.Goals as goal

pub returns-clause-some : goal.returns-clause-some
returns-clause-some c =
    pasted_some (texts c.args.words.now) c.in_ok-first.first.now (option_copied c.in_ok-first.second) c.named.result c.in_ok-first.ensures c.named.ensures.some

pub returns-clause-none : goal.returns-clause-none
returns-clause-none c =
    pasted_none (texts c.args.words.now) c.in_ok-first.first.now (option_copied c.in_ok-first.second) c.named.result c.in_ok-first.ensures c.named.ensures.none

pub returns-in_err-first-clause-none : goal.returns-in_err-first-clause-none
returns-in_err-first-clause-none c = none_so _ _ c.from_residual.ensures (untold (texts c.args.words.now) c.in_err-first.ensures)
