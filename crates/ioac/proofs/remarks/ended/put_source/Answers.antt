use Rattle.std.proofs.Common.{Some, None, refl, subst}
use Rattle.std.specs.Option.{option_copied}
use Rattle.ioac.specs.Remarks.{IsComposed}
use Rattle.ioa_account.proofs.Remarking.{on_ok}
use Rattle.ioac.proofs.remarks.ended.put_source.Goals as goal

pub returns-in_default : goal.returns-in_default
returns-in_default c =
    (None, subst (IsComposed c.args.source.now (option_copied c.args.name)) c.in_default.is c.in_ok-composition.ensures, refl)

pub returns : goal.returns
returns c =
    on_ok c.put_told.result
    (λ tells. (
      Some c.in-Some.composition,
      subst (IsComposed c.args.source.now (option_copied c.args.name)) c.in-Some.is c.in_ok-composition.ensures,
      (_, refl, refl, refl, refl, tells),
    ))
    c.put_told.ensures
