use Rattle.std.proofs.Common.{sym, ◌∙◌}
use denote.Enum.Bare.{same_true}
use Rattle.ioa_request.specs.contracts.code.Code.{the_type}
use Rattle.ioac.proofs.remarks.composed.is_same_code.Goals as goal

pub returns : goal.returns
returns c = λ is. same_true the_type tt _ _ (sym c.eq.ensures ∙ is)
