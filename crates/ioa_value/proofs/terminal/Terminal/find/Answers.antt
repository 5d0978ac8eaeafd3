use Rattle.std.proofs.Common.{◌≡◌, IfSome, subst, sym}
use Rattle.ioa_value.specs.Spelling.{spelling_of}
use Rattle.ioa_value.proofs.Spellings.{sought_is}
use Rattle.ioa_value.proofs.terminal.Terminal.find.Goals as goal

pub returns-clause-found : goal.returns-clause-found
returns-clause-found c = subst (λ r. IfSome r (λ t. c.args.text.now ≡ spelling_of t)) (sym c.among.ensures) (sought_is c.args.text.now _)
