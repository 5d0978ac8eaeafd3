use Rattle.std.proofs.Common.{◌≡◌, ◌∙◌, IfSome, subst, sym, true}
use Rattle.ioa_request.specs.Codes.{spelling}
use Rattle.ioa_request.specs.Pasted.{reads}
use Rattle.ioa_request.proofs.Spelled.{none_sought, sought_is}
use Rattle.ioa_request.proofs.code.Code.find.Goals as goal

pub returns-clause-some : goal.returns-clause-some
returns-clause-some c =
    subst (λ r. IfSome r (λ code. reads (spelling code) c.args.word.now ≡ true)) (sym (c.copied.ensures ∙ c.first_spelled.ensures)) (sought_is c.args.word.now _)

pub returns-clause-none : goal.returns-clause-none
returns-clause-none c = none_sought c.args.word.now c.as_slice.result.now c.copied.result c.as_slice.ensures (c.copied.ensures ∙ c.first_spelled.ensures)
