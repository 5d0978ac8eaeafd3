use Rattle.std.proofs.Common.{map, subst}
use Rattle.ioa_request.specs.CommandLine.{IsAskedBy}
use Rattle.ioac.proofs.command.perform.Goals as goal

pub returns-in-Ok-clause-performs : goal.returns-in-Ok-clause-performs
returns-in-Ok-clause-performs g c = c.perform_read.ensures.performs (map g.S.AsStr.text c.args.words.now) c.in-Ok.ensures.found c.in-Ok.ensures.faults

pub returns-in-Ok-clause-kept : goal.returns-in-Ok-clause-kept
returns-in-Ok-clause-kept g c = λ none.
    c.perform_read.ensures.kept (λ request asks. none request (c.in-Ok.ensures.faults, subst (λ o. IsAskedBy o request) c.in-Ok.ensures.found asks))

pub returns-in-Ok-clause-unread : goal.returns-in-Ok-clause-unread
returns-in-Ok-clause-unread g c = λ none.
    c.perform_read.ensures.unread (λ request asks. none request (c.in-Ok.ensures.faults, subst (λ o. IsAskedBy o request) c.in-Ok.ensures.found asks))
