use Rattle.ioac.specs.Unseen.{HasInternal, IsInternal}
use Rattle.ioa_causes.proofs.Found.{if_some}
use Rattle.ioac.proofs.remarks.unseen.internal_of.Goals as goal

-- it is the first component's that has one
pub returns-in-Some : goal.returns-in-Some
returns-in-Some c =
    if_some (HasInternal c.in-Some.member.now) (IsInternal c.args.members.now) c.internal_in.result (λ unseen has. (c.in-Some.member.now, c.in-Some.ensures, has)) c.internal_in.ensures
