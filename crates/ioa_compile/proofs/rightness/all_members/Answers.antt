use Rattle.ioa_compile.specs.Shown.{member_code}
use Rattle.ioa_compile.specs.Tables.{IsMember, AreMembers}
use Rattle.ioa_compile.proofs.Given.{one_fails}
use Rattle.ioa_compile.proofs.rightness.all_members.Goals as goal

pub returns-then-not-branch : goal.returns-then-not-branch
returns-then-not-branch c = (
  λ never. absurd (cc (never)),
  λ all. absurd (one_fails member_code (IsMember c.args.types.now) (AreMembers c.args.types.now) (λ y ys h. h.0) c.args.members.now c.loop-member.member-index c.member-item.result c.loop-member-test.true c.member-item.is
      c.loop-member.invariant (λ right. cc (c.in_ok-is_member.ensures.1 right)) all),
)
