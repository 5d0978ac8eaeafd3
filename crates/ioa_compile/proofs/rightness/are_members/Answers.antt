use Rattle.std.proofs.Common.{◌↔◌, IsTrue, map}
use Rattle.std.proofs.lemmas.Result.{IfOk-weaker}
use Rattle.ioa_value.specs.declared.limits.TheConstants.{LIMITS}
use Rattle.ioa_compile.specs.Shown.{member_code}
use Rattle.ioa_compile.specs.Tables.{AreMembers}
use Rattle.ioa_compile.proofs.Given.{few_seen}
use Rattle.ioa_compile.proofs.rightness.are_members.Goals as goal

pub returns-then-not-are_few : goal.returns-then-not-are_few
returns-then-not-are_few c =
    let few = c.are_few.ensures in
    let seen = few_seen member_code (λ m. m.name) LIMITS.components c.args.members.now in
    (λ never. absurd (cc (never)), λ all. absurd (cc (few.1 (seen.1 all.0))))

pub returns : goal.returns
returns c =
    let few = c.are_few.ensures in
    let seen = few_seen member_code (λ m. m.name) LIMITS.components c.args.members.now in
    IfOk-weaker c.all_members.result (λ b. IsTrue b ↔ AreMembers c.args.types.now (map member_code c.args.members.now)) _
    (λ b h. (λ yes. (seen.0 (few.0 c.if-not-are_few.false), h.0 yes), λ all. h.1 all.1)) c.all_members.ensures
