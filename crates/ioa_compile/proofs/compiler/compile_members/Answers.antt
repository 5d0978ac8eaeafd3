use Rattle.std.proofs.Common.{arith, sym, subst}
use Rattle.std.proofs.lemmas.List.Elements.{All-get_or}
use Rattle.ioa_compose.specs.Held.{member_of, HoldsPositions}
use Rattle.ioa_compose.proofs.MemberLemmas.{fine_at, declared_at}
use Rattle.ioa_compile.specs.Shown.{member_code}
use Rattle.ioa_compile.specs.Translated.{DoesSame}
use Rattle.ioa_compile.proofs.Paired.{paired_next}
use Rattle.ioa_compile.proofs.compiler.compile_members.Goals as goal

pub compile_member-requires-clause-fine : goal.compile_member-requires-clause-fine
compile_member-requires-clause-fine c =
    fine_at c.args.members.now c.loop-member.member-index c.member-item.result c.requires.fine (omega arith) c.member-item.is

pub compile_member-requires-clause-table : goal.compile_member-requires-clause-table
compile_member-requires-clause-table c =
    let over = c.requires.table in
    declared_at over.0 c.args.members.now c.loop-member.member-index c.member-item.result over.1 over.2 (omega arith) c.member-item.is

pub compile_member-requires-clause-positions : goal.compile_member-requires-clause-positions
compile_member-requires-clause-positions c =
    subst HoldsPositions (sym c.member-item.is)
    (All-get_or HoldsPositions c.args.members.now c.loop-member.member-index c.member-item.result c.loop-member-test.true c.requires.positions)

pub loop-member-preserved : goal.loop-member-preserved
loop-member-preserved c =
    paired_next DoesSame member_of member_code c.args.members.now c.loop-member.member-index c.member-item.result c.loop-member.codes.items c.push.new.self.items c.in_ok-compile_member.field-0 (omega arith) c.member-item.is c.in_ok-push.ensures.items c.in_ok-compile_member.ensures c.loop-member.invariant
