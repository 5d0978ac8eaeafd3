use Rattle.std.proofs.Common.{string_bytes}
use Rattle.ioa_compile.specs.Shown.{member_code}
use Rattle.ioa_dump.specs.Dumps.{component_lines}
use Rattle.ioa_picture.proofs.Numbered.{line_more}
use Rattle.ioa_dump.proofs.components.put_members.Goals as goal

pub loop-i-preserved : goal.loop-i-preserved
loop-i-preserved c =
    line_more (component_lines c.args.types.now) member_code c.args.members.now c.loop-i.i c.index-members-i.result (string_bytes c.args.text.now)
    (string_bytes c.loop-i.text) (string_bytes c.put_member.new.text) c.loop-i-test.true c.index-members-i.is c.loop-i.invariant c.in_ok-put_member.ensures
