use Rattle.std.proofs.Common.{string_bytes}
use Rattle.ioa_compile.specs.Programs.{MemberCode}
use Rattle.ioa_compile.specs.Shown.{member_code}
use Rattle.ioa_picture.specs.Charts.{worker_line}
use Rattle.ioa_picture.proofs.Numbered.{line_more_through}
use Rattle.ioa_picture.proofs.charts.put_components.Goals as goal

pub loop-i-preserved : goal.loop-i-preserved
loop-i-preserved c =
    line_more_through worker_line (λ (m : MemberCode). m.name) member_code c.args.members.now c.loop-i.i c.index-members-i.result (string_bytes c.args.text.now)
    (string_bytes c.loop-i.text) (string_bytes c.put_component.new.text) c.loop-i-test.true c.index-members-i.is c.loop-i.invariant c.in_ok-put_component.ensures
