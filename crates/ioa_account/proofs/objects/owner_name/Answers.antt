use Rattle.std.proofs.Common.{ap, ◌∙◌}
use Rattle.ioa_account.specs.Objects.{member_name}
use Rattle.ioa_account.proofs.objects.owner_name.Goals as goal

pub returns : goal.returns
returns c = c.member_name.ensures ∙ ap (member_name c.args.program.now) c.owner_at.ensures
