use Rattle.std.proofs.Common.{ap, ◌∙◌}
use Rattle.std.specs.Prelude.{is_some}
use Rattle.std.specs.Option.{option_copied}
use Rattle.ioa_request.proofs.Cutting.{bounded_as}
use Rattle.ioa_request.proofs.cut.is_bounded.Goals as goal

pub returns : goal.returns
returns c = c.is_some.ensures ∙ ap is_some (c.read_bound.ensures ∙ bounded_as c.args.found.now (option_copied c.get_str-word.result) c.get_str-word.ensures)
