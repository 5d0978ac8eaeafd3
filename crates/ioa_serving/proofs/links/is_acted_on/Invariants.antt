use Rattle.std.proofs.Common.{◌≡◌, drop, map}
use Rattle.std.specs.List.{list_any}
use Rattle.ioa_value.specs.Actions.{act_of}
use Rattle.ioa_compile.specs.Shown.{member_code}
use Rattle.ioa_serving.specs.Links.{takes_part}
use Rattle.ioa_serving.proofs.links.is_acted_on.Given as goal

abbrev pub invariant-loop-action : goal.invariant-loop-action
invariant-loop-action l =
    list_any (takes_part l.types (member_code l.member)) (map act_of (drop l.action-index l.script))
    ≡ list_any (takes_part l.types (member_code l.member)) (map act_of l.script)
