use Rattle.std.proofs.Common.{◌≡◌, ◌++◌, map, string_bytes, take}
use Rattle.std.specs.List.{flat_map}
use Rattle.ioa_value.specs.Actions.{act_of}
use Rattle.ioa_enabled.specs.Told.{action_line}
use Rattle.ioa_enabled.proofs.telling.put_lines.Given as goal

-- the lines of the actions so far
abbrev pub invariant-loop-action : goal.invariant-loop-action
invariant-loop-action l = string_bytes l.text ≡ string_bytes l.initial.text ++ flat_map (action_line l.types l.component) (map act_of (take l.action-index l.offer.enabled.items))
