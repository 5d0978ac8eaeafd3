use Rattle.std.proofs.Common.{◌≡◌, ◌++◌, map, string_bytes, take}
use Rattle.ioa_value.specs.Actions.{act_of}
use Rattle.ioa_serving.specs.RunReports.{left_text}
use Rattle.ioa_serving.proofs.tallies.put_inputs.Given as goal

-- the lines of the inputs so far
abbrev pub invariant-loop-input : goal.invariant-loop-input
invariant-loop-input l = string_bytes l.text ≡ string_bytes l.initial.text ++ left_text l.types (map act_of (take l.input-index l.inputs))
