use Rattle.std.proofs.Common.{◌≡◌, ◌++◌, map, string_bytes, take}
use Rattle.std.specs.List.{flat_map}
use Rattle.ioa_tree.specs.View.{entry_of}
use Rattle.ioa_enabled.specs.Signed.{input_lines}
use Rattle.ioa_enabled.proofs.signatures.put_inputs.Given as goal

-- the lines of the entries so far
abbrev pub invariant-loop-entry : goal.invariant-loop-entry
invariant-loop-entry l = string_bytes l.text ≡ string_bytes l.initial.text ++ flat_map (input_lines l.component) (map entry_of (take l.entry-index l.entries))
