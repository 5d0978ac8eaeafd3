use Rattle.std.proofs.Common.{◌≡◌, map, drop}
use Rattle.std.specs.List.{list_all}
use Rattle.std.specs.String.{string_bytes}
use Rattle.ioa_compile.specs.Shown.{member_code}
use Rattle.ioa_compile.specs.Tables.{have_output}
use Rattle.ioa_compile.proofs.rightness.are_outputs.Given as goal

abbrev pub invariant-loop-name : goal.invariant-loop-name
invariant-loop-name l =
    list_all (have_output (map member_code l.members)) (map string_bytes (drop l.name-index l.names)) ≡ list_all (have_output (map member_code l.members)) (map string_bytes l.names)
