use Rattle.std.proofs.Common.{◌≡◌, ◌++◌, take, string_bytes}
use Rattle.ioa_value.specs.Plain.{plain_all}
use Rattle.ioa_value.specs.Written.{written_row}
use Rattle.ioa_value.proofs.writing.+writing.Given as goal

abbrev pub invariant-push_row-loop-i : goal.invariant-push_row-loop-i
invariant-push_row-loop-i l =
    string_bytes l.text ≡ string_bytes l.fn.text ++ written_row l.types (plain_all (take l.i l.values))
