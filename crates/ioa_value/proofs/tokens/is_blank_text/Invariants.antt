use Rattle.std.proofs.Common.{◌≡◌, true, take}
use Rattle.std.specs.List.{list_all}
use Rattle.ioa_value.specs.Reads.{is_blank}
use Rattle.ioa_value.proofs.tokens.is_blank_text.Given as goal

abbrev pub invariant-loop-b : goal.invariant-loop-b
invariant-loop-b l = list_all is_blank (take l.b-index l.text) ≡ true
