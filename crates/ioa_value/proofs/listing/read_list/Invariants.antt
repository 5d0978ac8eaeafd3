use Rattle.std.proofs.Common.{◌≤◌, ◌+◌, map, length}
use Rattle.ioa_value.specs.Actions.{act_of}
use Rattle.ioa_value.proofs.ListLemmas.{ReadTo}
use Rattle.ioa_value.proofs.listing.read_list.Given as goal

abbrev pub invariant-loop-rest : goal.invariant-loop-rest
invariant-loop-rest l = record {
  read : ReadTo l.types l.text l.count (map act_of l.list.items) l.rest;
  within : l.count + length l.rest ≤ length l.text;
}

abbrev pub decreases-loop-rest : goal.decreases-loop-rest
decreases-loop-rest l = length l.rest
