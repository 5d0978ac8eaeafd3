use Rattle.std.proofs.Common.{◌≡◌, ◌++◌, length}
use Rattle.std.specs.List.{AllZip}
use Rattle.std.specs.Vec.Iter.{into_iter_items, into_iter_len}
use Rattle.ioa_compose.specs.Bindings.{IsStarted}
use Rattle.ioa_compose.specs.Held.{member_of, KeepsPositions}
use Rattle.ioa_compose.proofs.starts.start_all.Given as goal

abbrev pub invariant-loop-binding : goal.invariant-loop-binding
invariant-loop-binding l = record {
  parts : l.yielded ++ into_iter_items l.binding-iterator ≡ into_iter_items l.initial.binding-iterator;
  kept : AllZip KeepsPositions l.yielded l.members.items;
  started : AllZip (λ b m. IsStarted l.types b (member_of m)) l.yielded l.members.items;
  left : into_iter_len l.binding-iterator ≡ length (into_iter_items l.binding-iterator);
}
