use Rattle.std.proofs.Common.{◌≡◌, drop, length, vec_len}
use Rattle.std.specs.Vec.Iter.{into_iter_items}
use Rattle.ioa_system.specs.Participants.{put_back}
use Rattle.ioa_board.proofs.plan.put_states.Given as goal

abbrev pub invariant-loop-state : goal.invariant-loop-state
invariant-loop-state l = record {
  at : l.k ≡ length l.yielded;
  left : put_back (drop l.k l.numbers) (into_iter_items l.state-iterator) l.states.items ≡ put_back l.numbers l.fn.new.items l.initial.states.items;
  len : vec_len l.states ≡ vec_len l.initial.states;
}
