use Rattle.std.proofs.Common.{◌≡◌, ◌+◌, ◌<◌, ℕ, List, ◌++◌, get_or, length, map, take, arith}
use Rattle.std.specs.List.{flat_map}
use Rattle.std.proofs.lemmas.Grind.{common_steps}
use Rattle.ioa_tree.specs.View.{automaton_of, entry_of}
use Rattle.ioa_warnings.specs.Free.{free_in, lined}
use Rattle.ioa_warnings.specs.Shown.{free_of}
use Rattle.ioa_warnings.proofs.free.add_of_entry.Goals as goal

-- what one item more adds; the items are those of a list that is lent, and each is seen through a view
joined_more : {X Y A : Type 0} (f : Y → List A) (v : X → Y) (lent xs : List X) (i : ℕ) (x : X) (start old new : List A) → lent ≡ xs → i < length lent → x ≡ get_or lent i x
    → old ≡ start ++ flat_map f (map v (take i xs)) → new ≡ old ++ f (v x) → new ≡ start ++ flat_map f (map v (take (i + 1) xs))
joined_more f v lent xs i x start old new same less is so_far more = grind (arith, common_steps)

pub loop-transition-preserved : goal.loop-transition-preserved
loop-transition-preserved c =
    joined_more (free_in (automaton_of c.args.automaton.now) (entry_of c.args.entry.now)) lined c.deref-transition-items.result.now c.args.automaton.now.transitions.items
    c.loop-transition.transition-index c.transition-item.result (map free_of c.args.found.now.items) (map free_of c.loop-transition.found.items)
    (map free_of c.add_in.new.found.items) c.deref-transition-items.ensures.value c.loop-transition-test.true c.transition-item.is c.loop-transition.invariant
    (c.in_ok-add_in.ensures (automaton_of c.args.automaton.now))
