use Rattle.std.proofs.Common.{◌≡◌, ◌++◌, map, drop, length}
use Rattle.ioa_value.specs.Plain.{plain}
use Rattle.ioa_tree.specs.View.{variable_of}
use Rattle.ioa_crash.specs.Rewriting.{volatile_values}
use Rattle.ioa_compose.proofs.starts.with_resets.Given as goal

abbrev pub invariant-loop-i : goal.invariant-loop-i
invariant-loop-i l = record {
  long : length l.starts ≡ length l.variables;
  values : map plain l.arguments.items ++ volatile_values (map variable_of (drop l.i l.variables)) (map plain (drop l.i l.starts))
      ≡ map plain l.initial.arguments.items ++ volatile_values (map variable_of l.variables) (map plain l.starts);
}
