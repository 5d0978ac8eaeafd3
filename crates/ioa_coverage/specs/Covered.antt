-- Where a program comes from, and what is told of runs of whatever it runs as.
use Rattle.std.specs.Prelude.{List, [], ℕ, Option, Some, None, map}
use Rattle.ioa_value.specs.Actions.{Act}
use Rattle.ioa_tree.specs.Hosts.{IsHosted}
use Rattle.ioa_tree.specs.Tree.{CompositionTree}
use Rattle.ioa_tree.specs.View.{tree_of}
use Rattle.ioa_compose.specs.Held.{composed_of}
use Rattle.ioa_compose.specs.Simulates.{Simulates}
use Rattle.ioa_compile.specs.Subjects.{Subject, of_composition, of_hosts, of_table}
use Rattle.ioa_coverage.specs.declared.origin.Origin.{Origin}
use Rattle.ioa_coverage.specs.Performed.{all_of, counted_table}
use Rattle.ioa_coverage.specs.Taken.{all_taken_text, row_of_entry, told_of}

-- the source declares the hosts, for which its composition stands; an object has none
abbrev pub IsOriginOf : Option Origin → Subject → Type 0
IsOriginOf (Some x) (of_hosts h) = ((t : CompositionTree) × IsHosted (tree_of x.checked) t h) × Simulates h (composed_of x.composition)
IsOriginOf (Some x) (of_composition c) = ⊥
IsOriginOf (Some x) (of_table p) = ⊥
IsOriginOf None (of_hosts h) = ⊥
IsOriginOf None (of_composition c) = ⊥
IsOriginOf None (of_table p) = Unit {0}

-- what is told of the subject's entries, and of the arms and bodies of their effects, where these are known
abbrev pub its_coverage : Subject → List (List Act) → List ℕ
its_coverage (of_hosts h) runs = all_taken_text h runs
its_coverage (of_composition c) runs = []
its_coverage (of_table p) runs = told_of (map row_of_entry (counted_table p (all_of runs)))
