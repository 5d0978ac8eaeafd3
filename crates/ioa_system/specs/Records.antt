-- Runs without the memory that holds them.
use Rattle.std.specs.Prelude.{◌≡◌, List, map}
use Rattle.ioa_value.specs.Actions.{Act, act_of}
use Rattle.ioa_value.specs.Plain.{Val}
use Rattle.ioa_tree.specs.Runs.{Reached, run, trace}
use Rattle.ioa_tree.specs.Likes.{RunsLike}
use Rattle.ioa_compile.specs.Programs.{Prog}
use Rattle.ioa_compile.specs.Subjects.{InSlots, Subject, its_components, its_hidden, its_starts}
use Rattle.ioa_compile.specs.Tables.{tabled, start_states}
use Rattle.ioa_system.specs.declared.runs.Run.{Run}
use Rattle.ioa_system.specs.Outcomes.{ending_of}
use Rattle.ioa_system.specs.Systems.{slot_types, types_of, values_of}

abbrev pub reached_of : Run → Reached (List Val)
reached_of r = record { performed = r.performed; states = values_of r.states.items; ending = ending_of r.end }

abbrev pub trace_of : Run → List Act
trace_of r = map act_of r.trace.items

-- the run of the program's own table, its trace, and states of the types of its slots
pub record IsTableRun (p : Prog) (acts : List Act) (r : Run) : Type 0 where
  pub reached : reached_of r ≡ run (tabled p) acts (start_states p)
  pub trace : trace_of r ≡ trace p.hidden (tabled p) acts r.performed
  pub types : types_of r.states.items ≡ slot_types p.members

-- the same actions performed as by the subject, the same end, slots of the program that hold the subject's states, and its trace
pub record IsRunAs (p : Prog) (s : Subject) (acts : List Act) (r : Run) : Type 0 where
  pub reached : RunsLike (InSlots p s) (run (its_components s) acts (its_starts s)) (reached_of r)
  pub trace : trace_of r ≡ trace (its_hidden s) (its_components s) acts r.performed
  pub types : types_of r.states.items ≡ slot_types p.members
