-- A list text that is read and performed line by line.
use Rattle.std.specs.Prelude.{◌≡◌, ℕ, List, [], ◌∷◌, ◌++◌}
use Rattle.std.specs.String.{string_bytes}
use Rattle.ioa_value.specs.Actions.{Act}
use Rattle.ioa_value.specs.Lists.{ReadsLines, ReadsList}
use Rattle.ioa_tree.specs.Runs.{run}
use Rattle.ioa_compile.specs.Programs.{Prog}
use Rattle.ioa_compile.specs.Tables.{start_states, tabled}
use Rattle.ioa_system.specs.Outcomes.{ending_of}
use Rattle.ioa_system.specs.Progress.{Progress, IsRunOver}
use Rattle.ioa_system.specs.Systems.{slot_types, types_of, values_of}
use Rattle.ioa_log.specs.declared.reading.Reading.{Reading}
use Rattle.ioa_log.specs.declared.reading.Replayed.{Replayed}
use Rattle.ioa_log.specs.Replays.{lines_of, run_text}

-- these actions are performed, and this is their trace's text
pub record HasPerformed (p : Prog) (acts : List Act) (r : Progress) (text : List ℕ) : Type 0 where
  pub traced : List Act
  pub run : IsRunOver p acts traced r
  pub lines : text ≡ lines_of p.types traced

-- these lines are read, and their actions are performed
pub record HasRead (p : Prog) (ls : List (List ℕ)) (r : Reading) : Type 0 where
  pub acts : List Act
  pub types : r.types.now ≡ p.types
  pub reads : ReadsLines p.types ls acts
  pub performed : HasPerformed p acts r.runner r.trace

-- the lines with one more are read, and their actions are performed
abbrev pub ReadsOneMore : Prog → List (List ℕ) → List ℕ → Reading → Type 0
ReadsOneMore p ls l r = (acts : List Act) × ReadsLines p.types (ls ++ l ∷ []) acts × HasPerformed p acts r.runner r.trace

-- the bytes are a list text, and these are its run's end and text, and the states that the run reaches, of the types of the program's slots
pub record IsReplayed (p : Prog) (seen : List ℕ) (r : Replayed) : Type 0 where
  pub acts : List Act
  pub reads : ReadsList p.types seen acts
  pub ending : ending_of r.end ≡ (run (tabled p) acts (start_states p)).ending
  pub text : string_bytes r.text ≡ run_text p.types p.hidden (tabled p) (start_states p) acts
  pub states : values_of r.states.items ≡ (run (tabled p) acts (start_states p)).states
  pub types : types_of r.states.items ≡ slot_types p.members
