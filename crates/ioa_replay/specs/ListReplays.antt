-- What a replay of a list answers and writes.
use Rattle.std.specs.Prelude.{◌≡◌, ℕ, List, take, Option}
use Rattle.std.specs.Io.KnownBytes.{Appends}
use Rattle.std.specs.String.{string_bytes}
use Rattle.ioa_value.specs.Actions.{Act}
use Rattle.ioa_value.specs.Lists.{ReadsList}
use Rattle.ioa_tree.specs.Likes.{AllRelated}
use Rattle.ioa_tree.specs.Runs.{Ending, run}
use Rattle.ioa_compile.specs.Programs.{Prog}
use Rattle.ioa_compile.specs.Subjects.{InSlots, Subject, its_components, its_starts, its_types}
use Rattle.ioa_system.specs.Outcomes.{ending_of}
use Rattle.ioa_system.specs.Systems.{slot_types, types_of, values_of}
use Rattle.ioa_log.specs.declared.reading.Replayed.{Replayed}
use Rattle.ioa_log.specs.Replays.{its_text}

-- the bytes are a list text, the end is its run's, and the run's text is written
abbrev pub Replays : Subject → List ℕ → Ending → Option (List ℕ) → Option (List ℕ) → Type 0
Replays s bytes end before after =
    (acts : List Act) × ReadsList (its_types s) bytes acts × (end ≡ (run (its_components s) acts (its_starts s)).ending) × Appends before after (its_text s acts)

-- the bytes are a list text, and a beginning of its run's text is written
abbrev pub BeginsReplay : Subject → List ℕ → Option (List ℕ) → Option (List ℕ) → Type 0
BeginsReplay s bytes before after = (acts : List Act) × ReadsList (its_types s) bytes acts × ((k : ℕ) × Appends before after (take k (its_text s acts)))

-- the bytes are a list text, and these are the end and the text of the subject's run over the list, and slots that hold the states that it reaches
pub record IsListReplayed (p : Prog) (s : Subject) (seen : List ℕ) (r : Replayed) : Type 0 where
  pub acts : List Act
  pub reads : ReadsList (its_types s) seen acts
  pub ending : ending_of r.end ≡ (run (its_components s) acts (its_starts s)).ending
  pub text : string_bytes r.text ≡ its_text s acts
  pub states : AllRelated (InSlots p s) 0 (run (its_components s) acts (its_starts s)).states (values_of r.states.items)
  pub types : types_of r.states.items ≡ slot_types p.members
