-- A program does what it runs as does: what hosts do, what a composition does, or what its own table does.
use Rattle.std.specs.Prelude.{◌≡◌, ℕ, List, slice_index}
use Rattle.ioa_value.specs.Actions.{Act}
use Rattle.ioa_value.specs.Plain.{Val}
use Rattle.ioa_tree.specs.Likes.{AllRelated, MovesLike, RunsLike}
use Rattle.ioa_tree.specs.Runs.{is_external, run, trace}
use Rattle.ioa_tree.specs.Steps.{owner, participants, step}
use Rattle.ioa_compile.specs.Programs.{Prog}
use Rattle.ioa_compile.specs.Subjects.{InSlots, RunsAs, State, Subject, its_components, its_hidden, its_starts}
use Rattle.ioa_compile.specs.Tables.{start_states, tabled}
use Rattle.ioa_system.specs.Participants.{step_from}

abbrev pub SameOwner : Type 0
SameOwner = (p : Prog) (s : Subject) (a : Act) → RunsAs p s → owner (tabled p) a ≡ owner (its_components s) a

abbrev pub SameParticipants : Type 0
SameParticipants = (p : Prog) (s : Subject) (a : Act) → RunsAs p s → participants (tabled p) a ≡ participants (its_components s) a

abbrev pub SameExternal : Type 0
SameExternal = (p : Prog) (s : Subject) (a : Act) → RunsAs p s → is_external p.hidden (tabled p) a ≡ is_external (its_hidden s) (its_components s) a

-- ---- runs

-- the subject's run performs as many actions, ends in the same way, and reaches states that the program's slots hold
abbrev pub SameRun : Type 0
SameRun =
    (p : Prog) (s : Subject) (acts : List Act) → RunsAs p s
    → RunsLike (InSlots p s) (run (its_components s) acts (its_starts s)) (run (tabled p) acts (start_states p))

-- of as many actions the trace is the same
abbrev pub SameTrace : Type 0
SameTrace = (p : Prog) (s : Subject) (acts : List Act) (n : ℕ) → RunsAs p s → trace p.hidden (tabled p) acts n ≡ trace (its_hidden s) (its_components s) acts n

-- ---- steps

-- the program starts in slots that hold the states in which the subject starts
abbrev pub SameStart : Type 0
SameStart = (p : Prog) (s : Subject) → RunsAs p s → AllRelated (InSlots p s) 0 (its_starts s) (start_states p)

-- from slots that hold the subject's states, the subject's answer, with slots that hold its new states
abbrev pub SameStep : Type 0
SameStep =
    (p : Prog) (s : Subject) (a : Act) (ss : List (State s)) (slots : List (List Val)) → RunsAs p s
    → AllRelated (InSlots p s) 0 ss slots → MovesLike (InSlots p s) 0 (step (its_components s) a ss) (step (tabled p) a slots)

-- by the place of the component's number among these
abbrev pub InSlotsOf : Prog → (s : Subject) → List ℕ → ℕ → State s → List Val → Type 0
InSlotsOf p s numbers i state slots = InSlots p s (slice_index numbers i) state slots

-- the same of the participants alone, from one state for each in order
abbrev pub SameStepFrom : Type 0
SameStepFrom =
    (p : Prog) (s : Subject) (a : Act) (ss : List (State s)) (slots : List (List Val)) → RunsAs p s
    → AllRelated (InSlotsOf p s (participants (its_components s) a)) 0 ss slots
    → MovesLike (InSlotsOf p s (participants (its_components s) a)) 0 (step_from (its_components s) a ss) (step_from (tabled p) a slots)
