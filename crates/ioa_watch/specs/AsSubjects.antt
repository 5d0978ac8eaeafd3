-- What a program refuses of a stream and counts of it, beside what the components do that it stands for.
use Rattle.std.specs.Prelude.{◌≡◌, List}
use Rattle.ioa_value.specs.Actions.{Act}
use Rattle.ioa_compile.specs.Programs.{Prog}
use Rattle.ioa_compile.specs.Subjects.{State, Subject, its_components, its_starts}
use Rattle.ioa_watch.specs.Names.{names_of}
use Rattle.ioa_watch.specs.Watched.{Watching, hearing_all, starting}
use Rattle.ioa_watch.specs.Watchers.{heard_by}

-- what is kept of the subject's components, by the program's names
abbrev pub heard_in : (s : Subject) → Prog → List Act → Watching (State s)
heard_in s p acts = hearing_all (names_of p.members) (its_components s) acts (starting (names_of p.members) (its_starts s))

-- the program refuses and counts the same
pub record HearsAsProgram (s : Subject) (p : Prog) (acts : List Act) : Type 0 where
  pub heard : (heard_in s p acts).heard ≡ (heard_by p acts).heard
  pub counts : (heard_in s p acts).counts ≡ (heard_by p acts).counts
  pub others : (heard_in s p acts).others ≡ (heard_by p acts).others
  pub refusal : (heard_in s p acts).refusal ≡ (heard_by p acts).refusal
