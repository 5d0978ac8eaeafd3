-- The run of a program on one thread is that of the turns of what it runs as.
use Rattle.std.proofs.Common.{◌≡◌, ℕ, List, true, length}
use Rattle.ioa_value.specs.Actions.{Act, Name}
use Rattle.ioa_tree.specs.Proposing.{Words}
use Rattle.ioa_compile.specs.Programs.{Prog}
use Rattle.ioa_compile.specs.Subjects.{RunsAs, Subject, its_names}
use Rattle.ioa_compile.specs.Tables.{IsProgram}
use Rattle.ioa_system.specs.Logs.{Logged}
use Rattle.ioa_board.specs.declared.outcome.Outcome.{Outcome}
use Rattle.ioa_run.specs.Alone.{IsAloneSince, NoMemory}
use Rattle.ioa_run.proofs.Subjects.{same_alone}
use Rattle.ioa_request.specs.declared.settings.Settings.{Settings}
use Rattle.ioa_serving.specs.declared.word_sources.WordSources.{WordSources}
use Rattle.ioa_serving.specs.Alone.{AreSources, AreTurnsSince, IsExact, streams_of}
use Rattle.ioa_serving.proofs.Given.{given}
use Rattle.ioa_serving.proofs.Going.{resumed_as}
use Rattle.ioa_serving.proofs.Hosted.{log_of}

pub turned : (p : Prog) (x : Subject) (before : Logged) (words : List Words) (script : List Act) (turns : ℕ) (o : Outcome) → IsProgram p → RunsAs p x
    → IsAloneSince p before words script turns o → AreTurnsSince x before words script turns (log_of o.log.items o.end) o.reports.items
turned p x before words script turns o program runs (b, resumed, a) =
    let d = resumed_as p x runs before b resumed in
    let k = same_alone p x before d.0 b words script turns o program runs (record { subject = d.1; program = resumed }) a in
    (d.0, d.1, record { entries = k.log.entries; ends = k.log.ends; told = k.reports })

-- by the words that were read
pub exactly : (holds : Name → List ℕ → Type 0) (s : Settings) (p : Prog) (x : Subject) (before : Logged) (script : List Act) (o : Outcome) (sources : WordSources) (m : ℕ) → IsProgram p
    → RunsAs p x → m ≡ length (its_names x) → AreSources holds s.words m sources
    → (s.alone ≡ true → NoMemory o.reports.items → IsAloneSince p before (streams_of sources) script s.turns o)
    → IsExact holds s x before script (log_of o.log.items o.end) o.reports.items
exactly holds s p x before script o sources m program runs many drawn alone =
    λ asked none. (
      streams_of sources,
      given holds s.words m (length (its_names x)) sources many drawn,
      turned p x before (streams_of sources) script s.turns o program runs (alone asked none),
    )
