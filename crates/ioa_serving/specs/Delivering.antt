-- Stenning's protocol, compiled: in every history of its workers, whatever their schedule, the delivered messages are a beginning of the sent ones.
use Rattle.std.specs.Prelude.{◌<◌, ◌^◌, ℕ, List, Option, Some, codes}
use Rattle.ioa_value.specs.Actions.{Name}
use Rattle.ioa_value.specs.Plain.{Val}
use Rattle.ioa_tree.specs.Hosts.{Hosted}
use Rattle.ioa_compile.specs.Programs.{Prog}
use Rattle.ioa_compile.specs.Subjects.{Runs, of_table}
use Rattle.ioa_compile.specs.Tables.{start_states, tabled}
use Rattle.ioa_links.specs.Delivery.{Begins, delivered, sent}
use Rattle.ioa_links.specs.Trees.{stenning_source}
use Rattle.ioa_board.specs.Boards.{IsSound, Standing}
use Rattle.ioa_board.specs.Histories.{acts_of}
use Rattle.ioa_serving.specs.Compiling.{IsCompiled}
use Rattle.ioa_serving.specs.Headline.{Declares, IsFileOf, Spells}

-- the name of its composition
abbrev pub protocol_name : Name
protocol_name = codes "Stenning"

-- what is delivered in the history begins what is sent in it
abbrev pub DeliversInOrder : Standing (List Val) → Type 0
DeliversInOrder b = Begins (delivered (acts_of b.history)) (sent (acts_of b.history))

-- A text spells the protocol's source with at most n crashes, and a program runs the hosts of its composition. So it is in every history that
-- is legal for the program: of one run, or of any number of runs of which each goes on from the log of the one before.
abbrev pub HistoriesDeliver : Type 0
HistoriesDeliver =
    (n : ℕ) (text : List ℕ) (h : Hosted) (p : Prog) (b : Standing (List Val)) → n < 2 ^ 63 → Spells text (stenning_source n) → Declares text (Some protocol_name) h
    → Runs p h → IsSound (tabled p) (start_states p) b → DeliversInOrder b

-- The same of the program of an object that is compiled of such a text, which may be read where the source is not.
abbrev pub ObjectsDeliver : Type 0
ObjectsDeliver =
    (n : ℕ) (text object : List ℕ) (of : Option Name) (p : Prog) (b : Standing (List Val)) → n < 2 ^ 63 → Spells text (stenning_source n)
    → IsCompiled text (Some protocol_name) object → IsFileOf object of (of_table p) → IsSound (tabled p) (start_states p) b → DeliversInOrder b
