-- What is told of a composition of a source that is refused: the line of the component, or of the hidden name, at which it is, and how.
use Rattle.std.specs.Prelude.{◌≡◌, ◌⊎◌, ◌++◌, ℕ, List, [], Option, None, Some, codes}
use Rattle.std.specs.List.{Contains}
use Rattle.std.specs.Option.{option_and_then}
use Rattle.ioa_value.specs.Actions.{Name}
use Rattle.ioa_lex.specs.declared.refusal.Refusal.{Refusal}
use Rattle.ioa_lex.specs.declared.token.Token.{Token}
use Rattle.ioa_lex.specs.Lexing.{placed}
use Rattle.ioa_tree.specs.declared.tree.Assembly.{Assembly}
use Rattle.ioa_tree.specs.declared.tree.Declaration.{Declaration}
use Rattle.ioa_tree.specs.Compositions.{picked}
use Rattle.ioa_tree.specs.View.{assembly_of, tree_of}
use Rattle.ioa_syntax.specs.Stuck.{IsNumbered}
use Rattle.ioa_compose.specs.Refusals.{IsRefused}
use Rattle.ioa_compile.specs.Programs.{Prog}
use Rattle.ioa_causes.specs.Composing.{IsRefusedOn, TellsComposed, declared, missing_words}
use Rattle.ioa_causes.specs.Worded.{wording}
use Rattle.ioa_request.specs.declared.request.Request.{Request}
use Rattle.ioa_request.specs.Pasted.{texts}
use Rattle.ioa_serving.specs.declared.failure.Failure.{Failure}
use Rattle.ioa_serving.specs.FailureCodes.{failure_code, refusal_code}
use Rattle.ioa_serving.specs.Headline.{IsObjectOf, Spells}
use Rattle.ioac.specs.Remarks.{IsChecking, source_of}

-- the composition that a request names
abbrev pub composition_of : Request → Option Name
composition_of request = option_and_then (λ p. p.1) (source_of request)

-- the specifications that a watch names, or runs by many seeds
abbrev pub specifications_of : Request → List Name
specifications_of (Request.Watch file compositions first counts json) = texts compositions.now
specifications_of (Request.Replay file composition json) = []
specifications_of (Request.ReplayStates file composition shown) = []
specifications_of (Request.ReplayLog file composition json) = []
specifications_of (Request.ReplayLogStates file composition shown) = []
specifications_of (Request.ReplayInvariants file composition json) = []
specifications_of (Request.ReplayCoverage file composition log json) = []
specifications_of (Request.Log file composition) = []
specifications_of (Request.LogByLog file composition) = []
specifications_of (Request.Monitor file composition) = []
specifications_of (Request.MonitorJson file composition) = []
specifications_of (Request.StrictMonitor file composition json) = []
specifications_of (Request.Chart file composition selection) = []
specifications_of (Request.Graph file composition) = []
specifications_of (Request.Run settings) = []
specifications_of (Request.Seeds seeds) = texts seeds.monitors.now
specifications_of (Request.Check file compositions) = []
specifications_of (Request.Compile file out composition) = []
specifications_of (Request.Dump file) = []
specifications_of (Request.Explain topic) = []
specifications_of Request.Library = []

-- the composition that it names, or the last; or one of those
abbrev pub IsOf : Request → Option Name → Type 0
IsOf request name = (name ≡ composition_of request) ⊎ ((x : Name) × Contains (specifications_of request) x × (name ≡ Some x))

-- a check asks of each composition
abbrev pub Asks : Request → Option Name → Type 0
Asks request name = IsChecking request ⊎ IsOf request name

-- how it is refused, or what the code says in general
abbrev pub TellsHow : List Token → List Declaration → Assembly → Refusal → Failure → List ℕ → Type 0
TellsHow ts ds c r e words = TellsComposed ts ds c r words ⊎ (words ≡ wording (failure_code e))

-- the line of what a refusal tells of, and how; the refusal is of the failure's code
abbrev pub TellsOn : List Token → List Declaration → Assembly → Refusal → Failure → ℕ → List ℕ → Type 0
TellsOn ts ds c r e line words = IsRefusedOn ts c r line × TellsHow ts ds c r e words

abbrev pub TellsRefused : List Token → List Declaration → Assembly → Refusal → Failure → ℕ → List ℕ → Type 0
TellsRefused ts ds c r e line words = (refusal_code r ≡ failure_code e) × TellsOn ts ds c r e line words

-- the composition that is picked by the name is refused so
abbrev pub IsRefusedAs : List Token → List Declaration → Option Name → Failure → ℕ → List ℕ → Type 0
IsRefusedAs ts ds name e line words =
    (c : Assembly) × (r : Refusal) × (picked (tree_of ds) name ≡ Some (assembly_of c)) × IsRefused (tree_of ds) (assembly_of c) r × TellsRefused ts ds c r e line words

-- the request asks of it
abbrev pub IsRefusedFor : Request → List Token → List Declaration → Failure → ℕ → List ℕ → Type 0
IsRefusedFor request ts ds e line words = (name : Option Name) × Asks request name × IsRefusedAs ts ds name e line words

-- these are the tokens of the text, and the declarations that they spell, whose lines are indices of tokens
abbrev pub IsRefusedAt : Request → List ℕ → Failure → ℕ → List ℕ → Type 0
IsRefusedAt request text e line words =
    (ts : List Token) × (ds : List Declaration) × IsNumbered text (placed ts) (tree_of ds) × IsRefusedFor request ts ds e line words

-- ---- that there is none

-- a source has none of the name, or none at all; and which it has
abbrev pub IsMissingIn : Request → List ℕ → List ℕ → Type 0
IsMissingIn request text words = (ds : List Declaration) × (name : Option Name) × Spells text (tree_of ds) × IsOf request name × (words ≡ missing_words name (declared ds))

-- an object is of another
abbrev pub own_words : Name → List ℕ
own_words x = codes "the object is of the composition `" ++ (x ++ codes "`")

abbrev pub IsOtherIn : List ℕ → List ℕ → Type 0
IsOtherIn object words = (p : Prog) × IsObjectOf object None p × (words ≡ own_words p.name)

abbrev pub IsMissingFrom : Request → List ℕ → List ℕ → Type 0
IsMissingFrom request bytes words = IsMissingIn request bytes words ⊎ IsOtherIn bytes words
