-- What replays of lists, replays of logs and monitors are in a composition of a source or in an object, from the bytes that are read to the
-- bytes that are written.
use Rattle.std.specs.Prelude.{◌≡◌, ◌==◌, ℕ, Bool, false, List, [], ◌∷◌, Option, Some, IfSome}
use Rattle.ioa_value.specs.Actions.{Name}
use Rattle.ioa_lex.specs.Tokens.{Tok}
use Rattle.ioa_lex.specs.Lexing.{Lexes}
use Rattle.ioa_tree.specs.Tree.{SourceTree, CompositionTree}
use Rattle.ioa_syntax.specs.Source.{plain}
use Rattle.ioa_grammar.specs.Grammar.{SpellsSource}
use Rattle.ioa_tree.specs.WellFormed.{WellFormed}
use Rattle.ioa_tree.specs.Compositions.{picked}
use Rattle.ioa_tree.specs.Hosts.{Hosted, IsHosted}
use Rattle.ioa_tree.specs.Runs.{Ending}
use Rattle.ioa_compile.specs.Programs.{Prog}
use Rattle.ioa_compile.specs.Subjects.{Subject, of_composition, of_hosts, of_table}
use Rattle.ioa_object.specs.Objects.{IsObject}
use Rattle.ioa_replay.specs.ListReplays.{Replays}
use Rattle.ioa_request.specs.declared.shown.Shown.{Shown}
use Rattle.ioa_serving.specs.Logs.{ReplaysLog, FindsInLog, Found, Monitors}
use Rattle.ioa_serving.specs.States.{ReplaysLogStates, ReplaysStates}

-- the text's tokens spell the tree
abbrev pub Spells : List ℕ → SourceTree → Type 0
Spells text s = (ts : List (Tok × ℕ)) × Lexes text ts × SpellsSource s (plain ts)

-- The text spells a tree; the tree is well formed; the composition of this name, the last one where none is given, is of these hosts:
-- components that crash and recover, where the source says so.
pub record Declares (text : List ℕ) (name : Option Name) (hosts : Hosted) : Type 0 where
  pub source : SourceTree
  pub tree : CompositionTree
  pub spells : Spells text source
  pub well_formed : WellFormed source
  pub picks : picked source name ≡ Some tree
  pub is_hosted : IsHosted source tree hosts

-- The bytes are the object of the program, whose composition has this name, where one is given.
pub record IsObjectOf (bytes : List ℕ) (name : Option Name) (p : Prog) : Type 0 where
  pub object : IsObject bytes p
  pub named : IfSome name (λ x. x ≡ p.name)

-- a file is an object where this is its first byte, else a source
abbrev pub begins_object : List ℕ → Bool
begins_object [] = false
begins_object (b ∷ bytes) = b == 127

-- what a file gives: the hosts that it declares as a source, or the program that it is an object of
abbrev pub IsFileOf : List ℕ → Option Name → Subject → Type 0
IsFileOf text name (of_hosts h) = (begins_object text ≡ false) × Declares text name h
IsFileOf text name (of_composition c) = ⊥
IsFileOf text name (of_table p) = IsObjectOf text name p

-- The bytes are a list of actions, and what is written are the external ones among those that the hosts or the program perform, up to
-- the first that they cannot, and then the end: why it is the first, and its index.
abbrev pub IsReplay : List ℕ → Option Name → List ℕ → Ending → Option (List ℕ) → Option (List ℕ) → Type 0
IsReplay text name bytes ending before after =
    (s : Subject) × IsFileOf text name s × Replays s bytes ending before after

-- The bytes are a log of the run that they do, and what is written is the same as for the list of its actions.
abbrev pub IsLogReplay : List ℕ → Option Name → List ℕ → Ending → Option (List ℕ) → Option (List ℕ) → Type 0
IsLogReplay text name bytes ending before after = (s : Subject) × IsFileOf text name s × ReplaysLog s bytes ending before after

-- The bytes are a log of the run that the hosts do, and what is written is the first of the source's invariants that a host
-- breaks: of the least state of the run, then host, then invariant. Where none is broken, it is the same as where none is asked for.
abbrev pub IsInvariantReplay : List ℕ → Option Name → List ℕ → Found → Option (List ℕ) → Option (List ℕ) → Type 0
IsInvariantReplay text name bytes found before after = (h : Hosted) × IsFileOf text name (of_hosts h) × FindsInLog h bytes found before after

-- The bytes are a list, or a log of the run that they do, and what is written is the same as where nothing is asked of states, and then, of the state
-- in which the hosts' run ends, each of their variables with its value, by the source's names, or what is enabled, or both.
abbrev pub IsStatesReplay : List ℕ → Option Name → Shown → List ℕ → Ending → Option (List ℕ) → Option (List ℕ) → Type 0
IsStatesReplay text name shown bytes ending before after = (h : Hosted) × IsFileOf text name (of_hosts h) × ReplaysStates h shown bytes ending before after

abbrev pub IsLogStatesReplay : List ℕ → Option Name → Shown → List ℕ → Ending → Option (List ℕ) → Option (List ℕ) → Type 0
IsLogStatesReplay text name shown bytes ending before after = (h : Hosted) × IsFileOf text name (of_hosts h) × ReplaysLogStates h shown bytes ending before after

-- The bytes are a log, of this or of another run, and what is written is whether the hosts or the program accept what it tells to be
-- performed: the first action that they have and do not perform, if there is one; as an object, or not.
abbrev pub IsMonitoring : Bool → List ℕ → Option Name → List ℕ → Option Ending → Option (List ℕ) → Option (List ℕ) → Type 0
IsMonitoring json text name bytes answer before after = (s : Subject) × IsFileOf text name s × Monitors json s bytes answer before after
