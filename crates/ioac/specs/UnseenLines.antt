-- Which line is told of what a composition does unseen: that of the token which names it. The lines of declarations are indices of tokens.
use Rattle.std.specs.Prelude.{◌≡◌, ℕ, true, false, List, Option, Some, None, find}
use Rattle.std.specs.Str.{bytes_eq}
use Rattle.ioa_value.specs.Actions.{Name}
use Rattle.ioa_lex.specs.declared.token.Token.{Token}
use Rattle.ioa_lex.specs.Lexing.{placed}
use Rattle.ioa_tree.specs.declared.tree.Assembly.{Assembly}
use Rattle.ioa_tree.specs.declared.tree.Automaton.{Automaton}
use Rattle.ioa_tree.specs.declared.tree.Declaration.{Declaration}
use Rattle.ioa_tree.specs.declared.tree.Entry.{Entry}
use Rattle.ioa_tree.specs.declared.tree.Instance.{Instance}
use Rattle.ioa_tree.specs.Compositions.{picked}
use Rattle.ioa_tree.specs.View.{assembly_of, name_of, tree_of}
use Rattle.ioa_syntax.specs.Stuck.{IsNumbered}
use Rattle.ioa_causes.specs.Composing.{IsAutomatonOf, IsHiddenLine, IsOn}
use Rattle.ioa_causes.specs.Entries.{named}
use Rattle.ioa_compile.specs.Programs.{Prog}
use Rattle.ioa_request.specs.declared.code.Code.{Code}
use Rattle.ioa_request.specs.declared.request.Request.{Request}
use Rattle.ioa_serving.specs.Headline.{begins_object}
use Rattle.ioa_serving.specs.Pictures.{IsProgramOf}
use Rattle.ioac.specs.declared.remarks.unseen.Unseen.{Unseen}
use Rattle.ioac.specs.Composed.{IsOf}
use Rattle.ioac.specs.Remarks.{flat_text, jump_text}
use Rattle.ioac.specs.Unseen.{IsUnseen, is_internal, unseen_text}

-- ---- in the declarations

-- the component of this name
abbrev pub instance_named : Name → List Instance → Option Instance
instance_named x ns = find (λ (n : Instance). bytes_eq (name_of n.name) x) ns

-- the internal entry of this name in the signature of an automaton, and of the one that is declared for the component of this name
abbrev pub IsInternalOf : Automaton → Name → Entry → Type 0
IsInternalOf a x e = (named x a.entries.items ≡ Some e) × (is_internal e.kind ≡ true)

abbrev pub IsEntryOf : List Declaration → Instance → Name → Entry → Type 0
IsEntryOf ds n x e = (a : Automaton) × IsAutomatonOf ds n a × IsInternalOf a x e

abbrev pub IsEntryIn : List Declaration → Assembly → Name → Name → Entry → Type 0
IsEntryIn ds c x component e = (n : Instance) × (instance_named component c.instances.items ≡ Some n) × IsEntryOf ds n x e

-- the line on which the token of its name stands
abbrev pub IsEntryLine : List Token → List Declaration → Assembly → Name → Name → ℕ → Type 0
IsEntryLine ts ds c x component line = (e : Entry) × IsEntryIn ds c x component e × IsOn ts e.name line

-- of an internal entry its name in that signature, of a hidden name that name where the composition hides it
abbrev pub IsUnseenOn : List Token → List Declaration → Assembly → Unseen → ℕ → Type 0
IsUnseenOn ts ds c (Unseen.Internal action component) line = IsEntryLine ts ds c action.now component.now line
IsUnseenOn ts ds c (Unseen.Hidden name) line = IsHiddenLine ts c name.now line

-- of the composition that is picked by the name
abbrev pub IsPickedOn : List Token → List Declaration → Option Name → Unseen → ℕ → Type 0
IsPickedOn ts ds name unseen line = (c : Assembly) × (picked (tree_of ds) name ≡ Some (assembly_of c)) × IsUnseenOn ts ds c unseen line

-- ---- in a file

-- these are the tokens of the text, and the declarations that they spell
abbrev pub IsLineIn : List ℕ → Option Name → Unseen → ℕ → Type 0
IsLineIn text name unseen line = (ts : List Token) × (ds : List Declaration) × IsNumbered text (placed ts) (tree_of ds) × IsPickedOn ts ds name unseen line

-- a source has such a line, an object none
abbrev pub IsDeclaredOn : List ℕ → Option Name → Unseen → Option ℕ → Type 0
IsDeclaredOn bytes name unseen (Some line) = (begins_object bytes ≡ false) × IsLineIn bytes name unseen line
IsDeclaredOn bytes name unseen None = begins_object bytes ≡ true

-- in these words
abbrev pub TellsUnseenOn : List ℕ → Option Name → Unseen → Option ℕ → List ℕ → Type 0
TellsUnseenOn bytes name unseen line words = IsDeclaredOn bytes name unseen line × (words ≡ unseen_text unseen)

-- of what this program does unseen
abbrev pub TellsUnseenOf : Prog → List ℕ → Option Name → Option ℕ → List ℕ → Type 0
TellsUnseenOf p bytes name line words = (unseen : Unseen) × IsUnseen p unseen × TellsUnseenOn bytes name unseen line words

-- the composition that the request asks of is, in this file, the program's
abbrev pub IsUnseenAt : Request → List ℕ → Option ℕ → List ℕ → Type 0
IsUnseenAt request bytes line words = (name : Option Name) × (p : Prog) × IsOf request name × IsProgramOf bytes name p × TellsUnseenOf p bytes name line words

-- the line by which an editor jumps; where there is none, the file alone
abbrev pub line_text : Name → Option ℕ → Code → List ℕ → List ℕ → List ℕ
line_text file (Some n) code words bytes = jump_text file n code words bytes
line_text file None code words bytes = flat_text file code words
