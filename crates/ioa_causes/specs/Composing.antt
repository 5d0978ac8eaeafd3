-- What is told of a composition that is refused: at which component or hidden name, and in which words. The lines of its declarations are indices of tokens.
use Rattle.std.specs.Prelude.{◌≡◌, ◌≢◌, ◌⊎◌, ◌++◌, ◌∷◌, ℕ, if◌then◌else◌, List, [], Option, Some, None, Bool, true, false, codes, find, length, map, slice_get}
use Rattle.std.specs.Fmt.{decimal}
use Rattle.std.specs.Str.{bytes_eq}
use Rattle.std.specs.String.{string_bytes}
use Rattle.ioa_value.specs.Actions as actions
use Rattle.ioa_value.specs.Table.{Table, type_named, type_name}
use Rattle.ioa_lex.specs.declared.refusal.Refusal.{Refusal}
use Rattle.ioa_lex.specs.declared.token.Token.{Token}
use Rattle.ioa_lex.specs.Tokens.{name}
use Rattle.ioa_tree.specs.Compositions.{compositions}
use Rattle.ioa_tree.specs.View.{expr_of, name_of, tree_of}
use Rattle.ioa_tree.specs.Types.{types_of}
use Rattle.ioa_tree.specs.WellFormed.{type_of}
use Rattle.ioa_tree.specs.declared.tree.Assembly.{Assembly}
use Rattle.ioa_tree.specs.declared.tree.Automaton.{Automaton}
use Rattle.ioa_tree.specs.declared.tree.Crash.{Crash}
use Rattle.ioa_tree.specs.declared.tree.Declaration.{Declaration}
use Rattle.ioa_tree.specs.declared.tree.Entry.{Entry}
use Rattle.ioa_tree.specs.declared.tree.Expression.{Expression}
use Rattle.ioa_tree.specs.declared.tree.Field.{Field}
use Rattle.ioa_tree.specs.declared.tree.Instance.{Instance}
use Rattle.ioa_tree.specs.declared.tree.Kind.{Kind}
use Rattle.ioa_tree.specs.declared.tree.Name.{Name}
use Rattle.ioa_causes.specs.Entries.{named}
use Rattle.ioa_causes.specs.Typing.{counted}
use Rattle.ioa_causes.specs.Words.{StandsOn, quoted}

-- ---- where

-- the token of this name stands on this line
abbrev pub IsOn : List Token → Name → ℕ → Type 0
IsOn ts n line = StandsOn ts n.line (name (name_of n)) line

-- the component of this number
abbrev pub component : Assembly → ℕ → Option Instance
component c i = slice_get c.instances.items i

-- the first of the names that is this one
abbrev pub among : actions.Name → List Name → Option Name
among x names = find (λ n. bytes_eq (name_of n) x) names

-- the line on which the component of this number is named, or a name is hidden
abbrev pub IsComponentLine : List Token → Assembly → ℕ → ℕ → Type 0
IsComponentLine ts c i line = (n : Instance) × (component c i ≡ Some n) × IsOn ts n.name line

abbrev pub IsHiddenLine : List Token → Assembly → actions.Name → ℕ → Type 0
IsHiddenLine ts c x line = (n : Name) × (among x c.hidden.items ≡ Some n) × IsOn ts n line

-- the line of the component that is refused, of two that clash the later one, or of the hidden name
abbrev pub IsRefusedOn : List Token → Assembly → Refusal → ℕ → Type 0
IsRefusedOn ts c (Refusal.ArgMismatch i) line = IsComponentLine ts c i line
IsRefusedOn ts c (Refusal.CrashName i) line = IsComponentLine ts c i line
IsRefusedOn ts c (Refusal.Clash i j x) line = IsComponentLine ts c j line
IsRefusedOn ts c (Refusal.HiddenUnknown x) line = IsHiddenLine ts c (string_bytes x) line
IsRefusedOn ts c (Refusal.StartFault i fault) line = IsComponentLine ts c i line
IsRefusedOn ts c Refusal.TextTooLong line = ⊥
IsRefusedOn ts c (Refusal.BadByte at) line = ⊥
IsRefusedOn ts c (Refusal.Syntax at) line = ⊥
IsRefusedOn ts c (Refusal.TooDeep at) line = ⊥
IsRefusedOn ts c (Refusal.DuplicateName at) line = ⊥
IsRefusedOn ts c (Refusal.UnknownName at) line = ⊥
IsRefusedOn ts c (Refusal.TypeMismatch at) line = ⊥
IsRefusedOn ts c (Refusal.BadSignature at) line = ⊥
IsRefusedOn ts c (Refusal.NoProposal at) line = ⊥
IsRefusedOn ts c (Refusal.TooMany at) line = ⊥
IsRefusedOn ts c (Refusal.TooWide at) line = ⊥
IsRefusedOn ts c Refusal.NoComposition line = ⊥
IsRefusedOn ts c Refusal.OutOfMemory line = ⊥

-- ---- in which words

-- the component of this number, and the automaton that is declared under the name of its own
abbrev pub IsAutomatonOf : List Declaration → Instance → Automaton → Type 0
IsAutomatonOf ds n a = (k : ℕ) × (slice_get ds k ≡ Some (Declaration.Automaton a)) × (bytes_eq (name_of a.name) (name_of n.automaton) ≡ true)

abbrev pub IsComponent : List Declaration → Assembly → ℕ → Instance → Automaton → Type 0
IsComponent ds c i n a = (component c i ≡ Some n) × IsAutomatonOf ds n a

-- its arguments: how many there are, or the type of one that is not its formal's
abbrev pub count_words : actions.Name → List ℕ → ℕ → ℕ → List ℕ
count_words a formals wanted given =
    a ++ (formals ++ (codes " wants " ++ (decimal wanted ++ (codes " " ++ (counted wanted (codes "argument") (codes "arguments")
    ++ (codes ", and " ++ (decimal given ++ (codes " " ++ (counted given (codes "is") (codes "are") ++ codes " given")))))))))

abbrev pub type_words : actions.Name → List ℕ → actions.Name → actions.Name → actions.Name → List ℕ
type_words a formals ty formal own =
    a ++ (formals ++ (codes " wants type " ++ (ty ++ (codes " for `" ++ (formal ++ (codes "`, and what is given is of type " ++ own))))))

abbrev pub IsOther : Table → Instance → Automaton → Field → ℕ → Type 0
IsOther types n a f own =
    (i : ℕ) × (e : Expression) × (slice_get a.formals.items i ≡ Some f) × (slice_get n.arguments.items i ≡ Some e)
    × (type_of types types [] (expr_of e) ≡ Some own) × (type_named types (name_of f.ty) ≡ Some own → ⊥)

abbrev pub TellsCount : Instance → Automaton → List ℕ → Type 0
TellsCount n a words =
    (formals : List ℕ) × (length a.formals.items ≢ length n.arguments.items)
    × (words ≡ count_words (name_of a.name) formals (length a.formals.items) (length n.arguments.items))

abbrev pub TellsType : Table → Instance → Automaton → List ℕ → Type 0
TellsType types n a words =
    (formals : List ℕ) × (f : Field) × (own : ℕ) × IsOther types n a f own
    × (words ≡ type_words (name_of a.name) formals (name_of f.ty) (name_of f.name) (type_name types own))

abbrev pub TellsUnfit : Table → Instance → Automaton → List ℕ → Type 0
TellsUnfit types n a words = TellsCount n a words ⊎ TellsType types n a words

abbrev pub TellsArguments : List Declaration → Assembly → ℕ → List ℕ → Type 0
TellsArguments ds c i words = (n : Instance) × (a : Automaton) × IsComponent ds c i n a × TellsUnfit (types_of (tree_of ds)) n a words

-- its crash and recover: which of both names an entry of its automaton, and where; or that they are one
abbrev pub taken_words : actions.Name → actions.Name → ℕ → List ℕ
taken_words x a line = codes "`" ++ (x ++ (codes "` is the name of an entry of " ++ (a ++ (codes ", on line " ++ decimal line))))

abbrev pub one_words : actions.Name → List ℕ
one_words x = codes "`" ++ (x ++ codes "` is to be both crash and recover, which need two names")

abbrev pub TellsTakenBy : List Token → Automaton → Name → Entry → List ℕ → Type 0
TellsTakenBy ts a n e words = (line : ℕ) × IsOn ts e.name line × (words ≡ taken_words (name_of n) (name_of a.name) line)

abbrev pub TellsTaken : List Token → Automaton → Name → List ℕ → Type 0
TellsTaken ts a n words = (e : Entry) × (named (name_of n) a.entries.items ≡ Some e) × TellsTakenBy ts a n e words

abbrev pub TellsOne : Automaton → Crash → List ℕ → Type 0
TellsOne a k words =
    (named (name_of k.crash) a.entries.items ≡ None) × (named (name_of k.recover) a.entries.items ≡ None) × (words ≡ one_words (name_of k.crash))

abbrev pub TellsNames : List Token → Automaton → Crash → List ℕ → Type 0
TellsNames ts a k words = TellsTaken ts a k.crash words ⊎ (TellsTaken ts a k.recover words ⊎ TellsOne a k words)

abbrev pub TellsCrash : List Token → List Declaration → Assembly → ℕ → List ℕ → Type 0
TellsCrash ts ds c i words =
    (n : Instance) × (a : Automaton) × (k : Crash) × IsComponent ds c i n a × (n.crash ≡ Some k) × TellsNames ts a k words

-- what an action of this name is in a component: its entry says so; or crash, or recover
abbrev pub kind_words : Kind → List ℕ
kind_words Kind.Input = codes "an input"
kind_words Kind.Output = codes "an output"
kind_words Kind.Internal = codes "an internal action"

abbrev pub entry_words : Kind → actions.Name → ℕ → List ℕ
entry_words kind component line = kind_words kind ++ (codes " of " ++ (component ++ (codes " (line " ++ (decimal line ++ codes ")"))))

abbrev pub signal_word : Option Crash → actions.Name → List ℕ
signal_word (Some k) x = if bytes_eq (name_of k.crash) x then codes "crash" else codes "recover"
signal_word None x = codes "recover"

abbrev pub signal_words : List ℕ → actions.Name → List ℕ
signal_words signal component = codes "the " ++ (signal ++ (codes " of " ++ component))

abbrev pub TellsEntryOn : List Token → Instance → Entry → List ℕ → Type 0
TellsEntryOn ts n e words = (line : ℕ) × IsOn ts e.name line × (words ≡ entry_words e.kind (name_of n.name) line)

abbrev pub TellsRole : List Token → Instance → Automaton → actions.Name → List ℕ → Type 0
TellsRole ts n a x words =
    ((e : Entry) × (named x a.entries.items ≡ Some e) × TellsEntryOn ts n e words)
    ⊎ ((named x a.entries.items ≡ None) × (words ≡ signal_words (signal_word n.crash x) (name_of n.name)))

-- of two components that clash what it is in each; of two instances of one automaton what tells them apart
abbrev pub apart_words : actions.Name → List ℕ
apart_words a = codes ": both are of " ++ (a ++ codes ", and a `const` formal among the positions tells their actions apart")

abbrev pub more_words : Instance → Instance → List ℕ
more_words m n = if bytes_eq (name_of m.automaton) (name_of n.automaton) then apart_words (name_of m.automaton) else []

abbrev pub both_words : actions.Name → List ℕ → List ℕ → List ℕ → List ℕ
both_words x first second more = codes "`" ++ (x ++ (codes "` is " ++ (first ++ (codes " and " ++ (second ++ more)))))

abbrev pub TellsClash : List Token → List Declaration → Assembly → ℕ → ℕ → actions.Name → List ℕ → Type 0
TellsClash ts ds c i j x words =
    (m n : Instance) × (a b : Automaton) × (first second : List ℕ) × IsComponent ds c i m a × IsComponent ds c j n b
    × TellsRole ts m a x first × TellsRole ts n b x second × (words ≡ both_words x first second (more_words m n))

-- what a hidden name is in a component, which is no output; or that none has it
abbrev pub no_output_words : actions.Name → List ℕ → List ℕ
no_output_words x what = codes "`" ++ (x ++ (codes "` is " ++ (what ++ codes ", and only outputs are hidden")))

abbrev pub nowhere_words : actions.Name → List ℕ → List ℕ
nowhere_words x more = codes "no component has an output `" ++ (x ++ (codes "`" ++ more))

abbrev pub TellsNoOutput : List Token → Instance → Entry → actions.Name → List ℕ → Type 0
TellsNoOutput ts n e x words = (what : List ℕ) × TellsEntryOn ts n e what × (words ≡ no_output_words x what)

abbrev pub TellsEntryOf : List Token → List Declaration → Assembly → actions.Name → List ℕ → Type 0
TellsEntryOf ts ds c x words =
    (i : ℕ) × (n : Instance) × (a : Automaton) × (e : Entry) × IsComponent ds c i n a × (named x a.entries.items ≡ Some e) × TellsNoOutput ts n e x words

abbrev pub TellsHidden : List Token → List Declaration → Assembly → actions.Name → List ℕ → Type 0
TellsHidden ts ds c x words = TellsEntryOf ts ds c x words ⊎ ((more : List ℕ) × (words ≡ nowhere_words x more))

-- by the refusal
abbrev pub TellsComposed : List Token → List Declaration → Assembly → Refusal → List ℕ → Type 0
TellsComposed ts ds c (Refusal.ArgMismatch i) words = TellsArguments ds c i words
TellsComposed ts ds c (Refusal.CrashName i) words = TellsCrash ts ds c i words
TellsComposed ts ds c (Refusal.Clash i j x) words = TellsClash ts ds c i j (string_bytes x) words
TellsComposed ts ds c (Refusal.HiddenUnknown x) words = TellsHidden ts ds c (string_bytes x) words
TellsComposed ts ds c (Refusal.StartFault i fault) words = ⊥
TellsComposed ts ds c Refusal.TextTooLong words = ⊥
TellsComposed ts ds c (Refusal.BadByte at) words = ⊥
TellsComposed ts ds c (Refusal.Syntax at) words = ⊥
TellsComposed ts ds c (Refusal.TooDeep at) words = ⊥
TellsComposed ts ds c (Refusal.DuplicateName at) words = ⊥
TellsComposed ts ds c (Refusal.UnknownName at) words = ⊥
TellsComposed ts ds c (Refusal.TypeMismatch at) words = ⊥
TellsComposed ts ds c (Refusal.BadSignature at) words = ⊥
TellsComposed ts ds c (Refusal.NoProposal at) words = ⊥
TellsComposed ts ds c (Refusal.TooMany at) words = ⊥
TellsComposed ts ds c (Refusal.TooWide at) words = ⊥
TellsComposed ts ds c Refusal.NoComposition words = ⊥
TellsComposed ts ds c Refusal.OutOfMemory words = ⊥

-- ---- that there is none

-- the names of the compositions
abbrev pub declared : List Declaration → List actions.Name
declared ds = map (λ c. c.name) (compositions (tree_of ds))

-- each behind a sign: from the second on behind a comma
abbrev pub sign : Bool → List ℕ
sign true = codes ": there is "
sign false = codes ", "

abbrev pub listed : Bool → List actions.Name → List ℕ
listed first [] = []
listed first (x ∷ xs) = sign first ++ (quoted x ++ listed false xs)

-- no composition of this name, or none at all; and which there are
abbrev pub none_words : Option actions.Name → List ℕ
none_words (Some x) = codes "the source declares no composition `" ++ (x ++ codes "`")
none_words None = codes "the source declares no composition"

abbrev pub missing_words : Option actions.Name → List actions.Name → List ℕ
missing_words asked xs = none_words asked ++ listed true xs
