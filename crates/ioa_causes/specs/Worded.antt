-- What is told, in words, of a source that is refused: its cause, where it is found anew, or else what the code says in general.
use Rattle.std.specs.Prelude.{◌≡◌, ◌⊎◌, ℕ, List, [], None, codes}
use Rattle.ioa_lex.specs.declared.refusal.Refusal.{Refusal}
use Rattle.ioa_lex.specs.declared.token.Token.{Token}
use Rattle.ioa_lex.specs.Lexing.{placed}
use Rattle.ioa_lex.specs.Stops.{IsStop}
use Rattle.ioa_tree.specs.declared.tree.Declaration.{Declaration}
use Rattle.ioa_tree.specs.View.{tree_of}
use Rattle.ioa_syntax.specs.Stuck.{IsNumbered}
use Rattle.ioa_request.specs.declared.code.Code.{Code}
use Rattle.ioa_causes.specs.Typing.{TellsMistyped}
use Rattle.ioa_causes.specs.Words.{IsUnstuck, TellsStop, TellsStuck, TellsTwice, TellsUnknown, TellsUnmatched, TellsUnproposed}

-- what a code says where no more is said of its cause
abbrev pub wording : Code → List ℕ
wording Code.E2 = codes "no token begins here"
wording Code.E3 = codes "no source goes on so"
wording Code.E4 = codes "this declaration is more than 64 deep"
wording Code.E5 = codes "this name is declared already"
wording Code.E6 = codes "this name is not known here"
wording Code.E7 = codes "this has another type than its place wants"
wording Code.E8 = codes "signature and transitions do not match here"
wording Code.E9 = codes "a parameter of this transition has no proposal"
wording Code.E10 = codes "there are too many of these"
wording Code.E11 = codes "this type takes more than 4096 words"
wording Code.E12 = codes "the arguments of this component are not those of its automaton"
wording Code.E13 = codes "`crash` or `recover` of this component has a name that is taken"
wording Code.E14 = codes "this component and one above it are not compatible"
wording Code.E16 = codes "the start of this component faults"
wording Code.L1 = codes "this line is no JSON"
wording Code.L2 = codes "this line cannot be read"
wording Code.L3 = codes "this action is another worker's"
wording Code.N2 = codes "this action is no input of the composition"
wording Code.N4 = codes "this line is not of the composition's run"
wording Code.Words = codes "this line is no list of words"
wording Code.E1 = []
wording Code.E15 = []
wording Code.E17 = []
wording Code.O1 = []
wording Code.O2 = []
wording Code.O3 = []
wording Code.O4 = []
wording Code.O5 = []
wording Code.O6 = []
wording Code.O7 = []
wording Code.L4 = []
wording Code.L5 = []
wording Code.L6 = []
wording Code.L7 = []
wording Code.L8 = []
wording Code.N1 = []
wording Code.N3 = []
wording Code.N5 = []
wording Code.Object = []
wording Code.Memory = []
wording Code.Io = []

-- of the tokens of the text, and the declarations that they spell, whose lines are indices of tokens
abbrev pub OfNumbered : (List Token → List Declaration → Type 0) → List ℕ → Type 0
OfNumbered tells text = (ts : List Token) × (ds : List Declaration) × IsNumbered text (placed ts) (tree_of ds) × tells ts ds

-- the place where no token stands, or at which no source goes on; where there is none by now, the general words
abbrev pub IsStopTold : List ℕ → List ℕ → Type 0
IsStopTold text words = TellsStop text words ⊎ (IsStop text None × (words ≡ wording Code.E2))

abbrev pub IsStuckTold : List ℕ → List ℕ → Type 0
IsStuckTold text words = TellsStuck text words ⊎ (IsUnstuck text × (words ≡ wording Code.E3))

-- the name, the types, the entry or the parameter; or the general words
abbrev pub IsBrokenTold : (List Token → List Declaration → Type 0) → Code → List ℕ → List ℕ → Type 0
IsBrokenTold tells code text words = OfNumbered tells text ⊎ (words ≡ wording code)

abbrev pub TellsRefusal : Refusal → List ℕ → List ℕ → Type 0
TellsRefusal (Refusal.BadByte line) text words = IsStopTold text words
TellsRefusal (Refusal.Syntax line) text words = IsStuckTold text words
TellsRefusal (Refusal.DuplicateName line) text words = IsBrokenTold (λ ts ds. TellsTwice ts words) Code.E5 text words
TellsRefusal (Refusal.UnknownName line) text words = IsBrokenTold (λ ts ds. TellsUnknown ts words) Code.E6 text words
TellsRefusal (Refusal.TypeMismatch line) text words = IsBrokenTold (λ ts ds. TellsMistyped ts ds words) Code.E7 text words
TellsRefusal (Refusal.BadSignature line) text words = IsBrokenTold (λ ts ds. (index : ℕ) × TellsUnmatched index ds words) Code.E8 text words
TellsRefusal (Refusal.NoProposal line) text words = IsBrokenTold (λ ts ds. (index : ℕ) × TellsUnproposed index ds words) Code.E9 text words
TellsRefusal (Refusal.TooDeep line) text words = words ≡ wording Code.E4
TellsRefusal (Refusal.TooMany line) text words = words ≡ wording Code.E10
TellsRefusal (Refusal.TooWide line) text words = words ≡ wording Code.E11
TellsRefusal Refusal.TextTooLong text words = words ≡ wording Code.E1
TellsRefusal (Refusal.ArgMismatch i) text words = words ≡ wording Code.E12
TellsRefusal (Refusal.CrashName i) text words = words ≡ wording Code.E13
TellsRefusal (Refusal.Clash i j name) text words = words ≡ wording Code.E14
TellsRefusal (Refusal.HiddenUnknown name) text words = words ≡ wording Code.E15
TellsRefusal (Refusal.StartFault i fault) text words = words ≡ wording Code.E16
TellsRefusal Refusal.NoComposition text words = words ≡ wording Code.E17
TellsRefusal Refusal.OutOfMemory text words = words ≡ wording Code.Memory
