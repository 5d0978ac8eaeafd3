-- Loops over sequences: which are well formed, why others are not, and what they leave, computed.
use Rattle.std.proofs.Common.{◌≡◌, ℕ, List, [], ◌∷◌, map, filter, Option, Some, None, pos, true, false, refl, codes}
use Rattle.std.specs.Option.{option_map_or}
use Rattle.ioa_arithmetic.specs.declared.arithmetic.Fault.TheVariants.{ZeroDivisor, Full}
use Rattle.ioa_value.specs.Actions.{Name, Act}
use Rattle.ioa_value.specs.Plain.{Val, num, items, none, more}
use Rattle.ioa_value.specs.Table.{Table}
use Rattle.ioa_value.specs.declared.operator.Op.{Op}
use Rattle.ioa_value.specs.declared.operator.Op.TheVariants.{Add, Mul, Div, Sub, Append, Len}
use Rattle.ioa_lex.specs.declared.refusal.Refusal.{Refusal}
use Rattle.ioa_lex.specs.declared.refusal.Refusal.TheVariants.{DuplicateName, UnknownName, TypeMismatch, BadSignature, NoProposal, TooMany, TooWide}
use Rattle.ioa_tree.specs.declared.tree.Infix.TheVariants.{Operator}
use Rattle.ioa_tree.specs.declared.tree.Kind.TheVariants.{Input, Internal}
use Rattle.ioa_tree.specs.Tree.{Expr, number, truth, named, prefix, binary, empty, typed, EntryTree, VariableTree, TransitionTree, Stmt, assign, choose, each, Stmts, stop, seq, no_arm, arm, enumeration, sequence, AutomatonTree, CompositionTree, automaton, composition, SourceTree}
use Rattle.ioa_tree.specs.Meaning.{Env}
use Rattle.ioa_tree.specs.Depth.{stmt_depth}
use Rattle.ioa_tree.specs.Types.{types_of}
use Rattle.ioa_tree.specs.Runs.{Reached, Ending, done, fault_at, run}
use Rattle.ioa_tree.specs.Compositions.{Composed, components_of, starts_of}
use Rattle.ioa_tree.specs.WellFormed.{well_formed, stmt_nodes}
use Rattle.ioa_rules.specs.Codes as codes_of
use Rattle.ioa_rules.specs.Codes.{code_of}
use Rattle.ioa_rules.specs.Reasons.{in_source}
use Rattle.ioa_examples.proofs.SmallSources.{field}
use Rattle.ioa_examples.proofs.DeclaredTypes.{type}

-- ---- sums: put(a) puts a number last in s, and fold does what is asked

abbrev variable : Name → Name → VariableTree
variable x t = record { stable = false; field = field x t; start = None }

abbrev with : Expr → Op → Expr → Expr
with l o r = binary l (Operator o) r

abbrev s : Expr
s = named (codes "s")

abbrev n : Expr
n = named (codes "n")

abbrev x : Expr
x = named (codes "x")

abbrev y : Expr
y = named (codes "y")

abbrev put_transition : TransitionTree
put_transition = record { kind = Input; name = codes "put"; pre = None; proposals = []; effect = seq (assign (codes "s") (with s Append (named (codes "a")))) stop }

abbrev fold_transition : Stmts → TransitionTree
fold_transition effect = record { kind = Internal; name = codes "fold"; pre = None; proposals = []; effect = effect }

abbrev sum : Stmts → AutomatonTree
sum effect = record {
  name = codes "Sum";
  formals = [];
  entries = record { kind = Input; name = codes "put"; positions = typed (field (codes "a") (codes "Int")) ∷ [] } ∷ record { kind = Internal; name = codes "fold"; positions = [] } ∷ [];
  variables = variable (codes "s") (codes "S") ∷ variable (codes "n") (codes "Int") ∷ [];
  transitions = put_transition ∷ fold_transition effect ∷ [];
}

-- type S = seq 3 of Int, type K = enum { z }
abbrev types : SourceTree
types = type (codes "S") (sequence 3 (codes "Int")) ∷ type (codes "K") (enumeration (codes "z" ∷ [])) ∷ []

abbrev source : Stmts → SourceTree
source effect =
    type (codes "S") (sequence 3 (codes "Int")) ∷ type (codes "K") (enumeration (codes "z" ∷ [])) ∷ automaton (sum effect)
    ∷ composition (record { name = codes "Sums"; instances = record { name = codes "A"; automaton = codes "Sum"; arguments = []; crash = None } ∷ []; hidden = [] }) ∷ []

abbrev composed : Stmts → Composed
composed effect = record {
  types = types_of types;
  name = codes "Sums";
  members = record { name = codes "A"; instance = record { types = types_of types; automaton = sum effect; arguments = [] }; starts = items 2 none ∷ num (pos 0) ∷ []; declared = 2 } ∷ [];
  hidden = [];
  invariants = [];
}

abbrev put : ℕ → Act
put a = record { name = codes "put"; vals = num (pos a) ∷ [] }

abbrev fold : Act
fold = record { name = codes "fold"; vals = [] }

abbrev ran : Stmts → List Act → Reached Env
ran effect actions = run (components_of (composed effect)) actions (starts_of (composed effect))

-- what a name stands for in the state of the one component
abbrev in_first : List Env → Name → Option Val
in_first [] z = None
in_first (e ∷ es) z = e z

abbrev left : Stmts → List Act → Name → Option Val
left effect actions = in_first (ran effect actions).states

abbrev number_is : ℕ → Option Val
number_is k = Some (num (pos k))

-- statements in sequence
abbrev two : Stmt → Stmt → Stmts
two a b = seq a (seq b stop)

abbrev one : Stmt → Stmts
one a = seq a stop

-- n := n + e
abbrev adds : Expr → Stmt
adds e = assign (codes "n") (with n Add e)

-- for y in s do n := n + y; s := e od
abbrev folding : Expr → Stmts
folding e = one (each (codes "y") s (two (adds y) (assign (codes "s") e)))

-- ---- the list is that at the loop's start

sums : ((ran (folding (empty (codes "S"))) (put 2 ∷ put 5 ∷ fold ∷ [])).ending ≡ done 3)
    × (left (folding (empty (codes "S"))) (put 2 ∷ put 5 ∷ fold ∷ []) (codes "n") ≡ number_is 7)
    × (left (folding (empty (codes "S"))) (put 2 ∷ put 5 ∷ fold ∷ []) (codes "s") ≡ Some (items 2 none))
sums = (refl, refl, refl)

-- the second turn finds no room: the state is as before
fills : ((ran (folding (with s Append y)) (put 2 ∷ put 5 ∷ fold ∷ [])).ending ≡ fault_at 0 Full 2)
    × (left (folding (with s Append y)) (put 2 ∷ put 5 ∷ fold ∷ []) (codes "n") ≡ number_is 0)
fills = (refl, refl)

has_no_turn : ((ran (folding (empty (codes "S"))) (fold ∷ [])).ending ≡ done 1) × (left (folding (empty (codes "S"))) (fold ∷ []) (codes "n") ≡ number_is 0)
has_no_turn = (refl, refl)

-- ---- turns

-- n := n * 10 + y
abbrev digits : Stmts
digits = one (each (codes "y") s (one (assign (codes "n") (with (with n Mul (number 10)) Add y))))

goes_in_order : left digits (put 1 ∷ put 2 ∷ put 3 ∷ fold ∷ []) (codes "n") ≡ number_is 123
goes_in_order = refl

nests : left (one (each (codes "x") s (one (each (codes "y") s (one (adds (with x Mul y))))))) (put 2 ∷ put 5 ∷ fold ∷ []) (codes "n") ≡ number_is 49
nests = refl

-- n := n + 1 div y
abbrev divides : Stmts
divides = one (each (codes "y") s (one (adds (with (number 1) Div y))))

faults_in_the_second_turn : (ran divides (put 1 ∷ put 0 ∷ put 2 ∷ fold ∷ [])).ending ≡ fault_at 0 ZeroDivisor 3
faults_in_the_second_turn = refl

-- the name is gone afterwards
is_gone : left digits (put 1 ∷ fold ∷ []) (codes "y") ≡ None
is_gone = refl

-- ---- which are well formed

abbrev refusals : List Refusal
refusals = DuplicateName 1 ∷ UnknownName 1 ∷ TypeMismatch 1 ∷ BadSignature 1 ∷ NoProposal 1 ∷ TooMany 1 ∷ TooWide 1 ∷ []

-- the codes that may be told of a source with this effect
abbrev told : Stmts → List ℕ
told effect = map (λ r. option_map_or codes_of.number (code_of r) 0) (filter (in_source (source effect)) refusals)

abbrev over : Name → Expr → Stmts → Stmts
over z e body = one (each z e body)

are_well_formed : (well_formed (source (folding (empty (codes "S")))) ≡ true) × (told (folding (empty (codes "S"))) ≡ [])
are_well_formed = (refl, refl)

one_after_another : told (two (each (codes "y") s (one (adds y))) (each (codes "y") s (one (adds y)))) ≡ []
one_after_another = refl

names_a_variable : told (over (codes "n") s (one (adds (number 1)))) ≡ 5 ∷ []
names_a_variable = refl

names_a_type : told (over (codes "S") s (one (adds (number 1)))) ≡ 5 ∷ []
names_a_type = refl

names_an_enumeration : told (over (codes "z") s (one (adds (number 1)))) ≡ 5 ∷ []
names_an_enumeration = refl

names_a_loop_round_it : told (over (codes "y") s (over (codes "y") s (one (adds (number 1))))) ≡ 5 ∷ []
names_a_loop_round_it = refl

is_read_afterwards : (well_formed (source (two (each (codes "y") s (one (adds y))) (adds y))) ≡ false) × (told (two (each (codes "y") s (one (adds y))) (adds y)) ≡ 6 ∷ [])
is_read_afterwards = (refl, refl)

is_assigned : told (over (codes "y") s (one (assign (codes "y") (number 1)))) ≡ 6 ∷ []
is_assigned = refl

goes_over_a_number : told (over (codes "y") n (one (adds y))) ≡ 7 ∷ []
goes_over_a_number = refl

-- loops round statements
abbrev three_round : Stmts → Stmts
three_round body = over (codes "u") s (over (codes "v") s (over (codes "w") s body))

three_deep : told (three_round (one (adds (number 1)))) ≡ []
three_deep = refl

four_deep : told (three_round (over (codes "y") s (one (adds y)))) ≡ 10 ∷ []
four_deep = refl

-- ---- how large they are

-- one more than the deepest statement, whatever it goes over
is_two_deep : stmt_depth (each (codes "y") (with s Append (with n Add n)) (one (adds y))) ≡ 2
is_two_deep = refl

-- a loop is a node, and so is each statement in it
has_six_nodes : stmt_nodes (each (codes "y") s (one (adds y))) ≡ 6
has_six_nodes = refl
