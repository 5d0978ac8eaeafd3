-- Small sources, and what the definitions say of them: each answer is computed.
use Rattle.std.proofs.Common.{◌≡◌, ℕ, zero, suc, ◌+◌, List, [], ◌∷◌, Option, Some, None, Ok, Err, true, false, pos, refl, codes}
use Rattle.ioa_arithmetic.specs.declared.arithmetic.Fault.TheVariants.{Overflow, ZeroDivisor}
use Rattle.ioa_value.specs.Actions.{Name, Act}
use Rattle.ioa_value.specs.Plain.{Val, num}
use Rattle.ioa_value.specs.Plain.{truth as truth_value}
use Rattle.ioa_value.specs.declared.operator.Op.TheVariants.{Neg, Add, Sub, Mul, Div, Mod, Lt, Gt, Not, Eq}
use Rattle.ioa_tree.specs.declared.tree.Infix.TheVariants.{Operator, And, Or, Implies}
use Rattle.ioa_lex.specs.declared.refusal.Refusal.TheVariants as refusals
use Rattle.ioa_examples.proofs.Shown.{shown}
use Rattle.ioa_tree.specs.declared.tree.Kind.TheVariants.{Input, Output}
use Rattle.ioa_tree.specs.Tree.{Expr, number, truth, named, prefix, binary, FieldTree, typed, EntryTree, VariableTree, exactly, ProposalTree, TransitionTree, assign, choose, Stmts, stop, seq, no_arm, arm, AutomatonTree, InstanceTree, CompositionTree, automaton, composition, SourceTree}
use Rattle.ioa_tree.specs.Meaning.{Env}
use Rattle.ioa_tree.specs.Depth.{stmts_depth}
use Rattle.ioa_value.specs.Table.{basic}
use Rattle.ioa_tree.specs.Instances.{Instance, argument_values, start_values}
use Rattle.ioa_tree.specs.Runs.{Ending, done, not_an_action_at, not_enabled_at, fault_at, run, trace}
use Rattle.ioa_tree.specs.Compositions.{picked, Composed, components_of, starts_of}
use Rattle.ioa_tree.specs.WellFormed.{automaton_fine, automaton_within, well_formed}
use Rattle.ioa_value.specs.declared.limits.TheConstants.{LIMITS}
use Rattle.ioa_value.specs.declared.terminal.Terminal.{Terminal}
use Rattle.ioa_value.specs.declared.terminal.Terminal.TheVariants as terminals
use Rattle.ioa_value.specs.declared.operator.Op.{Op}
use Rattle.ioa_lex.specs.Tokens as tokens
use Rattle.ioa_lex.specs.Tokens.{Tok, terminal}
use Rattle.ioa_grammar.specs.Reading.{Outcome, expression, expr, first, operand, fields_from, after_name, primary, start_at, start_of, climb, operator_at, operator_of, prefix_at, prefix_of, terminal_at, same_terminal, sees, sign, statements, statement, in_sequence, terminated, items_from, sees_statement, sees_name, after, choice, an_arm, more_arms, many, many_from, introduced, unconditional, assignment, a_name}

abbrev pub field : Name → Name → FieldTree
field x t = record { name = x; ty = t }

abbrev pub tick_entry : EntryTree
tick_entry = record { kind = Output; name = codes "tick"; positions = typed (field (codes "k") (codes "Int")) ∷ [] }

abbrev pub reset_entry : EntryTree
reset_entry = record { kind = Input; name = codes "reset"; positions = [] }

abbrev pub count_variable : VariableTree
count_variable = record { stable = false; field = field (codes "c") (codes "Int"); start = Some (named (codes "start")) }

abbrev pub tick_proposal : ProposalTree
tick_proposal = record { name = codes "k"; choice = exactly (named (codes "c")) }

abbrev pub tick_transition : TransitionTree
tick_transition = record {
  kind = Output;
  name = codes "tick";
  pre = Some (binary (named (codes "k")) (Operator Eq) (named (codes "c")));
  proposals = tick_proposal ∷ [];
  effect = seq (assign (codes "c") (binary (named (codes "c")) (Operator Add) (number 1))) stop;
}

abbrev pub reset_transition : TransitionTree
reset_transition = record { kind = Input; name = codes "reset"; pre = None; proposals = []; effect = seq (assign (codes "c") (named (codes "start"))) stop }

-- counts up from its start, and goes back to it
abbrev pub counter : AutomatonTree
counter = record {
  name = codes "Counter";
  formals = field (codes "start") (codes "Int") ∷ [];
  entries = tick_entry ∷ reset_entry ∷ [];
  variables = count_variable ∷ [];
  transitions = tick_transition ∷ reset_transition ∷ [];
}

abbrev pub component : List Expr → InstanceTree
component arguments = record { name = codes "A"; automaton = codes "Counter"; arguments = arguments; crash = None }

abbrev pub one : List Expr → CompositionTree
one arguments = record { name = codes "One"; instances = component arguments ∷ []; hidden = [] }

abbrev pub source : SourceTree
source = automaton counter ∷ composition (one (number 5 ∷ [])) ∷ []

abbrev from : ℕ → Instance
from n = record { types = basic; automaton = counter; arguments = num (pos n) ∷ [] }

abbrev composed : ℕ → Composed
composed n = record {
  types = basic;
  name = codes "One";
  members = record { name = codes "A"; instance = from n; starts = num (pos n) ∷ []; declared = 1 } ∷ [];
  hidden = [];
  invariants = [];
}

abbrev pub tick : ℕ → Act
tick k = record { name = codes "tick"; vals = num (pos k) ∷ [] }

abbrev bare : Name → Act
bare x = record { name = x; vals = [] }

abbrev reset : Act
reset = bare (codes "reset")

-- the counter's value in the first state
abbrev count : List Env → Option Val
count [] = None
count (s ∷ ss) = s (codes "c")

is_well_formed : well_formed source ≡ true
is_well_formed = refl

-- ---- one fault each: the counter's source is well formed, and each of these differs from it in one place

-- a second declaration of a name
declares_twice : well_formed (automaton counter ∷ source) ≡ false
declares_twice = refl

-- an automaton that is used before its declaration
uses_before : well_formed (composition (one (number 5 ∷ [])) ∷ automaton counter ∷ []) ≡ false
uses_before = refl

-- the counter with other formals, entries, variables or transitions, and its composition
abbrev pub with_formals : List FieldTree → SourceTree
with_formals formals = automaton (record counter { formals = formals }) ∷ composition (one (number 5 ∷ [])) ∷ []

abbrev pub with_entries : List EntryTree → SourceTree
with_entries entries = automaton (record counter { entries = entries }) ∷ composition (one (number 5 ∷ [])) ∷ []

abbrev pub with_variables : List VariableTree → SourceTree
with_variables variables = automaton (record counter { variables = variables }) ∷ composition (one (number 5 ∷ [])) ∷ []

abbrev pub with_transitions : List TransitionTree → SourceTree
with_transitions transitions = automaton (record counter { transitions = transitions }) ∷ composition (one (number 5 ∷ [])) ∷ []

-- tick with another precondition, other proposals or another effect
abbrev pub with_pre : Option Expr → SourceTree
with_pre pre = with_transitions (record tick_transition { pre = pre } ∷ reset_transition ∷ [])

abbrev pub with_proposals : List ProposalTree → SourceTree
with_proposals proposals = with_transitions (record tick_transition { proposals = proposals } ∷ reset_transition ∷ [])

abbrev pub with_effect : Stmts → SourceTree
with_effect effect = with_transitions (record tick_transition { effect = effect } ∷ reset_transition ∷ [])

-- a variable that has no start expression
abbrev pub plain_variable : Name → VariableTree
plain_variable x = record { stable = false; field = field x (codes "Int"); start = None }

-- a variable more is no fault, nor is a precondition less
takes_more_variables : well_formed (with_variables (count_variable ∷ plain_variable (codes "d") ∷ [])) ≡ true
takes_more_variables = refl

needs_no_precondition : well_formed (with_pre None) ≡ true
needs_no_precondition = refl

-- a variable that is named as a formal
names_twice : well_formed (with_variables (count_variable ∷ plain_variable (codes "start") ∷ [])) ≡ false
names_twice = refl

-- a variable that is named as a declaration
names_a_declaration : well_formed (with_variables (count_variable ∷ plain_variable (codes "One") ∷ [])) ≡ false
names_a_declaration = refl

-- a parameter that is named as a variable
hides_a_variable : well_formed (with_entries (tick_entry ∷ record reset_entry { positions = typed (field (codes "c") (codes "Int")) ∷ [] } ∷ [])) ≡ false
hides_a_variable = refl

-- a formal of a type that is not declared
names_no_type : well_formed (with_formals (field (codes "start") (codes "Int") ∷ field (codes "d") (codes "Real") ∷ [])) ≡ false
names_no_type = refl

-- a start expression that names a variable
starts_at_a_variable : well_formed (with_variables (count_variable ∷ record (plain_variable (codes "d")) { start = Some (named (codes "c")) } ∷ [])) ≡ false
starts_at_a_variable = refl

-- a start expression of another type
starts_at_a_truth : well_formed (with_variables (count_variable ∷ record (plain_variable (codes "d")) { start = Some (truth true) } ∷ [])) ≡ false
starts_at_a_truth = refl

-- an unknown name in a precondition
asks_for_nothing : well_formed (with_pre (Some (binary (named (codes "k")) (Operator Eq) (named (codes "d"))))) ≡ false
asks_for_nothing = refl

-- a precondition that is an Int
asks_for_a_number : well_formed (with_pre (Some (named (codes "c")))) ≡ false
asks_for_a_number = refl

-- an equation of an Int and a Bool
compares_a_truth : well_formed (with_pre (Some (binary (named (codes "k")) (Operator Eq) (truth true)))) ≡ false
compares_a_truth = refl

-- a number that is no Int
asks_for_too_much : well_formed (with_pre (Some (binary (named (codes "k")) (Operator Eq) (number 9223372036854775808)))) ≡ false
asks_for_too_much = refl

-- an assignment to a formal, which is no variable
assigns_to_a_formal : well_formed (with_effect (seq (assign (codes "start") (number 1)) stop)) ≡ false
assigns_to_a_formal = refl

-- an assignment of another type
assigns_a_truth : well_formed (with_effect (seq (assign (codes "c") (truth true)) stop)) ≡ false
assigns_a_truth = refl

-- a choice with this condition and these statements
abbrev where_true : Expr → Stmts → Stmts
where_true c ss = seq (choose (arm c ss no_arm) stop) stop

takes_a_choice : well_formed (with_effect (where_true (prefix Not (binary (named (codes "c")) (Operator Eq) (number 9))) (seq (assign (codes "c") (number 1)) stop))) ≡ true
takes_a_choice = refl

-- a condition that is an Int
chooses_by_a_number : well_formed (with_effect (where_true (named (codes "c")) (seq (assign (codes "c") (number 1)) stop))) ≡ false
chooses_by_a_number = refl

-- an assignment to a formal in a choice
assigns_to_a_formal_there : well_formed (with_effect (where_true (truth true) (seq (assign (codes "start") (number 1)) stop))) ≡ false
assigns_to_a_formal_there = refl

-- a parameter that is an Int, and has no proposal
proposes_nothing : well_formed (with_proposals []) ≡ false
proposes_nothing = refl

-- a proposal for no parameter
proposes_for_a_variable : well_formed (with_proposals (tick_proposal ∷ record tick_proposal { name = codes "c" } ∷ [])) ≡ false
proposes_for_a_variable = refl

-- a proposal of another type
proposes_a_truth : well_formed (with_proposals (record tick_proposal { choice = exactly (truth true) } ∷ [])) ≡ false
proposes_a_truth = refl

-- two proposals for one parameter
proposes_twice : well_formed (with_proposals (tick_proposal ∷ tick_proposal ∷ [])) ≡ false
proposes_twice = refl

-- a proposal that names a parameter
proposes_itself : well_formed (with_proposals (record tick_proposal { choice = exactly (named (codes "k")) } ∷ [])) ≡ false
proposes_itself = refl

-- two entries of one name
enters_twice : well_formed (with_entries (tick_entry ∷ reset_entry ∷ reset_entry ∷ [])) ≡ false
enters_twice = refl

-- two transitions for one entry
moves_twice : well_formed (with_transitions (tick_transition ∷ reset_transition ∷ reset_transition ∷ [])) ≡ false
moves_twice = refl

-- an entry without a transition
moves_never : well_formed (with_transitions (tick_transition ∷ [])) ≡ false
moves_never = refl

-- a transition without an entry
is_no_entry : well_formed (with_entries (tick_entry ∷ [])) ≡ false
is_no_entry = refl

-- a transition of another kind than its entry
moves_otherwise : well_formed (with_transitions (tick_transition ∷ record reset_transition { kind = Output } ∷ [])) ≡ false
moves_otherwise = refl

-- an input with a precondition
input_asks : well_formed (with_transitions (tick_transition ∷ record reset_transition { pre = Some (truth true) } ∷ [])) ≡ false
input_asks = refl

-- so many variables, each with a name of its own
abbrev pub variables_from : ℕ → ℕ → List VariableTree
variables_from zero n = []
variables_from (suc more) n = plain_variable (118 ∷ n ∷ []) ∷ variables_from more (n + 1)

-- with the counter's own 64 are allowed, and 65 are too many
takes_many_variables : well_formed (with_variables (count_variable ∷ variables_from 63 0)) ≡ true
takes_many_variables = refl

takes_too_many_variables : well_formed (with_variables (count_variable ∷ variables_from 64 0)) ≡ false
takes_too_many_variables = refl

-- so many formals beside the counter's own
abbrev formals_from : ℕ → ℕ → List FieldTree
formals_from zero n = []
formals_from (suc more) n = field (102 ∷ n ∷ []) (codes "Int") ∷ formals_from more (n + 1)

takes_many_formals : well_formed (with_formals (field (codes "start") (codes "Int") ∷ formals_from 7 0)) ≡ true
takes_many_formals = refl

takes_too_many_formals : well_formed (with_formals (field (codes "start") (codes "Int") ∷ formals_from 8 0)) ≡ false
takes_too_many_formals = refl

-- the same automaton is fine but for the limit, and within a wider one
is_fine_with_more_formals : automaton_fine basic basic [] (record counter { formals = field (codes "start") (codes "Int") ∷ formals_from 8 0 }) ≡ true
is_fine_with_more_formals = refl

is_within_wider_limits : automaton_within (record LIMITS { parameters = 9 }) (record counter { formals = field (codes "start") (codes "Int") ∷ formals_from 8 0 }) ≡ true
is_within_wider_limits = refl

-- two components of one name
composes_twice : well_formed (automaton counter ∷ composition (record (one []) { instances = component (number 5 ∷ []) ∷ component (number 6 ∷ []) ∷ [] }) ∷ []) ≡ false
composes_twice = refl

-- an argument that names something
argument_has_a_name : well_formed (automaton counter ∷ composition (one (named (codes "c") ∷ [])) ∷ []) ≡ false
argument_has_a_name = refl

-- ---- how operators group

abbrev word : Terminal → Tok
word t = terminal t

abbrev n : ℕ → Tok
n k = tokens.number k

abbrev between : Expr → Op → Expr → Expr
between l o r = binary l (Operator o) r

-- what is read of the tokens, with expressions of at most six levels
abbrev read : List Tok → Outcome Expr
read ts = expression 6 ts

-- 3 - 2 - 1 is (3 - 2) - 1
groups_to_the_left : read (n 3 ∷ word terminals.Minus ∷ n 2 ∷ word terminals.Minus ∷ n 1 ∷ []) ≡ Ok (between (between (number 3) Sub (number 2)) Sub (number 1), [])
unfolding expression expr first prefix_at prefix_of operand primary after_name fields_from sees after start_at start_of climb operator_at operator_of terminal_at same_terminal
groups_to_the_left = refl

-- 1 = 3 - 2 is 1 = (3 - 2)
binds_sums_first : read (n 1 ∷ word terminals.Equal ∷ n 3 ∷ word terminals.Minus ∷ n 2 ∷ []) ≡ Ok (between (number 1) Eq (between (number 3) Sub (number 2)), [])
unfolding expression expr first prefix_at prefix_of operand primary after_name fields_from sees after start_at start_of climb operator_at operator_of terminal_at same_terminal
binds_sums_first = refl

-- of 1 = 2 = 3 the second sign is left
has_no_neighbour : read (n 1 ∷ word terminals.Equal ∷ n 2 ∷ word terminals.Equal ∷ n 3 ∷ []) ≡ Ok (between (number 1) Eq (number 2), word terminals.Equal ∷ n 3 ∷ [])
unfolding expression expr first prefix_at prefix_of operand primary after_name fields_from sees after start_at start_of climb operator_at operator_of terminal_at same_terminal
has_no_neighbour = refl

-- 1 + 2 * 3 is 1 + (2 * 3)
binds_products_first : read (n 1 ∷ word terminals.Plus ∷ n 2 ∷ word terminals.Star ∷ n 3 ∷ []) ≡ Ok (between (number 1) Add (between (number 2) Mul (number 3)), [])
unfolding expression expr first prefix_at prefix_of operand primary after_name fields_from sees after start_at start_of climb operator_at operator_of terminal_at same_terminal
binds_products_first = refl

-- 7 div 2 mod 3 is (7 div 2) mod 3
groups_products_to_the_left : read (n 7 ∷ word terminals.Div ∷ n 2 ∷ word terminals.Mod ∷ n 3 ∷ []) ≡ Ok (between (between (number 7) Div (number 2)) Mod (number 3), [])
unfolding expression expr first prefix_at prefix_of operand primary after_name fields_from sees after start_at start_of climb operator_at operator_of terminal_at same_terminal
groups_products_to_the_left = refl

-- -7 div 2 is (-7) div 2
negates_first : read (word terminals.Minus ∷ n 7 ∷ word terminals.Div ∷ n 2 ∷ []) ≡ Ok (between (prefix Neg (number 7)) Div (number 2), [])
unfolding expression expr first prefix_at prefix_of operand primary after_name fields_from sees after start_at start_of climb operator_at operator_of terminal_at same_terminal
negates_first = refl

-- 7 - - 2 is 7 - (-2)
negates_after_minus : read (n 7 ∷ word terminals.Minus ∷ word terminals.Minus ∷ n 2 ∷ []) ≡ Ok (between (number 7) Sub (prefix Neg (number 2)), [])
unfolding expression expr first prefix_at prefix_of operand primary after_name fields_from sees after start_at start_of climb operator_at operator_of terminal_at same_terminal
negates_after_minus = refl

-- ~ 1 < 2 is ~ (1 < 2)
denies_comparisons : read (word terminals.Not ∷ n 1 ∷ word terminals.Less ∷ n 2 ∷ []) ≡ Ok (prefix Not (between (number 1) Lt (number 2)), [])
unfolding expression expr first prefix_at prefix_of operand primary after_name fields_from sees after start_at start_of climb operator_at operator_of terminal_at same_terminal
denies_comparisons = refl

-- ~ true /\ false is (~ true) /\ false
denies_first : read (word terminals.Not ∷ word terminals.True ∷ word terminals.And ∷ word terminals.False ∷ []) ≡ Ok (binary (prefix Not (truth true)) And (truth false), [])
unfolding expression expr first prefix_at prefix_of operand primary after_name fields_from sees after start_at start_of climb operator_at operator_of terminal_at same_terminal
denies_first = refl

-- 1 = ~ true is no expression: the sign ~ has no place there
denies_no_operand : shown (read (n 1 ∷ word terminals.Equal ∷ word terminals.Not ∷ word terminals.True ∷ [])) ≡ Err (refusals.Syntax 2)
unfolding expression expr first prefix_at prefix_of operand primary after_name fields_from sees after start_at start_of climb operator_at operator_of terminal_at same_terminal
denies_no_operand = refl

-- true => false => true is true => (false => true)
implies_to_the_right : read (word terminals.True ∷ word terminals.Implies ∷ word terminals.False ∷ word terminals.Implies ∷ word terminals.True ∷ []) ≡ Ok (binary (truth true) Implies (binary (truth false) Implies (truth true)), [])
unfolding expression expr first prefix_at prefix_of operand primary after_name fields_from sees after start_at start_of climb operator_at operator_of terminal_at same_terminal
implies_to_the_right = refl

-- true \/ false /\ true => false is (true \/ (false /\ true)) => false
mixes_levels : read (word terminals.True ∷ word terminals.Or ∷ word terminals.False ∷ word terminals.And ∷ word terminals.True ∷ word terminals.Implies ∷ word terminals.False ∷ []) ≡ Ok (binary (binary (truth true) Or (binary (truth false) And (truth true))) Implies (truth false), [])
unfolding expression expr first prefix_at prefix_of operand primary after_name fields_from sees after start_at start_of climb operator_at operator_of terminal_at same_terminal
mixes_levels = refl

-- ---- how choices are read

-- c := k
abbrev setting : ℕ → List Tok → List Tok
setting k ts = tokens.name (codes "c") ∷ word terminals.Becomes ∷ n k ∷ ts

abbrev set : ℕ → Stmts
set k = seq (assign (codes "c") (number k)) stop

-- a condition, and what is behind `then`
abbrev tested : List Tok → List Tok
tested ts = word terminals.True ∷ word terminals.Then ∷ ts

chooses : statements 3 (word terminals.If ∷ tested (setting 1 (word terminals.Elseif ∷ tested (setting 2 (word terminals.Else ∷ setting 3 (word terminals.Fi ∷ []))))))
    ≡ Ok (seq (choose (arm (truth true) (set 1) (arm (truth true) (set 2) no_arm)) (set 3)) stop, [])
unfolding statements statement in_sequence terminated items_from sees_statement sees_name sees after choice an_arm more_arms many many_from introduced unconditional assignment sign a_name expression expr first prefix_at prefix_of operand primary after_name fields_from start_at start_of climb operator_at operator_of terminal_at same_terminal
chooses = refl

-- an arm has statements
chooses_nothing : shown (statements 3 (word terminals.If ∷ tested (word terminals.Fi ∷ []))) ≡ Err (refusals.Syntax 1)
unfolding statements statement in_sequence terminated items_from sees_statement sees_name sees after choice an_arm more_arms many many_from introduced unconditional assignment sign a_name expression expr first prefix_at prefix_of operand primary after_name fields_from start_at start_of climb operator_at operator_of terminal_at same_terminal
chooses_nothing = refl

-- a choice ends with `fi`
never_ends : shown (statements 3 (word terminals.If ∷ tested (setting 1 []))) ≡ Err (refusals.Syntax 0)
unfolding statements statement in_sequence terminated items_from sees_statement sees_name sees after choice an_arm more_arms many many_from introduced unconditional assignment sign a_name expression expr first prefix_at prefix_of operand primary after_name fields_from start_at start_of climb operator_at operator_of terminal_at same_terminal
never_ends = refl

-- an assignment in a choice is two levels deep
chooses_too_deep : shown (statements 1 (word terminals.If ∷ tested (setting 1 (word terminals.Fi ∷ [])))) ≡ Err (refusals.TooDeep 0)
unfolding statements statement in_sequence terminated items_from sees_statement sees_name sees after choice an_arm more_arms many many_from introduced unconditional assignment sign a_name expression expr first prefix_at prefix_of operand primary after_name fields_from start_at start_of climb operator_at operator_of terminal_at same_terminal
chooses_too_deep = refl

-- ---- what the composition does

last_is_picked : picked source None ≡ Some (one (number 5 ∷ []))
last_is_picked = refl

named_is_picked : picked source (Some (codes "One")) ≡ Some (one (number 5 ∷ []))
named_is_picked = refl

none_is_picked : picked source (Some (codes "Nine")) ≡ None
none_is_picked = refl

argument_is_five : argument_values basic (number 5 ∷ []) ≡ Ok (num (pos 5) ∷ [])
argument_is_five = refl

argument_faults : argument_values basic (binary (number 9223372036854775807) (Operator Add) (number 1) ∷ []) ≡ Err Overflow
argument_faults = refl

starts_at_five : start_values (from 5) ≡ Ok (num (pos 5) ∷ [])
starts_at_five = refl

counts_up : (run (components_of (composed 5)) (tick 5 ∷ tick 6 ∷ reset ∷ []) (starts_of (composed 5))).ending ≡ done 3
counts_up = refl

counts_back : count (run (components_of (composed 5)) (tick 5 ∷ tick 6 ∷ reset ∷ []) (starts_of (composed 5))).states ≡ Some (num (pos 5))
counts_back = refl

shows_all : trace [] (components_of (composed 5)) (tick 5 ∷ tick 6 ∷ reset ∷ []) 3 ≡ tick 5 ∷ tick 6 ∷ reset ∷ []
shows_all = refl

shows_no_hidden : trace (codes "tick" ∷ []) (components_of (composed 5)) (tick 5 ∷ tick 6 ∷ reset ∷ []) 3 ≡ reset ∷ []
shows_no_hidden = refl

does_nothing : (run (components_of (composed 5)) [] (starts_of (composed 5))).ending ≡ done 0
does_nothing = refl

overflows : (run (components_of (composed 9223372036854775807)) (tick 9223372036854775807 ∷ []) (starts_of (composed 9223372036854775807))).ending ≡ fault_at 0 Overflow 0
overflows = refl

is_too_soon : (run (components_of (composed 5)) (tick 6 ∷ []) (starts_of (composed 5))).ending ≡ not_enabled_at 0
is_too_soon = refl

has_another_type : (run (components_of (composed 5)) (record { name = codes "tick"; vals = truth_value true ∷ [] } ∷ []) (starts_of (composed 5))).ending ≡ not_an_action_at 0
has_another_type = refl

has_no_value : (run (components_of (composed 5)) (bare (codes "tick") ∷ []) (starts_of (composed 5))).ending ≡ not_an_action_at 0
has_no_value = refl

is_unknown : (run (components_of (composed 5)) (bare (codes "tock") ∷ []) (starts_of (composed 5))).ending ≡ not_an_action_at 0
is_unknown = refl

-- ---- short circuits and choices

-- the counter with this precondition and this effect of tick, from 5
abbrev pub choosing : Expr → Stmts → Composed
choosing pre effect = record (composed 5) {
  members = record { name = codes "A"; instance = record (from 5) { automaton = record counter { transitions = record tick_transition { pre = Some pre; effect = effect } ∷ reset_transition ∷ [] } }; starts = num (pos 5) ∷ []; declared = 1 } ∷ [];
}

abbrev c : Expr
c = named (codes "c")

-- 1 div 0 = k
abbrev faulty : Expr
faulty = between (between (number 1) Div (number 0)) Eq (named (codes "k"))

abbrev counts : Stmts
counts = seq (assign (codes "c") (between c Add (number 1))) stop

abbrev ending_with : Expr → Ending
ending_with pre = (run (components_of (choosing pre counts)) (tick 5 ∷ []) (starts_of (choosing pre counts))).ending

conjunction_stops : ending_with (binary (between c Gt (number 5)) And faulty) ≡ not_enabled_at 0
conjunction_stops = refl

disjunction_stops : ending_with (binary (between c Eq (number 5)) Or faulty) ≡ done 1
disjunction_stops = refl

implication_goes_on : ending_with (binary (between c Eq (number 5)) Implies faulty) ≡ fault_at 0 ZeroDivisor 0
implication_goes_on = refl

-- the counter's value after tick(5) with this effect
abbrev leaves : Stmts → Option Val
leaves effect = count (run (components_of (choosing (truth true) effect)) (tick 5 ∷ []) (starts_of (choosing (truth true) effect))).states

-- so many become the counter's value
abbrev sets : ℕ → Stmts
sets k = seq (assign (codes "c") (number k)) stop

-- the first arm with a true condition, and no other
first_arm_is_chosen : leaves (seq (choose (arm (between c Eq (number 4)) (sets 1) (arm (between c Eq (number 5)) (sets 2) (arm (between c Lt (number 9)) (sets 3) no_arm))) (sets 4)) stop) ≡ Some (num (pos 2))
first_arm_is_chosen = refl

else_is_chosen : leaves (seq (choose (arm (between c Eq (number 4)) (sets 1) no_arm) (sets 4)) stop) ≡ Some (num (pos 4))
else_is_chosen = refl

nothing_is_chosen : leaves (seq (choose (arm (between c Eq (number 4)) (sets 1) no_arm) stop) stop) ≡ Some (num (pos 5))
nothing_is_chosen = refl

-- an assignment is one deep whatever its expression, and a choice one more than its deepest statement
conditions_do_not_count : stmts_depth (seq (choose (arm faulty (sets 1) no_arm) stop) (sets 2)) ≡ 2
conditions_do_not_count = refl
