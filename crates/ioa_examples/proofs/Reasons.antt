-- Small sources that break rules, and the codes that have their reason in each: computed.
use Rattle.std.proofs.Common.{◌≡◌, ℕ, List, [], ◌∷◌, ◌++◌, map, filter, Some, None, true, false, replicate, refl, codes}
use Rattle.std.specs.List.{flat_map}
use Rattle.std.specs.Option.{option_map_or}
use Rattle.ioa_value.specs.Actions.{Name}
use Rattle.ioa_value.specs.declared.operator.Op.TheVariants.{Eq, Add, Le, Not}
use Rattle.ioa_lex.specs.declared.refusal.Refusal.{Refusal}
use Rattle.ioa_lex.specs.declared.refusal.Refusal.TheVariants.{DuplicateName, UnknownName, TypeMismatch, BadSignature, NoProposal, TooMany, TooWide}
use Rattle.ioa_tree.specs.declared.tree.Infix.TheVariants.{Operator, And}
use Rattle.ioa_tree.specs.Tree.{Expr, number, truth, named, prefix, binary, empty, make, select, no_expr, also, ConstantTree, positive, negative, truth_literal, reference, PositionTree, only, exactly, any_below, assign, choose, stop, seq, no_arm, arm, enumeration, tuple, sequence, automaton, composition, invariant, SourceTree}
use Rattle.ioa_tree.specs.WellFormed.{well_formed}
use Rattle.ioa_examples.proofs.SmallSources.{field, tick_entry, reset_entry, count_variable, tick_proposal, tick_transition, reset_transition, counter, one, source, with_formals, with_entries, with_variables, with_transitions, with_pre, with_proposals, with_effect, plain_variable, variables_from}
use Rattle.ioa_examples.proofs.DeclaredTypes.{of_type, type, kind, packet, three, cell, comparing, starting, one_type, nested, fields_from, sender}
use Rattle.ioa_rules.specs.Codes as codes_of
use Rattle.ioa_rules.specs.Codes.{code_of}
use Rattle.ioa_rules.specs.Reasons.{in_source}

abbrev refusals : List Refusal
refusals = DuplicateName 1 ∷ UnknownName 1 ∷ TypeMismatch 1 ∷ BadSignature 1 ∷ NoProposal 1 ∷ TooMany 1 ∷ TooWide 1 ∷ []

-- the codes that may be told of a source
abbrev told : SourceTree → List ℕ
told s = map (λ r. option_map_or codes_of.number (code_of r) 0) (filter (in_source s) refusals)

tells_nothing : told source ≡ []
tells_nothing = refl

-- ---- names that stand twice

declares_twice : told (automaton counter ∷ source) ≡ 5 ∷ []
declares_twice = refl

names_twice : told (with_variables (count_variable ∷ plain_variable (codes "start") ∷ [])) ≡ 5 ∷ []
names_twice = refl

names_a_declaration : told (with_variables (count_variable ∷ plain_variable (codes "One") ∷ [])) ≡ 5 ∷ []
names_a_declaration = refl

proposes_twice : told (with_proposals (tick_proposal ∷ tick_proposal ∷ [])) ≡ 5 ∷ []
proposes_twice = refl

-- ---- names that are not known where they stand

uses_before : told (composition (one (number 5 ∷ [])) ∷ automaton counter ∷ []) ≡ 6 ∷ []
uses_before = refl

names_no_type : told (with_formals (field (codes "start") (codes "Int") ∷ field (codes "d") (codes "Real") ∷ [])) ≡ 6 ∷ []
names_no_type = refl

asks_for_nothing : told (with_pre (Some (binary (named (codes "k")) (Operator Eq) (named (codes "d"))))) ≡ 6 ∷ []
asks_for_nothing = refl

assigns_to_a_formal : told (with_effect (seq (assign (codes "start") (number 1)) stop)) ≡ 6 ∷ []
assigns_to_a_formal = refl

-- the same within an arm
assigns_to_a_formal_in_an_arm : told (with_effect (seq (choose (arm (truth true) (seq (assign (codes "start") (number 1)) stop) no_arm) stop) stop)) ≡ 6 ∷ []
assigns_to_a_formal_in_an_arm = refl

-- the condition of a second arm
chooses_by_nothing : told (with_effect (seq (choose (arm (truth true) stop (arm (named (codes "d")) stop no_arm)) stop) stop)) ≡ 6 ∷ []
chooses_by_nothing = refl

proposes_itself : told (with_proposals (record tick_proposal { choice = exactly (named (codes "k")) } ∷ [])) ≡ 6 ∷ []
proposes_itself = refl

argument_has_a_name : told (automaton counter ∷ composition (one (named (codes "c") ∷ [])) ∷ []) ≡ 6 ∷ []
argument_has_a_name = refl

-- ---- expressions of other types than their places want

starts_at_a_truth : told (with_variables (count_variable ∷ record (plain_variable (codes "d")) { start = Some (truth true) } ∷ [])) ≡ 7 ∷ []
starts_at_a_truth = refl

asks_for_a_number : told (with_pre (Some (named (codes "c")))) ≡ 7 ∷ []
asks_for_a_number = refl

compares_a_truth : told (with_pre (Some (binary (named (codes "k")) (Operator Eq) (truth true)))) ≡ 7 ∷ []
compares_a_truth = refl

-- any number below one is of an Int, and so is the expression
proposes_any_below_a_number : told (with_proposals (record tick_proposal { choice = any_below (named (codes "c")) } ∷ [])) ≡ []
proposes_any_below_a_number = refl

proposes_any_below_a_truth : told (with_proposals (record tick_proposal { choice = any_below (truth true) } ∷ [])) ≡ 7 ∷ []
proposes_any_below_a_truth = refl

proposes_any_below_itself : told (with_proposals (record tick_proposal { choice = any_below (named (codes "k")) } ∷ [])) ≡ 6 ∷ []
proposes_any_below_itself = refl

proposes_any_constant : told (sender (codes "Kind") (record { name = codes "p"; choice = any_below (number 2) } ∷ [])) ≡ 7 ∷ []
proposes_any_constant = refl

proposes_any_truth : told (sender (codes "Bool") (record { name = codes "p"; choice = any_below (number 2) } ∷ [])) ≡ 7 ∷ []
proposes_any_truth = refl

proposes_any_for_a_variable : told (with_proposals (tick_proposal ∷ record { name = codes "c"; choice = any_below (number 2) } ∷ [])) ≡ 6 ∷ []
proposes_any_for_a_variable = refl

assigns_a_truth : told (with_effect (seq (assign (codes "c") (truth true)) stop)) ≡ 7 ∷ []
assigns_a_truth = refl

chooses_by_a_number : told (with_effect (seq (choose (arm (named (codes "c")) stop no_arm) stop) stop)) ≡ 7 ∷ []
chooses_by_a_number = refl

assigns_a_truth_otherwise : told (with_effect (seq (choose (arm (truth true) stop no_arm) (seq (assign (codes "c") (truth true)) stop)) stop)) ≡ 7 ∷ []
assigns_a_truth_otherwise = refl

joins_a_number : told (with_pre (Some (binary (truth true) And (named (codes "c"))))) ≡ 7 ∷ []
joins_a_number = refl

denies_a_number : told (with_pre (Some (prefix Not (named (codes "c"))))) ≡ 7 ∷ []
denies_a_number = refl

-- a choice that breaks nothing
chooses : told (with_effect (seq (choose (arm (binary (truth true) And (truth false)) (seq (assign (codes "c") (number 1)) stop) no_arm) (seq (assign (codes "c") (number 2)) stop)) stop)) ≡ []
chooses = refl

-- ---- signature and transitions

moves_never : told (with_transitions (tick_transition ∷ [])) ≡ 8 ∷ []
moves_never = refl

moves_twice : told (with_transitions (tick_transition ∷ reset_transition ∷ reset_transition ∷ [])) ≡ 8 ∷ []
moves_twice = refl

input_asks : told (with_transitions (tick_transition ∷ record reset_transition { pre = Some (truth true) } ∷ [])) ≡ 8 ∷ []
input_asks = refl

proposes_nothing : told (with_proposals []) ≡ 9 ∷ []
proposes_nothing = refl

-- ---- limits

takes_too_many_variables : told (with_variables (count_variable ∷ variables_from 64 0)) ≡ 10 ∷ []
takes_too_many_variables = refl

-- ---- several reasons

-- a variable has the formal's name, and is a truth value where a number is wanted
breaks_two : told (with_variables (count_variable ∷ record (plain_variable (codes "start")) { start = Some (truth true) } ∷ [])) ≡ 5 ∷ 7 ∷ []
breaks_two = refl

-- a condition is no truth value, and the statement after it assigns to no variable
breaks_two_in_an_arm : told (with_effect (seq (choose (arm (number 1) (seq (assign (codes "d") (number 1)) stop) no_arm) stop) stop)) ≡ 6 ∷ 7 ∷ []
breaks_two_in_an_arm = refl

-- an operand is of a wrong type beside one that is not known
breaks_two_at_once : told (with_pre (Some (binary (binary (truth true) (Operator Add) (number 1)) (Operator Eq) (named (codes "d"))))) ≡ 6 ∷ 7 ∷ []
breaks_two_at_once = refl

-- an operator beside an operand that is not known tells nothing of types
breaks_one : told (with_pre (Some (binary (truth true) (Operator Add) (named (codes "d"))))) ≡ 6 ∷ []
breaks_one = refl

-- ---- declared types

breaks_nothing : told (starting (codes "Pkts") (empty (codes "Pkts"))) ≡ []
breaks_nothing = refl

names_a_constant_twice : told (type (codes "Kind") (enumeration (codes "data" ∷ codes "data" ∷ [])) ∷ []) ≡ 5 ∷ []
names_a_constant_twice = refl

names_a_variable_as_a_constant : told (three ++ cell (of_type (codes "ack") (codes "Int")) None ∷ []) ≡ 5 ∷ []
names_a_variable_as_a_constant = refl

names_a_field_twice : told (type (codes "Two") (tuple (of_type (codes "x") (codes "Int") ∷ of_type (codes "x") (codes "Bool") ∷ [])) ∷ []) ≡ 5 ∷ []
names_a_field_twice = refl

uses_a_type_before : told (packet ∷ kind ∷ []) ≡ 6 ∷ []
uses_a_type_before = refl

uses_its_own_type : told (type (codes "Own") (sequence 4 (codes "Own")) ∷ []) ≡ 6 ∷ []
uses_its_own_type = refl

holds_a_later_type : told (cell (of_type (codes "k") (codes "Kind")) None ∷ kind ∷ []) ≡ 6 ∷ []
holds_a_later_type = refl

starts_at_a_later_constant : told (cell (of_type (codes "x") (codes "Bool")) (Some comparing) ∷ kind ∷ []) ≡ 6 ∷ []
starts_at_a_later_constant = refl

starts_at_a_type : told (starting (codes "Kind") (named (codes "Kind"))) ≡ 6 ∷ []
starts_at_a_type = refl

starts_at_a_constant_of_another : told (starting (codes "Int") (named (codes "ack"))) ≡ 7 ∷ []
starts_at_a_constant_of_another = refl

empties_no_type : told (starting (codes "Pkts") (empty (codes "ack"))) ≡ 6 ∷ []
empties_no_type = refl

empties_a_later_type : told (cell (of_type (codes "x") (codes "Int")) (Some (empty (codes "S"))) ∷ type (codes "S") (sequence 4 (codes "Int")) ∷ []) ≡ 6 ∷ []
empties_a_later_type = refl

empties_no_sequence : told (starting (codes "Pkt") (empty (codes "Pkt"))) ≡ 7 ∷ []
empties_no_sequence = refl

proposes_no_constant : told (sender (codes "Kind") []) ≡ []
proposes_no_constant = refl

proposes_no_tuple : told (sender (codes "Pkt") []) ≡ 9 ∷ []
proposes_no_tuple = refl

takes_too_wide_a_capacity : told (one_type (sequence 257 (codes "Int"))) ≡ 10 ∷ []
takes_too_wide_a_capacity = refl

takes_no_capacity : told (one_type (sequence 0 (codes "Int"))) ≡ 10 ∷ []
takes_no_capacity = refl

takes_too_many_fields : told (one_type (tuple (fields_from 17 0))) ≡ 10 ∷ []
takes_too_many_fields = refl

takes_wide_values : told (nested 15) ≡ []
takes_wide_values = refl

takes_too_wide_values : told (nested 16) ≡ 11 ∷ []
takes_too_wide_values = refl

-- ---- tuples

-- Pkt(k, n)
abbrev packed : Expr → Expr → Expr
packed k n = make (codes "Pkt") (also k (also n no_expr))

abbrev acked : Expr
acked = packed (named (codes "ack")) (number 7)

makes_a_tuple : told (starting (codes "Pkt") acked) ≡ []
makes_a_tuple = refl

takes_a_field : told (starting (codes "Int") (select acked (codes "tag"))) ≡ []
takes_a_field = refl

makes_no_type : told (starting (codes "Pkt") (make (codes "Pack") (also (named (codes "ack")) (also (number 7) no_expr)))) ≡ 6 ∷ []
makes_no_type = refl

makes_a_later_type : told (kind ∷ cell (of_type (codes "x") (codes "Bool")) (Some (binary acked (Operator Eq) acked)) ∷ packet ∷ []) ≡ 6 ∷ []
makes_a_later_type = refl

makes_no_tuple : told (starting (codes "Kind") (make (codes "Kind") (also (number 7) no_expr))) ≡ 7 ∷ []
makes_no_tuple = refl

makes_of_too_few : told (starting (codes "Pkt") (make (codes "Pkt") (also (named (codes "ack")) no_expr))) ≡ 7 ∷ []
makes_of_too_few = refl

makes_of_too_many : told (starting (codes "Pkt") (make (codes "Pkt") (also (named (codes "ack")) (also (number 7) (also (number 8) no_expr))))) ≡ 7 ∷ []
makes_of_too_many = refl

makes_of_another_type : told (starting (codes "Pkt") (packed (number 7) (named (codes "ack")))) ≡ 7 ∷ []
makes_of_another_type = refl

-- a field that is not known tells nothing of types
makes_of_nothing : told (starting (codes "Pkt") (packed (named (codes "nak")) (truth true))) ≡ 6 ∷ []
makes_of_nothing = refl

takes_an_unknown_field : told (starting (codes "Int") (select acked (codes "size"))) ≡ 6 ∷ []
takes_an_unknown_field = refl

takes_a_field_of_a_number : told (starting (codes "Int") (select (number 7) (codes "tag"))) ≡ 7 ∷ []
takes_a_field_of_a_number = refl

takes_a_field_of_nothing : told (starting (codes "Int") (select (named (codes "nak")) (codes "tag"))) ≡ 6 ∷ []
takes_a_field_of_nothing = refl

-- ---- constants of positions

-- the counter whose reset is at a constant
abbrev resets_at : ConstantTree → SourceTree
resets_at k = with_entries (tick_entry ∷ record reset_entry { positions = only k ∷ [] } ∷ [])

resets_at_a_formal : told (resets_at (reference (codes "start"))) ≡ []
resets_at_a_formal = refl

resets_at_a_name_of_a_type : told (kind ∷ resets_at (reference (codes "ack"))) ≡ []
resets_at_a_name_of_a_type = refl

resets_at_a_later_name : told (resets_at (reference (codes "ack")) ++ kind ∷ []) ≡ 6 ∷ []
resets_at_a_later_name = refl

resets_at_nothing : told (resets_at (reference (codes "d"))) ≡ 6 ∷ []
resets_at_nothing = refl

resets_at_a_variable : told (resets_at (reference (codes "c"))) ≡ 6 ∷ []
resets_at_a_variable = refl

resets_at_the_least : told (resets_at (negative 9223372036854775808)) ≡ []
resets_at_the_least = refl

resets_at_less : told (resets_at (negative 9223372036854775809)) ≡ 7 ∷ []
resets_at_less = refl

resets_at_too_much : told (resets_at (positive 9223372036854775808)) ≡ 7 ∷ []
resets_at_too_much = refl

-- the counter whose tick has other positions
abbrev ticks_at : List PositionTree → SourceTree
ticks_at ps = with_entries (record tick_entry { positions = ps } ∷ reset_entry ∷ [])

-- a constant has no name, needs no proposal, and counts as a position
ticks_beside_constants : told (ticks_at (only (truth_literal true) ∷ only (positive 0) ∷ tick_entry.positions)) ≡ []
ticks_beside_constants = refl

ticks_twice : told (ticks_at (only (positive 0) ∷ tick_entry.positions ++ tick_entry.positions)) ≡ 5 ∷ []
ticks_twice = refl

ticks_at_too_many : told (ticks_at (replicate 8 (only (positive 0)) ++ tick_entry.positions)) ≡ 10 ∷ []
ticks_at_too_many = refl

-- ---- hidden names

abbrev hiding : List Name → SourceTree
hiding hidden = automaton counter ∷ composition (record (one (number 5 ∷ [])) { hidden = hidden }) ∷ []

hides_one : told (hiding (codes "tick" ∷ [])) ≡ []
hides_one = refl

hides_one_twice : told (hiding (codes "tick" ∷ codes "tick" ∷ [])) ≡ 5 ∷ []
hides_one_twice = refl

hides_one_twice_in_vain : well_formed (hiding (codes "tick" ∷ codes "tick" ∷ [])) ≡ false
hides_one_twice_in_vain = refl

hides_too_many : told (hiding (replicate 65 (codes "tick"))) ≡ 5 ∷ 10 ∷ []
hides_too_many = refl

-- ---- invariants

-- of an automaton of this name
abbrev always : Name → Expr → SourceTree
always x e = invariant (record { automaton = x; condition = e }) ∷ []

-- c compared with the formal
abbrev from_start : Expr
from_start = binary (named (codes "start")) (Operator Le) (named (codes "c"))

claims_a_truth : told (automaton counter ∷ always (codes "Counter") from_start) ≡ []
claims_a_truth = refl

-- an invariant has no name of its own
claims_twice : told (automaton counter ∷ always (codes "Counter") from_start ++ always (codes "Counter") from_start) ≡ []
claims_twice = refl

claims_of_a_later_automaton : told (always (codes "Counter") from_start ++ automaton counter ∷ []) ≡ 6 ∷ []
claims_of_a_later_automaton = refl

claims_of_a_composition : told (source ++ always (codes "One") (truth true)) ≡ 6 ∷ []
claims_of_a_composition = refl

claims_a_number : told (automaton counter ∷ always (codes "Counter") (named (codes "c"))) ≡ 7 ∷ []
claims_a_number = refl

-- a parameter is no name for an invariant
claims_of_a_parameter : told (automaton counter ∷ always (codes "Counter") (binary (named (codes "k")) (Operator Eq) (named (codes "c")))) ≡ 6 ∷ []
claims_of_a_parameter = refl

-- the cell of a kind, beside the counter
abbrev kept : Expr
kept = binary (named (codes "x")) (Operator Eq) (named (codes "x"))

claims_of_another_automaton : told (automaton counter ∷ cell (of_type (codes "x") (codes "Int")) None ∷ always (codes "Counter") kept) ≡ 6 ∷ []
claims_of_another_automaton = refl

claims_of_its_own : told (automaton counter ∷ cell (of_type (codes "x") (codes "Int")) None ∷ always (codes "Cell") kept) ≡ []
claims_of_its_own = refl

-- an enumeration that is declared between the automaton and its invariant
claims_of_constants : told (automaton counter ∷ kind ∷ always (codes "Counter") comparing) ≡ []
claims_of_constants = refl

claims_of_later_constants : told (automaton counter ∷ always (codes "Counter") comparing ++ kind ∷ []) ≡ 6 ∷ []
claims_of_later_constants = refl

claims_most : told (automaton counter ∷ flat_map (always (codes "Counter")) (replicate 256 (truth true))) ≡ []
claims_most = refl

claims_too_much : told (automaton counter ∷ flat_map (always (codes "Counter")) (replicate 257 (truth true))) ≡ 10 ∷ []
claims_too_much = refl
