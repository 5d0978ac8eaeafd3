-- Invariants: how they are spelled, read and printed, which are fine, and which states of small compositions break them, computed.
use Rattle.std.proofs.Common.{◌≡◌, ℕ, zero, suc, List, [], ◌∷◌, ◌++◌, Option, Some, None, Ok, Err, true, false, pos, refl, codes, inl, inr}
use Rattle.ioa_value.specs.Actions.{Name}
use Rattle.ioa_value.specs.Plain.{num}
use Rattle.ioa_value.specs.Table.{basic}
use Rattle.ioa_value.specs.declared.limits.TheConstants.{LIMITS}
use Rattle.ioa_value.specs.declared.operator.Op.TheVariants.{Sub, Div, Eq, Lt, Gt}
use Rattle.ioa_value.specs.declared.terminal.Terminal.{Terminal}
use Rattle.ioa_value.specs.declared.terminal.Terminal.TheVariants as terminals
use Rattle.ioa_lex.specs.Tokens as tokens
use Rattle.ioa_lex.specs.Tokens.{Tok, terminal}
use Rattle.ioa_tree.specs.declared.tree.Infix.TheVariants.{Operator}
use Rattle.ioa_lex.specs.declared.refusal.Refusal.TheVariants as refusals
use Rattle.ioa_examples.proofs.Shown.{shown}
use Rattle.ioa_tree.specs.Tree.{Expr, number, truth, named, parens, binary, InvariantTree, automaton, composition, invariant, DeclarationTree, SourceTree}
use Rattle.ioa_tree.specs.Depth.{deep}
use Rattle.ioa_grammar.specs.Grammar.{SpellsInvariant}
use Rattle.ioa_print.specs.Layout.{text_all, text_source}
use Rattle.ioa_grammar.specs.Reading.{Outcome, declaration, about_machines, machine, composed, an_invariant, perhaps, sign, a_name, sees, after, same_terminal, expression, expr, first, operand, fields_from, after_name, primary, start_at, start_of, around_of, enclosed, closing, climb, operator_at, operator_of, prefix_at, prefix_of, terminal_at}
use Rattle.ioa_tree.specs.Compositions.{Member, Composed, invariants}
use Rattle.ioa_tree.specs.Invariants.{Broken, first_broken}
use Rattle.ioa_tree.specs.WellFormed.{source_within, well_formed}
use Rattle.ioa_examples.proofs.SmallSources.{counter, one, tick}

abbrev word : Terminal → Tok
word = terminal

abbrev called : Name → Tok
called = tokens.name

-- an invariant of the counter
abbrev pub of_counter : Expr → InvariantTree
of_counter e = record { automaton = codes "Counter"; condition = e }

abbrev c : Expr
c = named (codes "c")

-- c < k
abbrev pub below : ℕ → Expr
below k = binary c (Operator Lt) (number k)

-- ---- spelling

-- of Counter: c < 7
abbrev spelled : List Tok → List Tok
spelled ts =
    word terminals.Of ∷ called (codes "Counter") ∷ word terminals.Colon ∷ called (codes "c") ∷ word terminals.Less ∷ tokens.number 7 ∷ ts

abbrev read : List Tok → Outcome DeclarationTree
read ts = declaration 6 (word terminals.Invariant ∷ ts)

reads_an_invariant : read (spelled []) ≡ Ok (invariant (of_counter (below 7)), [])
unfolding declaration about_machines an_invariant perhaps sign a_name sees after same_terminal expression expr first operand fields_from after_name primary start_at start_of climb operator_at operator_of prefix_at prefix_of terminal_at
reads_an_invariant = refl

-- with a semicolon at its end, of which there is one at most
ends_with_a_semicolon : read (spelled (word terminals.Semicolon ∷ [])) ≡ Ok (invariant (of_counter (below 7)), [])
unfolding declaration about_machines an_invariant perhaps sign a_name sees after same_terminal expression expr first operand fields_from after_name primary start_at start_of climb operator_at operator_of prefix_at prefix_of terminal_at
ends_with_a_semicolon = refl

leaves_the_second : read (spelled (word terminals.Semicolon ∷ word terminals.Semicolon ∷ []))
    ≡ Ok (invariant (of_counter (below 7)), word terminals.Semicolon ∷ [])
unfolding declaration about_machines an_invariant perhaps sign a_name sees after same_terminal expression expr first operand fields_from after_name primary start_at start_of climb operator_at operator_of prefix_at prefix_of terminal_at
leaves_the_second = refl

-- `invariant Counter` is refused at the name, `invariant of :` at `:`, and without a condition at the end
wants_of : shown (read (called (codes "Counter") ∷ [])) ≡ Err (refusals.Syntax 1)
unfolding declaration about_machines an_invariant perhaps sign a_name sees after same_terminal
wants_of = refl

wants_a_name : shown (read (word terminals.Of ∷ word terminals.Colon ∷ [])) ≡ Err (refusals.Syntax 1)
unfolding declaration about_machines an_invariant perhaps sign a_name sees after same_terminal
wants_a_name = refl

wants_a_condition : shown (read (word terminals.Of ∷ called (codes "Counter") ∷ word terminals.Colon ∷ [])) ≡ Err (refusals.Syntax 0)
unfolding declaration about_machines an_invariant perhaps sign a_name sees after same_terminal expression expr first operand primary start_at start_of prefix_at prefix_of terminal_at
wants_a_condition = refl

-- what begins no declaration is refused at its first token
wants_a_declaration : shown (declaration 6 (spelled [])) ≡ Err (refusals.Syntax 6)
unfolding declaration about_machines machine composed sign sees after same_terminal
wants_a_declaration = refl

-- of Counter: c, and of Counter: c;
spells_an_invariant : SpellsInvariant (of_counter c) (word terminals.Of ∷ called (codes "Counter") ∷ word terminals.Colon ∷ called (codes "c") ∷ [])
spells_an_invariant = (
  word terminals.Of ∷ [],
  _,
  refl,
  (
    called (codes "Counter") ∷ [],
    _,
    refl,
    (
      word terminals.Colon ∷ [],
      _,
      refl,
      (called (codes "c") ∷ [], [], refl, inr refl, refl),
      refl,
    ),
    refl,
  ),
  refl,
)

spells_a_semicolon :
    SpellsInvariant (of_counter c) (word terminals.Of ∷ called (codes "Counter") ∷ word terminals.Colon ∷ called (codes "c") ∷ word terminals.Semicolon ∷ [])
spells_a_semicolon = (
  word terminals.Of ∷ [],
  _,
  refl,
  (
    called (codes "Counter") ∷ [],
    _,
    refl,
    (
      word terminals.Colon ∷ [],
      _,
      refl,
      (called (codes "c") ∷ [], word terminals.Semicolon ∷ [], refl, inl refl, refl),
      refl,
    ),
    refl,
  ),
  refl,
)

prints_invariants : text_source (invariant (of_counter (binary c (Operator Lt) (named (codes "start")))) ∷ []) ≡ codes "invariant of Counter : c < start\n"
unfolding text_all
prints_invariants = refl

-- ---- depth

-- true between so many pairs of parentheses
abbrev nested : ℕ → Expr
nested zero = truth true
nested (suc k) = parens (nested k)

abbrev opened : ℕ → List Tok → List Tok
opened zero ts = ts
opened (suc k) ts = word terminals.Open ∷ opened k ts

abbrev closed : ℕ → List Tok
closed zero = []
closed (suc k) = word terminals.Close ∷ closed k

-- of Counter: ((.. true ..))
abbrev read_nested : ℕ → Outcome InvariantTree
read_nested k =
    an_invariant LIMITS.depth (word terminals.Of ∷ called (codes "Counter") ∷ word terminals.Colon ∷ opened k (word terminals.True ∷ closed k))

-- an invariant is as deep as its condition: 64 levels are read, and 65 are too deep
is_as_deep : (deep (invariant (of_counter (nested 63))) ≡ 64) × (deep (invariant (of_counter (nested 64))) ≡ 65)
is_as_deep = (refl, refl)

goes_as_deep : read_nested 63 ≡ Ok (of_counter (nested 63), [])
unfolding an_invariant perhaps sign a_name sees after same_terminal expression expr first operand fields_from after_name primary start_at start_of around_of enclosed closing climb operator_at operator_of prefix_at prefix_of terminal_at
goes_as_deep = refl

goes_too_deep : shown (read_nested 64) ≡ Err (refusals.TooDeep 0)
unfolding an_invariant perhaps sign a_name sees after same_terminal expression expr first operand fields_from after_name primary start_at start_of around_of enclosed closing climb operator_at operator_of prefix_at prefix_of terminal_at
goes_too_deep = refl

-- ---- which are fine

-- the counter, these invariants, and the composition
abbrev pub claiming : List DeclarationTree → SourceTree
claiming is = automaton counter ∷ (is ++ composition (one (number 5 ∷ [])) ∷ [])

takes_an_invariant : well_formed (claiming (invariant (of_counter (below 7)) ∷ [])) ≡ true
takes_an_invariant = refl

-- it has no name of its own, so that there may be two
takes_two : well_formed (claiming (invariant (of_counter (below 7)) ∷ invariant (of_counter (below 7)) ∷ [])) ≡ true
takes_two = refl

-- formals may be named, parameters may not
takes_formals : well_formed (claiming (invariant (of_counter (binary (named (codes "start")) (Operator Lt) (number 7))) ∷ [])) ≡ true
takes_formals = refl

takes_no_parameter : well_formed (claiming (invariant (of_counter (binary (named (codes "k")) (Operator Lt) (number 7))) ∷ [])) ≡ false
takes_no_parameter = refl

-- a condition that is an Int
claims_a_number : well_formed (claiming (invariant (of_counter c) ∷ [])) ≡ false
claims_a_number = refl

-- an invariant before its automaton, and one of a composition
claims_too_early : well_formed (invariant (of_counter (below 7)) ∷ claiming []) ≡ false
claims_too_early = refl

is_of_no_automaton : well_formed (claiming [] ++ invariant (record { automaton = codes "One"; condition = truth true }) ∷ []) ≡ false
is_of_no_automaton = refl

abbrev many_times : ℕ → SourceTree
many_times zero = []
many_times (suc n) = invariant (of_counter (truth true)) ∷ many_times n

takes_many : source_within LIMITS (many_times 256) ≡ true
takes_many = refl

takes_too_many : source_within LIMITS (many_times 257) ≡ false
takes_too_many = refl

-- they are numbered in their order
keeps_their_order : invariants (invariant (of_counter (below 7)) ∷ claiming (invariant (of_counter (below 9)) ∷ []))
    ≡ of_counter (below 7) ∷ of_counter (below 9) ∷ []
keeps_their_order = refl

-- ---- which states break them

abbrev counting_from : Name → ℕ → Member
counting_from x n = record { name = x; instance = record { types = basic; automaton = counter; arguments = num (pos n) ∷ [] }; starts = num (pos n) ∷ []; declared = 1 }

abbrev pub claims : List Member → List InvariantTree → Composed
claims ms is = record { types = basic; name = codes "One"; members = ms; hidden = []; invariants = is }

-- the counter from 5
abbrev five : List Member
five = counting_from (codes "A") 5 ∷ []

abbrev broken : ℕ → ℕ → ℕ → Option Broken
broken n j k = Some (record { state = n; component = j; invariant = k })

breaks_in_time : first_broken (claims five (of_counter (below 7) ∷ [])) (tick 5 ∷ tick 6 ∷ []) ≡ broken 2 0 0
breaks_in_time = refl

holds_before : first_broken (claims five (of_counter (below 7) ∷ [])) (tick 5 ∷ []) ≡ None
holds_before = refl

-- states that are not reached break nothing: tick(7) is not enabled
breaks_where_it_goes : first_broken (claims five (of_counter (below 6) ∷ [])) (tick 7 ∷ tick 5 ∷ []) ≡ None
breaks_where_it_goes = refl

breaks_at_the_start : first_broken (claims five (of_counter (below 5) ∷ [])) (tick 5 ∷ []) ≡ broken 0 0 0
breaks_at_the_start = refl

-- 1 div (c - 6) > 0 - 2 is true at 5, and has no value at 6
abbrev faulty : Expr
faulty =
    let quotient = binary (number 1) (Operator Div) (parens (binary c (Operator Sub) (number 6))) in
    binary quotient (Operator Gt) (binary (number 0) (Operator Sub) (number 2))

faults_break : first_broken (claims five (of_counter (below 9) ∷ of_counter faulty ∷ [])) (tick 5 ∷ tick 6 ∷ []) ≡ broken 1 0 1
faults_break = refl

-- formals stand for the arguments
knows_its_arguments : first_broken (claims five (of_counter (binary c (Operator Eq) (named (codes "start"))) ∷ [])) (tick 5 ∷ []) ≡ broken 1 0 0
knows_its_arguments = refl

-- those of other automata are passed over, but counted
passes_others_over :
    first_broken (claims five (record { automaton = codes "Other"; condition = truth false } ∷ of_counter (below 7) ∷ [])) (tick 5 ∷ tick 6 ∷ [])
    ≡ broken 2 0 1
passes_others_over = refl

-- counters from 5 and from 9
abbrev two : List Member
two = counting_from (codes "A") 5 ∷ counting_from (codes "B") 9 ∷ []

-- c < 9 is not true of the second counter, and c > 5 not of the first: the first component is told
least_component : first_broken (claims two (of_counter (below 9) ∷ of_counter (binary c (Operator Gt) (number 5)) ∷ [])) [] ≡ broken 0 0 1
least_component = refl

-- c < 6 is not true of the second at the start, nor of the first after tick(5): the first state is told
least_state : first_broken (claims two (of_counter (below 6) ∷ [])) (tick 5 ∷ []) ≡ broken 0 1 0
least_state = refl
