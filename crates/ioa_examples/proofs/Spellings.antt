-- Small lists of tokens, what they spell and how they are read: operators around their operands, empty sequences, tuples and fields,
-- declarations of types, constants of positions, hidden names, stable variables, crash and recover.
use Rattle.std.proofs.Common.{◌≡◌, ℕ, Bool, true, false, List, [], ◌∷◌, ◌++◌, Option, Some, None, Ok, Err, refl, codes, inl, inr, arith}
use Rattle.ioa_value.specs.Actions.{Name}
use Rattle.ioa_value.specs.declared.terminal.Terminal.{Terminal}
use Rattle.ioa_value.specs.declared.terminal.Terminal.TheVariants as terminals
use Rattle.ioa_value.specs.declared.operator.Op.TheVariants.{Neg, Add, Eq, Not, Len, Head, Append, Member, Field}
use Rattle.ioa_lex.specs.Tokens as tokens
use Rattle.ioa_lex.specs.Tokens.{Tok, terminal}
use Rattle.ioa_tree.specs.declared.tree.Infix.TheVariants.{Operator, And}
use Rattle.ioa_tree.specs.declared.tree.Kind.TheVariants.{Input}
use Rattle.ioa_lex.specs.declared.refusal.Refusal.TheVariants as refusals
use Rattle.ioa_examples.proofs.Shown.{shown}
use Rattle.ioa_tree.specs.Tree.{Expr, number, truth, named, parens, prefix, binary, empty, make, select, no_expr, also, positive, negative, truth_literal, reference, PositionTree, typed, only, EntryTree, VariableTree, CrashTree, InstanceTree, CompositionTree, FormTree, enumeration, tuple, sequence, TypeTree, declared_type, composition}
use Rattle.ioa_tree.specs.Depth.{depth_of}
use Rattle.ioa_grammar.specs.Grammar.{SpellsExpr, SpellsPosition, SpellsVariable, SpellsHidden, SpellsInstance}
use Rattle.ioa_print.specs.Layout.{space, line, text_number, text_expr, text_position, text_entry, text_variable, text_instance, text_all, text_type, text_source}
use Rattle.ioa_grammar.specs.Reading.{Outcome, expression, expr, first, operand, fields_from, after_name, primary, start_at, start_of, around_of, around, around_one, around_two, an_empty, enclosed, closing, climb, operator_at, operator_of, prefix_at, prefix_of, terminal_at, same_terminal, sign, a_name, a_number, sees, after, items_from, separated, braced, field, an_enumeration, a_tuple, a_sequence, sequence_form, compound_form, type_form, a_type, literal, literal_at, literal_of, a_constant, position, positions, optional_list, kind_of, kind_at, a_kind, entry, perhaps, terminated, optional, flag, variable, variables, sees_variable, sees_name, arguments, a_crash, instance, instances, hidden_names, a_composition}

abbrev word : Terminal → Tok
word = terminal

abbrev n : ℕ → Tok
n = tokens.number

abbrev called : Name → Tok
called = tokens.name

-- what stands between parentheses
abbrev within : List Tok → List Tok
within ts = word terminals.Open ∷ (ts ++ word terminals.Close ∷ [])

-- .name
abbrev dot : Name → List Tok
dot f = word terminals.Dot ∷ called f ∷ []

-- P(1, true)
abbrev pair : List Tok
pair = called (codes "P") ∷ within (n 1 ∷ word terminals.Comma ∷ word terminals.True ∷ [])

abbrev s : Expr
s = named (codes "s")

abbrev x : Expr
x = named (codes "x")

-- at most six levels
abbrev read : List Tok → Outcome Expr
read ts = expression 6 ts

-- ---- operators around their operands

-- len(s)
takes_one : read (word terminals.Len ∷ within (called (codes "s") ∷ [])) ≡ Ok (prefix Len s, [])
unfolding expression expr first prefix_at prefix_of operand primary after_name fields_from after start_at start_of around_of around around_one enclosed closing climb operator_at operator_of terminal_at same_terminal sign sees
takes_one = refl

-- append(s, 1)
takes_two : read (word terminals.Append ∷ within (called (codes "s") ∷ word terminals.Comma ∷ n 1 ∷ [])) ≡ Ok (binary s (Operator Append) (number 1), [])
unfolding expression expr first prefix_at prefix_of operand primary after_name fields_from after start_at start_of around_of around around_two enclosed closing climb operator_at operator_of terminal_at same_terminal sign sees
takes_two = refl

-- empty(Ints)
takes_a_name : read (word terminals.Empty ∷ within (called (codes "Ints") ∷ [])) ≡ Ok (empty (codes "Ints"), [])
unfolding expression expr first prefix_at prefix_of operand primary after_name fields_from after start_at start_of an_empty enclosed closing a_name climb operator_at operator_of terminal_at same_terminal sign sees
takes_a_name = refl

-- member(x, append(s, head(s)))
nests : read (word terminals.Member ∷ within (called (codes "x") ∷ word terminals.Comma ∷ word terminals.Append ∷ within (called (codes "s") ∷ word terminals.Comma ∷ word terminals.Head ∷ within (called (codes "s") ∷ []))))
    ≡ Ok (binary x (Operator Member) (binary s (Operator Append) (prefix Head s)), [])
unfolding expression expr first prefix_at prefix_of operand primary after_name fields_from after start_at start_of around_of around around_one around_two enclosed closing climb operator_at operator_of terminal_at same_terminal sign sees
nests = refl

-- -len(s) + 1 is (-len(s)) + 1
negates_a_length : read (word terminals.Minus ∷ word terminals.Len ∷ (within (called (codes "s") ∷ []) ++ word terminals.Plus ∷ n 1 ∷ [])) ≡ Ok (binary (prefix Neg (prefix Len s)) (Operator Add) (number 1), [])
unfolding expression expr first prefix_at prefix_of operand primary after_name fields_from after start_at start_of around_of around around_one enclosed closing climb operator_at operator_of terminal_at same_terminal sign sees
negates_a_length = refl

-- ~ member(x, s) /\ b is (~ member(x, s)) /\ b
denies_a_member : read (word terminals.Not ∷ word terminals.Member ∷ (within (called (codes "x") ∷ word terminals.Comma ∷ called (codes "s") ∷ []) ++ word terminals.And ∷ called (codes "b") ∷ []))
    ≡ Ok (binary (prefix Not (binary x (Operator Member) s)) And (named (codes "b")), [])
unfolding expression expr first prefix_at prefix_of operand primary after_name fields_from after start_at start_of around_of around around_two enclosed closing climb operator_at operator_of terminal_at same_terminal sign sees
denies_a_member = refl

-- append(s) is refused at `)`
wants_two : shown (read (word terminals.Append ∷ within (called (codes "s") ∷ []))) ≡ Err (refusals.Syntax 1)
unfolding expression expr first prefix_at prefix_of operand primary after_name fields_from after start_at start_of around_of around around_two enclosed closing climb operator_at operator_of terminal_at same_terminal sign sees
wants_two = refl

-- len(x, s) is refused at `,`
wants_one : shown (read (word terminals.Len ∷ within (called (codes "x") ∷ word terminals.Comma ∷ called (codes "s") ∷ []))) ≡ Err (refusals.Syntax 3)
unfolding expression expr first prefix_at prefix_of operand primary after_name fields_from after start_at start_of around_of around around_one enclosed closing climb operator_at operator_of terminal_at same_terminal sign sees
wants_one = refl

-- len() is refused at `)`
wants_any : shown (read (word terminals.Len ∷ within [])) ≡ Err (refusals.Syntax 1)
unfolding expression expr first prefix_at prefix_of operand primary after_name fields_from after start_at start_of around_of around around_one enclosed closing terminal_at same_terminal sign sees
wants_any = refl

-- len s is refused at s
wants_parentheses : shown (read (word terminals.Len ∷ called (codes "s") ∷ [])) ≡ Err (refusals.Syntax 1)
unfolding expression expr first prefix_at prefix_of operand primary after_name fields_from after start_at start_of around_of around around_one enclosed terminal_at same_terminal sign sees
wants_parentheses = refl

-- empty(1) is refused at 1
wants_a_name : shown (read (word terminals.Empty ∷ within (n 1 ∷ []))) ≡ Err (refusals.Syntax 2)
unfolding expression expr first prefix_at prefix_of operand primary after_name fields_from after start_at start_of an_empty enclosed closing a_name terminal_at same_terminal sign sees
wants_a_name = refl

-- ---- tuples and fields

-- P(1, true)
makes_a_tuple : read (pair ++ []) ≡ Ok (make (codes "P") (also (number 1) (also (truth true) no_expr)), [])
unfolding expression expr first prefix_at prefix_of operand primary start_at start_of after_name fields_from sees after a_name separated items_from sign closing climb operator_at operator_of terminal_at same_terminal
makes_a_tuple = refl

-- P(1, true).a
takes_a_field : read (pair ++ dot (codes "a")) ≡ Ok (select (make (codes "P") (also (number 1) (also (truth true) no_expr))) (codes "a"), [])
unfolding expression expr first prefix_at prefix_of operand primary start_at start_of after_name fields_from sees after a_name separated items_from sign closing climb operator_at operator_of terminal_at same_terminal
takes_a_field = refl

-- x.a.b
takes_fields_in_turn : read (called (codes "x") ∷ (dot (codes "a") ++ dot (codes "b"))) ≡ Ok (select (select x (codes "a")) (codes "b"), [])
unfolding expression expr first prefix_at prefix_of operand primary start_at start_of after_name fields_from sees after a_name separated items_from sign closing climb operator_at operator_of terminal_at same_terminal
takes_fields_in_turn = refl

-- - x.a is -(x.a)
negates_a_field : read (word terminals.Minus ∷ called (codes "x") ∷ dot (codes "a")) ≡ Ok (prefix Neg (select x (codes "a")), [])
unfolding expression expr first prefix_at prefix_of operand primary start_at start_of after_name fields_from sees after a_name separated items_from sign closing climb operator_at operator_of terminal_at same_terminal
negates_a_field = refl

-- f.a + g.b is (f.a) + (g.b)
adds_fields : read (called (codes "f") ∷ (dot (codes "a") ++ word terminals.Plus ∷ called (codes "g") ∷ dot (codes "b")))
    ≡ Ok (binary (select (named (codes "f")) (codes "a")) (Operator Add) (select (named (codes "g")) (codes "b")), [])
unfolding expression expr first prefix_at prefix_of operand primary start_at start_of after_name fields_from sees after a_name separated items_from sign closing climb operator_at operator_of terminal_at same_terminal
adds_fields = refl

-- head(q).tag = 1
takes_a_field_of_a_head : read (word terminals.Head ∷ (within (called (codes "q") ∷ []) ++ (dot (codes "tag") ++ word terminals.Equal ∷ n 1 ∷ [])))
    ≡ Ok (binary (select (prefix Head (named (codes "q"))) (codes "tag")) (Operator Eq) (number 1), [])
unfolding expression expr first prefix_at prefix_of operand primary start_at start_of around_of around around_one enclosed after_name fields_from sees after a_name separated items_from sign closing climb operator_at operator_of terminal_at same_terminal
takes_a_field_of_a_head = refl

-- (x).a
takes_a_field_of_parentheses : read (within (called (codes "x") ∷ []) ++ dot (codes "a")) ≡ Ok (select (parens x) (codes "a"), [])
unfolding expression expr first prefix_at prefix_of operand primary start_at start_of after_name fields_from sees after a_name separated items_from sign closing climb operator_at operator_of terminal_at same_terminal
takes_a_field_of_parentheses = refl

-- P(Q(1), head(q))
makes_of_tuples : read (called (codes "P") ∷ within (called (codes "Q") ∷ (within (n 1 ∷ []) ++ word terminals.Comma ∷ word terminals.Head ∷ within (called (codes "q") ∷ []))))
    ≡ Ok (make (codes "P") (also (make (codes "Q") (also (number 1) no_expr)) (also (prefix Head (named (codes "q"))) no_expr)), [])
unfolding expression expr first prefix_at prefix_of operand primary start_at start_of around_of around around_one enclosed after_name fields_from sees after a_name separated items_from sign closing climb operator_at operator_of terminal_at same_terminal
makes_of_tuples = refl

-- P() is refused at `)`, and so is P(1,)
wants_a_field : shown (read (called (codes "P") ∷ within [])) ≡ Err (refusals.Syntax 1)
unfolding expression expr first prefix_at prefix_of operand primary start_at start_of around_of after_name fields_from sees after a_name separated items_from sign closing climb operator_at operator_of terminal_at same_terminal
wants_a_field = refl

wants_another_field : shown (read (called (codes "P") ∷ within (n 1 ∷ word terminals.Comma ∷ []))) ≡ Err (refusals.Syntax 1)
unfolding expression expr first prefix_at prefix_of operand primary start_at start_of around_of after_name fields_from sees after a_name separated items_from sign closing climb operator_at operator_of terminal_at same_terminal
wants_another_field = refl

-- x. is refused at the end, and x.(a) at `(`
wants_a_field_name : shown (read (called (codes "x") ∷ word terminals.Dot ∷ [])) ≡ Err (refusals.Syntax 0)
unfolding expression expr first prefix_at prefix_of operand primary start_at start_of after_name fields_from sees after a_name separated items_from sign closing climb operator_at operator_of terminal_at same_terminal
wants_a_field_name = refl

takes_no_parentheses : shown (read (called (codes "x") ∷ word terminals.Dot ∷ within (called (codes "a") ∷ []))) ≡ Err (refusals.Syntax 3)
unfolding expression expr first prefix_at prefix_of operand primary start_at start_of after_name fields_from sees after a_name separated items_from sign closing climb operator_at operator_of terminal_at same_terminal
takes_no_parentheses = refl

-- of 1 2, 1(2) and x.a(b) the tokens behind the first operand are left
reads_one : read (n 1 ∷ n 2 ∷ []) ≡ Ok (number 1, n 2 ∷ [])
unfolding expression expr first prefix_at prefix_of operand primary start_at start_of after_name fields_from sees after a_name separated items_from sign closing climb operator_at operator_of terminal_at same_terminal
reads_one = refl

makes_of_names_alone : read (n 1 ∷ within (n 2 ∷ [])) ≡ Ok (number 1, within (n 2 ∷ []))
unfolding expression expr first prefix_at prefix_of operand primary start_at start_of after_name fields_from sees after a_name separated items_from sign closing climb operator_at operator_of terminal_at same_terminal
makes_of_names_alone = refl

calls_no_field : read (called (codes "x") ∷ (dot (codes "a") ++ within (called (codes "b") ∷ []))) ≡ Ok (select x (codes "a"), within (called (codes "b") ∷ []))
unfolding expression expr first prefix_at prefix_of operand primary start_at start_of after_name fields_from sees after a_name separated items_from sign closing climb operator_at operator_of terminal_at same_terminal
calls_no_field = refl

-- x.a.b is three levels deep
deepens_by_fields : depth_of (select (select x (codes "a")) (codes "b")) ≡ 3
deepens_by_fields = refl

fields_go_too_deep : shown (expression 2 (called (codes "x") ∷ (dot (codes "a") ++ dot (codes "b")))) ≡ Err (refusals.TooDeep 0)
unfolding expression expr first prefix_at prefix_of operand primary start_at start_of after_name fields_from sees after a_name separated items_from sign closing climb operator_at operator_of terminal_at same_terminal
fields_go_too_deep = refl

fields_go_as_deep : expression 3 (called (codes "x") ∷ (dot (codes "a") ++ dot (codes "b"))) ≡ Ok (select (select x (codes "a")) (codes "b"), [])
unfolding expression expr first prefix_at prefix_of operand primary start_at start_of after_name fields_from sees after a_name separated items_from sign closing climb operator_at operator_of terminal_at same_terminal
fields_go_as_deep = refl

-- ---- depth

-- len(len(s)) is three levels deep
goes_deeper : depth_of (prefix Len (prefix Len s)) ≡ 3
goes_deeper = refl

goes_too_deep : shown (expression 2 (word terminals.Len ∷ within (word terminals.Len ∷ within (called (codes "s") ∷ [])))) ≡ Err (refusals.TooDeep 0)
unfolding expression expr first prefix_at prefix_of operand primary after_name fields_from after start_at start_of around_of around around_one enclosed closing terminal_at same_terminal sign sees
goes_too_deep = refl

-- ---- what the grammar says of them

-- len(s), at each level
spells_one : (k : ℕ) → SpellsExpr k (prefix Len s) (word terminals.Len ∷ within (called (codes "s") ∷ []))
spells_one k =
    inr (
      refl,
      (
        word terminals.Len ∷ [],
        within (called (codes "s") ∷ []),
        refl,
        (word terminals.Open ∷ [], called (codes "s") ∷ word terminals.Close ∷ [], refl, (called (codes "s") ∷ [], word terminals.Close ∷ [], refl, refl, refl), refl),
        refl,
      ),
    )

-- empty(Ints), at each level
spells_empty : (k : ℕ) → SpellsExpr k (empty (codes "Ints")) (word terminals.Empty ∷ within (called (codes "Ints") ∷ []))
spells_empty k = (
  word terminals.Empty ∷ [],
  within (called (codes "Ints") ∷ []),
  refl,
  (word terminals.Open ∷ [], called (codes "Ints") ∷ word terminals.Close ∷ [], refl, (called (codes "Ints") ∷ [], word terminals.Close ∷ [], refl, refl, refl), refl),
  refl,
)

-- x.a, at each level
spells_field : (k : ℕ) → SpellsExpr k (select x (codes "a")) (called (codes "x") ∷ dot (codes "a"))
spells_field k = (called (codes "x") ∷ [], dot (codes "a"), refl, (word terminals.Dot ∷ [], called (codes "a") ∷ [], refl, refl, refl), refl)

-- nothing spells a tuple without fields
makes_of_some : (k : ℕ) (ts : List Tok) → SpellsExpr k (make (codes "P") no_expr) ts → ⊥
makes_of_some k ts m = m.3.3.2

-- nothing spells a field of a sum without parentheses
takes_no_field_of_a_sum : (k : ℕ) (ts : List Tok) → SpellsExpr k (select (binary s (Operator Add) x) (codes "a")) ts → ⊥
takes_no_field_of_a_sum k ts m =
    elim m.2 [
      | inl between ↦ absurd (omega (arith, between.1))
      | inr around ↦ absurd (omega (arith, around.0))
    ]

-- nothing spells an operator on another number of operands than it is written around, nor one that no word is for
appends_two : (k : ℕ) (ts : List Tok) → SpellsExpr k (prefix Append s) ts → ⊥
appends_two k ts (inl m) = absurd (cc (m.0))
appends_two k ts (inr m) = absurd (omega (arith, m.0))

measures_one : (k : ℕ) (ts : List Tok) → SpellsExpr k (binary s (Operator Len) x) ts → ⊥
measures_one k ts (inl m) = absurd (cc (m.0))
measures_one k ts (inr m) = absurd (omega (arith, m.0))

takes_no_field : (j k : ℕ) (ts : List Tok) → SpellsExpr k (prefix (Field j) s) ts → ⊥
takes_no_field j k ts (inl m) = absurd (cc (m.0))
takes_no_field j k ts (inr m) = absurd (omega (arith, m.0))

-- ---- declarations of types, after the word `type`

abbrev declares : List Tok → Outcome TypeTree
declares ts = a_type (called (codes "T") ∷ word terminals.Equal ∷ ts)

abbrev is : FormTree → TypeTree
is form = record { name = codes "T"; form = form }

abbrev braces : List Tok → List Tok
braces ts = word terminals.OpenBrace ∷ (ts ++ word terminals.CloseBrace ∷ [])

-- a : Int
abbrev field_a : List Tok
field_a = called (codes "a") ∷ word terminals.Colon ∷ called (codes "Int") ∷ []

-- type T = enum { data, ack }
declares_names : declares (word terminals.Enum ∷ braces (called (codes "data") ∷ word terminals.Comma ∷ called (codes "ack") ∷ [])) ≡ Ok (is (enumeration (codes "data" ∷ codes "ack" ∷ [])), [])
unfolding a_type type_form an_enumeration braced separated items_from sees after sign a_name same_terminal
declares_names = refl

-- type T = tuple { a: Int }
declares_fields : declares (word terminals.Tuple ∷ braces field_a) ≡ Ok (is (tuple (record { name = codes "a"; ty = codes "Int" } ∷ [])), [])
unfolding a_type type_form compound_form a_tuple field braced separated items_from sees after sign a_name same_terminal
declares_fields = refl

-- type T = seq 16 of Int
declares_items : declares (word terminals.Seq ∷ n 16 ∷ word terminals.Of ∷ called (codes "Int") ∷ []) ≡ Ok (is (sequence 16 (codes "Int")), [])
unfolding a_type type_form compound_form sequence_form a_sequence a_number sees after sign a_name same_terminal
declares_items = refl

-- enum { } and tuple { } are refused at `}`, and so is a comma before it
wants_names : shown (declares (word terminals.Enum ∷ braces [])) ≡ Err (refusals.Syntax 1)
unfolding a_type type_form an_enumeration braced separated items_from sees after sign a_name same_terminal
wants_names = refl

wants_fields : shown (declares (word terminals.Tuple ∷ braces [])) ≡ Err (refusals.Syntax 1)
unfolding a_type type_form compound_form a_tuple field braced separated items_from sees after sign a_name same_terminal
wants_fields = refl

ends_with_a_name : shown (declares (word terminals.Enum ∷ braces (called (codes "data") ∷ word terminals.Comma ∷ []))) ≡ Err (refusals.Syntax 1)
unfolding a_type type_form an_enumeration braced separated items_from sees after sign a_name same_terminal
ends_with_a_name = refl

-- seq 16 Int is refused at Int, and seq of Int at `of`
wants_of : shown (declares (word terminals.Seq ∷ n 16 ∷ called (codes "Int") ∷ [])) ≡ Err (refusals.Syntax 1)
unfolding a_type type_form compound_form sequence_form a_sequence a_number sees after sign a_name same_terminal
wants_of = refl

wants_a_number : shown (declares (word terminals.Seq ∷ word terminals.Of ∷ called (codes "Int") ∷ [])) ≡ Err (refusals.Syntax 2)
unfolding a_type type_form compound_form sequence_form a_sequence a_number sees after sign a_name same_terminal
wants_a_number = refl

-- type T = Int is refused at Int
wants_a_form : shown (declares (called (codes "Int") ∷ [])) ≡ Err (refusals.Syntax 1)
unfolding a_type type_form compound_form sequence_form sees after sign a_name same_terminal
wants_a_form = refl

-- ---- constants of positions

abbrev comma : Tok
comma = word terminals.Comma

abbrev const : Tok
const = word terminals.Const

-- input put(..)
abbrev enters : List Tok → Outcome EntryTree
enters ts = entry (word terminals.Input ∷ called (codes "put") ∷ within ts)

abbrev put : List PositionTree → EntryTree
put ps = record { kind = Input; name = codes "put"; positions = ps }

abbrev parameter_a : PositionTree
parameter_a = typed (record { name = codes "a"; ty = codes "Int" })

-- input put(const 0, a: Int)
takes_a_constant : enters (const ∷ n 0 ∷ comma ∷ field_a) ≡ Ok (put (only (positive 0) ∷ parameter_a ∷ []), [])
unfolding entry a_kind kind_at kind_of terminal_at optional_list positions position field a_constant literal literal_at literal_of closing separated items_from sees after sign a_name a_number same_terminal
takes_a_constant = refl

-- input put(const -5, const true, const data)
takes_constants : enters (const ∷ word terminals.Minus ∷ n 5 ∷ comma ∷ const ∷ word terminals.True ∷ comma ∷ const ∷ called (codes "data") ∷ [])
    ≡ Ok (put (only (negative 5) ∷ only (truth_literal true) ∷ only (reference (codes "data")) ∷ []), [])
unfolding entry a_kind kind_at kind_of terminal_at optional_list positions position field a_constant literal literal_at literal_of closing separated items_from sees after sign a_name a_number same_terminal
takes_constants = refl

-- put(const) is refused at `)`, put(const -a) at a, and put(const a: Int) at `:`
wants_a_constant : shown (enters (const ∷ [])) ≡ Err (refusals.Syntax 1)
unfolding entry a_kind kind_at kind_of terminal_at optional_list positions position field a_constant literal literal_at literal_of closing separated items_from sees after sign a_name a_number same_terminal
wants_a_constant = refl

wants_digits : shown (enters (const ∷ word terminals.Minus ∷ called (codes "a") ∷ [])) ≡ Err (refusals.Syntax 2)
unfolding entry a_kind kind_at kind_of terminal_at optional_list positions position field a_constant literal literal_at literal_of closing separated items_from sees after sign a_name a_number same_terminal
wants_digits = refl

wants_no_type : shown (enters (const ∷ field_a)) ≡ Err (refusals.Syntax 3)
unfolding entry a_kind kind_at kind_of terminal_at optional_list positions position field a_constant literal literal_at literal_of closing separated items_from sees after sign a_name a_number same_terminal
wants_no_type = refl

-- const -5
spells_a_constant : SpellsPosition (only (negative 5)) (const ∷ word terminals.Minus ∷ n 5 ∷ [])
spells_a_constant = (const ∷ [], word terminals.Minus ∷ n 5 ∷ [], refl, (word terminals.Minus ∷ [], n 5 ∷ [], refl, refl, refl), refl)

-- ---- hidden names

-- composition C components c: A; hidden ..
abbrev composes : List Tok → Outcome CompositionTree
composes ts =
    a_composition 6 (called (codes "C") ∷ word terminals.Components ∷ called (codes "c") ∷ word terminals.Colon ∷ called (codes "A") ∷ word terminals.Semicolon ∷ word terminals.Hidden ∷ ts)

abbrev hides : List Name → CompositionTree
hides ns = record { name = codes "C"; instances = record { name = codes "c"; automaton = codes "A"; arguments = []; crash = None } ∷ []; hidden = ns }

abbrev a_and_b : List Tok
a_and_b = called (codes "a") ∷ comma ∷ called (codes "b") ∷ []

hides_names : composes a_and_b ≡ Ok (hides (codes "a" ∷ codes "b" ∷ []), [])
unfolding a_composition instances instance terminated optional_list optional hidden_names perhaps separated items_from sees_name sees after sign a_name same_terminal
hides_names = refl

-- with a semicolon at their end
ends_with_a_semicolon : composes (a_and_b ++ word terminals.Semicolon ∷ []) ≡ Ok (hides (codes "a" ∷ codes "b" ∷ []), [])
unfolding a_composition instances instance terminated optional_list optional hidden_names perhaps separated items_from sees_name sees after sign a_name same_terminal
ends_with_a_semicolon = refl

-- `hidden` alone is refused at the end, and so is a comma there
wants_a_hidden_name : shown (composes []) ≡ Err (refusals.Syntax 0)
unfolding a_composition instances instance terminated optional_list optional hidden_names perhaps separated items_from sees_name sees after sign a_name same_terminal
wants_a_hidden_name = refl

wants_another_name : shown (composes (a_and_b ++ comma ∷ [])) ≡ Err (refusals.Syntax 0)
unfolding a_composition instances instance terminated optional_list optional hidden_names perhaps separated items_from sees_name sees after sign a_name same_terminal
wants_another_name = refl

-- nothing spells no hidden names
hides_some : (ts : List Tok) → SpellsHidden [] ts → ⊥
hides_some ts m = m.2

-- ---- stable variables

abbrev semicolon : Tok
semicolon = word terminals.Semicolon

abbrev stable : Tok
stable = word terminals.Stable

-- t: Int := 1
abbrev begins_at_one : List Tok
begins_at_one = called (codes "t") ∷ word terminals.Colon ∷ called (codes "Int") ∷ word terminals.Becomes ∷ n 1 ∷ []

abbrev variable_t : Bool → VariableTree
variable_t stable = record { stable = stable; field = record { name = codes "t"; ty = codes "Int" }; start = Some (number 1) }

abbrev variable_a : Bool → VariableTree
variable_a stable = record { stable = stable; field = record { name = codes "a"; ty = codes "Int" }; start = None }

-- stable t: Int := 1; a: Int
keeps_the_first : variables 6 (stable ∷ (begins_at_one ++ semicolon ∷ field_a)) ≡ Ok (variable_t true ∷ variable_a false ∷ [], [])
unfolding variables variable flag sees_variable field optional terminated items_from sees_name sees after sign a_name same_terminal expression expr first prefix_at prefix_of operand primary start_at start_of after_name fields_from climb operator_at operator_of terminal_at
keeps_the_first = refl

-- a: Int; stable t: Int := 1
keeps_the_last : variables 6 (field_a ++ semicolon ∷ stable ∷ begins_at_one) ≡ Ok (variable_a false ∷ variable_t true ∷ [], [])
unfolding variables variable flag sees_variable field optional terminated items_from sees_name sees after sign a_name same_terminal expression expr first prefix_at prefix_of operand primary start_at start_of after_name fields_from climb operator_at operator_of terminal_at
keeps_the_last = refl

-- with a semicolon at their end
ends_the_variables : variables 6 (stable ∷ (field_a ++ semicolon ∷ word terminals.Transitions ∷ []))
    ≡ Ok (variable_a true ∷ [], word terminals.Transitions ∷ [])
unfolding variables variable flag sees_variable field optional terminated items_from sees_name sees after sign a_name same_terminal
ends_the_variables = refl

-- `stable` alone is refused at the end, and twice at the second
wants_a_variable : shown (variables 6 (stable ∷ [])) ≡ Err (refusals.Syntax 0)
unfolding variables variable flag field terminated items_from sees after sign a_name same_terminal
wants_a_variable = refl

keeps_once : shown (variables 6 (stable ∷ stable ∷ field_a)) ≡ Err (refusals.Syntax 4)
unfolding variables variable flag field terminated items_from sees after sign a_name same_terminal
keeps_once = refl

spells_a_stable_variable : SpellsVariable (variable_a true) (stable ∷ field_a)
spells_a_stable_variable = (
  stable ∷ [],
  field_a,
  refl,
  (field_a, [], (called (codes "a") ∷ [], _, refl, (word terminals.Colon ∷ [], called (codes "Int") ∷ [], refl, refl, refl), refl), refl, refl),
  refl,
)

-- ---- crash and recover

-- A: Host ..
abbrev stands : List Tok → Outcome InstanceTree
stands ts = instance 6 (called (codes "A") ∷ word terminals.Colon ∷ called (codes "Host") ∷ ts)

abbrev down_and_up : Option CrashTree
down_and_up = Some (record { crash = codes "down"; recover = codes "up" })

abbrev host : List Expr → Option CrashTree → InstanceTree
host es c = record { name = codes "A"; automaton = codes "Host"; arguments = es; crash = c }

-- crash down recover up
abbrev crashes : List Tok
crashes = word terminals.Crash ∷ called (codes "down") ∷ word terminals.Recover ∷ called (codes "up") ∷ []

takes_no_crash : stands [] ≡ Ok (host [] None, [])
unfolding instance optional_list optional sees after sign a_name same_terminal
takes_no_crash = refl

takes_a_crash : stands crashes ≡ Ok (host [] down_and_up, [])
unfolding instance optional_list optional a_crash sees after sign a_name same_terminal
takes_a_crash = refl

-- A: Host(x, 1) crash down recover up
crashes_after_arguments : stands (within (called (codes "x") ∷ comma ∷ n 1 ∷ []) ++ crashes) ≡ Ok (host (x ∷ number 1 ∷ []) down_and_up, [])
unfolding instance optional_list arguments closing separated items_from optional a_crash sees after sign a_name same_terminal expression expr first prefix_at prefix_of operand primary start_at start_of after_name fields_from climb operator_at operator_of terminal_at
crashes_after_arguments = refl

-- with a semicolon at the end
crashes_among_components : instances 6 (called (codes "A") ∷ word terminals.Colon ∷ called (codes "Host") ∷ (crashes ++ semicolon ∷ []))
    ≡ Ok (host [] down_and_up ∷ [], [])
unfolding instances instance terminated items_from optional_list optional a_crash sees_name sees after sign a_name same_terminal
crashes_among_components = refl

-- `crash` is refused at the end, and so is `crash down`; `crash down up` is at the second name
wants_a_crash : shown (stands (word terminals.Crash ∷ [])) ≡ Err (refusals.Syntax 0)
unfolding instance optional_list optional a_crash sees after sign a_name same_terminal
wants_a_crash = refl

wants_recover : shown (stands (word terminals.Crash ∷ called (codes "down") ∷ [])) ≡ Err (refusals.Syntax 0)
unfolding instance optional_list optional a_crash sees after sign a_name same_terminal
wants_recover = refl

wants_the_word_recover : shown (stands (word terminals.Crash ∷ called (codes "down") ∷ called (codes "up") ∷ [])) ≡ Err (refusals.Syntax 1)
unfolding instance optional_list optional a_crash sees after sign a_name same_terminal
wants_the_word_recover = refl

-- arguments stand before `crash` alone
takes_no_arguments_after : stands (crashes ++ within (n 1 ∷ [])) ≡ Ok (host [] down_and_up, within (n 1 ∷ []))
unfolding instance optional_list optional a_crash sees after sign a_name same_terminal
takes_no_arguments_after = refl

spells_a_crash : SpellsInstance (host [] down_and_up) (called (codes "A") ∷ word terminals.Colon ∷ called (codes "Host") ∷ crashes)
spells_a_crash = (
  called (codes "A") ∷ [],
  _,
  refl,
  (
    word terminals.Colon ∷ [],
    _,
    refl,
    (
      called (codes "Host") ∷ [],
      _,
      refl,
      (
        [],
        crashes,
        refl,
        (
          word terminals.Crash ∷ [],
          _,
          refl,
          (called (codes "down") ∷ [], _, refl, (word terminals.Recover ∷ [], called (codes "up") ∷ [], refl, refl, refl), refl),
          refl,
        ),
        refl,
      ),
      refl,
    ),
    refl,
  ),
  refl,
)

-- ---- how they are printed

prints_calls : text_expr space (binary (prefix Len s) (Operator Add) (binary x (Operator Member) (empty (codes "Ints")))) ≡ codes "len ( s ) + member ( x , empty ( Ints ) ) "
prints_calls = refl

prints_tuples : text_expr space (select (make (codes "P") (also x (also (truth true) no_expr))) (codes "a")) ≡ codes "P ( x , true ) . a "
prints_tuples = refl

prints_types : text_source (declared_type (is (enumeration (codes "data" ∷ codes "ack" ∷ []))) ∷ declared_type (is (tuple (record { name = codes "a"; ty = codes "Int" } ∷ []))) ∷ [])
    ≡ codes "type T = enum { data , ack }\ntype T = tuple { a : Int }\n"
unfolding text_all
prints_types = refl

prints_capacities : text_type (is (sequence 16 (codes "Int"))) ≡ codes "T = seq " ++ (text_number space 16 ++ codes "of Int\n")
prints_capacities = refl

prints_constants : text_entry (put (only (truth_literal true) ∷ only (reference (codes "data")) ∷ parameter_a ∷ [])) ≡ codes "input put ( const true , const data , a : Int )\n"
prints_constants = refl

prints_a_sign : text_position (only (negative 5)) ≡ codes "const - " ++ text_number space 5
prints_a_sign = refl

prints_hidden_names : text_source (composition (hides (codes "a" ∷ codes "b" ∷ [])) ∷ composition (hides []) ∷ [])
    ≡ codes "composition C components\nc : A\nhidden a\n, b\ncomposition C components\nc : A\n"
unfolding text_all
prints_hidden_names = refl

prints_stable_variables : text_variable (variable_t true) ++ text_variable (variable_a false)
    ≡ codes "stable t : Int := " ++ (text_expr line (number 1) ++ codes "a : Int\n")
prints_stable_variables = refl

prints_crashes : text_instance (host (x ∷ []) down_and_up) ++ text_instance (host [] down_and_up)
    ≡ codes "A : Host ( x )\ncrash down recover up\nA : Host\ncrash down recover up\n"
prints_crashes = refl
