-- Tuples and their fields in expressions: the types of these, their values, and how deep they are, computed.
use Rattle.std.proofs.Common.{◌≡◌, pos, [], ◌∷◌, ◌++◌, Some, None, true, false, refl, codes}
use Rattle.ioa_arithmetic.specs.declared.arithmetic.Fault.TheVariants.{ZeroDivisor, Empty}
use Rattle.ioa_value.specs.declared.operator.Op.TheVariants.{Add, Div, Eq, Head}
use Rattle.ioa_value.specs.Actions.{Name}
use Rattle.ioa_value.specs.Operators.{gives, faults, nothing}
use Rattle.ioa_value.specs.Plain.{Val, num, more, none}
use Rattle.ioa_value.specs.Plain.{truth as truth_value, tuple as tuple_value}
use Rattle.ioa_value.specs.Table.{Table}
use Rattle.ioa_tree.specs.Tree.{Expr, number, truth, named, prefix, empty, make, select, no_expr, also, tuple, sequence, SourceTree}
use Rattle.ioa_tree.specs.Depth.{depth_of}
use Rattle.ioa_tree.specs.Names.{names_of_expr}
use Rattle.ioa_tree.specs.Meaning.{nothing_known, values_of, val}
use Rattle.ioa_tree.specs.Types.{types_of}
use Rattle.ioa_tree.specs.WellFormed.{Context, type_of, nodes, well_formed}
use Rattle.ioa_examples.proofs.DeclaredTypes.{of_type, type, cell}
use Rattle.ioa_examples.proofs.Sequences.{with}

-- type P = tuple { a: Int, b: Bool }, type Q = tuple { b: Int, a: P }, type Ns = seq 2 of Int, type Bs = seq 2 of Bool: 2 to 5
abbrev pub four : SourceTree
four =
    type (codes "P") (tuple (of_type (codes "a") (codes "Int") ∷ of_type (codes "b") (codes "Bool") ∷ []))
    ∷ type (codes "Q") (tuple (of_type (codes "b") (codes "Int") ∷ of_type (codes "a") (codes "P") ∷ []))
    ∷ type (codes "Ns") (sequence 2 (codes "Int"))
    ∷ type (codes "Bs") (sequence 2 (codes "Bool")) ∷ []

abbrev pub table : Table
table = types_of four

-- x is a P
abbrev pub has_x : Context
has_x = (codes "x", 2) ∷ []

abbrev pub two_fields : Name → Expr → Expr → Expr
two_fields t d e = make t (also d (also e no_expr))

-- P(1, true)
abbrev pub pair : Expr
pair = two_fields (codes "P") (number 1) (truth true)

abbrev pub pair_value : Val
pair_value = tuple_value 2 (more (num (pos 1)) (more (truth_value true) none))

-- Q(3, P(1, true))
abbrev pub nested : Expr
nested = two_fields (codes "Q") (number 3) pair

-- 1 div 0
abbrev pub divided : Expr
divided = with (number 1) Div (number 0)

-- ---- types

has_its_type : type_of table table [] pair ≡ Some 2
has_its_type = refl

takes_a_tuple : type_of table table [] nested ≡ Some 3
takes_a_tuple = refl

takes_fields_in_order : type_of table table [] (two_fields (codes "P") (truth true) (number 1)) ≡ None
takes_fields_in_order = refl

takes_each_field : type_of table table [] (make (codes "P") (also (number 1) no_expr)) ≡ None
takes_each_field = refl

takes_no_more_fields : type_of table table [] (make (codes "P") (also (number 1) (also (truth true) (also (truth true) no_expr)))) ≡ None
takes_no_more_fields = refl

takes_a_name_of_a_tuple : type_of table table [] (make (codes "Ns") (also (number 1) no_expr)) ≡ None
takes_a_name_of_a_tuple = refl

takes_a_name_of_a_type : type_of table table [] (make (codes "N") (also (number 1) no_expr)) ≡ None
takes_a_name_of_a_type = refl

has_fields : (type_of table table has_x (select (named (codes "x")) (codes "a")) ≡ Some 1) × (type_of table table has_x (select (named (codes "x")) (codes "b")) ≡ Some 0)
has_fields = (refl, refl)

has_no_other_field : type_of table table has_x (select (named (codes "x")) (codes "c")) ≡ None
has_no_other_field = refl

has_no_field : type_of table table [] (select (number 1) (codes "a")) ≡ None
has_no_field = refl

-- the same names stand at other places in another type
has_fields_of_its_own : (type_of table table [] (select nested (codes "b")) ≡ Some 1) × (type_of table table [] (select (select nested (codes "a")) (codes "b")) ≡ Some 0)
has_fields_of_its_own = (refl, refl)

starts_at_a_tuple : well_formed (four ++ cell (of_type (codes "p") (codes "P")) (Some pair) ∷ []) ≡ true
starts_at_a_tuple = refl

starts_at_a_tuple_of_a_later_type : well_formed (cell (of_type (codes "p") (codes "Int")) (Some (select pair (codes "a"))) ∷ four) ≡ false
starts_at_a_tuple_of_a_later_type = refl

-- ---- values

is_a_tuple : val table (two_fields (codes "P") (with (number 1) Add (number 1)) (truth true)) nothing_known
    ≡ gives (tuple_value 2 (more (num (pos 2)) (more (truth_value true) none)))
is_a_tuple = refl

is_a_tuple_in_a_tuple : val table nested nothing_known ≡ gives (tuple_value 3 (more (num (pos 3)) (more pair_value none)))
is_a_tuple_in_a_tuple = refl

is_a_field : (val table (select pair (codes "a")) nothing_known ≡ gives (num (pos 1))) × (val table (select pair (codes "b")) nothing_known ≡ gives (truth_value true))
is_a_field = (refl, refl)

is_a_field_of_another_type : (val table (select nested (codes "b")) nothing_known ≡ gives (num (pos 3))) × (val table (select nested (codes "a")) nothing_known ≡ gives pair_value)
is_a_field_of_another_type = (refl, refl)

is_a_field_of_a_field : val table (select (select nested (codes "a")) (codes "b")) nothing_known ≡ gives (truth_value true)
is_a_field_of_a_field = refl

is_a_field_of_a_variable : val table (select (named (codes "x")) (codes "a")) (values_of (codes "x" ∷ []) (pair_value ∷ [])) ≡ gives (num (pos 1))
is_a_field_of_a_variable = refl

-- the first field's fault comes first
divides_first : val table (two_fields (codes "P") divided (prefix Head (empty (codes "Bs")))) nothing_known ≡ faults ZeroDivisor
divides_first = refl

looks_first : val table (two_fields (codes "P") (prefix Head (empty (codes "Ns"))) (with divided Eq (number 1))) nothing_known ≡ faults Empty
looks_first = refl

-- also where another field is taken
divides_before_it_selects : val table (select (two_fields (codes "P") divided (truth true)) (codes "b")) nothing_known ≡ faults ZeroDivisor
divides_before_it_selects = refl

is_no_type : val table (make (codes "N") (also (number 1) no_expr)) nothing_known ≡ nothing
is_no_type = refl

is_no_field : val table (select pair (codes "c")) nothing_known ≡ nothing
is_no_field = refl

-- ---- depth, nodes and names

-- each is one deeper than its deepest part, and one node more than its parts
is_deep : (depth_of pair ≡ 2) × (depth_of (select nested (codes "a")) ≡ 4) × (nodes pair ≡ 3) × (nodes (select nested (codes "a")) ≡ 6)
is_deep = (refl, refl, refl, refl)

holds_names : names_of_expr (select (make (codes "P") (also (named (codes "y")) (also (named (codes "z")) no_expr))) (codes "a"))
    ≡ codes "P" ∷ codes "y" ∷ codes "z" ∷ codes "a" ∷ []
holds_names = refl
