-- Operators on sequences in expressions: the types of these, and their values, computed.
use Rattle.std.proofs.Common.{◌≡◌, pos, [], ◌∷◌, Some, None, true, refl, codes}
use Rattle.ioa_arithmetic.specs.declared.arithmetic.Fault.TheVariants.{ZeroDivisor, Empty, OutOfRange, Full}
use Rattle.ioa_value.specs.declared.operator.Op.{Op}
use Rattle.ioa_value.specs.declared.operator.Op.TheVariants.{Div, Eq, Len, Head, Tail, Last, Init, Append, At, Member, Without}
use Rattle.ioa_value.specs.Operators.{gives, faults}
use Rattle.ioa_value.specs.Plain.{num, truth, items, more, none}
use Rattle.ioa_value.specs.Plain.{name as name_value}
use Rattle.ioa_value.specs.Table.{Table}
use Rattle.ioa_tree.specs.declared.tree.Infix.TheVariants.{Operator}
use Rattle.ioa_tree.specs.Tree.{Expr, number, named, prefix, binary, empty, sequence, SourceTree}
use Rattle.ioa_tree.specs.Meaning.{nothing_known, val}
use Rattle.ioa_tree.specs.Types.{types_of}
use Rattle.ioa_tree.specs.WellFormed.{type_of}
use Rattle.ioa_examples.proofs.DeclaredTypes.{type, kind}

-- type Kind = enum { data, ack }, type Pair = seq 2 of Kind, type Other = seq 2 of Kind: 2, 3 and 4
abbrev pub two : SourceTree
two = kind ∷ type (codes "Pair") (sequence 2 (codes "Kind")) ∷ type (codes "Other") (sequence 2 (codes "Kind")) ∷ []

abbrev pub table : Table
table = types_of two

abbrev pub with : Expr → Op → Expr → Expr
with l o r = binary l (Operator o) r

abbrev pub first_name : Expr
first_name = named (codes "data")

abbrev pub ack : Expr
ack = named (codes "ack")

abbrev pub none_yet : Expr
none_yet = empty (codes "Pair")

-- append(append(empty(Pair), data), ack)
abbrev pub both : Expr
both = with (with none_yet Append first_name) Append ack

-- ---- types

counts : type_of table table [] (prefix Len both) ≡ Some 1
counts = refl

has_an_item : (type_of table table [] (prefix Head both) ≡ Some 2) × (type_of table table [] (prefix Last both) ≡ Some 2)
has_an_item = (refl, refl)

has_a_rest : (type_of table table [] (prefix Tail both) ≡ Some 3) × (type_of table table [] (prefix Init both) ≡ Some 3)
has_a_rest = (refl, refl)

takes_an_item : (type_of table table [] both ≡ Some 3) × (type_of table table [] (with both Without ack) ≡ Some 3)
takes_an_item = (refl, refl)

takes_no_number : type_of table table [] (with both Append (number 1)) ≡ None
takes_no_number = refl

has_places : type_of table table [] (with both At (number 1)) ≡ Some 2
has_places = refl

has_no_place_of_a_name : type_of table table [] (with both At ack) ≡ None
has_no_place_of_a_name = refl

-- the item comes first
has_members : (type_of table table [] (with ack Member both) ≡ Some 0) × (type_of table table [] (with both Member ack) ≡ None)
has_members = (refl, refl)

-- two types of one shape are two types
compares_no_others : type_of table table [] (with both Eq (empty (codes "Other"))) ≡ None
compares_no_others = refl

counts_no_name : type_of table table [] (prefix Len ack) ≡ None
counts_no_name = refl

-- ---- values

is_two_names : val table both nothing_known ≡ gives (items 3 (more (name_value 2 0) (more (name_value 2 1) none)))
is_two_names = refl

is_full : val table (with both Append ack) nothing_known ≡ faults Full
is_full = refl

has_no_head : val table (prefix Head none_yet) nothing_known ≡ faults Empty
has_no_head = refl

is_the_second : val table (with both At (number 1)) nothing_known ≡ gives (name_value 2 1)
is_the_second = refl

has_no_third : val table (with both At (number 2)) nothing_known ≡ faults OutOfRange
has_no_third = refl

is_member : val table (with ack Member both) nothing_known ≡ gives (truth true)
is_member = refl

is_one_less : val table (prefix Len (with both Without ack)) nothing_known ≡ gives (num (pos 1))
is_one_less = refl

-- the first operand's fault comes first
divides_first : val table (with (with (number 1) Div (number 0)) Eq (prefix Len (prefix Tail none_yet))) nothing_known ≡ faults ZeroDivisor
divides_first = refl

looks_first : val table (with none_yet At (with (number 1) Div (number 0))) nothing_known ≡ faults ZeroDivisor
looks_first = refl
