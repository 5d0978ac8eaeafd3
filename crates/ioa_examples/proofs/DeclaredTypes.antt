-- Small sources that declare types, and what the definitions say of them: each answer is computed.
use Rattle.std.proofs.Common.{◌≡◌, ℕ, zero, suc, ◌+◌, ◌<◌, ◌==◌, ◌&&◌, Bool, nat_le, ap, ◌∙◌, arith, List, [], ◌∷◌, ◌++◌, pos, Option, Some, None, Ok, true, false, refl, codes}
use Rattle.std.specs.List.{list_all, flat_map}
use Rattle.std.proofs.lemmas.Bool.{and_right}
use Rattle.std.proofs.lemmas.Bool.Decides.{nat_tests}
use Rattle.std.proofs.lemmas.List.Folds.{list_all-append}
use Rattle.ioa_value.specs.declared.operator.Op.TheVariants.{Eq}
use Rattle.ioa_value.specs.declared.limits.TheConstants.{LIMITS}
use Rattle.ioa_value.specs.Actions.{Name, Act}
use Rattle.ioa_value.specs.Plain.{Val, num, items, none, more}
use Rattle.ioa_value.specs.Plain.{name as name_value, tuple as tuple_value}
use Rattle.ioa_value.specs.Table.{Table, Declaration, names, fields, basic}
use Rattle.ioa_value.specs.Table.{sequence as sequence_shape}
use Rattle.ioa_value.specs.Operators.{gives, nothing}
use Rattle.ioa_value.specs.Widths.{widths}
use Rattle.ioa_tree.specs.declared.tree.Infix.TheVariants.{Operator}
use Rattle.ioa_tree.specs.declared.tree.Kind.TheVariants.{Output}
use Rattle.ioa_tree.specs.Tree.{Expr, named, binary, empty, FieldTree, typed, EntryTree, VariableTree, exactly, ProposalTree, stop, FormTree, enumeration, tuple, sequence, DeclarationTree, declared_type, automaton, composition, SourceTree}
use Rattle.ioa_tree.specs.Meaning.{nothing_known, values_of, val}
use Rattle.ioa_tree.specs.Types.{declared_from, types_of}
use Rattle.ioa_tree.specs.Instances.{Instance, entry_has, start_values}
use Rattle.ioa_tree.specs.WellFormed.{contains, distinct, declared_names, global_names, declarations_fine, source_within, well_formed}
use Rattle.ioa_tree.proofs.WidthLemmas.{widths-append}

-- ---- declarations

abbrev pub of_type : Name → Name → FieldTree
of_type x t = record { name = x; ty = t }

abbrev pub type : Name → FormTree → DeclarationTree
type x form = declared_type (record { name = x; form = form })

-- type Kind = enum { data, ack }
abbrev pub kind : DeclarationTree
kind = type (codes "Kind") (enumeration (codes "data" ∷ codes "ack" ∷ []))

-- type Pkt = tuple { kind: Kind, tag: Int }
abbrev pub packet : DeclarationTree
packet = type (codes "Pkt") (tuple (of_type (codes "kind") (codes "Kind") ∷ of_type (codes "tag") (codes "Int") ∷ []))

-- type Pkts = seq 16 of Pkt
abbrev pub packets : DeclarationTree
packets = type (codes "Pkts") (sequence 16 (codes "Pkt"))

abbrev pub three : SourceTree
three = kind ∷ packet ∷ packets ∷ []

-- Bool and Int are 0 and 1
abbrev pub table : Table
table =
    basic ++
    record { name = codes "Kind"; shape = names (codes "data" ∷ codes "ack" ∷ []) }
    ∷ record { name = codes "Pkt"; shape = fields (record { name = codes "kind"; ty = 2 } ∷ record { name = codes "tag"; ty = 1 } ∷ []) }
    ∷ record { name = codes "Pkts"; shape = sequence_shape 16 3 } ∷ []

has_three_types : types_of three ≡ table
has_three_types = refl

three_are_well_formed : well_formed three ≡ true
three_are_well_formed = refl

-- a packet takes two words, and sixteen of them take one more for their number
takes_words : widths table ≡ 1 ∷ 1 ∷ 1 ∷ 2 ∷ 33 ∷ []
takes_words = refl

-- ---- names

names_a_constant_twice : well_formed (type (codes "Kind") (enumeration (codes "data" ∷ codes "data" ∷ [])) ∷ []) ≡ false
names_a_constant_twice = refl

names_a_constant_in_two : well_formed (kind ∷ type (codes "Other") (enumeration (codes "nak" ∷ codes "ack" ∷ [])) ∷ []) ≡ false
names_a_constant_in_two = refl

names_a_constant_as_its_type : well_formed (type (codes "Kind") (enumeration (codes "data" ∷ codes "Kind" ∷ [])) ∷ []) ≡ false
names_a_constant_as_its_type = refl

names_a_type_twice : well_formed (kind ∷ type (codes "Kind") (sequence 4 (codes "Int")) ∷ []) ≡ false
names_a_type_twice = refl

names_a_type_as_a_basic_one : well_formed (type (codes "Int") (sequence 4 (codes "Bool")) ∷ []) ≡ false
names_a_type_as_a_basic_one = refl

-- an automaton with one variable, which starts at the expression
abbrev pub with_variable : Name → FieldTree → Option Expr → DeclarationTree
with_variable x f start =
    let variables = record { stable = false; field = f; start = start } ∷ [] in
    automaton (record { name = x; formals = []; entries = []; variables = variables; transitions = [] })

abbrev pub cell : FieldTree → Option Expr → DeclarationTree
cell f start = with_variable (codes "Cell") f start

takes_a_declared_type : well_formed (three ++ cell (of_type (codes "p") (codes "Pkt")) None ∷ []) ≡ true
takes_a_declared_type = refl

-- the names of fields are in no space but their tuple's
names_a_variable_as_a_field : well_formed (three ++ cell (of_type (codes "tag") (codes "Pkt")) None ∷ []) ≡ true
names_a_variable_as_a_field = refl

names_a_variable_as_a_constant : well_formed (three ++ cell (of_type (codes "ack") (codes "Int")) None ∷ []) ≡ false
names_a_variable_as_a_constant = refl

-- also where the enumeration is declared later
names_a_variable_as_a_later_constant : well_formed (cell (of_type (codes "ack") (codes "Int")) None ∷ kind ∷ []) ≡ false
names_a_variable_as_a_later_constant = refl

names_an_automaton_as_a_constant : well_formed (three ++ with_variable (codes "ack") (of_type (codes "x") (codes "Int")) None ∷ []) ≡ false
names_an_automaton_as_a_constant = refl

names_a_field_twice : well_formed (type (codes "Two") (tuple (of_type (codes "x") (codes "Int") ∷ of_type (codes "x") (codes "Bool") ∷ [])) ∷ []) ≡ false
names_a_field_twice = refl

-- ---- before use

names_a_later_type : well_formed (packet ∷ kind ∷ []) ≡ false
names_a_later_type = refl

names_itself : well_formed (type (codes "Own") (sequence 4 (codes "Own")) ∷ []) ≡ false
names_itself = refl

holds_a_later_type : well_formed (cell (of_type (codes "k") (codes "Kind")) None ∷ kind ∷ []) ≡ false
holds_a_later_type = refl

-- ---- constants and empty sequences

-- the three types, and a variable of this type that starts at this
abbrev pub starting : Name → Expr → SourceTree
starting t e = three ++ cell (of_type (codes "x") t) (Some e) ∷ []

-- data = ack
abbrev pub comparing : Expr
comparing = binary (named (codes "data")) (Operator Eq) (named (codes "ack"))

starts_at_a_constant : well_formed (starting (codes "Kind") (named (codes "ack"))) ≡ true
starts_at_a_constant = refl

starts_at_a_constant_of_another : well_formed (starting (codes "Int") (named (codes "ack"))) ≡ false
starts_at_a_constant_of_another = refl

-- a constant of an enumeration that is declared later
starts_at_a_later_constant : well_formed (cell (of_type (codes "x") (codes "Bool")) (Some comparing) ∷ kind ∷ []) ≡ false
starts_at_a_later_constant = refl

starts_at_an_earlier_constant : well_formed (kind ∷ cell (of_type (codes "x") (codes "Bool")) (Some comparing) ∷ []) ≡ true
starts_at_an_earlier_constant = refl

-- a type's name is no value
starts_at_a_type : well_formed (starting (codes "Kind") (named (codes "Kind"))) ≡ false
starts_at_a_type = refl

starts_empty : well_formed (starting (codes "Pkts") (empty (codes "Pkts"))) ≡ true
starts_empty = refl

starts_empty_of_no_sequence : well_formed (starting (codes "Pkt") (empty (codes "Pkt"))) ≡ false
starts_empty_of_no_sequence = refl

starts_empty_of_no_type : well_formed (starting (codes "Pkt") (empty (codes "ack"))) ≡ false
starts_empty_of_no_type = refl

-- an automaton with this formal, and a component of it with this argument
abbrev pub given : FieldTree → Expr → SourceTree
given f e =
    three ++ automaton (record { name = codes "Cell"; formals = f ∷ []; entries = []; variables = []; transitions = [] })
    ∷ composition (record {
      name = codes "One";
      instances = record { name = codes "A"; automaton = codes "Cell"; arguments = e ∷ []; crash = None } ∷ [];
      hidden = [];
    }) ∷ []

-- an argument may be a constant
gives_a_constant : well_formed (given (of_type (codes "k") (codes "Kind")) (named (codes "ack"))) ≡ true
gives_a_constant = refl

gives_no_constant : well_formed (given (of_type (codes "k") (codes "Kind")) (named (codes "nak"))) ≡ false
gives_no_constant = refl

is_the_second_name : val table (named (codes "ack")) nothing_known ≡ gives (name_value 2 1)
is_the_second_name = refl

-- a name of the environment stands in front of a constant
is_the_environments : val table (named (codes "ack")) (values_of (codes "ack" ∷ []) (num (pos 7) ∷ [])) ≡ gives (num (pos 7))
is_the_environments = refl

is_no_name : val table (named (codes "nak")) nothing_known ≡ nothing
is_no_name = refl

is_empty : val table (empty (codes "Pkts")) nothing_known ≡ gives (items 4 none)
is_empty = refl

is_no_sequence : val table (empty (codes "Pkt")) nothing_known ≡ nothing
is_no_sequence = refl

-- ---- starts and actions

-- an instance of an automaton with variables of these types, some with start expressions
abbrev pub holding : List VariableTree → Instance
holding variables = record {
  types = table;
  automaton = record { name = codes "Cell"; formals = []; entries = []; variables = variables; transitions = [] };
  arguments = [];
}

abbrev pub variable : Name → Option Expr → VariableTree
variable t start = record { stable = false; field = of_type (codes "x") t; start = start }

-- the first name, the tuple of first values, the empty sequence
starts_first : start_values (holding (variable (codes "Kind") None ∷ variable (codes "Pkt") None ∷ variable (codes "Pkts") None ∷ []))
    ≡ Ok (name_value 2 0 ∷ tuple_value 3 (more (name_value 2 0) (more (num (pos 0)) none)) ∷ items 4 none ∷ [])
starts_first = refl

starts_there : start_values (holding (variable (codes "Kind") (Some (named (codes "ack"))) ∷ variable (codes "Pkts") (Some (empty (codes "Pkts"))) ∷ []))
    ≡ Ok (name_value 2 1 ∷ items 4 none ∷ [])
starts_there = refl

-- send(k: Kind)
abbrev pub sent : EntryTree
sent = record { kind = Output; name = codes "send"; positions = typed (of_type (codes "k") (codes "Kind")) ∷ [] }

abbrev pub send : Val → Act
send v = record { name = codes "send"; vals = v ∷ [] }

has_each_name : entry_has (holding []) (send (name_value 2 1)) sent ≡ true
has_each_name = refl

has_no_other_name : entry_has (holding []) (send (name_value 2 2)) sent ≡ false
has_no_other_name = refl

has_no_number : entry_has (holding []) (send (num (pos 1))) sent ≡ false
has_no_number = refl

-- ---- limits

abbrev pub one_type : FormTree → SourceTree
one_type form = type (codes "T") form ∷ []

takes_a_wide_capacity : well_formed (one_type (sequence 256 (codes "Int"))) ≡ true
takes_a_wide_capacity = refl

takes_too_wide_a_capacity : well_formed (one_type (sequence 257 (codes "Int"))) ≡ false
takes_too_wide_a_capacity = refl

takes_no_capacity : well_formed (one_type (sequence 0 (codes "Int"))) ≡ false
takes_no_capacity = refl

-- type B = seq 256 of Int type C = seq N of B
abbrev pub nested : ℕ → SourceTree
nested n = type (codes "B") (sequence 256 (codes "Int")) ∷ type (codes "C") (sequence n (codes "B")) ∷ []

takes_wide_values : (widths (types_of (nested 15)) ≡ 1 ∷ 1 ∷ 257 ∷ 3856 ∷ []) × (well_formed (nested 15) ≡ true)
takes_wide_values = (refl, refl)

takes_too_wide_values : (widths (types_of (nested 16)) ≡ 1 ∷ 1 ∷ 257 ∷ 4113 ∷ []) × (well_formed (nested 16) ≡ false)
takes_too_wide_values = (refl, refl)

-- so many fields, or names, each of another name
abbrev pub fields_from : ℕ → ℕ → List FieldTree
fields_from zero n = []
fields_from (suc k) n = of_type (102 ∷ n ∷ []) (codes "Int") ∷ fields_from k (n + 1)

abbrev pub names_from : ℕ → ℕ → List Name
names_from zero n = []
names_from (suc k) n = (110 ∷ n ∷ []) ∷ names_from k (n + 1)

takes_many_fields : well_formed (one_type (tuple (fields_from 16 0))) ≡ true
takes_many_fields = refl

takes_too_many_fields : well_formed (one_type (tuple (fields_from 17 0))) ≡ false
takes_too_many_fields = refl

takes_no_field : well_formed (one_type (tuple [])) ≡ false
takes_no_field = refl

takes_many_names : well_formed (one_type (enumeration (names_from 256 0))) ≡ true
takes_many_names = refl

takes_too_many_names : well_formed (one_type (enumeration (names_from 257 0))) ≡ false
takes_too_many_names = refl

takes_no_name : well_formed (one_type (enumeration [])) ≡ false
takes_no_name = refl

-- so many types, each with a name of its own for itself and one for its values
abbrev pub types_from : ℕ → ℕ → SourceTree
types_from zero n = []
types_from (suc k) n = type (116 ∷ n ∷ []) (enumeration ((110 ∷ n ∷ []) ∷ [])) ∷ types_from k (n + 1)

takes_too_many_types : source_within LIMITS (types_from 1025 0) ≡ false
takes_too_many_types = refl

-- no name of a later type, or of its value, has this number
later_names : (p m k n : ℕ) → m < n → contains (flat_map declared_names (types_from k n)) (p ∷ m ∷ []) ≡ false
later_names p m zero n lt = refl
later_names p m (suc k) n lt =
    let other : (n == m) ≡ false = grind (arith, nat_tests) in
    let first : (116 == p) && false ≡ false = and_right (116 == p) false refl in
    let second : (110 == p) && false ≡ false = and_right (110 == p) false refl in
    rw (other, first, second) (later_names p m k (n + 1) (omega arith))

all_differ : (k n : ℕ) → distinct (flat_map declared_names (types_from k n)) ≡ true
all_differ zero n = refl
all_differ (suc k) n = rw (later_names 116 n k (n + 1) (omega arith), later_names 110 n k (n + 1) (omega arith)) (all_differ k (n + 1))

-- a name with another first byte is none of them
is_none : (p : ℕ) (x : Name) (k n : ℕ) → (116 == p) ≡ false → (110 == p) ≡ false → contains (flat_map declared_names (types_from k n)) (p ∷ x) ≡ false
is_none p x zero n a b = refl
is_none p x (suc k) n a b = rw (a, b) (is_none p x k (n + 1) a b)

each_fine : (types : Table) (globals : List Name) (before : SourceTree) (k n : ℕ) → declarations_fine types globals before (types_from k n) ≡ true
each_fine types globals before zero n = refl
each_fine types globals before (suc k) n = each_fine types globals (before ++ type (116 ∷ n ∷ []) (enumeration ((110 ∷ n ∷ []) ∷ [])) ∷ []) k (n + 1)

each_narrow : (types : Table) (k n : ℕ) → list_all (λ w. nat_le w LIMITS.words) (widths types) ≡ true
    → list_all (λ w. nat_le w LIMITS.words) (widths (declared_from types (types_from k n))) ≡ true
each_narrow types zero n h = h
each_narrow types (suc k) n h =
    let made : Declaration = record { name = 116 ∷ n ∷ []; shape = names ((110 ∷ n ∷ []) ∷ []) } in
    let test : ℕ → Bool = λ w. nat_le w LIMITS.words in
    each_narrow (types ++ made ∷ []) k (n + 1)
    (ap (list_all test) (widths-append [] types (made ∷ [])) ∙ list_all-append test (widths types) (1 ∷ []) ∙ rw h refl)

fine_if_few : (k : ℕ) → source_within LIMITS (types_from k 0) ≡ true → well_formed (types_from k 0) ≡ true
fine_if_few k few =
    let no_bool = is_none 66 (111 ∷ 111 ∷ 108 ∷ []) k 0 refl refl in
    let no_int = is_none 73 (110 ∷ 116 ∷ []) k 0 refl refl in
    let apart_names : distinct (global_names (types_from k 0)) ≡ true = rw (no_bool, no_int) (all_differ k 0) in
    rw (apart_names, each_fine (types_of (types_from k 0)) (global_names (types_from k 0)) [] k 0, few) (each_narrow basic k 0 refl)

-- that they are not too many is computed
takes_many_types : well_formed (types_from 1024 0) ≡ true
takes_many_types = fine_if_few 1024 refl

-- ---- proposals

-- an automaton whose output has a parameter of the type of its variable, with these proposals
abbrev pub sender : Name → List ProposalTree → SourceTree
sender t proposals = three ++ automaton (record {
  name = codes "Sender";
  formals = [];
  entries = record { kind = Output; name = codes "send"; positions = typed (of_type (codes "p") t) ∷ [] } ∷ [];
  variables = record { stable = false; field = of_type (codes "x") t; start = None } ∷ [];
  transitions = record { kind = Output; name = codes "send"; pre = None; proposals = proposals; effect = stop } ∷ [];
}) ∷ []

proposes_no_bool : well_formed (sender (codes "Bool") []) ≡ true
proposes_no_bool = refl

proposes_no_constant : well_formed (sender (codes "Kind") []) ≡ true
proposes_no_constant = refl

proposes_no_tuple : well_formed (sender (codes "Pkt") []) ≡ false
proposes_no_tuple = refl

proposes_no_sequence : well_formed (sender (codes "Pkts") []) ≡ false
proposes_no_sequence = refl

proposes_a_tuple : well_formed (sender (codes "Pkt") (record { name = codes "p"; choice = exactly (named (codes "x")) } ∷ [])) ≡ true
proposes_a_tuple = refl

proposes_a_constant : well_formed (sender (codes "Kind") (record { name = codes "p"; choice = exactly (named (codes "ack")) } ∷ [])) ≡ true
proposes_a_constant = refl

proposes_another : well_formed (sender (codes "Pkt") (record { name = codes "p"; choice = exactly (named (codes "ack")) } ∷ [])) ≡ false
proposes_another = refl
