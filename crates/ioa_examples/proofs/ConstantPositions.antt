-- Entries with constants, and what the definitions say of them: each answer is computed.
use Rattle.std.proofs.Common.{◌≡◌, ℕ, List, [], ◌∷◌, ◌++◌, pos, neg_ℤ, Option, Some, None, true, false, refl, codes}
use Rattle.std.specs.Option.{option_map_or}
use Rattle.std.specs.Result.{result_ok}
use Rattle.ioa_value.specs.Actions.{Name, Act}
use Rattle.ioa_value.specs.Plain.{Val, num}
use Rattle.ioa_value.specs.Plain.{truth as truth_value, name as name_value}
use Rattle.ioa_tree.specs.declared.tree.Kind.TheVariants.{Input}
use Rattle.ioa_tree.specs.Tree.{named, positive, negative, truth_literal, reference, PositionTree, typed, only, EntryTree, assign, stop, seq, AutomatonTree, automaton, SourceTree}
use Rattle.ioa_tree.specs.Meaning.{nothing_known, values_of}
use Rattle.ioa_tree.specs.Instances.{Instance, entry_has, environment, effect_in}
use Rattle.ioa_tree.specs.WellFormed.{well_formed}
use Rattle.ioa_examples.proofs.DeclaredTypes.{of_type, three, table}

abbrev pub entry : List PositionTree → EntryTree
entry positions = record { kind = Input; name = codes "put"; positions = positions }

-- an automaton of a formal i and a variable x, with one entry put, whose parameter m becomes x
abbrev pub node : List PositionTree → AutomatonTree
node positions = record {
  name = codes "Node";
  formals = of_type (codes "i") (codes "Int") ∷ [];
  entries = entry positions ∷ [];
  variables = record { stable = false; field = of_type (codes "x") (codes "Int"); start = None } ∷ [];
  transitions = record { kind = Input; name = codes "put"; pre = None; proposals = []; effect = seq (assign (codes "x") (named (codes "m"))) stop } ∷ [];
}

-- where i is 1
abbrev pub first_node : List PositionTree → Instance
first_node positions = record { types = table; automaton = node positions; arguments = num (pos 1) ∷ [] }

abbrev pub put : List Val → Act
put vs = record { name = codes "put"; vals = vs }

-- m: Int
abbrev pub m : PositionTree
m = typed (of_type (codes "m") (codes "Int"))

abbrev pub n : ℕ → Val
n k = num (pos k)

-- ---- actions

-- whether put of these positions has these values
abbrev pub has : List PositionTree → List Val → Type 0
has positions vs = entry_has (first_node positions) (put vs) (entry positions) ≡ true

abbrev pub has_not : List PositionTree → List Val → Type 0
has_not positions vs = entry_has (first_node positions) (put vs) (entry positions) ≡ false

-- put(const 0, m: Int)
abbrev pub numbered : List PositionTree
numbered = only (positive 0) ∷ m ∷ []

has_its_number : has numbered (n 0 ∷ n 7 ∷ [])
has_its_number = refl

has_no_other_number : has_not numbered (n 1 ∷ n 7 ∷ [])
has_no_other_number = refl

has_no_truth_there : has_not numbered (truth_value false ∷ n 7 ∷ [])
has_no_truth_there = refl

needs_both : (has_not numbered (n 0 ∷ [])) × (has_not numbered (n 7 ∷ [])) × (has_not numbered (n 0 ∷ n 7 ∷ n 0 ∷ []))
needs_both = (refl, refl, refl)

-- put(const i): a formal stands for its argument
has_the_argument : has (only (reference (codes "i")) ∷ []) (n 1 ∷ [])
has_the_argument = refl

has_no_other_argument : has_not (only (reference (codes "i")) ∷ []) (n 0 ∷ [])
has_no_other_argument = refl

-- put(const ack): the second name of its enumeration
has_the_name : has (only (reference (codes "ack")) ∷ []) (name_value 2 1 ∷ [])
has_the_name = refl

has_no_other_name : has_not (only (reference (codes "ack")) ∷ []) (name_value 2 0 ∷ [])
has_no_other_name = refl

-- put(const -5)
has_the_negative : has (only (negative 5) ∷ []) (num (neg_ℤ (pos 5)) ∷ [])
has_the_negative = refl

has_no_positive : has_not (only (negative 5) ∷ []) (n 5 ∷ [])
has_no_positive = refl

-- put(const true)
has_the_truth : (has (only (truth_literal true) ∷ []) (truth_value true ∷ [])) × (has_not (only (truth_literal true) ∷ []) (truth_value false ∷ []))
has_the_truth = (refl, refl)

-- a name that stands for nothing has no value
has_nothing : has_not (only (reference (codes "nak")) ∷ []) (name_value 2 0 ∷ [])
has_nothing = refl

-- ---- environments

-- put(const ack, m: Int, const 0) over 7 in the middle
abbrev pub known : Name → Option Val
known = environment (first_node []) (entry (only (reference (codes "ack")) ∷ m ∷ only (positive 0) ∷ [])) (name_value 2 1 ∷ n 7 ∷ n 0 ∷ []) nothing_known

knows_the_parameter : known (codes "m") ≡ Some (n 7)
knows_the_parameter = refl

knows_the_formal : known (codes "i") ≡ Some (n 1)
knows_the_formal = refl

knows_no_constant : known (codes "ack") ≡ None
knows_no_constant = refl

-- the variable's value afterwards, from 3
abbrev pub left_by : Instance → Act → Option Val
left_by i a = option_map_or (λ env. env (codes "x")) (result_ok (effect_in i a (values_of (codes "x" ∷ []) (n 3 ∷ [])))) None

takes_the_parameter : left_by (first_node numbered) (put (n 0 ∷ n 7 ∷ [])) ≡ Some (n 7)
takes_the_parameter = refl

takes_no_other : left_by (first_node numbered) (put (n 1 ∷ n 7 ∷ [])) ≡ Some (n 3)
takes_no_other = refl

-- ---- well-formedness

-- the automaton alone, behind the three types
abbrev pub alone : List PositionTree → SourceTree
alone positions = three ++ automaton (node positions) ∷ []

takes_a_number : well_formed (alone numbered) ≡ true
takes_a_number = refl

takes_a_formal : well_formed (alone (only (reference (codes "i")) ∷ m ∷ [])) ≡ true
takes_a_formal = refl

-- a constant may stand twice
takes_a_formal_twice : well_formed (alone (only (reference (codes "i")) ∷ m ∷ only (reference (codes "i")) ∷ [])) ≡ true
takes_a_formal_twice = refl

takes_a_name : well_formed (alone (only (reference (codes "ack")) ∷ m ∷ [])) ≡ true
takes_a_name = refl

names_nothing : well_formed (alone (only (reference (codes "nak")) ∷ m ∷ [])) ≡ false
names_nothing = refl

names_a_variable : well_formed (alone (only (reference (codes "x")) ∷ m ∷ [])) ≡ false
names_a_variable = refl

names_a_parameter : well_formed (alone (m ∷ only (reference (codes "m")) ∷ [])) ≡ false
names_a_parameter = refl

names_a_type : well_formed (alone (only (reference (codes "Kind")) ∷ m ∷ [])) ≡ false
names_a_type = refl

-- an enumeration that is declared later
names_a_later_constant : well_formed (automaton (node (only (reference (codes "ack")) ∷ m ∷ [])) ∷ three) ≡ false
names_a_later_constant = refl

-- the numbers of 64 bits
takes_the_largest : well_formed (alone (only (positive 9223372036854775807) ∷ only (negative 9223372036854775808) ∷ m ∷ [])) ≡ true
takes_the_largest = refl

is_too_large : well_formed (alone (only (positive 9223372036854775808) ∷ m ∷ [])) ≡ false
is_too_large = refl

is_too_small : well_formed (alone (only (negative 9223372036854775809) ∷ m ∷ [])) ≡ false
is_too_small = refl

-- a constant is no parameter that an effect may name
names_the_parameter_alone : well_formed (alone (only (positive 0) ∷ [])) ≡ false
names_the_parameter_alone = refl

-- constants count among the positions
abbrev pub zeros : List PositionTree
zeros = only (positive 0) ∷ only (positive 0) ∷ only (positive 0) ∷ only (positive 0) ∷ only (positive 0) ∷ only (positive 0) ∷ only (positive 0) ∷ []

takes_eight : well_formed (alone (m ∷ zeros)) ≡ true
takes_eight = refl

takes_no_nine : well_formed (alone (m ∷ only (positive 0) ∷ zeros)) ≡ false
takes_no_nine = refl
