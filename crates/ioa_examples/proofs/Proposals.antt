-- What transitions propose, and how many words of chance they take: each answer is computed.
use Rattle.std.proofs.Common.{◌≡◌, ℕ, List, [], ◌∷◌, ◌++◌, pos, None, true, false, refl, codes}
use Rattle.std.specs.Prelude.{get_or}
use Rattle.ioa_value.specs.Actions.{Name}
use Rattle.ioa_value.specs.Plain.{Val, num}
use Rattle.ioa_value.specs.Plain.{truth as truth_value, name as name_value}
use Rattle.ioa_value.specs.Table.{Table, basic, names}
use Rattle.ioa_value.specs.declared.operator.Op.TheVariants.{Neg, Add, Div}
use Rattle.ioa_tree.specs.declared.tree.Infix.TheVariants.{Operator}
use Rattle.ioa_tree.specs.declared.tree.Kind.TheVariants.{Output}
use Rattle.ioa_tree.specs.Tree.{Expr, number, truth, named, prefix, binary, positive, PositionTree, typed, only, EntryTree, exactly, any_below, ProposalTree, stop, AutomatonTree}
use Rattle.ioa_tree.specs.Meaning.{Env, values_of}
use Rattle.ioa_tree.specs.Instances.{Instance}
use Rattle.ioa_tree.specs.Proposing.{Words, Tried, tries, idle, proposed}
use Rattle.ioa_examples.proofs.DeclaredTypes.{of_type}

-- these words, and 0 behind them
abbrev words : List ℕ → Words
words ws n = get_or ws n 0

-- Bool, Int and type Color = enum { red, green, blue }
abbrev colors : Table
colors = basic ++ record { name = codes "Color"; shape = names (codes "red" ∷ codes "green" ∷ codes "blue" ∷ []) } ∷ []

abbrev roll : List PositionTree → EntryTree
roll positions = record { kind = Output; name = codes "roll"; positions = positions }

-- an automaton of a formal n and a variable k, whose one transition proposes these
abbrev dice : List PositionTree → List ProposalTree → AutomatonTree
dice positions proposals = record {
  name = codes "Dice";
  formals = of_type (codes "n") (codes "Int") ∷ [];
  entries = roll positions ∷ [];
  variables = record { stable = false; field = of_type (codes "k") (codes "Int"); start = None } ∷ [];
  transitions = record { kind = Output; name = codes "roll"; pre = None; proposals = proposals; effect = stop } ∷ [];
}

-- where n is 6 and k is 2
abbrev six_sided : List PositionTree → List ProposalTree → Instance
six_sided positions proposals = record { types = colors; automaton = dice positions proposals; arguments = num (pos 6) ∷ [] }

abbrev at_two : Env
at_two = values_of (codes "k" ∷ []) (num (pos 2) ∷ [])

-- what it tries, where so many of the words were taken
abbrev rolls : List PositionTree → List ProposalTree → List ℕ → ℕ → Tried (List Val)
rolls positions proposals ws taken = proposed (six_sided positions proposals) (roll positions) at_two (words ws) taken

abbrev n : ℕ → Val
n k = num (pos k)

-- d: Int, e: Int, b: Bool and c: Color
abbrev d : PositionTree
d = typed (of_type (codes "d") (codes "Int"))

abbrev e : PositionTree
e = typed (of_type (codes "e") (codes "Int"))

abbrev b : PositionTree
b = typed (of_type (codes "b") (codes "Bool"))

abbrev c : PositionTree
c = typed (of_type (codes "c") (codes "Color"))

abbrev value : Name → Expr → ProposalTree
value x v = record { name = x; choice = exactly v }

abbrev any : Name → Expr → ProposalTree
any x v = record { name = x; choice = any_below v }

-- ---- values

-- d := n + k
tries_a_value : rolls (d ∷ []) (value (codes "d") (binary (named (codes "n")) (Operator Add) (named (codes "k"))) ∷ []) (17 ∷ []) 0 ≡ tries (n 8 ∷ []) 0
tries_a_value = refl

-- d := 1 div 0
faults : rolls (d ∷ []) (value (codes "d") (binary (number 1) (Operator Div) (number 0)) ∷ []) (17 ∷ []) 0 ≡ idle 0
faults = refl

-- ---- any number below one

-- d := any(n): a die of six sides in two turns, each of which takes a word before
abbrev any_side : List ℕ → ℕ → Tried (List Val)
any_side = rolls (d ∷ []) (any (codes "d") (named (codes "n")) ∷ [])

rolls_five : any_side (9 ∷ 17 ∷ 4 ∷ []) 1 ≡ tries (n 5 ∷ []) 2
rolls_five = refl

rolls_without_words : any_side (9 ∷ 17 ∷ 4 ∷ []) 3 ≡ tries (n 0 ∷ []) 4
rolls_without_words = refl

rolls_a_small_word : any_side (4 ∷ []) 0 ≡ tries (n 4 ∷ []) 1
rolls_a_small_word = refl

rolls_the_count : any_side (6 ∷ []) 0 ≡ tries (n 0 ∷ []) 1
rolls_the_count = refl

rolls_the_largest_word : any_side (4294967295 ∷ []) 0 ≡ tries (n 3 ∷ []) 1
rolls_the_largest_word = refl

-- d := any(1) takes its word
one_side_takes_a_word : rolls (d ∷ []) (any (codes "d") (number 1) ∷ []) (17 ∷ []) 0 ≡ tries (n 0 ∷ []) 1
one_side_takes_a_word = refl

-- d := any(0), and so a die of no sides
no_side_takes_no_word : rolls (d ∷ []) (any (codes "d") (number 0) ∷ []) (9 ∷ 17 ∷ []) 1 ≡ idle 1
no_side_takes_no_word = refl

-- d := any(-1)
negative_takes_no_word : rolls (d ∷ []) (any (codes "d") (prefix Neg (number 1)) ∷ []) (17 ∷ []) 0 ≡ idle 0
negative_takes_no_word = refl

-- d := any(1 div 0)
fault_takes_no_word : rolls (d ∷ []) (any (codes "d") (binary (number 1) (Operator Div) (number 0)) ∷ []) (17 ∷ []) 0 ≡ idle 0
fault_takes_no_word = refl

-- ---- without a proposal

even_is_false : rolls (b ∷ []) [] (4 ∷ []) 0 ≡ tries (truth_value false ∷ []) 1
even_is_false = refl

odd_is_true : rolls (b ∷ []) [] (5 ∷ []) 0 ≡ tries (truth_value true ∷ []) 1
odd_is_true = refl

-- blue is number 2 of Color, which is type 2
eight_is_blue : rolls (c ∷ []) [] (8 ∷ []) 0 ≡ tries (name_value 2 2 ∷ []) 1
eight_is_blue = refl

nine_is_red : rolls (c ∷ []) [] (9 ∷ []) 0 ≡ tries (name_value 2 0 ∷ []) 1
nine_is_red = refl

-- b := true, c := green
proposed_takes_no_word : rolls (b ∷ c ∷ []) (value (codes "b") (truth true) ∷ value (codes "c") (named (codes "green")) ∷ []) (8 ∷ []) 0 ≡ tries (truth_value true ∷ name_value 2 1 ∷ []) 0
proposed_takes_no_word = refl

-- an Int without one has nothing to try; no well formed source has it
number_is_idle : rolls (d ∷ []) [] (17 ∷ []) 0 ≡ idle 0
number_is_idle = refl

-- ---- one after another

nothing_takes_no_word : rolls [] [] (17 ∷ []) 0 ≡ tries [] 0
nothing_takes_no_word = refl

-- a constant has no value to try
constant_takes_no_word : rolls (only (positive 1) ∷ d ∷ only (positive 2) ∷ []) (any (codes "d") (named (codes "n")) ∷ []) (17 ∷ 4 ∷ []) 0 ≡ tries (n 5 ∷ []) 1
constant_takes_no_word = refl

-- the entry's order, whatever that of the proposals
entry_orders : rolls (d ∷ b ∷ e ∷ []) (any (codes "e") (number 10) ∷ any (codes "d") (named (codes "n")) ∷ []) (17 ∷ 5 ∷ 23 ∷ []) 0 ≡ tries (n 5 ∷ truth_value true ∷ n 3 ∷ []) 3
entry_orders = refl

-- what is taken stays taken, also where a later parameter has nothing to try
taken_stays_taken : rolls (b ∷ d ∷ c ∷ []) (any (codes "d") (number 0) ∷ []) (5 ∷ 17 ∷ 8 ∷ []) 0 ≡ idle 1
taken_stays_taken = refl

taken_before_a_fault : rolls (b ∷ c ∷ d ∷ []) (value (codes "d") (binary (number 1) (Operator Div) (number 0)) ∷ []) (5 ∷ 17 ∷ 8 ∷ []) 0 ≡ idle 2
taken_before_a_fault = refl

-- a parameter's name stands for nothing in a proposal
parameters_are_unknown : rolls (d ∷ e ∷ []) (value (codes "d") (number 1) ∷ value (codes "e") (named (codes "d")) ∷ []) (17 ∷ []) 0 ≡ idle 0
parameters_are_unknown = refl
