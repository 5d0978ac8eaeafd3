-- How operators bind, and how they are written.
use Rattle.std.specs.Prelude.{ℕ, ◌+◌, ◌==◌, Bool, true, false, not, List, [], ◌∷◌}
use Rattle.ioa_value.specs.declared.terminal.Terminal.{Terminal}
use Rattle.ioa_value.specs.declared.terminal.Terminal.TheVariants as terminals
use Rattle.ioa_value.specs.declared.operator.Op.{Op}
use Rattle.ioa_value.specs.declared.operator.Op.TheVariants.{Neg, Add, Sub, Mul, Div, Mod, Lt, Le, Gt, Ge, Not, Eq, Ne, Len, Head, Tail, Last, Init, Append, At, Member, Without, Make, Field}
use Rattle.ioa_tree.specs.declared.tree.Infix.{Infix}
use Rattle.ioa_tree.specs.declared.tree.Infix.TheVariants.{Operator, And, Or, Implies}
use Rattle.ioa_grammar.specs.declared.operators.Level.{Level}
use Rattle.ioa_grammar.specs.declared.operators.Level.TheVariants as levels
use Rattle.ioa_grammar.specs.declared.operators.Grouping.{Grouping}
use Rattle.ioa_grammar.specs.declared.operators.Grouping.TheVariants.{Alone, Left, Right, Before, Around}
use Rattle.ioa_grammar.specs.declared.operators.Form.{Form}

-- ---- the table

-- an operator's level, and its word or sign
abbrev pub operator_form : Op → Form
operator_form Not = record { level = levels.Denial; word = terminals.Not }
operator_form Eq = record { level = levels.Comparison; word = terminals.Equal }
operator_form Ne = record { level = levels.Comparison; word = terminals.NotEqual }
operator_form Lt = record { level = levels.Comparison; word = terminals.Less }
operator_form Le = record { level = levels.Comparison; word = terminals.LessEqual }
operator_form Gt = record { level = levels.Comparison; word = terminals.Greater }
operator_form Ge = record { level = levels.Comparison; word = terminals.GreaterEqual }
operator_form Add = record { level = levels.Sum; word = terminals.Plus }
operator_form Sub = record { level = levels.Sum; word = terminals.Minus }
operator_form Mul = record { level = levels.Product; word = terminals.Star }
operator_form Div = record { level = levels.Product; word = terminals.Div }
operator_form Mod = record { level = levels.Product; word = terminals.Mod }
operator_form Neg = record { level = levels.Negation; word = terminals.Minus }
operator_form Len = record { level = levels.Application; word = terminals.Len }
operator_form Head = record { level = levels.Application; word = terminals.Head }
operator_form Tail = record { level = levels.Application; word = terminals.Tail }
operator_form Last = record { level = levels.Application; word = terminals.Last }
operator_form Init = record { level = levels.Application; word = terminals.Init }
operator_form Append = record { level = levels.Application; word = terminals.Append }
operator_form At = record { level = levels.Application; word = terminals.At }
operator_form Member = record { level = levels.Application; word = terminals.Member }
operator_form Without = record { level = levels.Application; word = terminals.Without }
operator_form (Make ty) = record { level = levels.Application; word = terminals.Open }
operator_form (Field j) = record { level = levels.Application; word = terminals.Dot }

abbrev pub form_of : Infix → Form
form_of Implies = record { level = levels.Implication; word = terminals.Implies }
form_of Or = record { level = levels.Disjunction; word = terminals.Or }
form_of And = record { level = levels.Conjunction; word = terminals.And }
form_of (Operator o) = operator_form o

-- all that stand between two expressions
abbrev pub infixes : List Infix
infixes =
    Implies ∷ Or ∷ And
    ∷ Operator Eq ∷ Operator Ne ∷ Operator Lt ∷ Operator Le ∷ Operator Gt ∷ Operator Ge
    ∷ Operator Add ∷ Operator Sub ∷ Operator Mul ∷ Operator Div ∷ Operator Mod ∷ []

-- all that stand before one
abbrev pub prefixes : List Op
prefixes = Not ∷ Neg ∷ []

-- all that are written around expressions: the word, then the expressions in parentheses
abbrev pub enclosing : List Op
enclosing = Len ∷ Head ∷ Tail ∷ Last ∷ Init ∷ Append ∷ At ∷ Member ∷ Without ∷ []

-- around how many
abbrev pub operator_encloses : Op → ℕ
operator_encloses Neg = 0
operator_encloses Add = 0
operator_encloses Sub = 0
operator_encloses Mul = 0
operator_encloses Div = 0
operator_encloses Mod = 0
operator_encloses Lt = 0
operator_encloses Le = 0
operator_encloses Gt = 0
operator_encloses Ge = 0
operator_encloses Not = 0
operator_encloses Eq = 0
operator_encloses Ne = 0
operator_encloses Len = 1
operator_encloses Head = 1
operator_encloses Tail = 1
operator_encloses Last = 1
operator_encloses Init = 1
operator_encloses Append = 2
operator_encloses At = 2
operator_encloses Member = 2
operator_encloses Without = 2
operator_encloses (Make ty) = 0
operator_encloses (Field j) = 0

-- how tightly the operators of a level bind
abbrev pub number_of : Level → ℕ
number_of levels.Implication = 1
number_of levels.Disjunction = 2
number_of levels.Conjunction = 3
number_of levels.Denial = 4
number_of levels.Comparison = 5
number_of levels.Sum = 6
number_of levels.Product = 7
number_of levels.Negation = 8
number_of levels.Application = 9

-- whether an operand may be an operator's of the same level: neither, the left one or the right one; or the operator
-- stands before its one operand, which may be; or around its operands
abbrev pub grouping_of : Level → Grouping
grouping_of levels.Implication = Right
grouping_of levels.Disjunction = Left
grouping_of levels.Conjunction = Left
grouping_of levels.Denial = Before
grouping_of levels.Comparison = Alone
grouping_of levels.Sum = Left
grouping_of levels.Product = Left
grouping_of levels.Negation = Before
grouping_of levels.Application = Around

-- above every level
abbrev pub tightest : ℕ
tightest = 10

-- ---- what follows from it

abbrev pub is_before : Grouping → Bool
is_before Alone = false
is_before Left = false
is_before Right = false
is_before Before = true
is_before Around = false

abbrev pub is_between : Grouping → Bool
is_between Alone = true
is_between Left = true
is_between Right = true
is_between Before = false
is_between Around = false

-- the least level of a left operand, where the operator's is k
abbrev pub left_from : Grouping → ℕ → ℕ
left_from Alone k = k + 1
left_from Left k = k
left_from Right k = k + 1
left_from Before k = k
left_from Around k = k

abbrev pub right_from : Grouping → ℕ → ℕ
right_from Alone k = k + 1
right_from Left k = k + 1
right_from Right k = k
right_from Before k = k
right_from Around k = k

-- the operators below this level may follow its right operand
abbrev pub after_from : Grouping → ℕ → ℕ
after_from Alone k = k
after_from Left k = k + 1
after_from Right k = k
after_from Before k = k
after_from Around k = k

abbrev pub operator_word : Infix → Terminal
operator_word o = (form_of o).word

abbrev pub level_of : Infix → ℕ
level_of o = number_of (form_of o).level

abbrev pub operator_grouping : Infix → Grouping
operator_grouping o = grouping_of (form_of o).level

-- whether it stands before one expression, or between two
abbrev pub stands_before : Op → Bool
stands_before o = is_before (operator_grouping (Operator o))

abbrev pub stands_between : Infix → Bool
stands_between o = is_between (operator_grouping o)

-- around how many expressions it is written
abbrev pub encloses : Infix → ℕ
encloses Implies = 0
encloses Or = 0
encloses And = 0
encloses (Operator o) = operator_encloses o

abbrev pub stands_around : Infix → Bool
stands_around o = not (encloses o == 0)

abbrev pub left_of : Infix → ℕ
left_of o = left_from (operator_grouping o) (level_of o)

abbrev pub right_of : Infix → ℕ
right_of o = right_from (operator_grouping o) (level_of o)

abbrev pub after_of : Infix → ℕ
after_of o = after_from (operator_grouping o) (level_of o)
