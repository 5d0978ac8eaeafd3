-- How two operators side by side group.
use Rattle.std.proofs.Common.{◌≡◌, ℕ, ◌<◌, ◌≤◌, ◌==◌, not, ◌⊎◌, inl, inr, true, false, IsTrue, refl, sym, ap, ◌∙◌, arith, cond, Some, None}
use Rattle.std.proofs.Math.Arith.{lt_of_le-ne}
use denote.Enum.Bare.{same_true}
use Rattle.ioa_value.specs.contracts.terminal.Terminal.{the_type}
use Rattle.ioa_value.specs.declared.terminal.Terminal.{Terminal}
use Rattle.ioa_value.specs.declared.operator.Op.{Op}
use Rattle.ioa_value.specs.declared.operator.Op.TheVariants.{Not, Neg, Len, Head, Tail, Last, Init, Append, At, Member, Without, Make, Field}
use Rattle.ioa_value.proofs.ItemLemmas.{find_both}
use Rattle.ioa_tree.specs.declared.tree.Infix.{Infix}
use Rattle.ioa_tree.specs.declared.tree.Infix.TheVariants.{Operator}
use Rattle.ioa_grammar.specs.declared.operators.Level.{Level}
use Rattle.ioa_grammar.specs.declared.operators.Level.TheVariants as levels
use Rattle.ioa_grammar.specs.declared.operators.Grouping.{Grouping}
use Rattle.ioa_grammar.specs.declared.operators.Grouping.TheVariants.{Alone, Left, Right, Before, Around}
use Rattle.ioa_grammar.specs.Operators.{form_of, infixes, prefixes, enclosing, encloses, stands_around, is_between, stands_between, stands_before, number_of, grouping_of, left_from, right_from, after_from, operator_word, level_of, operator_grouping, left_of, right_of, after_of, tightest}
use Rattle.ioa_grammar.specs.Reading.{operator_of, prefix_of, around_of, same_terminal}

-- ---- words

-- each operator is found by its word, where it stands
pub word_found : (o : Infix) → IsTrue (stands_between o) → operator_of (operator_word o) ≡ Some o
unfolding operator_of same_terminal
word_found (Operator Not) between = absurd (cc)
word_found (Operator Neg) between = absurd (cc)
word_found (Operator Len) between = absurd (cc)
word_found (Operator Head) between = absurd (cc)
word_found (Operator Tail) between = absurd (cc)
word_found (Operator Last) between = absurd (cc)
word_found (Operator Init) between = absurd (cc)
word_found (Operator Append) between = absurd (cc)
word_found (Operator At) between = absurd (cc)
word_found (Operator Member) between = absurd (cc)
word_found (Operator Without) between = absurd (cc)
word_found (Operator (Make ty)) between = absurd (cc)
word_found (Operator (Field j)) between = absurd (cc)
word_found _ between = refl

pub prefix_found : (o : Op) → IsTrue (stands_before o) → prefix_of (operator_word (Operator o)) ≡ Some o
unfolding prefix_of same_terminal
prefix_found Not before = refl
prefix_found Neg before = refl
prefix_found _ before = absurd (cc)

pub around_found : (o : Op) → IsTrue (stands_around (Operator o)) → around_of (operator_word (Operator o)) ≡ Some o
unfolding around_of same_terminal
around_found Len stands = refl
around_found Head stands = refl
around_found Tail stands = refl
around_found Last stands = refl
around_found Init stands = refl
around_found Append stands = refl
around_found At stands = refl
around_found Member stands = refl
around_found Without stands = refl
around_found _ stands = absurd (cc)

-- around one expression or around two
pub one_or_two : (o : Op) → IsTrue (stands_around (Operator o)) → (encloses (Operator o) ≡ 1) ⊎ (encloses (Operator o) ≡ 2)
one_or_two Len stands = inl refl
one_or_two Head stands = inl refl
one_or_two Tail stands = inl refl
one_or_two Last stands = inl refl
one_or_two Init stands = inl refl
one_or_two Append stands = inr refl
one_or_two At stands = inr refl
one_or_two Member stands = inr refl
one_or_two Without stands = inr refl
one_or_two _ stands = absurd (cc)

-- an operator that stands around expressions stands nowhere else
pub not_before : (o : Op) → IsTrue (stands_around (Operator o)) → prefix_of (operator_word (Operator o)) ≡ None
unfolding prefix_of same_terminal
not_before Len stands = refl
not_before Head stands = refl
not_before Tail stands = refl
not_before Last stands = refl
not_before Init stands = refl
not_before Append stands = refl
not_before At stands = refl
not_before Member stands = refl
not_before Without stands = refl
not_before _ stands = absurd (cc)

pub around_stands : (o : Infix) (n : ℕ) → not (n == 0) ≡ true → encloses o ≡ n → IsTrue (stands_around o)
around_stands o n some h = ap (λ m. not (m == 0)) h ∙ some

pub before_encloses : (o : Op) → IsTrue (stands_before o) → stands_around (Operator o) ≡ false
before_encloses Not before = refl
before_encloses Neg before = refl
before_encloses _ before = absurd (cc)

pub between_encloses : (o : Infix) → IsTrue (stands_between o) → stands_around o ≡ false
between_encloses (Operator Not) between = absurd (cc)
between_encloses (Operator Neg) between = absurd (cc)
between_encloses (Operator Len) between = absurd (cc)
between_encloses (Operator Head) between = absurd (cc)
between_encloses (Operator Tail) between = absurd (cc)
between_encloses (Operator Last) between = absurd (cc)
between_encloses (Operator Init) between = absurd (cc)
between_encloses (Operator Append) between = absurd (cc)
between_encloses (Operator At) between = absurd (cc)
between_encloses (Operator Member) between = absurd (cc)
between_encloses (Operator Without) between = absurd (cc)
between_encloses (Operator (Make ty)) between = absurd (cc)
between_encloses (Operator (Field j)) between = absurd (cc)
between_encloses _ between = refl

-- and what is found has the word, and stands there
pub found_only : (t : Terminal) (o : Infix) → operator_of t ≡ Some o → (t ≡ operator_word o) × IsTrue (stands_between o)
unfolding operator_of same_terminal
found_only t o h =
    let found = find_both (λ p. same_terminal (operator_word p) t) stands_between infixes o h refl in
    (sym (same_true the_type tt (operator_word o) t found.0), found.1)

pub prefix_only : (t : Terminal) (o : Op) → prefix_of t ≡ Some o → (t ≡ operator_word (Operator o)) × IsTrue (stands_before o)
unfolding prefix_of same_terminal
prefix_only t o h =
    let found = find_both (λ p. same_terminal (operator_word (Operator p)) t) stands_before prefixes o h refl in
    (sym (same_true the_type tt (operator_word (Operator o)) t found.0), found.1)

pub around_only : (t : Terminal) (o : Op) → around_of t ≡ Some o → (t ≡ operator_word (Operator o)) × IsTrue (stands_around (Operator o))
unfolding around_of same_terminal
around_only t o h =
    let found = find_both (λ p. same_terminal (operator_word (Operator p)) t) (λ p. stands_around (Operator p)) enclosing o h refl in
    (sym (same_true the_type tt (operator_word (Operator o)) t found.0), found.1)

-- ---- levels

-- the grouping of the level with this number
abbrev at_number : ℕ → Grouping
at_number n = cond (n == 1) Right (cond (n == 5) Alone (cond (n == 4) Before (cond (n == 8) Before (cond (n == 9) Around Left))))

number_decides : (l : Level) → grouping_of l ≡ at_number (number_of l)
number_decides levels.Implication = refl
number_decides _ = refl

number_bounded : (l : Level) → number_of l < tightest
number_bounded levels.Implication = omega arith
number_bounded _ = omega arith

-- operators of one level group alike
alike : (o p : Infix) → level_of o ≡ level_of p → operator_grouping o ≡ operator_grouping p
alike o p h = number_decides (form_of o).level ∙ ap at_number h ∙ sym (number_decides (form_of p).level)

bounds : (g : Grouping) (k : ℕ) → (k ≤ left_from g k) × (k ≤ right_from g k)
bounds Alone k = (omega arith, omega arith)
bounds Left k = (omega arith, omega arith)
bounds Right k = (omega arith, omega arith)
bounds Before k = (omega arith, omega arith)
bounds Around k = (omega arith, omega arith)

pub level_bounds : (o : Infix) → (level_of o ≤ left_of o) × (level_of o ≤ right_of o) × (level_of o < tightest)
level_bounds o = let b = bounds (operator_grouping o) (level_of o) in (b.0, b.1, number_bounded (form_of o).level)

-- ---- neighbours: of an operator of level k and one of level j, which group alike where the levels are one

above : (h : Grouping) (k j : ℕ) → k < j → (k < right_from h j) × (k < after_from h j)
above Alone k j lt = (omega arith, omega arith)
above Left k j lt = (omega arith, omega arith)
above Right k j lt = (omega arith, omega arith)
above Before k j lt = (omega arith, omega arith)
above Around k j lt = (omega arith, omega arith)

second_fits : (g h : Grouping) (k j : ℕ) → IsTrue (is_between g) → (k ≡ j → g ≡ h) → left_from g k ≤ j → (k < right_from h j) × (k < after_from h j)
second_fits Before h k j between same le = absurd (cc)
second_fits Around h k j between same le = absurd (cc)
second_fits Alone h k j between same le = above h k j (omega arith)
second_fits Right h k j between same le = above h k j (omega arith)
second_fits Left Left k j between same le = (omega arith, omega arith)
second_fits Left Alone k j between same le = above Alone k j (lt_of_le-ne le (λ e. let q = same e in absurd (cc)))
second_fits Left Right k j between same le = above Right k j (lt_of_le-ne le (λ e. let q = same e in absurd (cc)))
second_fits Left Before k j between same le = above Before k j (lt_of_le-ne le (λ e. let q = same e in absurd (cc)))
second_fits Left Around k j between same le = above Around k j (lt_of_le-ne le (λ e. let q = same e in absurd (cc)))

-- the second takes the first's operand as its own left one
pub fits_left : (o p : Infix) → IsTrue (stands_between o) → left_of o ≤ level_of p → (level_of o < right_of p) × (level_of o < after_of p)
fits_left o p between h = second_fits (operator_grouping o) (operator_grouping p) (level_of o) (level_of p) between (alike o p) h

below : (h : Grouping) (k j : ℕ) → j < k → left_from h j ≤ k
below Alone k j lt = omega arith
below Left k j lt = omega arith
below Right k j lt = omega arith
below Before k j lt = omega arith
below Around k j lt = omega arith

first_fits : (g h : Grouping) (k j : ℕ) → (k ≡ j → g ≡ h) → j < after_from g k → left_from h j ≤ k
first_fits Left Left k j same lt = omega arith
first_fits Left Before k j same lt = omega arith
first_fits Left Around k j same lt = omega arith
first_fits Left Alone k j same lt = let less : j < k = lt_of_le-ne (omega arith) (λ e. let q = same (sym e) in absurd (cc)) in omega arith
first_fits Left Right k j same lt = let less : j < k = lt_of_le-ne (omega arith) (λ e. let q = same (sym e) in absurd (cc)) in omega arith
first_fits Alone h k j same lt = below h k j lt
first_fits Right h k j same lt = below h k j lt
first_fits Before h k j same lt = below h k j lt
first_fits Around h k j same lt = below h k j lt

-- an operator that may follow takes what stands before it
pub left_again : (o p : Infix) → level_of p < after_of o → left_of p ≤ level_of o
left_again o p h = first_fits (operator_grouping o) (operator_grouping p) (level_of o) (level_of p) (alike o p) h
