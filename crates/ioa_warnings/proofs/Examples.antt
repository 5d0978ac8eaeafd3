-- What is warned of in some small automata and texts, computed from the definitions.
use Rattle.std.proofs.Common.{◌≡◌, true, false, List, [], ◌∷◌, Some, None, codes, refl}
use Rattle.ioa_value.specs.Actions.{Name}
use Rattle.ioa_value.specs.declared.operator.Op.TheVariants.{Eq, Not}
use Rattle.ioa_tree.specs.declared.tree.Infix.TheVariants.{And, Implies, Operator, Or}
use Rattle.ioa_tree.specs.declared.tree.Kind.TheVariants.{Input, Output, Internal}
use Rattle.ioa_tree.specs.Tree.{Expr, binary, make, named, number, parens, prefix, select, truth, also, no_expr, any_below, exactly, PositionTree, only, positive, typed, EntryTree, TransitionTree, AutomatonTree, stop}
use Rattle.ioa_warnings.specs.Comments.{comments_in_statements}
use Rattle.ioa_warnings.specs.Dead.{dead_in, gives_nothing}
use Rattle.ioa_warnings.specs.Free.{free_of_automaton}
use Rattle.ioa_warnings.specs.Mentions.{mentions}
use Rattle.ioa_warnings.specs.Never.{never}

-- ---- names

-- p.k = c mentions p and c
abbrev tagged : Expr
tagged = binary (select (named (codes "p")) (codes "k")) (Operator Eq) (named (codes "c"))

asks_for_a_tuple : mentions (codes "p") tagged ≡ true
asks_for_a_tuple = refl

asks_for_a_second_operand : mentions (codes "c") tagged ≡ true
asks_for_a_second_operand = refl

-- .. but not its field, nor its type
names_a_field : mentions (codes "k") tagged ≡ false
names_a_field = refl

abbrev paired : Expr
paired = make (codes "Pair") (also (number 1) (also (named (codes "x")) no_expr))

asks_for_a_field_value : mentions (codes "x") paired ≡ true
asks_for_a_field_value = refl

names_a_type : mentions (codes "Pair") paired ≡ false
names_a_type = refl

-- ---- parameters

abbrev parameter : Name → Name → PositionTree
parameter x ty = typed (record { name = x; ty = ty })

-- output tick(k: Int, const 3, fast: Bool); internal reset(k: Int); input set(to: Int)
abbrev tick : EntryTree
tick = record {
  kind = Output;
  name = codes "tick";
  positions = parameter (codes "k") (codes "Int") ∷ only (positive 3) ∷ parameter (codes "fast") (codes "Bool") ∷ [];
}

abbrev reset : EntryTree
reset = record { kind = Internal; name = codes "reset"; positions = parameter (codes "k") (codes "Int") ∷ [] }

abbrev set_to : EntryTree
set_to = record { kind = Input; name = codes "set"; positions = parameter (codes "to") (codes "Int") ∷ [] }

-- output tick pre k = c
abbrev ticks : TransitionTree
ticks = record {
  kind = Output;
  name = codes "tick";
  pre = Some (binary (named (codes "k")) (Operator Eq) (named (codes "c")));
  proposals = [];
  effect = stop;
}

-- output tick pre k = c /\ fast = c
abbrev ticks_fast : TransitionTree
ticks_fast = record ticks {
  pre = Some (binary (binary (named (codes "k")) (Operator Eq) (named (codes "c"))) And (binary (named (codes "fast")) (Operator Eq) (named (codes "c"))));
}

-- internal reset
abbrev resets : TransitionTree
resets = record { kind = Internal; name = codes "reset"; pre = None; proposals = []; effect = stop }

-- internal reset propose k := any(3), internal reset pre true
abbrev resets_by_chance : TransitionTree
resets_by_chance = record resets { proposals = record { name = codes "k"; choice = any_below (number 3) } ∷ [] }

abbrev resets_always : TransitionTree
resets_always = record resets { pre = Some (truth true) }

-- internal reset propose k := 3, internal reset pre false
abbrev resets_to_three : TransitionTree
resets_to_three = record resets { proposals = record { name = codes "k"; choice = exactly (number 3) } ∷ [] }

abbrev resets_never : TransitionTree
resets_never = record resets { pre = Some (truth false) }

-- input set
abbrev sets : TransitionTree
sets = record { kind = Input; name = codes "set"; pre = None; proposals = []; effect = stop }

abbrev clock : List TransitionTree → AutomatonTree
clock ts = record {
  name = codes "Clock";
  formals = [];
  entries = tick ∷ reset ∷ set_to ∷ [];
  variables = [];
  transitions = ts;
}

-- of tick it is fast, which its precondition does not mention; of reset it is k, since there is no precondition; of an input it is none
free_ones : free_of_automaton (clock (sets ∷ ticks ∷ resets ∷ [])) ((4, sets) ∷ (5, ticks) ∷ (6, resets) ∷ [])
    ≡ record { parameter = codes "fast"; action = codes "tick"; line = 5 } ∷ record { parameter = codes "k"; action = codes "reset"; line = 6 } ∷ []
free_ones = refl

mentioned_ones : free_of_automaton (clock (sets ∷ ticks_fast ∷ [])) ((4, sets) ∷ (5, ticks_fast) ∷ []) ≡ []
mentioned_ones = refl

-- where the source says that any value of k will do it is none
meant_by_chance : free_of_automaton (clock (sets ∷ ticks_fast ∷ resets_by_chance ∷ [])) ((4, sets) ∷ (5, ticks_fast) ∷ (6, resets_by_chance) ∷ []) ≡ []
meant_by_chance = refl

meant_always : free_of_automaton (clock (sets ∷ ticks_fast ∷ resets_always ∷ [])) ((4, sets) ∷ (5, ticks_fast) ∷ (6, resets_always) ∷ []) ≡ []
meant_always = refl

proposed_alone : free_of_automaton (clock (sets ∷ ticks_fast ∷ resets_to_three ∷ [])) ((4, sets) ∷ (5, ticks_fast) ∷ (6, resets_to_three) ∷ [])
    ≡ record { parameter = codes "k"; action = codes "reset"; line = 6 } ∷ []
proposed_alone = refl

-- what is enabled with no value is told as a transition that is never performed, and not as one with a free parameter
never_enabled : free_of_automaton (clock (sets ∷ ticks_fast ∷ resets_never ∷ [])) ((4, sets) ∷ (5, ticks_fast) ∷ (6, resets_never) ∷ []) ≡ []
never_enabled = refl

never_performed : dead_in (6, resets_never) ≡ record { action = codes "reset"; line = 6; parameter = None } ∷ []
never_performed = refl

-- ---- comments

a_remainder : comments_in_statements (codes "x := y % 2") ≡ 1 ∷ []
a_remainder = refl

behind_a_statement : comments_in_statements (codes "x := 1; % set") ≡ []
behind_a_statement = refl

before_an_expression : comments_in_statements (codes "x := % set\n1") ≡ []
before_an_expression = refl

behind_a_precondition : comments_in_statements (codes "output tick pre k = c % counts") ≡ []
behind_a_precondition = refl

behind_a_whole_statement : comments_in_statements (codes "eff n := n + 1   % count up") ≡ []
behind_a_whole_statement = refl

of_several_operands : comments_in_statements (codes "eff x := (y + 1) % (len(q) + 2 * p.tag) fi; z := 1") ≡ 1 ∷ []
of_several_operands = refl

before_the_end_of_a_choice : comments_in_statements (codes "if a then x := y % 2 fi") ≡ 1 ∷ []
before_the_end_of_a_choice = refl

of_a_sentence : comments_in_statements (codes "x := y % then, of two (as said): 2\nx := y % 2 of them\nx := y % - - -\nx := y %\nx := y % done.") ≡ []
of_a_sentence = refl

in_a_comment : comments_in_statements (codes "% x := y % 2") ≡ []
in_a_comment = refl

on_two_lines : comments_in_statements (codes "eff x := y % 2;\n  y := x mod 2;\n\n  x := 3 % k") ≡ 1 ∷ 4 ∷ []
on_two_lines = refl

-- ---- transitions that are never performed

shows_false : never true (truth false) ≡ true
shows_false = refl

-- ~(true \/ x)
shows_a_denied_choice : never true (prefix Not (parens (binary (truth true) Or (named (codes "x"))))) ≡ true
shows_a_denied_choice = refl

-- x /\ false
shows_a_second_operand : never true (binary (named (codes "x")) And (truth false)) ≡ true
shows_a_second_operand = refl

-- x \/ false may be true
asks_what_x_is : never true (binary (named (codes "x")) Or (truth false)) ≡ false
asks_what_x_is = refl

-- true => false
shows_what_follows : never true (binary (truth true) Implies (truth false)) ≡ true
shows_what_follows = refl

-- any(0), and any(1), which gives 0
gives_no_number : gives_nothing (any_below (number 0)) ≡ true
gives_no_number = refl

gives_one_number : gives_nothing (any_below (number 1)) ≡ false
gives_one_number = refl

-- .. and 0 itself is given where it is proposed
gives_zero : gives_nothing (exactly (number 0)) ≡ false
gives_zero = refl
