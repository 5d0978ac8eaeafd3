-- How often entries of small components are performed, and which arms and bodies small effects take: each answer is computed.
use Rattle.std.proofs.Common.{◌≡◌, ℕ, List, [], ◌∷◌, false, Option, Some, None, codes, map, pos, refl}
use Rattle.std.specs.Fmt.{digits}
use Rattle.ioa_value.specs.Actions.{Act, Name}
use Rattle.ioa_value.specs.Plain.{Val, items, none, more, num}
use Rattle.ioa_value.specs.Table.{Table, numbers, truths, sequence}
use Rattle.ioa_value.specs.declared.operator.Op.TheVariants as ops
use Rattle.ioa_tree.specs.declared.tree.Infix.TheVariants.{Operator}
use Rattle.ioa_tree.specs.declared.tree.Kind.{Kind}
use Rattle.ioa_tree.specs.declared.tree.Kind.TheVariants.{Input, Output}
use Rattle.ioa_tree.specs.Hosts.{Host, Hosted}
use Rattle.ioa_tree.specs.Meaning.{Env, values_of}
use Rattle.ioa_tree.specs.Tree as trees
use Rattle.ioa_tree.specs.Tree.{CrashTree, EntryTree, Expr, PositionTree, Stmts, arm, assign, choose, each, named, no_arm, number, only, positive, seq, stop, typed}
use Rattle.ioa_coverage.specs.Performed.{how_often, of_host}
use Rattle.ioa_coverage.specs.Taken.{all_taken_text, effect_labels, marks_in, places_in, row_of_entry, told_of}

-- ---- entries

-- Bool, Int, and sequences of at most four numbers
abbrev types : Table
types = record { name = codes "Bool"; shape = truths } ∷ record { name = codes "Int"; shape = numbers } ∷ record { name = codes "Row"; shape = sequence 4 1 } ∷ []

abbrev entry : Kind → Name → List PositionTree → EntryTree
entry k x ps = record { kind = k; name = x; positions = ps }

-- a clock that ticks with a number, with 3 alone in another entry, and that is stopped
abbrev clock : Option CrashTree → Host
clock crash = record {
  name = codes "clock";
  instance = record {
    types = types;
    automaton = record {
      name = codes "Clock";
      formals = [];
      entries = entry Output (codes "tick") (typed (record { name = codes "n"; ty = codes "Int" }) ∷ []) ∷ entry Output (codes "strike") (only (positive 3) ∷ []) ∷ entry Input (codes "halt") [] ∷ [];
      variables = [];
      transitions = [];
    };
    arguments = [];
  };
  starts = [];
  crash = crash;
}

abbrev act : Name → List Val → Act
act x vs = record { name = x; vals = vs }

abbrev acts : List Act
acts = act (codes "tick") (num (pos 5) ∷ []) ∷ act (codes "halt") [] ∷ act (codes "tick") (num (pos 3) ∷ []) ∷ act (codes "strike") (num (pos 4) ∷ []) ∷ act (codes "down") [] ∷ []

-- each action counts for the entry that has it; an action with another value is none of the entry's
entries_are_counted : of_host acts (clock None) ≡ how_often (codes "clock") (codes "tick") 2 ∷ how_often (codes "clock") (codes "strike") 0 ∷ how_often (codes "clock") (codes "halt") 1 ∷ []
entries_are_counted = refl

-- to crash and to recover are two more
crashes_are_counted : of_host acts (clock (Some (record { crash = codes "down"; recover = codes "up" })))
    ≡ how_often (codes "clock") (codes "tick") 2 ∷ how_often (codes "clock") (codes "strike") 0 ∷ how_often (codes "clock") (codes "halt") 1 ∷ how_often (codes "clock") (codes "down") 1
    ∷ how_often (codes "clock") (codes "up") 0 ∷ []
crashes_are_counted = refl

-- what was never performed is told last
never_is_last : told_of (map row_of_entry (of_host acts (clock None))) ≡ codes "clock: tick: performed 2\nclock: halt: performed 1\nclock: strike: never performed\n"
unfolding digits
never_is_last = refl

-- ---- arms and bodies

abbrev x : Expr
x = named (codes "x")

abbrev is : Expr → ℕ → Expr
is e n = trees.binary e (Operator ops.Eq) (number n)

abbrev set : ℕ → Stmts
set n = seq (assign (codes "x") (number n)) stop

-- if x = 0 then x := 1 elseif x = 1 then x := 2 else x := 0 fi
abbrev three : Stmts → Stmts
three rest = seq (choose (arm (is x 0) (set 1) (arm (is x 1) (set 2) no_arm)) (set 0)) rest

abbrev with_x : ℕ → Env
with_x n = values_of (codes "x" ∷ []) (num (pos n) ∷ [])

three_places : places_in (three stop) ≡ 3
three_places = refl

first_arm : marks_in types 0 (three stop) (with_x 0) ≡ 0 ∷ []
first_arm = refl

second_arm : marks_in types 0 (three stop) (with_x 1) ≡ 1 ∷ []
second_arm = refl

other_arm : marks_in types 0 (three stop) (with_x 7) ≡ 2 ∷ []
other_arm = refl

-- a second `if` is asked in what the first one left
in_the_state_left : marks_in types 0 (three (three stop)) (with_x 0) ≡ 0 ∷ 4 ∷ []
in_the_state_left = refl

-- an `if` without an `else`, of which no condition is true, takes nothing
nothing_taken : marks_in types 0 (seq (choose (arm (is x 0) (set 1) no_arm) stop) stop) (with_x 5) ≡ []
nothing_taken = refl

-- for y in row do if y = 1 then x := 1 fi od
abbrev loop : Stmts
loop = seq (each (codes "y") (named (codes "row")) (seq (choose (arm (is (named (codes "y")) 1) (set 1) no_arm) stop) stop)) stop

abbrev with_row : Env
with_row = values_of (codes "x" ∷ codes "row" ∷ []) (num (pos 0) ∷ items 2 (more (num (pos 1)) (more (num (pos 2)) (more (num (pos 1)) none))) ∷ [])

-- the body once for each item, and what each turn takes in it
body_by_turns : marks_in types 0 loop with_row ≡ 0 ∷ 1 ∷ 0 ∷ 0 ∷ 1 ∷ []
body_by_turns = refl

called : effect_labels (three loop) ≡ codes "arm 1.1" ∷ codes "arm 1.2" ∷ codes "else 1.3" ∷ codes "body 2.1" ∷ codes "arm 2.1.1.1" ∷ []
unfolding digits
called = refl

-- put(n), by which a shelf gets one thing or two, and else none
abbrev shelf : Host
shelf = record {
  name = codes "A";
  instance = record {
    types = types;
    automaton = record {
      name = codes "Shelf";
      formals = [];
      entries = entry Input (codes "put") (typed (record { name = codes "n"; ty = codes "Int" }) ∷ []) ∷ entry Input (codes "clear") [] ∷ [];
      variables = record { stable = false; field = record { name = codes "x"; ty = codes "Int" }; start = Some (number 0) } ∷ [];
      transitions =
          record {
            kind = Input;
            name = codes "put";
            pre = None;
            proposals = [];
            effect = seq (choose (arm (is (named (codes "n")) 1) (set 1) (arm (is (named (codes "n")) 2) (set 2) no_arm)) stop) stop;
          }
          ∷ record { kind = Input; name = codes "clear"; pre = None; proposals = []; effect = set 0 }
          ∷ [];
    };
    arguments = [];
  };
  starts = num (pos 0) ∷ [];
  crash = None;
}

abbrev shelves : Hosted
shelves = record { types = types; name = codes "Shelves"; hosts = shelf ∷ []; hidden = []; invariants = [] }

abbrev puts : List Act
puts = act (codes "put") (num (pos 1) ∷ []) ∷ act (codes "put") (num (pos 3) ∷ []) ∷ act (codes "put") (num (pos 1) ∷ []) ∷ []

all_of_it : all_taken_text shelves (puts ∷ []) ≡ codes "A: put: performed 3\nA: put: arm 1.1: taken 2\nA: put: arm 1.2: never taken\nA: clear: never performed\n"
unfolding digits
all_of_it = refl

-- each run begins anew, and all are counted
two_runs : all_taken_text shelves (puts ∷ puts ∷ []) ≡ codes "A: put: performed 6\nA: put: arm 1.1: taken 4\nA: put: arm 1.2: never taken\nA: clear: never performed\n"
unfolding digits
two_runs = refl
