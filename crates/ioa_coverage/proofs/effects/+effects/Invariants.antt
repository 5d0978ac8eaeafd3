use denote.Param.Weighed.{most}
use Rattle.std.proofs.Common.{max, ◌*◌, ◌≡◌, ◌+◌, ◌≤◌, ◌∷◌, [], drop, length}
use Rattle.ioa_value.specs.Plain.{plain_all}
use Rattle.ioa_tree.proofs.tree.Statement.TheLaws.{the_size}
use Rattle.ioa_tree.proofs.tree.Arm.TheLaws.{the_size as the_size_of_arm}
use Rattle.ioa_tree.specs.Meaning.{does, eff, picks, turns}
use Rattle.ioa_tree.specs.Tree.{choose, each}
use Rattle.ioa_tree.specs.View.{arms_of, expr_of, name_of, stmts_of}
use Rattle.ioa_coverage.specs.Following.{KeepsNames, MayFollowAll, with_marks}
use Rattle.ioa_coverage.specs.Known.{known}
use Rattle.ioa_coverage.specs.Taken.{if_any, marks, marks_in, marks_of_arms, marks_of_turns, places_in, places_of}
use Rattle.ioa_coverage.proofs.Followed.{MayChoose, MayLoop}
use Rattle.ioa_coverage.proofs.effects.+effects.Given as goal

-- what is between a statement and its parts is ranked between them
abbrev pub decreases-follow : goal.decreases-follow
decreases-follow l = 5 * goal.size-follow l

abbrev pub decreases-follow_all : goal.decreases-follow_all
decreases-follow_all l = 5 * goal.size-follow_all l + 1

abbrev pub decreases-follow_counted : goal.decreases-follow_counted
decreases-follow_counted l = 5 * goal.size-follow_counted l + 2

abbrev pub decreases-follow_choice : goal.decreases-follow_choice
decreases-follow_choice l = 5 * max (most the_size_of_arm l.arms.now) (most the_size l.others.now) + 3

abbrev pub decreases-follow_turn : goal.decreases-follow_turn
decreases-follow_turn l = 5 * most the_size l.body.now + 3

abbrev pub decreases-follow_loop : goal.decreases-follow_loop
decreases-follow_loop l = 5 * most the_size l.body.now + 4

-- the whole comes to what is left of it
abbrev pub invariant-follow_all-loop-statement : goal.invariant-follow_all-loop-statement
invariant-follow_all-loop-statement l =
    let rest = stmts_of (drop l.statement-index l.statements) in
    record {
      left : eff l.types rest (known l.scope.items) ≡ eff l.types (stmts_of l.statements) (known l.initial.scope.items);
      marked : with_marks l.counts (marks_in l.types l.place rest (known l.scope.items)) ≡ with_marks l.initial.counts (marks_in l.types l.first (stmts_of l.statements) (known l.initial.scope.items));
      typed : MayFollowAll l.types (known l.scope.items) rest;
      room : l.place + places_in rest ≤ length l.counts;
      names : KeepsNames l.initial.scope.items l.scope.items;
    }

abbrev pub invariant-follow_choice-loop-arm : goal.invariant-follow_choice-loop-arm
invariant-follow_choice-loop-arm l =
    let rest = arms_of (drop l.arm-index l.arms) in
    let others = stmts_of l.others in
    let env = known l.initial.scope.items in
    record {
      scope : l.scope.items ≡ l.initial.scope.items;
      counts : l.counts ≡ l.initial.counts;
      left : picks l.types rest env (eff l.types others env) ≡ does l.types (choose (arms_of l.arms) others) env;
      marked : marks_of_arms l.types l.place rest env (λ m. if_any others (m ∷ marks_in l.types (m + 1) others env) []) ≡ marks l.types l.first (choose (arms_of l.arms) others) env;
      typed : MayChoose l.types env rest;
      room : l.place + (places_of rest + if_any others (1 + places_in others) 0) ≤ length l.initial.counts;
    }

abbrev pub invariant-follow_loop-loop-item : goal.invariant-follow_loop-loop-item
invariant-follow_loop-loop-item l =
    let x = name_of l.name in
    let ss = stmts_of l.body in
    let rest = plain_all (drop l.item-index l.item-items) in
    record {
      left : turns (eff l.types ss) x rest (known l.scope.items) ≡ does l.types (each x (expr_of l.items) ss) (known l.initial.scope.items);
      marked : with_marks l.counts (marks_of_turns (marks_in l.types (l.first + 1) ss) (eff l.types ss) l.first x rest (known l.scope.items))
          ≡ with_marks l.initial.counts (marks l.types l.first (each x (expr_of l.items) ss) (known l.initial.scope.items));
      typed : MayLoop l.types x ss rest (known l.scope.items);
      room : l.first + (1 + places_in ss) ≤ length l.counts;
      names : KeepsNames l.initial.scope.items l.scope.items;
    }
