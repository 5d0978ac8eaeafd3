use denote.Param.Weighed.{most}
use Rattle.std.proofs.Common.{max, ◌*◌, ◌≡◌, ◌+◌, ◌++◌, ◌∷◌, [], drop, map, string_bytes}
use Rattle.std.specs.Prelude.{codes}
use Rattle.ioa_tree.proofs.tree.Statement.TheLaws.{the_size}
use Rattle.ioa_tree.proofs.tree.Arm.TheLaws.{the_size as the_size_of_arm}
use Rattle.ioa_tree.specs.Tree.{choose}
use Rattle.ioa_tree.specs.View.{arms_of, stmts_of}
use Rattle.ioa_coverage.specs.Taken.{dotted, if_any, labels, labels_in, labels_of}
use Rattle.ioa_coverage.proofs.labels.+labels.Given as goal

-- what is between a statement and its parts is ranked between them
abbrev pub decreases-push_statement : goal.decreases-push_statement
decreases-push_statement l = 5 * goal.size-push_statement l

abbrev pub decreases-push_all : goal.decreases-push_all
decreases-push_all l = 5 * goal.size-push_all l + 1

abbrev pub decreases-push_named : goal.decreases-push_named
decreases-push_named l = 5 * goal.size-push_named l + 2

abbrev pub decreases-push_choice : goal.decreases-push_choice
decreases-push_choice l = 5 * max (most the_size_of_arm l.arms.now) (most the_size l.others.now) + 3

-- what is put and what is left come to the whole
abbrev pub invariant-push_all-loop-statement : goal.invariant-push_all-loop-statement
invariant-push_all-loop-statement l = record {
  put : map string_bytes l.labels.items ++ labels_in l.before l.number (stmts_of (drop l.statement-index l.statements))
      ≡ map string_bytes l.initial.labels.items ++ labels_in l.before 1 (stmts_of l.statements);
  counted : l.number ≡ l.statement-index + 1;
}

abbrev pub invariant-push_choice-loop-arm : goal.invariant-push_choice-loop-arm
invariant-push_choice-loop-arm l =
    let others = stmts_of l.others in
    record {
      put : map string_bytes l.labels.items ++ labels_of l.at l.number (arms_of (drop l.arm-index l.arms)) (λ k. if_any others ((codes "else " ++ dotted l.at k) ∷ labels_in (dotted l.at k ++ codes ".") 1 others) [])
          ≡ map string_bytes l.initial.labels.items ++ labels l.at (choose (arms_of l.arms) others);
      counted : l.number ≡ l.arm-index + 1;
    }
