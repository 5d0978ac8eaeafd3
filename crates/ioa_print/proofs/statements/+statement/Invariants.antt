use Rattle.std.proofs.Common.{◌≡◌, ◌+◌, ◌*◌, ◌++◌, map, take}
use Rattle.std.specs.List.{flat_map}
use Rattle.std.specs.String.{string_bytes}
use Rattle.ioa_value.specs.declared.terminal.Terminal.TheVariants as terminals
use Rattle.ioa_print.specs.Layout.{text_more, text_stmt}
use Rattle.ioa_tree.specs.View.{stmt_of}
use Rattle.ioa_print.proofs.PrintedRows.{text_arm}
use Rattle.ioa_print.proofs.statements.+statement.Given as goal

-- statements in sequence are ranked before each of them, and a loop before its statements
abbrev pub decreases-statement : goal.decreases-statement
decreases-statement l = 3 * goal.size-statement l

abbrev pub decreases-more_statements : goal.decreases-more_statements
decreases-more_statements l = 3 * goal.size-more_statements l + 1

abbrev pub decreases-arm : goal.decreases-arm
decreases-arm l = 3 * goal.size-arm l

abbrev pub decreases-more_arms : goal.decreases-more_arms
decreases-more_arms l = 3 * goal.size-more_arms l + 1

abbrev pub decreases-a_loop : goal.decreases-a_loop
decreases-a_loop l = 3 * goal.size-a_loop l + 2

abbrev pub invariant-more_statements-loop-each : goal.invariant-more_statements-loop-each
invariant-more_statements-loop-each l = string_bytes l.text ≡ string_bytes l.initial.text ++ text_more terminals.Semicolon text_stmt (map stmt_of (take l.each-index l.statements))

abbrev pub invariant-more_arms-loop-each : goal.invariant-more_arms-loop-each
invariant-more_arms-loop-each l = string_bytes l.text ≡ string_bytes l.initial.text ++ flat_map (text_arm terminals.Elseif) (take l.each-index l.arms)
