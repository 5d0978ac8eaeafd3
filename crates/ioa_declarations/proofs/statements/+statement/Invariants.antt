use Rattle.std.proofs.Common.{◌≡◌, ◌-◌, ◌+◌, ◌*◌, ◌∷◌, map}
use Rattle.ioa_value.specs.declared.limits.TheConstants.{LIMITS}
use Rattle.ioa_lex.specs.Tokens.{tokens_shown}
use Rattle.ioa_value.specs.declared.terminal.Terminal.TheVariants as terminals
use Rattle.ioa_grammar.specs.Reading.{items_from, many_from, sees, sees_statement, sign, built, ◌▸◌, statement, terminated, in_sequence, an_arm, more_arms}
use Rattle.ioa_tree.specs.View.{stmt_of, arm_of}
use Rattle.ioa_declarations.proofs.statements.+statement.Given as goal

abbrev pub decreases-statement : goal.decreases-statement
decreases-statement l = 7 * l.levels

abbrev pub decreases-each_statement : goal.decreases-each_statement
decreases-each_statement l = 7 * l.levels + 1

abbrev pub decreases-statements : goal.decreases-statements
decreases-statements l = 7 * l.levels + 2

abbrev pub decreases-introduced : goal.decreases-introduced
decreases-introduced l = 7 * l.levels + 3

abbrev pub decreases-an_arm : goal.decreases-an_arm
decreases-an_arm l = 7 * l.levels + 3

abbrev pub decreases-another_arm : goal.decreases-another_arm
decreases-another_arm l = 7 * l.levels + 4

abbrev pub decreases-arms : goal.decreases-arms
decreases-arms l = 7 * l.levels + 5

abbrev pub decreases-choice : goal.decreases-choice
decreases-choice l = 7 * l.levels + 6

abbrev pub decreases-a_loop : goal.decreases-a_loop
decreases-a_loop l = 7 * l.levels + 4

abbrev pub decreases-turns : goal.decreases-turns
decreases-turns l = 7 * l.levels + 3

abbrev pub decreases-unconditional : goal.decreases-unconditional
decreases-unconditional l = 7 * l.levels + 5

abbrev pub invariant-each_statement-loop-turn : goal.invariant-each_statement-loop-turn
invariant-each_statement-loop-turn l = items_from sees_statement terminals.Semicolon (statement LIMITS.depth l.levels) (l._turn-end - l._turn) (map stmt_of l.found.items) (tokens_shown l.cursor) ≡ terminated sees_statement terminals.Semicolon (statement LIMITS.depth l.levels) (tokens_shown l.initial.cursor)

abbrev pub invariant-arms-loop-turn : goal.invariant-arms-loop-turn
invariant-arms-loop-turn l = many_from (sees terminals.Elseif) (built (λ p. p.1) (sign terminals.Elseif ▸ an_arm LIMITS.depth (in_sequence (statement LIMITS.depth l.levels)))) (l._turn-end - l._turn) (map arm_of l.found.items) (tokens_shown l.cursor) ≡ built (λ more. arm_of l.fn.first ∷ more) (more_arms LIMITS.depth (in_sequence (statement LIMITS.depth l.levels))) (tokens_shown l.initial.cursor)
