use Rattle.std.proofs.Common.{sym, subst, ap, arith, ◌-◌, ◌∙◌, Ok, rules}
use Rattle.ioa_lex.specs.Tokens.{tokens_shown}
use Rattle.ioa_tree.specs.Tree.{Stmt}
use Rattle.ioa_value.specs.declared.limits.TheConstants.{LIMITS}
use Rattle.ioa_value.specs.declared.terminal.Terminal.TheVariants as terminals
use Rattle.ioa_grammar.specs.Reading.{Outcome, ReadsAs, unconditional, choice, sees_statement, sees, statement, in_sequence, an_arm, sign, built, ◌▸◌}
use Rattle.ioa_tree.specs.View.{name_of, expr_of, stmt_of, stmts_of, arm_of}
use Rattle.ioa_declarations.proofs.Sequences.{statement_plain, statement_choice, arms_start, choice_read, loop_read}
use Rattle.ioa_tree.proofs.StatementRows.{stmt_choose, stmt_each}
use Rattle.ioa_grammar.proofs.Turns.{items_close, items_last, many_end, many_spent}
use Rattle.ioa_declarations.proofs.statements.+statement.Goals as goal
use Rattle.ioa_declarations.proofs.statements.+statement.Goals.{each_statement-then-not-take-via-then-not-take, each_statement-then-not-take-via-else-not-take+then-not-sees_statement}

pub each_statement-returns-then-not-take : goal.each_statement-returns-then-not-take
each_statement-returns-then-not-take t c =
    elim c.then-not-take.branch [
      | each_statement-then-not-take-via-then-not-take w ↦
          sym c.loop-turn.invariant
          ∙ items_close stmt_of sees_statement terminals.Semicolon (statement LIMITS.depth c.args.levels) _ _ _ _ _ _ _ _ c.loop-turn-test.true c.in_ok-statement.ensures c.take.ensures.after (sym c.take.ensures.found ∙ w.if-not-take.true) c.in_ok-push.ensures.items
      | each_statement-then-not-take-via-else-not-take+then-not-sees_statement w ↦
          sym c.loop-turn.invariant
          ∙ items_last stmt_of sees_statement terminals.Semicolon (statement LIMITS.depth c.args.levels) _ _ _ _ _ _ _ _ c.loop-turn-test.true c.in_ok-statement.ensures c.take.ensures.after (sym w.sees_statement.ensures ∙ w.if-not-sees_statement.true) c.in_ok-push.ensures.items
    ]

pub arms-returns-then-not-sees : goal.arms-returns-then-not-sees
arms-returns-then-not-sees t c = sym c.loop-turn.invariant ∙ many_end arm_of (sees terminals.Elseif) (built (λ p. p.1) (sign terminals.Elseif ▸ an_arm LIMITS.depth (in_sequence (statement LIMITS.depth c.args.levels)))) _ _ _ (sym c.sees.ensures ∙ c.if-not-sees.true)

pub arms-returns : goal.arms-returns
arms-returns t c = sym c.loop-turn.invariant ∙ many_spent arm_of (sees terminals.Elseif) (built (λ p. p.1) (sign terminals.Elseif ▸ an_arm LIMITS.depth (in_sequence (statement LIMITS.depth c.args.levels)))) _ _ _ _ c.loop-turn-test.false

pub statement-returns-then-take : goal.statement-returns-then-take
statement-returns-then-take t c =
    let e = statement_choice LIMITS.depth c.args.levels (tokens_shown c.args.cursor.now) (omega arith) (sym c.take.ensures.found ∙ c.if-take.true) ∙ ap (choice LIMITS.depth (in_sequence (statement LIMITS.depth (c.args.levels - 1)))) (sym c.take.ensures.after) in
    subst (λ (o : Outcome Stmt). ReadsAs stmt_of o c.choice.result (tokens_shown c.choice.new.cursor)) (sym e) c.choice.ensures

pub statement-returns : goal.statement-returns
statement-returns t c =
    let e = statement_plain LIMITS.depth c.args.levels (tokens_shown c.args.cursor.now) (omega arith) (sym c.take.ensures.found ∙ c.if-take.false) ∙ ap (unconditional LIMITS.depth (in_sequence (statement LIMITS.depth (c.args.levels - 1)))) (sym c.take.ensures.after) in
    subst (λ (o : Outcome Stmt). ReadsAs stmt_of o c.unconditional.result (tokens_shown c.unconditional.new.cursor)) (sym e) c.unconditional.ensures

pub arms-loop-turn-init : goal.arms-loop-turn-init
arms-loop-turn-init t c =
    arms_start LIMITS.depth c.left-turn-end.result (in_sequence (statement LIMITS.depth c.args.levels)) c.args.first c.push.new.self.items c.args.cursor.now (search rules) c.left-turn-end.ensures

pub choice-returns : goal.choice-returns
choice-returns t c =
    let inner = in_sequence (statement LIMITS.depth c.args.levels) in
    choice_read LIMITS.depth inner (arm_of c.in_ok-first.first) _ _ _ _ _ c.in_ok-arms.arms.items (stmts_of c.in_ok-others.others.items) c.in_ok-first.ensures c.in_ok-arms.ensures c.in_ok-others.ensures c.in_ok-expect.ensures
    ∙ ap (λ s. Ok (s, tokens_shown c.expect.new.self)) (sym (stmt_choose c.in_ok-arms.arms c.in_ok-others.others c.args.line))

pub a_loop-returns : goal.a_loop-returns
a_loop-returns t c =
    loop_read LIMITS.depth (in_sequence (statement LIMITS.depth c.args.levels)) (name_of c.in_ok-name.name) (expr_of c.in_ok-items.items) (stmts_of c.in_ok-items.body.items) _ _ _ _ c.in_ok-name.ensures c.in_ok-expect.ensures c.in_ok-items.ensures
    ∙ ap (λ s. Ok (s, tokens_shown c.turns.new.cursor)) (sym (stmt_each c.in_ok-name.name c.in_ok-items.items c.in_ok-items.body c.args.line))
