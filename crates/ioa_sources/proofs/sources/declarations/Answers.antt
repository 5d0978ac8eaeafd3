use Rattle.std.proofs.Common.{sym, ◌∙◌, subst, Result}
use Rattle.ioa_value.specs.declared.limits.TheConstants.{LIMITS}
use Rattle.ioa_lex.specs.declared.refusal.Refusal.{Refusal}
use Rattle.ioa_lex.specs.Tokens.{tokens_shown}
use Rattle.ioa_tree.specs.Tree.{SourceTree}
use Rattle.ioa_grammar.specs.Reading.{Refuses, line_at}
use Rattle.ioa_tree.specs.View.{tree_of}
use Rattle.ioa_declarations.proofs.SourceTurns.{source_end, source_spent, source_turn, source_fail}
use Rattle.ioa_sources.proofs.sources.declarations.Goals as goal

pub returns-then-first-eq0 : goal.returns-then-first-eq0
returns-then-first-eq0 c = sym c.loop-turn.invariant ∙ source_end LIMITS.depth (line_at c.args.tokens.now c.args.end) _ _ _ c.loop-turn.cursor c.left-first.ensures c.if-first-eq0.true

pub returns-in-Err : goal.returns-in-Err
returns-in-Err c =
    subst (λ (read : Result SourceTree Refusal). Refuses c.refusal.result read) c.loop-turn.invariant
    (source_fail LIMITS.depth (line_at c.args.tokens.now c.args.end) _ _ _ (tree_of c.loop-turn.found.items) c.loop-turn.cursor c.in-Err.error c.refusal.result c.loop-turn-test.true c.left-first.ensures c.if-first-eq0.false c.in-Err.ensures c.refusal.ensures)

pub loop-turn-preserved : goal.loop-turn-preserved
loop-turn-preserved c =
    source_turn LIMITS.depth (line_at c.args.tokens.now c.args.end) _ _ _ c.loop-turn.found.items c.push.new.self.items c.loop-turn.cursor (tokens_shown c.declaration.new.cursor) c.in-Ok.declaration c.loop-turn-test.true c.left-first.ensures c.if-first-eq0.false c.in-Ok.ensures c.in_ok-push-in-Ok.ensures.items
    ∙ c.loop-turn.invariant

pub returns : goal.returns
returns c = sym c.loop-turn.invariant ∙ source_spent LIMITS.depth (line_at c.args.tokens.now c.args.end) _ _ _ _ c.loop-turn-test.false
