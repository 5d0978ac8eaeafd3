use Rattle.std.proofs.Common.{◌≡◌, ◌-◌, List, length, sym, subst, arith}
use Rattle.std.proofs.lemmas.List.{length-map}
use Rattle.ioa_lex.specs.declared.token.Token.{Token}
use Rattle.ioa_lex.specs.Tokens.{tokens_shown, kind_shown}
use Rattle.ioa_declarations.proofs.Stopped.{IsReadTo, read_none, read_more, dead_none, dead_spent, dead_by}
use Rattle.ioa_declarations.proofs.dead_ends.dead_end.Goals as goal

pub loop-turn-init : goal.loop-turn-init
loop-turn-init c =
    let all = c.args.tokens.now in
    let count : length all - 0 ≡ length (tokens_shown all) = omega (arith, length-map all (λ t. kind_shown t.kind)) in
    subst (λ (ts : List Token). IsReadTo (tokens_shown all) (length all - 0) (tokens_shown ts)) (sym c.new-cursor.ensures) (read_none (tokens_shown all) (length all - 0) count)

pub returns-then-first-eq0 : goal.returns-then-first-eq0
returns-then-first-eq0 c = dead_none _ _ _ c.loop-turn.cursor c.loop-turn.invariant c.left-first.ensures c.if-first-eq0.true

pub returns-in-Err : goal.returns-in-Err
returns-in-Err c =
    let all = c.args.tokens.now in
    let size : length all ≡ length (tokens_shown all) = sym (length-map all (λ t. kind_shown t.kind)) in
    dead_by (tokens_shown all) (length all) c.loop-turn._turn c.left-first.result c.loop-turn.cursor c.in-Err.error c.stopped_by.result size c.loop-turn.invariant c.loop-turn-test.true c.left-first.ensures c.if-first-eq0.false c.in-Err.ensures c.stopped_by.ensures

pub loop-turn-preserved : goal.loop-turn-preserved
loop-turn-preserved c =
    read_more (tokens_shown c.args.tokens.now) (length c.args.tokens.now) c.loop-turn._turn c.left-first.result c.loop-turn.cursor (tokens_shown c.pass.new.cursor) c.in-Ok.ensures.0 c.loop-turn.invariant c.loop-turn-test.true c.left-first.ensures c.if-first-eq0.false c.in-Ok.ensures.1

pub returns : goal.returns
returns c = dead_spent _ (length c.args.tokens.now) c.loop-turn._turn _ c.loop-turn.invariant c.loop-turn-test.false
