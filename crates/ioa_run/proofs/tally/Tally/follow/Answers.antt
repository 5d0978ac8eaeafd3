use Rattle.std.proofs.Common.{◌≡◌, ◌∙◌, ◌%◌, ◌<◌, Some, List, length, ap, subst, sym, rules, arith}
use Rattle.std.proofs.lemmas.Nat.{mod_below}
use Rattle.std.proofs.lemmas.Option.{slice_get-get_or}
use Rattle.ioa_run.specs.declared.tally.Tries.{Tries}
use Rattle.ioa_run.specs.Tallies.{followed}
use Rattle.ioa_run.specs.Turns.{changed}
use Rattle.ioa_run.proofs.Tallying.{set_changed}
use Rattle.ioa_run.proofs.tally.Tally.follow.Goals as goal

-- the picked entry is set to what follows
pub returns : goal.returns
returns c =
    let ts : List Tries = c.args.self.now.entries.items in
    let count : c.len-count.result ≡ length ts = search rules in
    let word = c.args.pick.word in
    let d = c.if-count-eq0.false in
    let less : word % c.len-count.result < length ts = subst (λ k. word % c.len-count.result < k) count (mod_below word c.len-count.result (omega (arith, d))) in
    set_changed (followed c.args.pick.lost c.args.before c.args.after) (word % c.len-count.result) ts c.index.result.now c.followed.result
    (slice_get-get_or ts (word % c.len-count.result) c.index.result.now less ∙ ap (λ t. Some t) (sym c.index.ensures)) c.followed.ensures
    ∙ ap (λ k. changed (followed c.args.pick.lost c.args.before c.args.after) (word % k) ts) count
