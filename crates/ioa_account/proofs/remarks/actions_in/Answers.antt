use Rattle.std.proofs.Common.{ap, ◌∙◌, sym, map-id}
use Rattle.std.proofs.lemmas.Iterator.Adapters.{YieldsList-from_vec}
use Rattle.std.proofs.lemmas.Iterator.Consumers.{YieldsList-end}
use Rattle.ioa_account.proofs.Remarking.{entered}
use Rattle.ioa_account.proofs.remarks.actions_in.Goals as goal

pub returns : goal.returns
returns c =
    let gives = c.into_iter-entry-iterator.ensures.into_iter_gives in
    let all = YieldsList-end (YieldsList-from_vec {s = c.into_iter-entry-iterator.result} c.args.entries.items gives.0 (gives.1 ∙ c.args.entries.ok.0)) c.loop-entry.yielded c.loop-entry.entry-iterator
    c.loop-entry.yielded_by c.next.result c.next.new.self c.in-None.is c.next.ensures.steps in
    c.loop-entry.invariant ∙ ap entered (sym (map-id c.loop-entry.yielded) ∙ all.0)
