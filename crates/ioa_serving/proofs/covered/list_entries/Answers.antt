use Rattle.std.proofs.Common.{◌≡◌, IfOk, List, map, subst, sym}
use Rattle.std.proofs.lemmas.Result.{IfOk-weaker}
use Rattle.ioa_value.specs.Actions.{Act, act_of}
use Rattle.ioa_value.specs.Lists.{ReadsList}
use Rattle.ioa_coverage.specs.Counts.{entered}
use Rattle.ioa_serving.proofs.covered.list_entries.Goals as goal

pub returns-in-Ok : goal.returns-in-Ok
returns-in-Ok c =
    let reads = subst (λ r. IfOk r (λ list. ReadsList c.args.types.now c.args.bytes.now (map act_of list.items))) c.in-Ok.is c.in_ok-listed.ensures.list in
    IfOk-weaker c.entries_of.result (λ es. entered es.items ≡ map act_of c.in-Ok.actions.items) (λ es. ReadsList c.args.types.now c.args.bytes.now (entered es.items))
    (λ es is. subst (λ (acts : List Act). ReadsList c.args.types.now c.args.bytes.now acts) (sym is) reads) c.entries_of.ensures
