use Rattle.std.proofs.Common.{◌∙◌, ◌++◌, ap, length, map, string_bytes, sym}
use Rattle.ioa_value.specs.Actions.{act_of}
use Rattle.ioa_watch.specs.declared.watcher.Watcher.{Watcher}
use Rattle.ioa_watch.specs.Names.{shown}
use Rattle.ioa_serving.specs.LogCounts.{counts_line}
use Rattle.ioa_serving.proofs.HeardKnown.{told}
use Rattle.ioa_serving.proofs.log_counts.put_monitor_counts.Goals as goal

pub taken_text-requires : goal.taken_text-requires
taken_text-requires c =
    let w : Watcher = c.in_ok-known.known.watcher in
    ap length c.counts.ensures ∙ w.counted.0 ∙ ap length (sym c.names.ensures)

pub returns : goal.returns
returns c =
    let known = c.in_ok-known.known in
    c.in_ok-push_counts.ensures
    ∙ ap (λ t. string_bytes c.args.text.now ++ t)
    (ap (λ t. counts_line c.name.result.now t known.passed) (c.as_str.ensures.value ∙ c.in_ok-taken.ensures)
    ∙ told c.args.program.now (map act_of c.args.actions.now) known c.in_ok-known.ensures c.name.result.now (shown c.names.result.now) c.counts.result.now c.name.ensures
    (ap shown c.names.ensures) c.counts.ensures)
