use Rattle.std.proofs.Common.{◌≡◌, ◌∙◌, ◌++◌, append_assoc, ap, length, option_map, string_bytes, sym}
use Rattle.std.proofs.lemmas.Result.{on_ok_weaker}
use Rattle.ioa_compile.specs.Programs.{Prog}
use Rattle.ioa_system.specs.Outcomes.{ending_of}
use Rattle.ioa_watch.specs.declared.watcher.Watcher.{Watcher}
use Rattle.ioa_watch.specs.Names.{shown}
use Rattle.ioa_serving.specs.Counting.{counts_line, full_line, taken_text}
use Rattle.ioa_serving.proofs.Counting.{lines_are}
use Rattle.ioa_serving.proofs.stream_counts.push_counted.Goals as goal

pub taken_text-requires : goal.taken_text-requires
taken_text-requires c =
    let w : Watcher = c.args.watcher.now in
    ap length c.counts.ensures ∙ w.counted.0 ∙ ap length (sym c.names.ensures)

pub returns : goal.returns
returns c =
    let w : Watcher = c.args.watcher.now in
    let old = string_bytes c.args.text.now in
    on_ok_weaker c.push_full.result (λ put p acts h.
    let named : c.name-name.result.now ≡ p.name = c.name-name.ensures ∙ ap (λ (q : Prog). q.name) (c.program.ensures ∙ h.program) in
    let line = counts_line c.name-name.result.now c.as_str.result.now c.others.result in
    let full = full_line c.name-name.result.now c.is_full.result in
    put ∙ ap (λ t. t ++ full) c.in_ok-push_counts.ensures ∙ append_assoc old line full
    ∙ ap (λ t. old ++ t)
    (ap (λ t. counts_line c.name-name.result.now t c.others.result ++ full) (c.as_str.ensures.value ∙ c.in_ok-taken.ensures)
    ∙ ap (λ b. counts_line c.name-name.result.now (taken_text (shown c.names.result.now) c.counts.result.now) c.others.result ++ full_line c.name-name.result.now b) c.is_full.ensures
    ∙ lines_are p acts w h c.name-name.result.now (shown c.names.result.now) c.counts.result.now c.others.result _ named (ap shown c.names.ensures) c.counts.ensures c.others.ensures
    (ap (option_map ending_of) c.refusal.ensures))) c.push_full.ensures
