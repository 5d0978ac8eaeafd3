use Rattle.std.proofs.Common.{Bool, ◌++◌, ap, string_bytes, sym, true, ◌∙◌, []}
use Rattle.std.proofs.lemmas.Result.{on_ok_weaker}
use Rattle.ioa_system.specs.Endings.{ending_text}
use Rattle.ioa_system.specs.Outcomes.{ending_of}
use Rattle.ioa_watch.specs.Json.{ending_json}
use Rattle.ioa_watch.specs.Streams.{verdict_line}
use Rattle.ioa_watch.proofs.verdicts.push_end.Goals as goal

pub returns-then-json : goal.returns-then-json
returns-then-json c =
    let old = string_bytes c.args.text.now in
    let end = ending_of c.args.end in
    on_ok_weaker c.push_object.result (λ put.
    put ∙ ap (λ o. old ++ verdict_line true c.args.name.now [] o) (c.as_str.ensures.value ∙ c.in_ok-object.ensures)
    ∙ ap (λ (b : Bool). old ++ verdict_line b c.args.name.now (ending_text end) (ending_json end)) (sym c.if-json.true)) c.push_object.ensures
