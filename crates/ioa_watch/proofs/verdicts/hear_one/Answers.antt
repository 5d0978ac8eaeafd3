use Rattle.std.proofs.Common.{◌≡◌, ◌++◌, string_bytes, ap, ◌∙◌, arith}
use Rattle.std.specs.Option.{option_map}
use Rattle.std.proofs.lemmas.Result.{on_ok_weaker}
use Rattle.ioa_value.specs.Actions.{Act, act_of}
use Rattle.ioa_compile.specs.Programs.{Prog}
use Rattle.ioa_system.specs.Outcomes.{ending_of}
use Rattle.ioa_watch.specs.declared.watcher.Watcher.{Watcher}
use Rattle.ioa_watch.specs.Streams.{refusal_line}
use Rattle.ioa_watch.proofs.Watchers.{heard_few, heard_next, told_is}
use Rattle.ioa_watch.proofs.verdicts.hear_one.Goals as goal

pub hear-requires : goal.hear-requires
hear-requires c = let r = c.requires in omega (arith, heard_few r.0 r.1 c.args.watcher.now r.2, r.3)

pub returns : goal.returns
returns c =
    let w : Watcher = c.args.watcher.now in
    let v : Watcher = c.hear.new.self in
    let a : Act = act_of c.args.action.now in
    let old = string_bytes c.args.text.now in
    on_ok_weaker c.push_refusal.result (λ put p acts h.
    let next = heard_next p acts w h a v c.in_ok-refusal.ensures.program c.in_ok-refusal.ensures.names c.in_ok-refusal.ensures.next in
    let named : c.name.result.now ≡ p.name = c.name.ensures ∙ ap (λ (q : Prog). q.name) (c.program.ensures ∙ next.program) in (
      next,
      put ∙ ap (λ x. old ++ refusal_line c.args.json x (option_map ending_of c.in_ok-refusal.refusal)) named
          ∙ ap (λ o. old ++ refusal_line c.args.json p.name o) (c.in_ok-refusal.ensures.told ∙ told_is p acts w v a h next),
    )) c.push_refusal.ensures
