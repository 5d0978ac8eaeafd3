use Rattle.std.proofs.Common.{◌≡◌, ◌∙◌, ◌++◌, ◌∷◌, ◌+◌, [], List, map, take, sym, ap, subst, rules}
use Rattle.std.proofs.lemmas.List.{map-append}
use Rattle.ioa_value.proofs.ItemLemmas.{take_item}
use Rattle.ioa_board.specs.declared.answer.Answer.{Answer}
use Rattle.ioa_run.specs.ProgramSchedules.{IsPlay, event_of}
use Rattle.ioa_run.specs.Schedules as machine
use Rattle.ioa_run.proofs.Scheduling.{play_more}
use Rattle.ioa_run.proofs.schedule.play.Goals as goal

pub loop-event-preserved : goal.loop-event-preserved
loop-event-preserved c =
    let before : List machine.Event = map event_of (take c.loop-event.event-index c.args.events.now) in
    let here : machine.Event = event_of c.in_ok-try_copy.field-0 in
    let more : map event_of (take (c.loop-event.event-index + 1) c.args.events.now) ≡ before ++ here ∷ [] =
    ap (map event_of) (take_item c.args.events.now c.loop-event.event-index c.event-item.result (search rules) c.event-item.is)
    ∙ map-append event_of (take c.loop-event.event-index c.args.events.now) (c.event-item.result ∷ []) ∙ ap (λ e. before ++ e ∷ []) (sym c.in_ok-try_copy.ensures) in
    let play : IsPlay c.args.program.now (before ++ here ∷ []) c.event.new.self (c.loop-event.answers.items ++ c.in_ok-answer.answer ∷ []) =
    play_more c.args.program.now before c.loop-event.core c.event.new.self c.loop-event.answers.items here c.in_ok-answer.answer c.loop-event.invariant c.in_ok-answer.ensures.answers c.in_ok-answer.ensures.program in
    subst (λ es. IsPlay c.args.program.now es c.event.new.self c.push.new.self.items) (sym more)
    (subst (λ (xs : List Answer). IsPlay c.args.program.now (before ++ here ∷ []) c.event.new.self xs) (sym c.in_ok-push.ensures.items) play)
