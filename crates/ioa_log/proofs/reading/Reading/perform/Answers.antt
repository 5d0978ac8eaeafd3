use Rattle.std.proofs.Common.{◌≡◌, ◌++◌, ◌∷◌, [], subst, if◌then◌else◌}
use Rattle.ioa_value.specs.Actions.{Act, act_of}
use Rattle.ioa_value.specs.Written.{written_action}
use Rattle.ioa_system.specs.Progress.{IsRunOver}
use Rattle.ioa_log.proofs.Replaying.{performs_shown, performs_silent}
use Rattle.ioa_log.proofs.reading.Reading.perform.Goals as goal

pub returns-in_ok-push-clause-performed : goal.returns-in_ok-push-clause-performed
returns-in_ok-push-clause-performed c =
    λ p acts t h.
    let a : Act = act_of c.args.self.now.action in
    performs_shown p acts a c.args.self.now.runner c.take.new.self c.args.self.now.trace c.push.new.self h
    (λ traced o. subst (λ b. IsRunOver p (acts ++ a ∷ []) (traced ++ (if b then a ∷ [] else [])) c.take.new.self) c.if-taken.true (c.in_ok-taken.ensures.run p acts traced o))
    (subst (λ ts. c.push.new.self ≡ c.args.self.now.trace ++ (written_action ts a ++ 10 ∷ [])) t c.in_ok-push.ensures)

pub returns-else-taken-clause-performed : goal.returns-else-taken-clause-performed
returns-else-taken-clause-performed c =
    λ p acts t h.
    let a : Act = act_of c.args.self.now.action in
    performs_silent p acts a c.args.self.now.runner c.take.new.self c.args.self.now.trace h
    (λ traced o. subst (λ b. IsRunOver p (acts ++ a ∷ []) (traced ++ (if b then a ∷ [] else [])) c.take.new.self) c.if-taken.false (c.in_ok-taken.ensures.run p acts traced o))
