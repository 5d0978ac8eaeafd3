use Rattle.std.proofs.Common.{◌++◌, ◌∷◌, [], if◌then◌else◌, sym, subst, append-nil}
use Rattle.ioa_value.specs.Actions.{act_of}
use Rattle.ioa_monitor.specs.Watching.{HasWatched}
use Rattle.ioa_inspect.proofs.log_monitors.LogMonitor.hand_on.Goals as goal

pub returns-then-not-self-clause-watched : goal.returns-then-not-self-clause-watched
returns-then-not-self-clause-watched c = λ p acts h.
    subst (λ b. HasWatched p (acts ++ (if b then act_of c.args.self.now.last ∷ [] else [])) c.args.self.now.watch) (sym c.if-not-self.true)
    (subst (λ xs. HasWatched p xs c.args.self.now.watch) (sym (append-nil acts)) h)

pub returns-clause-watched : goal.returns-clause-watched
returns-clause-watched c = λ p acts h.
    subst (λ b. HasWatched p (acts ++ (if b then act_of c.args.self.now.last ∷ [] else [])) c.follow.new.self) (sym c.if-not-self.false) (c.in_ok-follow.ensures p acts h)
