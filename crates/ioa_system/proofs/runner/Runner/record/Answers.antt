use Rattle.std.proofs.Common.{◌≡◌, ◌++◌, ◌∷◌, [], List, map, Bool, sym, ap, subst, ◌∙◌, if◌then◌else◌}
use Rattle.std.proofs.lemmas.List.{append-nil, map-append}
use Rattle.ioa_value.specs.declared.action.Action.{Action}
use Rattle.ioa_value.specs.Actions.{Act, act_of}
use Rattle.ioa_system.specs.Progress.{IsRunOver}
use Rattle.ioa_system.proofs.runner.Runner.record.Goals as goal

pub returns-then-taken-clause-run : goal.returns-then-taken-clause-run
returns-then-taken-clause-run c = λ p acts o.
    let a : Act = act_of c.args.action.now in
    let old : List Act = map act_of c.args.trace.now.items in
    let v : map act_of c.push_reserved.new.self.items ≡ old ++ a ∷ [] =
    ap (map act_of) (c.push_reserved.ensures.items ∙ ap (λ (xs : List Action). xs ++ c.in_ok-copy.copy ∷ []) c.in_ok-reserve.ensures.items)
    ∙ map-append act_of c.args.trace.now.items (c.in_ok-copy.copy ∷ []) ∙ ap (λ (y : Act). old ++ y ∷ []) c.in_ok-copy.ensures in
    subst (λ t. IsRunOver p (acts ++ a ∷ []) t c.take.new.self) (ap (λ (b : Bool). old ++ (if b then a ∷ [] else [])) c.if-taken.true ∙ sym v)
    (c.in_ok-taken.ensures.run p acts old o)

pub returns-else-taken-clause-run : goal.returns-else-taken-clause-run
returns-else-taken-clause-run c = λ p acts o.
    let a : Act = act_of c.args.action.now in
    let old : List Act = map act_of c.args.trace.now.items in
    subst (λ t. IsRunOver p (acts ++ a ∷ []) t c.take.new.self)
    (ap (λ (b : Bool). old ++ (if b then a ∷ [] else [])) c.if-taken.false ∙ append-nil old ∙ sym (ap (map act_of) c.in_ok-reserve.ensures.items))
    (c.in_ok-taken.ensures.run p acts old o)
