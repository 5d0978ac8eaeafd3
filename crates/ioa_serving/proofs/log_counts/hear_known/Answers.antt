use Rattle.std.proofs.Common.{◌≡◌, ◌∙◌, ◌+◌, ◌<◌, ◌≤◌, ◌-◌, ◌^◌, ◌++◌, ◌∷◌, [], ℕ, List, ap, arith, get_or, length, map, rules, subst, sym, take}
use Rattle.std.proofs.lemmas.List.{length-map, length-take-le, map-append, take-map, take_all, take_more}
use Rattle.ioa_value.specs.declared.action.Action.{Action}
use Rattle.ioa_value.specs.Actions.{Act, act_of}
use Rattle.ioa_compile.specs.Programs.{Prog}
use Rattle.ioa_serving.specs.LogCounts.{HasHeardKnown}
use Rattle.ioa_serving.proofs.log_counts.hear_known.Goals as goal

pub take-requires : goal.take-requires
take-requires c =
    let xs : List Action = c.args.actions.now in
    let i : ℕ = c.loop-action.action-index in
    let inside : i < length xs = search rules in
    let n : length (take i (map act_of xs)) ≡ i = length-take-le i (map act_of xs) (omega (arith, inside, length-map xs act_of)) in
    let bound : i < 2 ^ 64 - 1 = search rules in
    (c.args.program.now, take i (map act_of xs), c.loop-action.invariant, omega (arith, n, bound))

pub loop-action-preserved : goal.loop-action-preserved
loop-action-preserved c =
    let p : Prog = c.args.program.now in
    let xs : List Action = c.args.actions.now in
    let i : ℕ = c.loop-action.action-index in
    let a : Action = c.action-item.result in
    let inside : i < length xs = search rules in
    let more : take (i + 1) (map act_of xs) ≡ take i (map act_of xs) ++ act_of a ∷ [] =
    take-map act_of (i + 1) xs ∙ ap (map act_of) (take_more xs i a inside) ∙ map-append act_of (take i xs) (get_or xs i a ∷ [])
    ∙ ap (λ (ys : List Act). ys ++ act_of (get_or xs i a) ∷ []) (sym (take-map act_of i xs)) ∙ ap (λ (b : Action). take i (map act_of xs) ++ act_of b ∷ []) (sym c.action-item.is) in
    subst (λ (ys : List Act). HasHeardKnown p ys c.take.new.self) (sym more) (c.in_ok-take.ensures p (take i (map act_of xs)) c.loop-action.invariant)

pub returns : goal.returns
returns c =
    let p : Prog = c.args.program.now in
    let xs : List Action = c.args.actions.now in
    let i : ℕ = c.loop-action.action-index in
    let least : length xs ≤ i = search rules in
    subst (λ (ys : List Act). HasHeardKnown p ys c.loop-action.known) (take_all i (map act_of xs) (omega (arith, least, length-map xs act_of))) c.loop-action.invariant
