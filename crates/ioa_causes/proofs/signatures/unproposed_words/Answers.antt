use Rattle.std.proofs.Common.{string_bytes}
use Rattle.ioa_causes.specs.Words.{TellsParameter, TellsUnproposed}
use Rattle.ioa_causes.proofs.Found.{if_ok, if_some}
use Rattle.ioa_causes.proofs.signatures.unproposed_words.Goals as goal

-- the parameter is one of this transition's
pub returns-in-loop-place : goal.returns-in-loop-place
returns-in-loop-place c =
    let a = c.in-Some.automaton.now in
    let t = c.in-Some-transition_at.transition.now in
    if_ok _ _ c.parameter_words.result
    (λ found. if_some (λ words. TellsParameter a t (string_bytes words)) (λ words. TellsUnproposed c.args.index c.args.declarations.now (string_bytes words)) found
    (λ words tells. (c.loop-place.place, a, t, c.in-Some.ensures, c.in-Some-transition_at.ensures, tells)))
    c.parameter_words.ensures
