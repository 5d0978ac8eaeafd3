use Rattle.std.proofs.Common.{string_bytes}
use Rattle.ioa_causes.specs.Composing.{TellsCrash, TellsNames}
use Rattle.ioa_causes.proofs.Found.{if_ok, if_some}
use Rattle.ioa_causes.proofs.composing.crash_words.Goals as goal

-- they are the component's
pub returns-in-Some-crash : goal.returns-in-Some-crash
returns-in-Some-crash c =
    let ts = c.args.tokens.now in
    let n = c.in-Some.instance.now in
    let a = c.in-Some.automaton.now in
    let k = c.in-Some-crash.crash in
    if_ok _ _ c.names_words.result
    (λ found. if_some (λ words. TellsNames ts a k (string_bytes words))
    (λ words. TellsCrash ts c.args.declarations.now c.args.assembly.now c.args.component (string_bytes words)) found
    (λ words tells. (n, a, k, c.in-Some.ensures, c.in-Some-crash.is, tells)))
    c.names_words.ensures
