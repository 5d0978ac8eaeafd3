use Rattle.std.proofs.Common.{string_bytes, subst}
use Rattle.ioa_causes.specs.Composing.{TellsArguments, TellsUnfit}
use Rattle.ioa_causes.proofs.Found.{if_ok, if_some}
use Rattle.ioa_causes.proofs.composing.arguments_words.Goals as goal

-- they are the component's
pub returns-in-Some : goal.returns-in-Some
returns-in-Some c =
    let n = c.in-Some.instance.now in
    let a = c.in-Some.automaton.now in
    if_ok _ _ c.unfit_words.result
    (λ found. if_some (λ words. TellsUnfit c.args.types.now n a (string_bytes words))
    (λ words. TellsArguments c.args.declarations.now c.args.assembly.now c.args.component (string_bytes words)) found
    (λ words tells. (n, a, c.in-Some.ensures, subst (λ t. TellsUnfit t n a (string_bytes words)) c.requires tells)))
    c.unfit_words.ensures
