use Rattle.std.proofs.Common.{◌≡◌, ◌∙◌, true, ap, map, subst}
use Rattle.std.proofs.lemmas.Result.{IfOk-weaker}
use Rattle.clap.specs.Words.{App, FailsBy, app_of, fault_of, is_simple, is_simple_and_free, subcommand_of}
use Rattle.ioa_request.proofs.request.parse.Goals as goal

pub returns-clause-faults : goal.returns-clause-faults
returns-clause-faults g c =
    let words = map g.S.AsStr.text c.args.words.now in
    let free : is_simple_and_free (app_of c.in_ok-program.field-0) ≡ true = ap is_simple_and_free c.in_ok-program.ensures in
    subst (λ (a : App). FailsBy (fault_of a words) c.try_get_matches_from.result) c.in_ok-program.ensures (c.try_get_matches_from.ensures.kinds free)

pub returns-clause-found : goal.returns-clause-found
returns-clause-found g c =
    let words = map g.S.AsStr.text c.args.words.now in
    let simple : is_simple (app_of c.in_ok-program.field-0) ≡ true = ap is_simple c.in_ok-program.ensures in
    IfOk-weaker c.try_get_matches_from.result _ _ (λ m h. (h simple).1 ∙ ap (λ (a : App). subcommand_of a words) c.in_ok-program.ensures) c.try_get_matches_from.ensures.matches
