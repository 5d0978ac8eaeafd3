use Rattle.std.proofs.Common.{◌≡◌, [], ◌++◌, sym, ap, ◌∙◌, append-nil}
use Rattle.std.proofs.lemmas.Result.{IfOk-weaker}
use Rattle.ioa_value.specs.Shapes.{shape}
use Rattle.ioa_value.specs.Table.{names_in}
use Rattle.ioa_object.proofs.types.form.Goals as goal

pub returns-in_default-clause-names : goal.returns-in_default-clause-names
returns-in_default-clause-names c =
    let taken = c.args.taken.now in
    IfOk-weaker c.sequence.result (λ form. names_in (shape form) ≡ []) (λ form. taken ≡ taken ++ names_in (shape form))
    (λ form none. sym (append-nil taken) ∙ ap (λ l. taken ++ l) (sym none)) c.sequence.ensures.names
