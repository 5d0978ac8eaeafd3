use Rattle.std.proofs.Common.{List, subst, sym, ◌∙◌}
use Rattle.std.specs.List.{AllZip}
use Rattle.std.proofs.lemmas.Bool.{false≢true}
use Rattle.std.proofs.lemmas.Result.{IfErr-weaker}
use Rattle.ioa_tree.specs.View.{tree_of}
use Rattle.ioa_compile.specs.Programs.{Prog}
use Rattle.ioa_request.specs.Pasted.{texts}
use Rattle.ioa_serving.specs.Watching.{Specifies}
use Rattle.ioa_serving.proofs.Sowing.{none_specified, unnamed}
use Rattle.ioa_serving.proofs.sown.asked_specifications.Goals as goal

pub returns-then-is_empty-clause-specify : goal.returns-then-is_empty-clause-specify
returns-then-is_empty-clause-specify c =
    subst (λ (ps : List Prog). AllZip (Specifies (tree_of c.args.checked.now)) (texts c.args.monitors.now) ps) (sym c.new.ensures.items)
    (none_specified (Specifies (tree_of c.args.checked.now)) c.args.monitors.now (sym c.is_empty.ensures ∙ c.if-is_empty.true))

pub returns-clause-refused : goal.returns-clause-refused
returns-clause-refused c =
    IfErr-weaker c.specifications.result _ _ (λ e k. (λ none. false≢true (sym c.if-is_empty.false ∙ c.is_empty.ensures ∙ unnamed c.args.monitors.now none), k)) c.specifications.ensures.refused
