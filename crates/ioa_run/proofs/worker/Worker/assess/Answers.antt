use Rattle.std.proofs.Common.{◌<◌, ◌∙◌, All, length, sym, ap, subst, refl}
use Rattle.ioa_value.specs.Actions.{act_of}
use Rattle.ioa_compile.specs.Programs.{Prog}
use Rattle.ioa_compile.specs.Sites.{sites_of}
use Rattle.ioa_compile.specs.Tables.{tabled}
use Rattle.ioa_tree.specs.Steps.{participants}
use Rattle.ioa_system.specs.ProgramActions.{ProgramAction}
use Rattle.ioa_board.proofs.Performing.{numbers_within}
use Rattle.ioa_run.proofs.worker.Worker.assess.Goals as goal

pub at-requires : goal.at-requires
at-requires g c = c.requires ∙ ap (λ (p : Prog). sites_of p (act_of c.args.action.now).name) (sym c.args.self.now.crew.now.own)

pub copy-requires : goal.copy-requires
copy-requires g c =
    let p : Prog = g.T.Terms.program in
    subst (λ ns. All (λ m. m < length p.members) ns)
    (sym (c.deref.ensures.value ∙ c.in_ok-numbers.ensures ∙ ap (λ (q : ProgramAction). participants (tabled q.program) q.action) c.in_ok-participation.ensures
    ∙ ap (λ (q : Prog). participants (tabled q) (act_of c.args.action.now)) c.args.self.now.crew.now.own))
    (numbers_within p (act_of c.args.action.now) (length p.members) refl)
