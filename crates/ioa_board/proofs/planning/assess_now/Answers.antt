use Rattle.std.proofs.Common.{◌<◌, ◌∙◌, All, length, sym, ap, subst, refl}
use Rattle.ioa_value.specs.Actions.{act_of}
use Rattle.ioa_compile.specs.Programs.{Prog}
use Rattle.ioa_compile.specs.Tables.{tabled}
use Rattle.ioa_tree.specs.Steps.{participants}
use Rattle.ioa_system.specs.ProgramActions.{ProgramAction}
use Rattle.ioa_board.proofs.Performing.{numbers_within}
use Rattle.ioa_board.proofs.planning.assess_now.Goals as goal

pub copy-requires : goal.copy-requires
copy-requires c =
    subst (λ ns. All (λ m. m < length c.args.board.now.program.members) ns)
    (sym (c.deref.ensures.value ∙ c.in_ok-numbers.ensures ∙ ap (λ (q : ProgramAction). participants (tabled q.program) q.action) c.in_ok-participation.ensures
    ∙ ap (λ (p : Prog). participants (tabled p) (act_of c.args.action.now)) c.program.ensures))
    (numbers_within c.args.board.now.program (act_of c.args.action.now) (length c.args.board.now.program.members) refl)
