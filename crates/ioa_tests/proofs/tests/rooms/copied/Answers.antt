use Rattle.std.proofs.Common.{◌<◌, ◌∙◌, All, length, sym, ap, subst, refl}
use Rattle.ioa_value.specs.Actions.{act_of}
use Rattle.ioa_tree.specs.Steps.{participants}
use Rattle.ioa_compile.specs.Programs.{Prog}
use Rattle.ioa_compile.specs.Tables.{tabled}
use Rattle.ioa_board.proofs.Performing.{numbers_within}
use Rattle.ioa_tests.proofs.tests.rooms.copied.Goals as goal

pub copy-requires : goal.copy-requires
copy-requires c =
    let p : Prog = c.args.board.now.program in
    subst (λ ns. All (λ m. m < length p.members) ns)
    (sym (c.deref.ensures.value ∙ c.in_ok-numbers.ensures ∙ ap (λ (q : Prog). participants (tabled q) (act_of c.args.action.now)) c.program-program.ensures))
    (numbers_within p (act_of c.args.action.now) (length p.members) refl)
