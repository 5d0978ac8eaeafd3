use Rattle.std.proofs.Common.{◌∙◌, ap, sym}
use Rattle.ioa_value.specs.Actions.{Act}
use Rattle.ioa_compile.specs.Sites.{sites_of}
use Rattle.ioa_run.proofs.worker.Worker.plan.Goals as goal

-- the action's name is the wish's
pub assess-requires : goal.assess-requires
assess-requires g c = c.requires ∙ ap (λ (a : Act). sites_of g.T.Terms.program a.name) (sym c.in_ok-action.ensures)
