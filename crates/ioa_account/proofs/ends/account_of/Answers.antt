use Rattle.std.proofs.Common.{sym, ap, ◌∙◌}
use Rattle.ioa_compile.specs.Subjects.{of_hosts}
use Rattle.ioa_compose.specs.Held.{composed_of}
use Rattle.ioa_account.specs.Ends.{index_in}
use Rattle.ioa_account.proofs.ends.account_of.Goals as goal

pub returns-in_default-clause-told : goal.returns-in_default-clause-told
returns-in_default-clause-told c = λ h stands.
    ap index_in (c.in_ok-run.ensures (of_hosts h) (composed_of c.args.composition.now, stands, c.requires)).reached.ending ∙ sym c.index_of.ensures ∙ c.in_default.is
