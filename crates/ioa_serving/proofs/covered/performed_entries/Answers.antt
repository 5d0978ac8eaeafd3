use Rattle.std.proofs.Common.{◌∙◌, ap, refl, take}
use Rattle.ioa_serving.proofs.Covering.{all_told, but_last_told}
use Rattle.ioa_serving.proofs.covered.performed_entries.Goals as goal

pub returns-in-Done : goal.returns-in-Done
returns-in-Done c = all_told c.args.log.now _ c.as_slice-entries.result.now c.in-Done.is refl c.as_slice-entries.ensures.value

pub returns-in-Fault : goal.returns-in-Fault
returns-in-Fault c = but_last_told c.args.log.now _ c.as_slice-entries.result.now c.first_of.result.now c.in-Fault.is refl c.as_slice-entries.ensures.value
    (c.first_of.ensures ∙ ap (λ k. take k c.as_slice-entries.result.now) c.saturating_sub.ensures)
