use Rattle.ioa_compose.proofs.BindingLemmas.{uneven-fit}
use Rattle.ioa_compose.proofs.binding.fits.Goals as goal

pub returns-then-fields-values : goal.returns-then-fields-values
returns-then-fields-values c = uneven-fit c.args.types.now c.args.fields.now c.args.values.now c.if-fields-values.true
