use Rattle.ioa_picture.proofs.Selected.{draws_each}
use Rattle.ioa_picture.proofs.laws.whole_charts_draw_each_entry.Goals as goal

pub returns : goal.returns
returns c = λ s ps. draws_each ps
