use Rattle.ioa_value.proofs.WrittenLemmas.{written_read}
use Rattle.ioa_value.proofs.laws.written_is_read.Goals as goal

pub returns : goal.returns
returns c = written_read
