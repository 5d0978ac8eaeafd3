use Rattle.ioa_compile.specs.Tables.{start_states, tabled}
use Rattle.ioa_watch.specs.Names.{names_of}
use Rattle.ioa_watch.proofs.Counted.{counts_of}
use Rattle.ioa_watch.proofs.EntryNames.{names_apart}
use Rattle.ioa_watch.proofs.laws.counted_by_names.Goals as goal

pub returns : goal.returns
returns _ = λ p acts. counts_of (names_of p.members) (tabled p) (names_apart p.members) acts (start_states p)
