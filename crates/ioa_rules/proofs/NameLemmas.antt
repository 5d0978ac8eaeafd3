-- Names that are joined.
use Rattle.std.proofs.lemmas.List.Folds.{list_any-append}
use Rattle.ioa_value.proofs.NameLemmas.{distinct-append, apart-append, append-apart}

pub ruleset joins = (distinct-append, apart-append, append-apart, list_any-append)
