-- An entry's ways are what it proposes over all words.
use Rattle.std.specs.Prelude.{◌≡◌, ◌<◌, ℕ}
use Rattle.ioa_value.specs.Actions.{Act}
use Rattle.ioa_value.specs.Table.{AreTypes}
use Rattle.ioa_tree.specs.Instances.{Instance}
use Rattle.ioa_tree.specs.Meaning.{Env}
use Rattle.ioa_tree.specs.Proposing.{Words, tries}
use Rattle.ioa_tree.specs.Tree.{EntryTree}
use Rattle.ioa_run.specs.Proposers.{by_entry}
use Rattle.ioa_enabled.specs.Ways.{total, way, ways}

-- what some words give is one of the ways, and each of the ways is what some words give
abbrev pub ProposalsAreWays : Type 0
ProposalsAreWays = (i : Instance) (e : EntryTree) (s : Env) (words : Words) (a : Act) (taken : ℕ) → AreTypes i.types → by_entry i e s words 0 ≡ tries a taken
    → (k : ℕ) × (k < total (ways i e s)) × (a ≡ way e.name (ways i e s) k)

abbrev pub WaysAreProposals : Type 0
WaysAreProposals = (i : Instance) (e : EntryTree) (s : Env) (k : ℕ) → k < total (ways i e s)
    → (words : Words) × (taken : ℕ) × (by_entry i e s words 0 ≡ tries (way e.name (ways i e s) k) taken)
