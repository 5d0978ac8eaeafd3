use Rattle.std.proofs.Common.{◌≡◌, ◌<◌, ◌≤◌, ◌%◌, ℕ, Some, map}
use Rattle.std.specs.List.{range_with_len}
use Rattle.ioa_value.specs.Plain.{plain}
use Rattle.ioa_compile.specs.Shown.{entry_code}
use Rattle.ioa_enabled.specs.Sampled.{NeverAgain, sampled_at}
use Rattle.ioa_enabled.specs.Ways.{Values}
use Rattle.ioa_enabled.proofs.columns.column.Given as goal

-- the values so far, which are no more than there are
abbrev pub invariant-loop-word : goal.invariant-loop-word
invariant-loop-word l =
    (c : Values) → 0 < c.count → NeverAgain c → ((word : ℕ) → sampled_at (entry_code l.entry) l.state.values l.place word ≡ Some (c.value (word % c.count)))
    → (map plain l.values.items ≡ map c.value (range_with_len 0 l.word)) × (l.word ≤ c.count)
