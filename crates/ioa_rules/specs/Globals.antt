-- Names that are gathered.
use Rattle.std.specs.Prelude.{◌≡◌, ◌≢◌, true, false, List, ◌++◌, Result, Ok, Err}
use Rattle.ioa_value.specs.Actions.{Name}
use Rattle.ioa_value.specs.Table.{distinct}
use Rattle.ioa_lex.specs.declared.refusal.Refusal.{Refusal}
use Rattle.ioa_lex.specs.declared.refusal.Refusal.TheVariants.{OutOfMemory}
use Rattle.ioa_rules.specs.Codes.{duplicate_name, tells}

-- the old names with more, no name twice if none was before; or a refusal, since one would stand twice, unless memory is short
abbrev pub Adds : {T : Type 0} → Result T Refusal → List Name → List Name → List Name → Type 0
Adds (Ok x) old more new = (new ≡ old ++ more) × (distinct old ≡ true → distinct new ≡ true)
Adds (Err r) old more new = r ≢ OutOfMemory → (tells duplicate_name r ≡ true) × (distinct (old ++ more) ≡ false)
