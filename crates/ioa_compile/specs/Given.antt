-- Tables that are given, and why they are no program.
use Rattle.std.specs.Prelude.{map}
use Rattle.std.specs.String.{string_bytes}
use Rattle.ioa_value.specs.Actions.{Name}
use Rattle.ioa_clash.specs.Clashes.{AreFirstToClash}
use Rattle.ioa_compile.specs.declared.tables.TableErr.{TableErr}
use Rattle.ioa_compile.specs.declared.tables.TableErr.TheVariants as errors
use Rattle.ioa_compile.specs.declared.tables.Tables as held
use Rattle.ioa_compile.specs.Programs.{Prog}
use Rattle.ioa_compile.specs.Shown.{member_code}
use Rattle.ioa_compile.specs.Tables.{AreRight, tabled}

-- the tables without the memory that holds them
abbrev pub prog_of : held.Tables → Prog
prog_of t = record { types = t.types; name = string_bytes t.name; members = map member_code t.members.items; hidden = map string_bytes t.hidden.items }

-- tables are no program: they are not right, or they are and these components are the first two to clash; or memory ran out
abbrev pub IsNoProgram : Prog → TableErr → Type 0
IsNoProgram p errors.Table = AreRight p → ⊥
IsNoProgram p (errors.Clash i j) = AreRight p × ((name : Name) × AreFirstToClash (tabled p) i j name)
IsNoProgram p errors.OutOfMemory = Unit {0}
