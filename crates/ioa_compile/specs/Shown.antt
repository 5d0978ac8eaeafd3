-- Tables without the memory that holds them.
use Rattle.std.specs.Prelude.{map}
use Rattle.std.specs.String.{string_bytes}
use Rattle.ioa_value.specs.Positions.{domain_of}
use Rattle.ioa_compile.specs.declared.table.Entry.{Entry}
use Rattle.ioa_compile.specs.declared.table.Member.{Member}
use Rattle.ioa_compile.specs.Programs.{EntryCode, MemberCode}

abbrev pub entry_code : Entry → EntryCode
entry_code e = record { kind = e.kind; name = string_bytes e.name; positions = map domain_of e.positions.items; pre = e.pre; propose = e.propose; effect = e.effect }

abbrev pub member_code : Member → MemberCode
member_code m = record { name = string_bytes m.name; start = m.start; entries = map entry_code m.entries.items }
