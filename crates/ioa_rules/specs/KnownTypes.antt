-- The types of a source, and those of them that a part of it may name: the types that are declared before it.
use Rattle.std.specs.Prelude.{take}
use Rattle.ioa_value.specs.Table.{Table}
use Rattle.ioa_rules.specs.declared.known_types.KnownTypes.{KnownTypes}

-- all types of the source
abbrev pub whole : KnownTypes → Table
whole k = k.types.now

-- those that are declared before
abbrev pub early : KnownTypes → Table
early k = take k.count k.types.now
