use Rattle.std.proofs.Common.{◌≡◌, map, take, string_bytes}
use Rattle.ioa_tree.specs.View.{name_of}
use Rattle.ioa_rules.proofs.types.texts_of.Given as goal

abbrev pub invariant-loop-name : goal.invariant-loop-name
invariant-loop-name l = map string_bytes l.texts.items ≡ map name_of (take l.name-index l.names)
