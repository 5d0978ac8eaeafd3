-- The entries of an automaton by their names.
use Rattle.std.specs.Prelude.{List, Option, find}
use Rattle.std.specs.Str.{bytes_eq}
use Rattle.std.specs.String.{string_bytes}
use Rattle.ioa_value.specs.Actions.{Name}
use Rattle.ioa_tree.specs.declared.tree.Entry.{Entry}

-- the first of this name
abbrev pub named : Name → List Entry → Option Entry
named x es = find (λ (e : Entry). bytes_eq (string_bytes e.name.text) x) es
