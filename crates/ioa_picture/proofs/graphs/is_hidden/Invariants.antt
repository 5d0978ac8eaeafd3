use Rattle.std.proofs.Common.{◌≡◌, drop, map}
use Rattle.std.specs.List.{list_any}
use Rattle.std.specs.Str.{bytes_eq}
use Rattle.std.specs.String.{string_bytes}
use Rattle.ioa_value.specs.Actions.{Name}
use Rattle.ioa_picture.proofs.graphs.is_hidden.Given as goal

abbrev pub invariant-loop-own : goal.invariant-loop-own
invariant-loop-own l =
    list_any (λ (h : Name). bytes_eq h l.name) (map string_bytes (drop l.own-index l.hidden))
    ≡ list_any (λ (h : Name). bytes_eq h l.name) (map string_bytes l.hidden)
