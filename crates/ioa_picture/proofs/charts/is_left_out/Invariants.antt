use Rattle.std.proofs.Common.{◌≡◌, drop, map}
use Rattle.std.specs.Borrow.{Bor}
use Rattle.std.specs.List.{list_any}
use Rattle.std.specs.Str.{bytes_eq}
use Rattle.ioa_value.specs.Actions.{Name}
use Rattle.ioa_picture.proofs.charts.is_left_out.Given as goal

abbrev pub invariant-loop-left_out : goal.invariant-loop-left_out
invariant-loop-left_out l =
    list_any (λ (x : Name). bytes_eq x l.name) (map (λ (b : Bor Name). b.now) (drop l.left_out-index l.without))
    ≡ list_any (λ (x : Name). bytes_eq x l.name) (map (λ (b : Bor Name). b.now) l.without)
