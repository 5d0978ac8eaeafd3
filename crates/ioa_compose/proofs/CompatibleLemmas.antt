-- Instances of which no two clash are compatible, and compatible ones do not clash.
use Rattle.std.proofs.Common.{map, List}
use Rattle.ioa_tree.specs.Components.{Compatible}
use Rattle.ioa_tree.specs.Instances.{Instance, component_of}
use Rattle.ioa_value.proofs.ItemLemmas.{image_at, get_map}
use Rattle.ioa_clash.proofs.CompatibleLemmas.{compatible-of, none-of, between}
use Rattle.ioa_compose.specs.Refusals.{NoneClash}

pub compatible-from : (ns : List Instance) → NoneClash ns → Compatible (map component_of ns)
compatible-from ns none = compatible-of (map component_of ns) (λ i j p q x less e f c.
    let a = get_map component_of ns i p e in
    let b = get_map component_of ns j q f in
    none i j a.0 b.0 x less a.1 b.1 (between x p q (component_of a.0) (component_of b.0) a.2 b.2 c))

pub none-from : (ns : List Instance) → Compatible (map component_of ns) → NoneClash ns
none-from ns k = λ i j m n x less e f c.
    none-of (map component_of ns) k i j (component_of m) (component_of n) x less (image_at component_of ns i m e) (image_at component_of ns j n f) c
