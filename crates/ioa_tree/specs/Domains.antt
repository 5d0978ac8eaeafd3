-- The values that an action may have in the positions of an instance's entry.
use Rattle.std.specs.Prelude.{◌≡◌, List, Some}
use Rattle.std.specs.List.{AllZip}
use Rattle.ioa_value.specs.Positions.{Domain, every, single}
use Rattle.ioa_value.specs.Table.{type_named}
use Rattle.ioa_tree.specs.Tree.{PositionTree, typed, only}
use Rattle.ioa_tree.specs.Instances.{Instance, constant_value}

-- a parameter has every value of its type, a constant its single value
abbrev pub IsDomainOf : Instance → PositionTree → Domain → Type 0
IsDomainOf i (typed f) (every ty) = type_named i.types f.ty ≡ Some ty
IsDomainOf i (typed f) (single v) = ⊥
IsDomainOf i (only c) (every ty) = ⊥
IsDomainOf i (only c) (single v) = constant_value i c ≡ Some v

-- by place
abbrev pub AreDomainsOf : Instance → List PositionTree → List Domain → Type 0
AreDomainsOf i ps ds = AllZip (IsDomainOf i) ps ds
