-- The domains of an instance's positions: which values they have, and of which types.
use Rattle.std.proofs.Common.{◌≡◌, true, false, ◌&&◌, List, [], ◌∷◌, map, Some, All, refl, sym, ap, subst, ◌∙◌}
use Rattle.std.specs.List.{list_all}
use Rattle.std.specs.Option.{option_map_or}
use Rattle.std.proofs.lemmas.Bool.{and_parts}
use Rattle.std.proofs.lemmas.List.Elements.{All-nil, All-cons}
use Rattle.ioa_value.specs.Plain.{Val}
use Rattle.ioa_value.specs.Positions.{Domain, every, single, takes, all_take, domain_type, IsDomain}
use Rattle.ioa_value.specs.Same.{same}
use Rattle.ioa_value.specs.Table.{AreTypes}
use Rattle.ioa_value.specs.Typing.{HasType, HaveTypes, is_of, own}
use Rattle.ioa_value.proofs.PlaceLemmas.{type_below}
use Rattle.ioa_tree.specs.Tree.{PositionTree, typed, only}
use Rattle.ioa_tree.specs.Instances.{Instance, Fit, position_has, positions_have, position_fields, parameter_values}
use Rattle.ioa_tree.specs.Domains.{IsDomainOf, AreDomainsOf}
use Rattle.ioa_tree.specs.WellFormed.{context_of, position_fine}
use Rattle.ioa_tree.proofs.Positions.{constant_typed}

module _ (i : Instance) where
  -- ---- values

  -- a position has the values of its domain
  pub domain_has : (p : PositionTree) (d : Domain) (v : Val) → IsDomainOf i p d → position_has i p v ≡ takes i.types d v
  domain_has (typed f) (every ty) v h = ap (λ o. option_map_or (λ t. is_of i.types v t) o false) h
  domain_has (typed f) (single w) v h = absurd h
  domain_has (only c) (every ty) v h = absurd h
  domain_has (only c) (single w) v h = ap (λ o. option_map_or (λ u. same u v) o false) h

  pub domains_have : (ps : List PositionTree) (ds : List Domain) (vs : List Val) → AreDomainsOf i ps ds → positions_have i ps vs ≡ all_take i.types ds vs
  domains_have [] [] [] h = refl
  domains_have [] [] (v ∷ vs) h = refl
  domains_have [] (d ∷ ds) vs h = absurd h
  domains_have (p ∷ ps) [] vs h = absurd h
  domains_have (p ∷ ps) (d ∷ ds) [] h = refl
  domains_have (p ∷ ps) (d ∷ ds) (v ∷ vs) h =
      ap (λ b. b && positions_have i ps vs) (domain_has p d v h.0) ∙ ap (λ b. takes i.types d v && b) (domains_have ps ds vs h.1)

  -- ---- types

  module _ (declared : AreTypes i.types) (fit : Fit i.types i.automaton.formals i.arguments) where
    -- the domain of a fine position has values
    pub domain_is : (p : PositionTree) (d : Domain) → position_fine i.types (context_of i.types i.automaton.formals) p ≡ true → IsDomainOf i p d → IsDomain i.types d
    domain_is (typed f) (every ty) k h = type_below i.types f.ty ty h
    domain_is (typed f) (single w) k h = absurd h
    domain_is (only c) (every ty) k h = absurd h
    domain_is (only c) (single w) k h =
        let t = constant_typed i declared fit c k in
        let e : Some t.0 ≡ Some w = sym t.1 ∙ h in
        let q : t.0 ≡ w = cc in
        subst (λ v. HasType i.types v (own v)) q t.2

    pub domains_are : (ps : List PositionTree) (ds : List Domain) → list_all (position_fine i.types (context_of i.types i.automaton.formals)) ps ≡ true
        → AreDomainsOf i ps ds → All (IsDomain i.types) ds
    domains_are [] [] k h = All-nil (IsDomain i.types)
    domains_are [] (d ∷ ds) k h = absurd h
    domains_are (p ∷ ps) [] k h = absurd h
    domains_are (p ∷ ps) (d ∷ ds) k h =
        let fine = position_fine i.types (context_of i.types i.automaton.formals) in
        let ks = and_parts (fine p) (list_all fine ps) k in
        All-cons (IsDomain i.types) d ds (domain_is p d ks.0 h.0) (domains_are ps ds ks.1 h.1)

  -- the values of the parameters are of their types
  pub parameter_values_typed : (ps : List PositionTree) (ds : List Domain) (vs : List Val) → AreDomainsOf i ps ds
      → HaveTypes i.types vs (map domain_type ds) → Fit i.types (position_fields ps) (parameter_values ps vs)
  parameter_values_typed [] [] vs h k = tt
  parameter_values_typed [] (d ∷ ds) vs h k = absurd h
  parameter_values_typed (p ∷ ps) [] vs h k = absurd h
  parameter_values_typed (p ∷ ps) (d ∷ ds) [] h k = absurd k
  parameter_values_typed (typed f ∷ ps) (every ty ∷ ds) (v ∷ vs) h k = (ty, h.0, k.0, parameter_values_typed ps ds vs h.1 k.1)
  parameter_values_typed (typed f ∷ ps) (single w ∷ ds) (v ∷ vs) h k = absurd h.0
  parameter_values_typed (only c ∷ ps) (every ty ∷ ds) (v ∷ vs) h k = absurd h.0
  parameter_values_typed (only c ∷ ps) (single w ∷ ds) (v ∷ vs) h k = parameter_values_typed ps ds vs h.1 k.1
