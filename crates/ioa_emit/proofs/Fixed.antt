-- What names of enumerations and empty sequences stand for has the type that they have.
use Rattle.std.proofs.Common.{◌≡◌, ℕ, Option, Some, None, IsSome, refl, sym, ap, subst, ◌∙◌}
use Rattle.std.specs.Option.{option_map}
use Rattle.ioa_value.specs.Actions.{Name}
use Rattle.ioa_value.specs.Operators.{IsTypedAnswer}
use Rattle.ioa_value.specs.Plain.{Val, name, items, none}
use Rattle.ioa_value.specs.Table.{Table, constant_named}
use Rattle.ioa_value.specs.Typing.{HasType, own}
use Rattle.ioa_tree.specs.Meaning.{value_of}
use Rattle.ioa_tree.specs.Types.{constant, constant_type, sequence_named, empty_of}
use Rattle.ioa_tree.proofs.Constants.{constant_typed, empty_typed}

module _ (types : Table) (x : Name) where
  -- the type of an enumeration's name is its value's
  pub own_constant : constant_type types x ≡ option_map own (constant types x)
  own_constant = go (constant_named types x)
    where
      go : (o : Option (ℕ × ℕ)) → option_map (λ p. p.0) o ≡ option_map own (option_map (λ p. name p.0 p.1) o)
      go (Some p) = refl
      go None = refl

  own_type_of : (v : Val) → constant types x ≡ Some v → constant_type types x ≡ Some (own v)
  own_type_of v e = own_constant ∙ ap (option_map own) e

  pub constant_own : (v : Val) → constant types x ≡ Some v → HasType types v (own v)
  constant_own v e = subst (λ o. IsTypedAnswer types (own v) (value_of o)) e (constant_typed types x (own v) (own_type_of v e))

  -- so is that of an empty sequence
  pub own_empty : (v : Val) (ty : ℕ) → empty_of types x ≡ Some v → sequence_named types x ≡ Some ty → own v ≡ ty
  own_empty v ty e t =
      let both : Some (items ty none) ≡ Some v = ap (option_map (λ k. items k none)) (sym t) ∙ e in
      let same : items ty none ≡ v = cc in
      ap own (sym same)

  pub empty_own : (v : Val) → empty_of types x ≡ Some v → HasType types v (own v)
  empty_own v e = go (sequence_named types x) refl
    where
      go : (o : Option ℕ) → sequence_named types x ≡ o → HasType types v (own v)
      go (Some ty) t =
          let typed : HasType types v ty = subst (λ o. IsTypedAnswer types ty (value_of o)) e (empty_typed types x ty t) in
          subst (HasType types v) (sym (own_empty v ty e t)) typed
      go None t = let no : option_map (λ k. items k none) None ≡ Some v = ap (option_map (λ k. items k none)) (sym t) ∙ e in absurd (cc)

  pub empty_known : (ty : ℕ) → sequence_named types x ≡ Some ty → IsSome (empty_of types x)
  empty_known ty t = rw t refl
