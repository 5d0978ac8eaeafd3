-- Scopes: the names of variables, and of formals behind them.
use Rattle.std.proofs.Common.{◌≡◌, ◌++◌, ℕ, List, map, Option, Some, None, IfSome, IfNone, Bor, refl, sym, ap, subst, ◌∙◌}
use Rattle.std.specs.Option.{option_or}
use Rattle.std.proofs.lemmas.Simd.{map-map}
use Rattle.ioa_value.specs.Actions.{Name}
use Rattle.ioa_value.specs.declared.value.Value.{Value}
use Rattle.ioa_value.specs.Plain.{Val, plain}
use Rattle.ioa_value.specs.Table.{Table}
use Rattle.ioa_tree.specs.declared.tree.Field.{Field}
use Rattle.ioa_tree.specs.declared.tree.Variable.{Variable}
use Rattle.ioa_tree.specs.View.{field_of, variable_of}
use Rattle.ioa_tree.specs.Meaning.{Env, or_else, values_of, over}
use Rattle.ioa_tree.specs.Instances.{Fit, field_names}
use Rattle.ioa_tree.specs.WellFormed.{Context, type_in, context_of}
use Rattle.ioa_tree.specs.Answers.{HasValueOf, Suits}
use Rattle.ioa_tree.proofs.Starts.{suits_of_fit}
use Rattle.ioa_rules.proofs.ScopeLemmas.{type_in-append}
use Rattle.ioa_compose.specs.declared.scope.Scope.{Scope}
use Rattle.ioa_compose.specs.Scopes.{environment}

-- names in front of others
pub suits-over : (types : Table) (c d : Context) (e f : Env) → Suits types c e → Suits types d f → Suits types (c ++ d) (over e f)
suits-over types c d e f h k = record {
  stands = λ x ty at. here x ty (type_in c x) (e x) (h.stands x) (h.others x) refl (sym (type_in-append c d x) ∙ at);
  others = λ x at. nowhere x (type_in c x) refl (sym (type_in-append c d x) ∙ at);
}
  where
    first : (ty : ℕ) (v o : Option Val) → HasValueOf types ty v → HasValueOf types ty (or_else v o)
    first ty (Some v) o s = s
    first ty None o s = absurd s

    here : (x : Name) (ty : ℕ) (t : Option ℕ) (v : Option Val) → ((u : ℕ) → type_in c x ≡ Some u → HasValueOf types u v) → (type_in c x ≡ None → v ≡ None) → type_in c x ≡ t
        → option_or t (type_in d x) ≡ Some ty → HasValueOf types ty (or_else v (f x))
    here x ty (Some u) v s n is at = let same : u ≡ ty = cc in subst (λ t. HasValueOf types t (or_else v (f x))) same (first u v (f x) (s u is))
    here x ty None v s n is at = subst (λ o. HasValueOf types ty (or_else o (f x))) (sym (n is)) (k.stands x ty at)

    nowhere : (x : Name) (t : Option ℕ) → type_in c x ≡ t → option_or t (type_in d x) ≡ None → or_else (e x) (f x) ≡ None
    nowhere x (Some u) is at = absurd (cc)
    nowhere x None is at = ap (λ o. or_else o (f x)) (h.others x is) ∙ k.others x at

-- the variables' names, each with its value
variables-named : (vs : List Variable) → map (λ v. v.field.name) (map variable_of vs) ≡ field_names (map (λ v. field_of v.field) vs)
variables-named vs = map-map (λ v. v.field.name) variable_of vs ∙ sym (map-map (λ f. f.name) (λ v. field_of v.field) vs)

module _ (s : Scope) (x : Name) where
  abbrev of-variable : Option Val
  of-variable = values_of (field_names (map (λ v. field_of v.field) s.variables.now)) (map plain s.values.now) x

  abbrev of-formal : Option Val
  of-formal = values_of (field_names (map field_of s.formals.now)) (map plain s.arguments.now) x

  parts : environment s x ≡ or_else of-variable of-formal
  parts = ap (λ ns. or_else (values_of ns (map plain s.values.now) x) of-formal) (variables-named s.variables.now)

  pub variable-found : (v : Val) → of-variable ≡ Some v → environment s x ≡ Some v
  variable-found v e = parts ∙ ap (λ o. or_else o of-formal) e

  pub formal-found : (r : Option (Bor Value)) → of-variable ≡ None → IfSome r (λ v. of-formal ≡ Some (plain v.now)) → IfSome r (λ v. environment s x ≡ Some (plain v.now))
  formal-found (Some v) e h = parts ∙ ap (λ o. or_else o of-formal) e ∙ h
  formal-found None e h = tt

  pub none-found : (r : Option (Bor Value)) → of-variable ≡ None → IfNone r (of-formal ≡ None) → IfNone r (environment s x ≡ None)
  none-found (Some v) e h = tt
  none-found None e h = parts ∙ ap (λ o. or_else o of-formal) e ∙ h

-- values that fit variables, in front of those that fit formals
pub state-suits : (types : Table) (vs : List Variable) (values : List Val) (fs : List Field) (args : List Val)
    → Fit types (map (λ v. v.field) (map variable_of vs)) values → Fit types (map field_of fs) args
    → Suits types (context_of types (map (λ v. v.field) (map variable_of vs)) ++ context_of types (map field_of fs))
    (over (values_of (map (λ v. v.field.name) (map variable_of vs)) values) (values_of (field_names (map field_of fs)) args))
state-suits types vs values fs args h k =
    let fields = map (λ v. v.field) (map variable_of vs) in
    let names : field_names fields ≡ map (λ v. v.field.name) (map variable_of vs) = map-map (λ f. f.name) (λ v. v.field) (map variable_of vs) in
    suits-over types (context_of types fields) (context_of types (map field_of fs)) (values_of (map (λ v. v.field.name) (map variable_of vs)) values) (values_of (field_names (map field_of fs)) args)
    (subst (λ ns. Suits types (context_of types fields) (values_of ns values)) names (suits_of_fit types fields values h)) (suits_of_fit types (map field_of fs) args k)
