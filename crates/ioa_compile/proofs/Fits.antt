-- Values and fields: their types by number.
use Rattle.std.proofs.Common.{◌≡◌, ℕ, cond, List, [], ◌∷◌, ◌++◌, length, Option, Some, refl, sym, ap, ◌∙◌, subst, arith}
use Rattle.std.specs.Option.{option_map_or}
use Rattle.std.specs.Str.{bytes_eq}
use Rattle.ioa_value.specs.Actions.{Name}
use Rattle.ioa_value.specs.Plain.{Val}
use Rattle.ioa_value.specs.Positions.{Domain}
use Rattle.ioa_value.specs.Table.{Table, type_named}
use Rattle.ioa_value.specs.Typing.{HasType, HaveTypes}
use Rattle.std.proofs.lemmas.Simd.{map-map}
use Rattle.ioa_compile.specs.Tables.{position_types}
use Rattle.ioa_tree.specs.Tree.{FieldTree, AutomatonTree, EntryTree}
use Rattle.ioa_tree.specs.Domains.{AreDomainsOf}
use Rattle.ioa_tree.specs.Meaning.{or_else}
use Rattle.ioa_tree.specs.Instances.{Fit, field_names, variable_names}
use Rattle.ioa_tree.specs.Compositions.{Member}
use Rattle.ioa_tree.specs.WellFormed.{Context, type_in, context_of, position_fields, variable_fields, scope}
use Rattle.ioa_crash.proofs.RewrittenTypes.{in_both}
use Rattle.ioa_emit.specs.Scopes.{scope_of}
use Rattle.ioa_compile.specs.Matching.{AreTypesOf}
use Rattle.ioa_compile.proofs.Looks.{look, or_else-assoc}
use Rattle.ioa_compile.proofs.Parameters.{fields_passed}
use Rattle.ioa_compile.proofs.Standing.{stands}

module _ (types : Table) where
  -- the types that values which fit have
  pub fit_types : (fs : List FieldTree) (vs : List Val) → Fit types fs vs → (tys : List ℕ) × AreTypesOf types fs tys × HaveTypes types vs tys
  fit_types [] [] h = ([], tt, tt)
  fit_types [] (v ∷ vs) h = absurd h
  fit_types (f ∷ fs) [] h = absurd h
  fit_types (f ∷ fs) (v ∷ vs) h = let rest = fit_types fs vs h.3 in (h.0 ∷ rest.0, (h.1, rest.1), (h.2, rest.2))

  some_same : {X : Type 0} (o : Option X) (x y : X) → o ≡ Some x → o ≡ Some y → x ≡ y
  some_same o x y e f = let g : Some x ≡ Some y = sym e ∙ f in cc

  pub fit_have : (fs : List FieldTree) (vs : List Val) (tys : List ℕ) → Fit types fs vs → AreTypesOf types fs tys → HaveTypes types vs tys
  fit_have [] [] [] h k = tt
  fit_have [] [] (t ∷ ts) h k = absurd k
  fit_have [] (v ∷ vs) tys h k = absurd h
  fit_have (f ∷ fs) [] tys h k = absurd h
  fit_have (f ∷ fs) (v ∷ vs) [] h k = absurd k
  fit_have (f ∷ fs) (v ∷ vs) (t ∷ ts) h k =
      (subst (HasType types v) (some_same (type_named types f.ty) h.0 t h.1 k.0) h.2, fit_have fs vs ts h.3 k.1)

  pub have_fit : (fs : List FieldTree) (vs : List Val) (tys : List ℕ) → HaveTypes types vs tys → AreTypesOf types fs tys → Fit types fs vs
  have_fit [] [] [] h k = tt
  have_fit [] [] (t ∷ ts) h k = absurd k
  have_fit [] (v ∷ vs) [] h k = absurd h
  have_fit [] (v ∷ vs) (t ∷ ts) h k = absurd k
  have_fit (f ∷ fs) vs [] h k = absurd k
  have_fit (f ∷ fs) [] (t ∷ ts) h k = absurd h
  have_fit (f ∷ fs) (v ∷ vs) (t ∷ ts) h k = (t, k.0, h.0, have_fit fs vs ts h.1 k.1)

  pub types_long : (fs : List FieldTree) (tys : List ℕ) → AreTypesOf types fs tys → length (field_names fs) ≡ length tys
  types_long [] [] h = refl
  types_long [] (t ∷ ts) h = absurd h
  types_long (f ∷ fs) [] h = absurd h
  types_long (f ∷ fs) (t ∷ ts) h = let e = types_long fs ts h.1 in omega arith

-- a context is the fields' names with their types
pub fields_look : (types : Table) (fs : List FieldTree) (tys : List ℕ) (x : Name) → AreTypesOf types fs tys → type_in (context_of types fs) x ≡ look (field_names fs) tys x
fields_look types [] [] x h = refl
fields_look types [] (t ∷ ts) x h = absurd h
fields_look types (f ∷ fs) [] x h = absurd h
fields_look types (f ∷ fs) (t ∷ ts) x h =
    let rest = context_of types fs in
    let one : Option ℕ → Context = λ o. option_map_or (λ n. (f.name, n) ∷ []) o [] in
    ap (λ o. type_in (one o ++ rest) x) h.0 ∙ ap (cond (bytes_eq f.name x) (Some t)) (fields_look types fs ts x h.1)

pub variables_names : (a : AutomatonTree) → field_names (variable_fields a) ≡ variable_names a
variables_names a = map-map (λ f. f.name) (λ v. v.field) a.variables

-- the types of the names that code may use
pub scope_look : (globals : List Name) (m : Member) (e : EntryTree) (vs fs : List ℕ) (ds : List Domain) (x : Name) → AreTypesOf m.instance.types (variable_fields m.instance.automaton) vs → AreTypesOf m.instance.types m.instance.automaton.formals fs → AreDomainsOf m.instance e.positions ds → type_in (scope m.instance.types m.instance.types globals m.instance.automaton e) x ≡ stands (scope_of m e) [] vs fs (position_types ds) x
scope_look globals m e vs fs ds x hv hf hp =
    let a = m.instance.automaton in
    let v = context_of m.instance.types (variable_fields a) in
    let f = context_of m.instance.types a.formals in
    let p = context_of m.instance.types (position_fields e.positions) in
    let v-is : type_in v x ≡ look (variable_names a) vs x = fields_look m.instance.types (variable_fields a) vs x hv ∙ ap (λ ns. look ns vs x) (variables_names a) in
    let f-is : type_in f x ≡ look (field_names a.formals) fs x = fields_look m.instance.types a.formals fs x hf in
    in_both (v ++ f) p x
    ∙ ap (λ o. or_else o (type_in p x)) (in_both v f x)
    ∙ or_else-assoc (type_in v x) (type_in f x) (type_in p x)
    ∙ ap (λ o. or_else o (or_else (type_in f x) (type_in p x))) v-is
    ∙ ap (λ o. or_else (look (variable_names a) vs x) (or_else o (type_in p x))) f-is
    ∙ ap (λ o. or_else (look (variable_names a) vs x) (or_else (look (field_names a.formals) fs x) o)) (fields_passed m.instance e.positions ds x hp)
