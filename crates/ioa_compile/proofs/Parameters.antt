-- What stands for an entry's parameters, which are some of its positions: constants are passed over, but have their places.
use Rattle.std.proofs.Common.{◌≡◌, ℕ, ◌+◌, inr, false, cond, List, [], ◌∷◌, ◌++◌, length, Option, Some, None, refl, sym, ap, ◌∙◌, arith}
use Rattle.std.specs.Option.{option_map_or}
use Rattle.std.specs.Str.{bytes_eq}
use Rattle.std.proofs.lemmas.List.{length-map}
use Rattle.std.proofs.lemmas.Slice.Zip.{AllZip-long}
use Rattle.std.proofs.lemmas.Bool.{or_parts}
use Rattle.ioa_value.specs.Actions.{Name}
use Rattle.ioa_value.specs.Plain.{Val}
use Rattle.ioa_value.specs.Positions.{Domain, every, single, domain_type}
use Rattle.ioa_value.specs.Table.{Table}
use Rattle.ioa_value.specs.Typing.{HaveTypes}
use Rattle.ioa_tree.specs.Domains.{IsDomainOf, AreDomainsOf}
use Rattle.ioa_tree.specs.Instances.{Instance, field_names, parameter_values, position_fields}
use Rattle.ioa_tree.specs.Meaning.{values_of}
use Rattle.ioa_tree.specs.Tree.{PositionTree, typed, only}
use Rattle.ioa_tree.specs.WellFormed.{Context, type_in, context_of, contains}
use Rattle.ioa_emit.specs.Scopes.{parameter_from}
use Rattle.ioa_compile.specs.Tables.{position_types}
use Rattle.ioa_compile.proofs.Looks.{Looked, looked_first, Paired, paired_first}

-- what stands for the parameter of this name, among what stands in all positions
abbrev pub passed : {V : Type 0} → List PositionTree → List V → Name → Option V
passed ps [] x = None
passed [] (v ∷ vs) x = None
passed (typed f ∷ ps) (v ∷ vs) x = cond (bytes_eq f.name x) (Some v) (passed ps vs x)
passed (only c ∷ ps) (v ∷ vs) x = passed ps vs x

pub passes_at : {V : Type 0} (i : ℕ) (ps : List PositionTree) (vs : List V) (x : Name) → length ps ≡ length vs → Looked i (parameter_from i ps x) vs (passed ps vs x)
passes_at i [] [] x e = inr (record { no_place = refl; no_look = refl })
passes_at i [] (v ∷ vs) x e = absurd (omega (arith, e))
passes_at i (p ∷ ps) [] x e = absurd (omega (arith, e))
passes_at i (typed f ∷ ps) (v ∷ vs) x e = looked_first i (bytes_eq f.name x) _ v vs _ (passes_at (i + 1) ps vs x (omega arith))
passes_at i (only c ∷ ps) (v ∷ vs) x e = looked_first i false _ v vs _ (passes_at (i + 1) ps vs x (omega arith))

pub passed-paired : (types : Table) (ps : List PositionTree) (vs : List Val) (tys : List ℕ) (x : Name) → HaveTypes types vs tys → Paired types (passed ps tys x) (passed ps vs x)
passed-paired types ps [] [] x h = refl
passed-paired types ps [] (t ∷ ts) x h = absurd h
passed-paired types ps (v ∷ vs) [] x h = absurd h
passed-paired types [] (v ∷ vs) (t ∷ ts) x h = refl
passed-paired types (typed f ∷ ps) (v ∷ vs) (t ∷ ts) x h = paired_first types (bytes_eq f.name x) t v _ _ h.0 (passed-paired types ps vs ts x h.1)
passed-paired types (only c ∷ ps) (v ∷ vs) (t ∷ ts) x h = passed-paired types ps vs ts x h.1

-- a name that is no parameter's
pub passed_outside : {V : Type 0} (ps : List PositionTree) (vs : List V) (x : Name) → contains (field_names (position_fields ps)) x ≡ false → passed ps vs x ≡ None
passed_outside ps [] x h = refl
passed_outside [] (v ∷ vs) x h = refl
passed_outside (typed f ∷ ps) (v ∷ vs) x h =
    let parts = or_parts (bytes_eq f.name x) (contains (field_names (position_fields ps)) x) h in
    ap (λ b. cond b (Some v) (passed ps vs x)) parts.0 ∙ passed_outside ps vs x parts.1
passed_outside (only c ∷ ps) (v ∷ vs) x h = passed_outside ps vs x h

-- the environment of an entry has what is passed
pub values_passed : (ps : List PositionTree) (vs : List Val) (x : Name) → values_of (field_names (position_fields ps)) (parameter_values ps vs) x ≡ passed ps vs x
values_passed [] [] x = refl
values_passed [] (v ∷ vs) x = refl
values_passed (p ∷ ps) [] x = none (field_names (position_fields (p ∷ ps)))
  where
    none : (ns : List Name) → values_of ns [] x ≡ None
    none [] = refl
    none (n ∷ ns) = refl
values_passed (typed f ∷ ps) (v ∷ vs) x = ap (cond (bytes_eq f.name x) (Some v)) (values_passed ps vs x)
values_passed (only c ∷ ps) (v ∷ vs) x = values_passed ps vs x

-- the context of an entry has the types of what is passed
pub fields_passed : (i : Instance) (ps : List PositionTree) (ds : List Domain) (x : Name) → AreDomainsOf i ps ds → type_in (context_of i.types (position_fields ps)) x ≡ passed ps (position_types ds) x
fields_passed i [] [] x h = refl
fields_passed i [] (d ∷ ds) x h = absurd h
fields_passed i (p ∷ ps) [] x h = absurd h
fields_passed i (typed f ∷ ps) (every t ∷ ds) x h =
    let rest = context_of i.types (position_fields ps) in
    let one : Option ℕ → Context = λ o. option_map_or (λ n. (f.name, n) ∷ []) o [] in
    ap (λ o. type_in (one o ++ rest) x) h.0 ∙ ap (cond (bytes_eq f.name x) (Some t)) (fields_passed i ps ds x h.1)
fields_passed i (typed f ∷ ps) (single v ∷ ds) x h = absurd h.0
fields_passed i (only c ∷ ps) (every t ∷ ds) x h = absurd h.0
fields_passed i (only c ∷ ps) (single v ∷ ds) x h = fields_passed i ps ds x h.1

-- there are as many domains as positions
pub domains_long : (i : Instance) (ps : List PositionTree) (ds : List Domain) → AreDomainsOf i ps ds → length ps ≡ length ds
domains_long i ps ds h = sym (AllZip-long (IsDomainOf i) ps ds h)

pub types_of_domains : (i : Instance) (ps : List PositionTree) (ds : List Domain) → AreDomainsOf i ps ds → length ps ≡ length (position_types ds)
types_of_domains i ps ds h = domains_long i ps ds h ∙ sym (length-map ds domain_type)
