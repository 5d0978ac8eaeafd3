-- The parts of a table's entry, put together.
use Rattle.std.proofs.Common.{◌≡◌, false, List, [], ◌∷◌, map, Option, Some, None, IfSome, refl, sym, ap, ◌∙◌, subst}
use Rattle.std.specs.Option.{option_map}
use Rattle.ioa_value.specs.declared.value.Ty.{Ty}
use Rattle.ioa_code.specs.declared.instr.Code.{Code}
use Rattle.ioa_code.specs.declared.instr.PartKind.{PartKind}
use Rattle.ioa_code.specs.declared.instr.PartKind.TheVariants.{Pre, Propose, Eff}
use Rattle.ioa_value.specs.Plain.{number}
use Rattle.ioa_value.specs.Table.{Table}
use Rattle.ioa_code.specs.Machine.{Listing}
use Rattle.ioa_code.specs.Parts.{IsVerified, listing, part}
use Rattle.ioa_code.specs.Valid.{Part}
use Rattle.ioa_tree.specs.declared.tree.Kind.{Kind}
use Rattle.ioa_tree.specs.declared.tree.Kind.TheVariants.{Input, Output, Internal}
use Rattle.ioa_tree.specs.Tree.{EntryTree, TransitionTree}
use Rattle.ioa_tree.specs.Domains.{AreDomainsOf}
use Rattle.ioa_tree.specs.Instances.{transition_for}
use Rattle.ioa_tree.specs.Compositions.{Member}
use Rattle.ioa_tree.specs.WellFormed.{is_input}
use Rattle.ioa_compile.specs.Programs.{EntryCode}
use Rattle.ioa_compile.specs.Tables.{HasLocal, position_types, parameter_types}
use Rattle.ioa_emit.specs.Scopes.{scope_of, scope_of_proposals}
use Rattle.ioa_compile.specs.Translated.{IsTransition, IsFor, codes_of, IsTranslated}

-- what follows of the code that a locally controlled entry has
pub on_local : (types : Table) (P : Code → Type 0) (H : Listing → Type 0) (k : Kind) (o : Option Code) → HasLocal H k (option_map (listing types) o) → ((code : Code) → is_input k ≡ false → H (listing types code) → P code) → IfSome o P
on_local types P H Input None h f = tt
on_local types P H Input (Some code) h f = absurd h
on_local types P H Output None h f = absurd h
on_local types P H Output (Some code) h f = f code refl h
on_local types P H Internal None h f = absurd h
on_local types P H Internal (Some code) h f = f code refl h

-- code that is verified for this kind, these variables, values and end
module _ (types : Table) (kind : PartKind) (slots args end : List Ty) where
  abbrev made : Option Code → Option Part
  made o = option_map (λ code. part types code kind slots args end) o

  codes_same : (o : Option Code) → codes_of (made o) ≡ option_map (listing types) o
  codes_same None = refl
  codes_same (Some code) = refl

  made_for : (o : Option Code) → IfSome (made o) IsVerified → IfSome (made o) (λ p. IsFor p types kind (map number end) (map number slots) (map number args))
  made_for None v = tt
  made_for (Some code) v = record { types_are = refl; verified = v; kind = refl; result = refl; slots = refl; args = refl }

  made_is : (p : Option Part) (o : Option Code) → p ≡ made o → IfSome p IsVerified → IfSome p (λ q. IsFor q types kind (map number end) (map number slots) (map number args))
  made_is p o is v = subst (λ x. IfSome x (λ q. IsFor q types kind (map number end) (map number slots) (map number args))) (sym is) (made_for o (subst (λ x. IfSome x IsVerified) is v))

module _ (types : Table) (slots args parameters bools : List Ty) (bool : map number bools ≡ 0 ∷ []) where
  pub translated : (m : Member) → types ≡ m.instance.types → (e : EntryTree) (c : EntryCode) (t : TransitionTree) (guard proposals : Option Code) (effect : Code) → c.kind ≡ e.kind → c.name ≡ e.name → AreDomainsOf m.instance e.positions c.positions → position_types c.positions ≡ map number args → parameter_types c.positions ≡ map number parameters → transition_for m.instance.automaton e ≡ Some t
      → IsTransition e (scope_of m e) (scope_of_proposals m) t (option_map (listing types) guard) (option_map (listing types) proposals) (listing types effect)
      → c.pre ≡ option_map (λ code. part types code Pre slots args bools) guard → c.propose ≡ option_map (λ code. part types code Propose slots [] parameters) proposals → c.effect ≡ part types effect Eff slots args []
      → IfSome c.pre IsVerified → IfSome c.propose IsVerified → IsVerified c.effect → IsTranslated m (map number slots) e c
  translated m same_types e c t guard proposals effect kind-is name-is domains positions-are parameters-are found all pre-is propose-is effect-is pre-fine propose-fine effect-fine =
      let s = scope_of m e in
      let held = scope_of_proposals m in
      let pre-code : codes_of c.pre ≡ option_map (listing types) guard = ap codes_of pre-is ∙ codes_same types Pre slots args bools guard in
      let propose-code : codes_of c.propose ≡ option_map (listing types) proposals = ap codes_of propose-is ∙ codes_same types Propose slots [] parameters proposals in
      let code : c.effect.code ≡ listing types effect = ap (λ (p : Part). p.code) effect-is in
      let with-pre = subst (λ l. IsTransition e s held t l (option_map (listing types) proposals) (listing types effect)) (sym pre-code) all in
      let with-both = subst (λ l. IsTransition e s held t (codes_of c.pre) l (listing types effect)) (sym propose-code) with-pre in
      let pre-for = subst (λ l. IfSome c.pre (λ p. IsFor p types Pre l (map number slots) (map number args))) bool (made_is types Pre slots args bools c.pre guard pre-is pre-fine) in
      let pre-types = subst (λ l. IfSome c.pre (λ p. IsFor p types Pre (0 ∷ []) (map number slots) l)) (sym positions-are) pre-for in
      let propose-for = made_is types Propose slots [] parameters c.propose proposals propose-is propose-fine in
      let propose-types = subst (λ l. IfSome c.propose (λ p. IsFor p types Propose l (map number slots) [])) (sym parameters-are) propose-for in
      record {
        kind = kind-is;
        name = name-is;
        positions = domains;
        transition = (t, found, subst (IsTransition e s held t (codes_of c.pre) (codes_of c.propose)) (sym code) with-both);
        pre = subst (λ t. IfSome c.pre (λ p. IsFor p t Pre (0 ∷ []) (map number slots) (position_types c.positions))) same_types pre-types;
        propose = subst (λ t. IfSome c.propose (λ p. IsFor p t Propose (parameter_types c.positions) (map number slots) [])) same_types propose-types;
        effect = record {
          types_are = ap (λ (p : Part). p.code.types) effect-is ∙ same_types;
          verified = effect-fine;
          kind = ap (λ (p : Part). p.kind) effect-is;
          result = ap (λ (p : Part). p.result) effect-is;
          slots = ap (λ (p : Part). p.slots) effect-is;
          args = ap (λ (p : Part). p.args) effect-is ∙ sym positions-are;
        };
      }
