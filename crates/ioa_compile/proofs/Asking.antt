-- Conditions of invariants over a component: their code is valid, and ends with what they mean.
use Rattle.std.proofs.Common.{◌≡◌, ◌<◌, ◌⊎◌, inl, inr, ⊎_elim, ℕ, zero, suc, Bool, false, IsTrue, List, [], ◌∷◌, ◌++◌, ◌+◌, length, map, Option, Some, IfSome, Ok, Err, refl, sym, ap, ◌∙◌, subst, arith, append-nil, length-append}
use Rattle.std.specs.Prelude.{slice_get}
use Rattle.ioa_arithmetic.specs.declared.arithmetic.Fault.{Fault}
use Rattle.ioa_value.specs.Operators.{Answer, gives, faults, nothing}
use Rattle.ioa_value.specs.Plain as plain
use Rattle.ioa_value.specs.Plain.{Val}
use Rattle.ioa_value.specs.Typing.{OwnTypes}
use Rattle.ioa_value.proofs.ItemLemmas.{item_there}
use Rattle.ioa_code.specs.declared.instr.Code.{Code}
use Rattle.ioa_code.specs.declared.instr.PartKind.TheVariants.{Pre}
use Rattle.ioa_code.specs.Machine.{Listing}
use Rattle.ioa_code.specs.Valid.{Part, Valid}
use Rattle.ioa_code.specs.Parts.{listing}
use Rattle.ioa_parts.specs.Nodes.{Node}
use Rattle.ioa_parts.specs.Runs.{guard_of}
use Rattle.ioa_tree.specs.Tree.{Expr, FieldTree, InvariantTree}
use Rattle.ioa_tree.specs.Meaning.{Env, or_else, over}
use Rattle.ioa_tree.specs.Instances.{formal_values, field_names, state_of, variable_names, truth_of}
use Rattle.ioa_tree.specs.Invariants.{holds, is_true}
use Rattle.ioa_tree.specs.Compositions.{Composed, Member}
use Rattle.ioa_tree.specs.WellFormed.{type_of, has_ty, held, scope, variable_fields}
use Rattle.ioa_tree.proofs.FineParts.{fine_parts, within_parts}
use Rattle.ioa_compose.specs.Fine.{IsFine}
use Rattle.ioa_crash.specs.Limits.{component_limits}
use Rattle.ioa_crash.proofs.SpelledNames.{or_none}
use Rattle.ioa_compose.specs.Questions.{OfThese}
use Rattle.ioa_compile.specs.Asking.{AreAsked, AskAll, Asks, IsStateOf}
use Rattle.ioa_compile.specs.CodeEnds.{GuardEnds}
use Rattle.ioa_compile.specs.Correspondence.{Corresponds}
use Rattle.ioa_emit.specs.Emitting.{AddsExpr}
use Rattle.ioa_compile.specs.Matching.{AreTypesOf}
use Rattle.ioa_emit.specs.Placed.{HasExpr}
use Rattle.ioa_emit.specs.Scopes.{Scope, IsScope, IsKnown, scope_of_proposals}
use Rattle.ioa_compile.specs.Translated.{IsFor, IsGuard}
use Rattle.ioa_compile.proofs.Alike.{condition_comes, guard_says, Holds}
use Rattle.ioa_compile.proofs.Fine.{Setting, bare, is_scope, known}
use Rattle.ioa_compile.proofs.Fits.{fit_have, fit_types}
use Rattle.ioa_compile.proofs.Looks.{look, values_look}
use Rattle.ioa_compile.proofs.Proposed.{some_of}
use Rattle.ioa_compile.proofs.Validity.{guard_valid}

-- types are those of the fields once
pub same_types : (m : Member) (fs : List FieldTree) (ns ks : List ℕ) → AreTypesOf m.instance.types fs ns → AreTypesOf m.instance.types fs ks → ns ≡ ks
same_types m [] [] [] a b = refl
same_types m [] [] (k ∷ ks) a b = absurd b
same_types m [] (n ∷ ns) ks a b = absurd a
same_types m (f ∷ fs) [] ks a b = absurd a
same_types m (f ∷ fs) (n ∷ ns) [] a b = absurd b
same_types m (f ∷ fs) (n ∷ ns) (k ∷ ks) a b =
    let both : Some n ≡ Some k = sym a.0 ∙ b.0 in
    let one : n ≡ k = cc in
    let rest = same_types m fs ns ks a.1 b.1 in
    ap (λ x. x ∷ ns) one ∙ ap (λ xs. k ∷ xs) rest

module _ (m : Member) (h : IsFine component_limits m) (vs : List ℕ) (variables : AreTypesOf m.instance.types (variable_fields m.instance.automaton) vs) where
  -- what is known of a transition's names, where there are no parameters
  pub bare_of : Setting m bare vs []
  bare_of =
      let a = m.instance.automaton in
      let f = fit_types m.instance.types a.formals m.instance.arguments h.arguments in
      record {
        globals = h.automaton.0;
        parts = fine_parts m.instance.types m.instance.types h.automaton.0 a h.automaton.1;
        entry = record { distinct_names = refl; apart_names = refl; positions = refl; position_types = refl };
        few_variables = (within_parts component_limits a h.within).variables;
        few_positions = omega arith;
        variables = variables;
        domains = [];
        parameters = tt;
        types_are = refl;
        types = f.0;
        formals = f.1;
        given = f.2;
      }

  module _ (x : Expr) (typed : IsTrue (has_ty m.instance.types m.instance.types (held m.instance.types m.instance.types [] m.instance.automaton) x 0)) where
    condition_typed : type_of m.instance.types m.instance.types (scope m.instance.types m.instance.types h.automaton.0 m.instance.automaton bare) x ≡ Some 0
    condition_typed =
        subst (λ c. type_of m.instance.types m.instance.types c x ≡ Some 0) (sym (append-nil (held m.instance.types m.instance.types h.automaton.0 m.instance.automaton)))
        (some_of (type_of m.instance.types m.instance.types (held m.instance.types m.instance.types [] m.instance.automaton) x) 0 typed)

    pub condition_scope : IsScope (scope_of_proposals m)
    condition_scope = is_scope m bare vs [] bare_of

    pub condition_known : IsKnown (scope_of_proposals m) x
    condition_known = known m bare vs [] bare_of x 0 condition_typed

    pub condition_valid : (code : Listing) → code.types ≡ m.instance.types → IsGuard code (scope_of_proposals m) (Some x) → Valid (record { code = code; kind = Pre; slots = vs; args = []; result = 0 ∷ [] })
    condition_valid code over k = guard_valid m bare vs [] bare_of code over (Some x) condition_typed k

    module _ (part : Part) (is : IsFor part m.instance.types Pre (0 ∷ []) vs []) (k : IsGuard part.code (scope_of_proposals m) (Some x)) where
      own : (env : Env) (slots : List Val) → Corresponds m.instance env slots → Holds m bare vs [] bare_of [] tt part Pre (0 ∷ []) is (over env (formal_values m.instance)) slots
      own env slots c =
          let a = m.instance.automaton in
          record {
            agrees = λ y.
                ap (λ o. or_else o (formal_values m.instance y)) (c.values y ∙ values_look (variable_names a) slots y)
                ∙ ap (or_else (look (variable_names a) slots y)) (values_look (field_names a.formals) m.instance.arguments y ∙ sym (or_none (look (field_names a.formals) m.instance.arguments y)));
            typed = fit_have m.instance.types (variable_fields a) slots vs c.typed variables;
          }

      pub asks : Asks m x part
      asks = record {
        kind = is.kind;
        result = is.result;
        types = is.types_are;
        slots = subst (AreTypesOf m.instance.types (variable_fields m.instance.automaton)) (sym is.slots) variables;
        args = is.args;
        ends = λ env slots c. condition_comes m bare vs [] bare_of [] tt part Pre (0 ∷ []) is x (over env (formal_values m.instance)) slots (own env slots c) condition_typed k;
      }

-- the code of a condition that is emitted over these scopes
pub condition_made : (s : Scope) (m : Member) (x : Expr) (old new : Code) → s ≡ scope_of_proposals m → old.instrs.items ≡ [] → old.consts.items ≡ [] → AddsExpr (listing s.types old) (listing s.types new) s x
    → IsGuard (listing m.instance.types new) (scope_of_proposals m) (Some x)
condition_made s m x old new is no_code no_consts adds =
    let over = subst (λ (t : Scope). AddsExpr (listing t.types old) (listing t.types new) t x) is adds in
    let types = m.instance.types in
    record {
      has = subst (λ l. HasExpr (listing types new) (scope_of_proposals m) x (length l) (length new.instrs.items)) no_code over.has;
      typed = over.keeps.typed (subst (λ l. OwnTypes types (map plain.plain l)) (sym no_consts) tt);
    }

-- ---- what is answered

true_is : (v : Answer) (b : Bool) → truth_of v ≡ Ok b → b ≡ is_true v
true_is (gives (plain.truth c)) b e = cc
true_is (gives (plain.num z)) b e = cc
true_is (gives (plain.name ty n)) b e = cc
true_is (gives (plain.tuple ty vs)) b e = cc
true_is (gives (plain.items ty vs)) b e = cc
true_is (faults f) b e = absurd (cc)
true_is nothing b e = cc

fault_is : (v : Answer) (f : Fault) → truth_of v ≡ Err f → false ≡ is_true v
fault_is (gives (plain.truth c)) f e = absurd (cc)
fault_is (gives (plain.num z)) f e = refl
fault_is (gives (plain.name ty n)) f e = refl
fault_is (gives (plain.tuple ty vs)) f e = refl
fault_is (gives (plain.items ty vs)) f e = refl
fault_is (faults g) f e = refl
fault_is nothing f e = refl

pub answer_is : (part : Part) (slots : List Val) (v : Answer) (b : Bool) → GuardEnds part slots [] v → Ok b ≡ guard_of part slots [] → b ≡ is_true v
answer_is part slots v b ends e = true_is v b (guard_says part slots [] v ends ∙ sym e)

pub no_answer_is : (part : Part) (slots : List Val) (v : Answer) (f : Fault) → GuardEnds part slots [] v → Err f ≡ guard_of part slots [] → false ≡ is_true v
no_answer_is part slots v f ends e = fault_is v f (guard_says part slots [] v ends ∙ sym e)

-- ---- parts, one after another

at_end : {A : Type 0} (xs : List A) (x y : A) (k : ℕ) → slice_get (xs ++ x ∷ []) k ≡ Some y → (slice_get xs k ≡ Some y) ⊎ ((k ≡ length xs) × (x ≡ y))
at_end [] x y zero e = inr (refl, cc)
at_end [] x y (suc k) e = absurd (cc)
at_end (z ∷ zs) x y zero e = inl e
at_end (z ∷ zs) x y (suc k) e = ⊎_elim inl (λ h. inr (ap suc h.0, h.1)) (at_end zs x y k e)

pub asked_none : (c : Composed) (i : ℕ) → AskAll c i []
asked_none c i k part e = absurd (cc)

pub asked_more : (c : Composed) (i : ℕ) (parts : List (Option Part)) (p : Option Part) → AskAll c i parts → ((part : Part) → p ≡ Some part → OfThese c i (length parts) (λ m v. Asks m v.condition part)) → AskAll c i (parts ++ p ∷ [])
asked_more c i parts p before new k part e =
    ⊎_elim (λ there. before k part there) (λ h. subst (λ j. OfThese c i j (λ m v. Asks m v.condition part)) (sym h.0) (new part h.1)) (at_end parts p (Some part) k e)

-- with the next one they are one more
pub kept : (c : Composed) (i k : ℕ) (before after : List (Option Part)) (p : Option Part) → after ≡ before ++ p ∷ [] → length before ≡ k → AskAll c i (before ++ p ∷ []) → AskAll c i after × (length after ≡ k + 1)
kept c i k before after p e many all =
    let long : length after ≡ length (before ++ p ∷ []) = ap length e in
    (subst (AskAll c i) (sym e) all, omega (arith, long, many, length-append before (p ∷ [])))

-- what a part that is made asks, of the component and the invariant for which it is
pub asks_these : (c : Composed) (i k j : ℕ) (m : Member) (v : InvariantTree) → slice_get c.members i ≡ Some m → slice_get c.invariants k ≡ Some v → k ≡ j → (part : Part) (o : Option Part) → o ≡ Some part → IfSome o (λ p. Asks m v.condition p)
    → OfThese c i j (λ m v. Asks m v.condition part)
asks_these c i k j m v here there same part o is all n u at_n at_u =
    let members : Some m ≡ Some n = sym here ∙ at_n in
    let one : m ≡ n = cc in
    let invariants : Some v ≡ Some u = sym there ∙ ap (slice_get c.invariants) same ∙ at_u in
    let two : v ≡ u = cc in
    subst (λ (w : InvariantTree). Asks n w.condition part) two (subst (λ (x : Member). Asks x v.condition part) one (subst (λ q. IfSome q (λ p. Asks m v.condition p)) is all))

pub all_asked_more : (c : Composed) (codes : List (List (Option Part))) (parts : List (Option Part)) → AreAsked c codes → AskAll c (length codes) parts → AreAsked c (codes ++ parts ∷ [])
all_asked_more c codes parts before new i these e =
    ⊎_elim (λ there. before i these there) (λ h. subst (λ j. AskAll c j these) (sym h.0) (subst (AskAll c (length codes)) h.1 new)) (at_end codes parts these i e)

-- what is known of a part that is found: of which component and invariant it is
pub record Found (c : Composed) (i k : ℕ) (part : Part) : Type 0 where
  pub member : Member
  pub invariant : InvariantTree
  pub member_there : slice_get c.members i ≡ Some member
  pub invariant_there : slice_get c.invariants k ≡ Some invariant
  pub asks : Asks member invariant.condition part

pub found : (c : Composed) (codes : List (List (Option Part))) (i k : ℕ) (parts : List (Option Part)) (part : Part) → AreAsked c codes → i < length c.members → k < length c.invariants
    → slice_get codes i ≡ Some parts → slice_get parts k ≡ Some (Some part) → Found c i k part
found c codes i k parts part all few small here there =
    let m = item_there c.members i few in
    let v = item_there c.invariants k small in
    record { member = m.0; invariant = v.0; member_there = m.1; invariant_there = v.1; asks = all i parts here k part there m.0 v.0 m.1 v.1 }

-- so the answer is the condition's, in a state of the component
pub says : (c : Composed) (i k : ℕ) (part : Part) (n : Node) (b : Bool) → ((m : Member) → slice_get c.members i ≡ Some m → IsStateOf m n) → OfThese c i k (λ m v. Asks m v.condition part) → Ok b ≡ guard_of part n.values []
    → OfThese c i k (λ m v. b ≡ holds m.instance v.condition (state_of m.instance.automaton n.values))
says c i k part n b state asked e m v here there =
    answer_is part n.values _ b ((asked m v here there).ends (state_of m.instance.automaton n.values) n.values (state m here).values) e

pub says_no : (c : Composed) (i k : ℕ) (part : Part) (n : Node) (f : Fault) → ((m : Member) → slice_get c.members i ≡ Some m → IsStateOf m n) → OfThese c i k (λ m v. Asks m v.condition part) → Err f ≡ guard_of part n.values []
    → OfThese c i k (λ m v. false ≡ holds m.instance v.condition (state_of m.instance.automaton n.values))
says_no c i k part n f state asked e m v here there =
    no_answer_is part n.values _ f ((asked m v here there).ends (state_of m.instance.automaton n.values) n.values (state m here).values) e
