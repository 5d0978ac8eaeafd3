-- The parts of a table's entry end as the transition says, and so the table's component does what its instance does.
use Rattle.std.proofs.Common.{◌≡◌, ◌≤◌, ℕ, ◌⊎◌, inl, inr, Bool, true, false, cond, ◌++◌, IsTrue, List, [], ◌∷◌, length, Option, Some, None, IfSome, Result, Ok, Err, refl, sym, ap, ◌∙◌, subst}
use Rattle.std.specs.List.{AllZip}
use Rattle.std.specs.Option.{option_map, option_map_or}
use Rattle.std.specs.Str.{bytes_eq}
use Rattle.std.proofs.lemmas.Bool.{and_parts}
use Rattle.ioa_arithmetic.specs.declared.arithmetic.Fault.{Fault}
use Rattle.ioa_value.specs.Actions.{Name, Act}
use Rattle.ioa_value.specs.Operators.{Answer, gives, faults, nothing, IsTypedAnswer}
use Rattle.ioa_value.specs.Plain as plain
use Rattle.ioa_value.specs.Plain.{Val}
use Rattle.ioa_value.specs.Table.{Table, AreTypes}
use Rattle.ioa_value.specs.Typing.{HaveTypes}
use Rattle.ioa_value.proofs.PositionLemmas.{all_take-typed}
use Rattle.ioa_value.proofs.TypingLemmas.{HaveTypes-length}
use Rattle.ioa_value.proofs.NameLemmas.{outside_both}
use Rattle.ioa_code.specs.Machine.{Listing, State, state, End, done, fault, Ends}
use Rattle.ioa_code.specs.Outcome.{outcome}
use Rattle.ioa_code.specs.Bound.{bound}
use Rattle.ioa_code.specs.Valid.{Part}
use Rattle.ioa_code.proofs.Ends.{outcome_is_end}
use Rattle.ioa_code.proofs.Remaining.{ends_within}
use Rattle.ioa_code.specs.declared.instr.PartKind.{PartKind}
use Rattle.ioa_parts.specs.Runs as runs
use Rattle.ioa_parts.specs.Runs.{no_words, start, guard_answer, guard_of, effect_answer, effect_of}
use Rattle.ioa_tree.specs.declared.tree.Kind.{Kind}
use Rattle.ioa_tree.specs.declared.tree.Kind.TheVariants.{Input, Output, Internal}
use Rattle.ioa_tree.specs.Tree.{Expr, Stmts, EntryTree, TransitionTree}
use Rattle.ioa_tree.specs.Meaning.{Env, values_of, or_else, over, kept, val, Outcome, becomes, breaks, nowhere, eff}
use Rattle.ioa_tree.specs.Instances.{Instance, formal_values, field_names, variable_names, parameter_values, positions_have, entry_has, entry_for, transition_for, environment, truth_of, enabling, next_state, component_of}
use Rattle.ioa_tree.specs.Proposing as meaning
use Rattle.ioa_tree.specs.Proposing.{Words, parameters, proposed}
use Rattle.ioa_tree.specs.Components.{is_local}
use Rattle.ioa_tree.specs.Compositions.{Member}
use Rattle.ioa_tree.specs.Likes.{AreLike}
use Rattle.ioa_tree.specs.WellFormed.{Context, contains, local_names, parameter_names, variable_fields, context_of, held, scope, is_input, type_of}
use Rattle.ioa_tree.proofs.Domains.{domains_have}
use Rattle.ioa_tree.proofs.ValTyped.{val_typed}
use Rattle.ioa_compose.specs.Fine.{IsFine}
use Rattle.ioa_crash.specs.Limits.{component_limits}
use Rattle.ioa_crash.proofs.SpelledNames.{or_none}
use Rattle.ioa_code.specs.declared.instr.PartKind.TheVariants.{Pre, Propose, Eff}
use Rattle.ioa_compile.specs.Programs.{EntryCode, MemberCode}
use Rattle.ioa_compile.specs.Tables.{HasLocal, allows, entry_of, table_component, position_types, parameter_types}
use Rattle.ioa_compile.specs.Correspondence.{Corresponds}
use Rattle.ioa_emit.specs.Scopes.{Scope, scope_of, scope_of_proposals}
use Rattle.ioa_emit.specs.Placed.{HasStmts, HasProposals}
use Rattle.ioa_compile.specs.CodeEnds.{required, GuardEnds, EffectEnds, ProposalEnds}
use Rattle.ioa_compile.specs.Matching.{AreTypesOf, MatchesEntry}
use Rattle.ioa_compile.specs.Translated.{IsGuard, IsGuardFor, IsProposing, codes_of, IsEntryOf, IsTranslated, IsFor}
use Rattle.ioa_compile.proofs.Looks.{look, values_look, look_outside, look_inside, distinct_apart, apart_outside}
use Rattle.ioa_compile.proofs.Parameters.{passed, passed_outside, values_passed}
use Rattle.ioa_compile.proofs.Standing.{stands, lies_itself}
use Rattle.ioa_compile.proofs.Fits.{fit_have, have_fit}
use Rattle.ioa_compile.proofs.Fine.{Setting, setting, bare_setting, bare, kind_of, variables_long, names_of, no_other, fine_of, domains_of, guard_typed, effect_typed}
use Rattle.ioa_compile.proofs.Typed.{GuardTyped, StmtsTyped}
use Rattle.ioa_compile.proofs.Validity.{found_slot}
use Rattle.ioa_compile.proofs.Running as running
use Rattle.ioa_compile.proofs.Running.{Comes, Breaks, Reaches, Knows, on, push_comes, expr_runs}
use Rattle.ioa_compile.proofs.Proposed.{ProposalsTyped, bare_typed, proposals_typed}
use Rattle.ioa_compile.proofs.Trying.{proposals_try, tried_ends}
use Rattle.ioa_compile.proofs.Twins.{Both, Neither, finds_same}

-- ---- the end of a run

module _ (part : Part) (s : Scope) (slots args : List Val) (within : (n : ℕ) (r : End) → Ends part.code n (start slots args) r → n ≤ bound part) where
  came : (stack after : List Val) → Comes part.code (on part.code s args no_words 0 0 [] slots) (on part.code s args no_words 0 (length part.code.instrs) stack after) → runs.Comes part (start slots args) (done stack after 0)
  came stack after c = let r = c.by (done stack after 0) 0 (refl, refl) in (r.0, within r.0 (done stack after 0) r.1, r.1)

  broke : (f : Fault) → Breaks part.code s args no_words 0 (on part.code s args no_words 0 0 [] slots) f → runs.Comes part (start slots args) (fault f 0)
  broke f b = (b.0, within b.0 (fault f 0) b.1, b.1)

  answer_comes : (v : Answer) → (v ≡ nothing → ⊥) → Reaches part.code s args no_words 0 (on part.code s args no_words 0 0 [] slots) (length part.code.instrs) [] slots v → GuardEnds part slots args v
  answer_comes (gives v) t r = came (v ∷ []) slots r
  answer_comes (faults f) t r = broke f r
  answer_comes nothing t r = absurd (t refl)

-- values of the types that a part is for are of the part's types
for_part : (part : Part) (types : Table) (ts us : List ℕ) (vals : List Val) → part.code.types ≡ types → us ≡ ts → HaveTypes types vals ts → HaveTypes part.code.types vals us
for_part part types ts us vals e f h =
    subst (HaveTypes part.code.types vals) (sym f) (subst (λ t. HaveTypes t vals ts) (sym e) h)

-- ---- what the end of a run says of the answer

end_is : (part : Part) (s : State) (r : End) → runs.Comes part s r → outcome part s ≡ Some r
end_is part s r c = (outcome_is_end part s r).1 c

pub guard_says : (part : Part) (slots args : List Val) (v : Answer) → GuardEnds part slots args v → truth_of v ≡ guard_of part slots args
guard_says part slots args (gives (plain.truth b)) c = sym (ap guard_answer (end_is part (start slots args) _ c))
guard_says part slots args (gives (plain.num z)) c = sym (ap guard_answer (end_is part (start slots args) _ c))
guard_says part slots args (gives (plain.name ty n)) c = sym (ap guard_answer (end_is part (start slots args) _ c))
guard_says part slots args (gives (plain.tuple ty vs)) c = sym (ap guard_answer (end_is part (start slots args) _ c))
guard_says part slots args (gives (plain.items ty vs)) c = sym (ap guard_answer (end_is part (start slots args) _ c))
guard_says part slots args (faults f) c = sym (ap guard_answer (end_is part (start slots args) _ c))
guard_says part slots args nothing c = absurd c

effect_says : (i : Instance) (part : Part) (slots args : List Val) (env : Env) (o : Outcome) → EffectEnds i part slots args o → AreLike (Corresponds i) (next_state i.automaton env o) (effect_of part slots args)
effect_says i part slots args env (becomes after) c =
    subst (AreLike (Corresponds i) (Ok (kept (variable_names i.automaton) after))) (sym (ap (effect_answer slots) (end_is part (start slots args) _ c.2))) c.1
effect_says i part slots args env (breaks f) c =
    subst (AreLike (Corresponds i) (Err f)) (sym (ap (effect_answer slots) (end_is part (start slots args) _ c))) refl
effect_says i part slots args env nowhere c = absurd c

enabling-required : (types : Table) (g : Option Expr) (env : Env) → enabling types g env ≡ truth_of (required types g env)
enabling-required types None env = refl
enabling-required types (Some e) env = refl

-- ---- the environment of an entry

pub swapped : (f p v : Option Val) → (v ≡ None) ⊎ ((f ≡ None) × (p ≡ None)) → or_else f (or_else p v) ≡ or_else v (or_else f p)
swapped f p v (inl e) =
    ap (λ o. or_else f (or_else p o)) e ∙ ap (or_else f) (or_none p) ∙ sym (ap (λ o. or_else o (or_else f p)) e)
swapped f p v (inr e) =
    ap (λ o. or_else o (or_else p v)) e.0 ∙ ap (λ o. or_else o v) e.1 ∙ sym (ap (λ o. or_else v (or_else o p)) e.0 ∙ ap (or_else v) e.1 ∙ or_none v)

module _ (m : Member) (e : EntryTree) (vs ps : List ℕ) (h : Setting m e vs ps) (args : List Val) (values : HaveTypes m.instance.types args ps) where
  pub separate : (x : Name) → (contains (variable_names m.instance.automaton) x ≡ false) ⊎ ((contains (field_names m.instance.automaton.formals) x ≡ false) × (contains (parameter_names e) x ≡ false))
  separate x = go (contains (variable_names m.instance.automaton) x) refl (contains (field_names m.instance.automaton.formals) x) refl (contains (parameter_names e) x) refl
    where
      go : (v : Bool) → contains (variable_names m.instance.automaton) x ≡ v → (f : Bool) → contains (field_names m.instance.automaton.formals) x ≡ f → (p : Bool) → contains (parameter_names e) x ≡ p → (v ≡ false) ⊎ ((f ≡ false) × (p ≡ false))
      go false v-is f f-is p p-is = inl refl
      go true v-is false f-is false p-is = inr (refl, refl)
      go true v-is true f-is p p-is =
          let no = distinct_apart (field_names m.instance.automaton.formals) (variable_names m.instance.automaton) x h.parts.distinct_names f-is in absurd (cc)
      go true v-is false f-is true p-is =
          let out = apart_outside (parameter_names e) (h.globals ++ local_names m.instance.types m.instance.types h.globals m.instance.automaton) x h.entry.apart_names p-is in
          let local = (outside_both h.globals (local_names m.instance.types m.instance.types h.globals m.instance.automaton) x out).1 in
          let no = (outside_both (field_names m.instance.automaton.formals) (variable_names m.instance.automaton) x local).1 in absurd (cc)

  stood : (slots : List Val) (x : Name) → or_else (look (field_names m.instance.automaton.formals) m.instance.arguments x) (or_else (passed e.positions args x) (look (variable_names m.instance.automaton) slots x)) ≡ stands (scope_of m e) [] slots m.instance.arguments args x
  stood slots x =
      swapped _ _ _ (go (separate x))
    where
      go : (contains (variable_names m.instance.automaton) x ≡ false) ⊎ ((contains (field_names m.instance.automaton.formals) x ≡ false) × (contains (parameter_names e) x ≡ false)) → (look (variable_names m.instance.automaton) slots x ≡ None) ⊎ ((look (field_names m.instance.automaton.formals) m.instance.arguments x ≡ None) × (passed e.positions args x ≡ None))
      go (inl k) = inl (look_outside (variable_names m.instance.automaton) slots x k)
      go (inr k) = inr (look_outside (field_names m.instance.automaton.formals) m.instance.arguments x k.0, passed_outside e.positions args x k.1)

  module _ (part : Part) (kind : PartKind) (end : List ℕ) (is : IsFor part m.instance.types kind end vs ps) where
    declared : AreTypes m.instance.types
    declared = subst AreTypes is.types_are is.verified.types

    pub within : (slots : List Val) (words : ℕ → ℕ) → HaveTypes m.instance.types slots vs → (n : ℕ) (r : End) → Ends part.code n (state 0 [] slots args words 0) r → n ≤ bound part
    within slots words typed n r e =
        (ends_within part slots args words is.verified (for_part part m.instance.types vs part.slots slots is.types_are is.slots typed) (for_part part m.instance.types ps part.args args is.types_are is.args values) n r e).0

    -- the types of the names in this entry, and of the variables
    abbrev names_in : Context
    names_in = scope m.instance.types m.instance.types h.globals m.instance.automaton e

    abbrev variables_in : Context
    variables_in = context_of m.instance.types (variable_fields m.instance.automaton)

    pub knows : Knows part.code (scope_of m e) args no_words 0 m.instance.types names_in variables_in [] [] vs h.types ps
    knows = record {
      same_types = is.types_are;
      declared = declared;
      has = names_of m e vs ps h;
      stacked = tt;
      given = h.given;
      values = values;
      found = found_slot m e vs ps h part.code;
      others = no_other m e vs ps h;
      apart = λ x i k. refl;
    }

    -- what statements keep, in this entry
    abbrev pub Holds : Env → List Val → Type 0
    Holds env slots = running.Holds part.code (scope_of m e) args no_words 0 m.instance.types names_in variables_in [] [] vs h.types ps knows env slots

    holds : (env : Env) (slots : List Val) → Corresponds m.instance env slots → Holds (environment m.instance e args env) slots
    holds env slots c = record {
      agrees = λ x.
          ap (λ o. or_else o (or_else (values_of (parameter_names e) (parameter_values e.positions args) x) (env x))) (values_look (field_names m.instance.automaton.formals) m.instance.arguments x)
          ∙ ap (λ o. or_else (look (field_names m.instance.automaton.formals) m.instance.arguments x) (or_else o (env x))) (values_passed e.positions args x)
          ∙ ap (λ o. or_else (look (field_names m.instance.automaton.formals) m.instance.arguments x) (or_else (passed e.positions args x) o)) (c.values x ∙ values_look (variable_names m.instance.automaton) slots x)
          ∙ stood slots x;
      typed = fit_have m.instance.types (variable_fields m.instance.automaton) slots vs c.typed h.variables;
    }

    some_answer : (ty : ℕ) (v : Answer) → IsTypedAnswer m.instance.types ty v → v ≡ nothing → ⊥
    some_answer ty (gives v) t n = absurd (cc)
    some_answer ty (faults f) t n = absurd (cc)
    some_answer ty nothing t n = t

    -- a condition's code, on slots that hold the environment
    pub condition_comes : (x : Expr) (inner : Env) (slots : List Val) → Holds inner slots → type_of m.instance.types m.instance.types names_in x ≡ Some 0 → IsGuard part.code (scope_of m e) (Some x) → GuardEnds part slots args (val m.instance.types x inner)
    condition_comes x inner slots own t k =
        let s = scope_of m e in
        let types = m.instance.types in
        let suits = running.suits part.code s args no_words 0 types names_in variables_in [] [] vs h.types ps knows inner slots own in
        let agree = running.agree part.code s args no_words 0 types names_in variables_in [] [] vs h.types ps knows inner slots own in
        answer_comes part s slots args (within slots no_words own.typed) (val types x inner) (some_answer 0 (val types x inner) (val_typed types declared names_in inner x 0 suits t)) (expr_runs part.code s args no_words 0 types is.types_are refl declared names_in refl inner suits [] slots agree x 0 0 (length part.code.instrs) [] (lies_itself []) t k.has)

    guard_comes : (g : Option Expr) (env : Env) (slots : List Val) → Corresponds m.instance env slots → GuardTyped m.instance.types names_in g → IsGuard part.code (scope_of m e) g → GuardEnds part slots args (required m.instance.types g (environment m.instance e args env))
    guard_comes None env slots c t k =
        let s = scope_of m e in
        let code = part.code in
        let run = subst (λ n. Comes code (on code s args no_words 0 0 [] slots) (on code s args no_words 0 n (plain.truth true ∷ []) slots)) (sym k.has.1) (push_comes code s args no_words 0 0 [] slots (plain.truth true) k.has.0) in
        came part s slots args (within slots no_words (holds env slots c).typed) (plain.truth true ∷ []) slots run
    guard_comes (Some x) env slots c t k =
        condition_comes x (environment m.instance e args env) slots (holds env slots c) t k

    kept_corresponds : (env : Env) (slots : List Val) → Holds env slots → Corresponds m.instance (kept (variable_names m.instance.automaton) env) slots
    kept_corresponds env slots k = record {
      values = λ x. go x (contains (variable_names m.instance.automaton) x) refl ∙ sym (values_look (variable_names m.instance.automaton) slots x);
      typed = have_fit m.instance.types (variable_fields m.instance.automaton) slots vs k.typed h.variables;
    }
      where
        long : length (variable_names m.instance.automaton) ≡ length slots
        long = variables_long m e vs ps h ∙ sym (HaveTypes-length m.instance.types slots vs k.typed)

        go : (x : Name) (b : Bool) → contains (variable_names m.instance.automaton) x ≡ b → cond b (env x) None ≡ look (variable_names m.instance.automaton) slots x
        go x true t =
            let there = look_inside (variable_names m.instance.automaton) slots x long t in
            k.agrees x ∙ ap (λ o. or_else o (or_else (look (field_names m.instance.automaton.formals) m.instance.arguments x) (passed e.positions args x))) there.1 ∙ sym there.1
        go x false t = sym (look_outside (variable_names m.instance.automaton) slots x t)

    outcome_comes : (slots : List Val) → HaveTypes m.instance.types slots vs → (o : Outcome) → running.RunsTo part.code (scope_of m e) args no_words 0 m.instance.types names_in variables_in [] [] vs h.types ps knows (on part.code (scope_of m e) args no_words 0 0 [] slots) (length part.code.instrs) o → EffectEnds m.instance part slots args o
    outcome_comes slots typed (becomes after) r =
        (r.0, kept_corresponds after r.0 r.1, came part (scope_of m e) slots args (within slots no_words typed) [] r.0 r.2)
    outcome_comes slots typed (breaks f) r = broke part (scope_of m e) slots args (within slots no_words typed) f r
    outcome_comes slots typed nowhere r = absurd r

    effect_comes : (ts : Stmts) (env : Env) (slots : List Val) → Corresponds m.instance env slots → StmtsTyped m.instance.types names_in variables_in [] ts → HasStmts part.code (scope_of m e) ts 0 (length part.code.instrs) → EffectEnds m.instance part slots args (eff m.instance.types ts (environment m.instance e args env))
    effect_comes ts env slots c t k =
        outcome_comes slots (holds env slots c).typed (eff m.instance.types ts (environment m.instance e args env))
        (running.stmts_run part.code args no_words 0 m.instance.types names_in variables_in vs h.types ps ts (scope_of m e) [] [] [] knows 0 (length part.code.instrs) (environment m.instance e args env) slots (holds env slots c) t k)

-- ---- proposals

module _ (m : Member) (e : EntryTree) (vs ps : List ℕ) (h : Setting m e vs ps) (part : Part) (kind : PartKind) (end : List ℕ) (is : IsFor part m.instance.types kind end vs []) where
  pub proposals_come : (t : TransitionTree) → transition_for m.instance.automaton e ≡ Some t → ProposalsTyped m.instance.types (held m.instance.types m.instance.types h.globals m.instance.automaton) t.proposals e.positions → HasProposals part.code (scope_of_proposals m) t.proposals e.positions 0 (length part.code.instrs) → (env : Env) (slots : List Val) (words : Words) → Corresponds m.instance env slots → ProposalEnds part slots words (proposed m.instance e env words 0)
  proposals_come t found typed k env slots words c =
      let types = m.instance.types in
      let s = scope_of_proposals m in
      let b = bare_setting m e vs ps h in
      let names = scope types types h.globals m.instance.automaton bare in
      let variables = context_of types (variable_fields m.instance.automaton) in
      let none : List Val = [] in
      let declared = subst AreTypes is.types_are is.verified.types in
      let inner = over (formal_values m.instance) env in
      let known = knows m bare vs [] b none tt part kind end is in
      let own = holds m bare vs [] b none tt part kind end is env slots c in
      let suits = running.suits part.code s none no_words 0 types names variables [] [] vs h.types [] known inner slots own in
      let agree = running.agree part.code s none no_words 0 types names variables [] [] vs h.types [] known inner slots own in
      let runs = proposals_try part.code s words slots types is.types_are refl declared names refl inner suits agree t.proposals e.positions 0 0 (length part.code.instrs) [] (bare_typed m e vs ps h t.proposals e.positions typed) k in
      subst (λ o. ProposalEnds part slots words (option_map_or (λ r. parameters words types inner r.proposals e.positions 0) o (meaning.idle 0))) (sym found)
      (tried_ends part s slots words (within m bare vs [] b none tt part kind end is slots words own.typed) (parameters words types inner t.proposals e.positions 0) runs)

-- ---- an entry

-- what follows of the part that a locally controlled entry has
on_part : (P Q : Part → Type 0) (H : Listing → Type 0) (k : Kind) (o : Option Part) → HasLocal H k (codes_of o) → IfSome o Q → ((p : Part) → is_input k ≡ false → H p.code → Q p → P p) → IfSome o P
on_part P Q H Input None h q f = tt
on_part P Q H Input (Some p) h q f = absurd h
on_part P Q H Output None h q f = absurd h
on_part P Q H Output (Some p) h q f = f p refl h q
on_part P Q H Internal None h q f = absurd h
on_part P Q H Internal (Some p) h q f = f p refl h q

-- what the compiler makes of an entry matches it
pub entry_matches : (m : Member) (vs : List ℕ) (e : EntryTree) (c : EntryCode) → IsFine component_limits m → AreTypesOf m.instance.types (variable_fields m.instance.automaton) vs → IsTranslated m vs e c → IsEntryOf m e → MatchesEntry m e c
entry_matches m vs e c fine types is own =
    let ps = position_types c.positions in
    let all = setting m e fine own vs ps c.positions types is.positions refl in
    let t = is.transition.0 in
    let ok = fine_of m e fine own t is.transition.1 in
    record {
      kind = is.kind;
      name = is.name;
      positions = is.positions;
      transition = t;
      found = is.transition.1;
      guard = on_part _ (λ p. IsFor p m.instance.types Pre (0 ∷ []) vs ps) (λ code. IsGuard code (scope_of m e) t.pre) e.kind c.pre is.transition.2.pre is.pre
          (λ p local k q env slots args r values. guard_comes m e vs ps all args values p Pre (0 ∷ []) q t.pre env slots r (guard_typed m.instance.types all.globals m.instance.automaton e t ok) k);
      propose = on_part _ (λ p. IsFor p m.instance.types Propose (parameter_types c.positions) vs []) (λ code. IsProposing code (scope_of_proposals m) t.proposals e.positions) e.kind c.propose is.transition.2.propose is.propose
          (λ p local k q.
          let its_kind : is_input t.kind ≡ false = ap is_input (sym (kind_of m e fine own t is.transition.1)) ∙ local in
          proposals_come m e vs ps all p Propose (parameter_types c.positions) q t is.transition.1 (proposals_typed m.instance.types all.globals m.instance.automaton e t all.entry its_kind ok) k.has);
      effect = λ env slots args r values. effect_comes m e vs ps all args values c.effect Eff [] is.effect t.effect env slots r (effect_typed m.instance.types all.globals m.instance.automaton e t ok) is.transition.2.effect.has;
    }

guard_cases : (x : Result Bool Fault) (k : Kind) (o : Option Part) (s : Scope) (g : Option Expr) (slots args : List Val) → IsTrue (is_local (Some k)) → IsGuardFor k (codes_of o) s g → IfSome o (λ p. x ≡ guard_of p slots args) → x ≡ allows o slots args
guard_cases x Input o s g slots args l h f = absurd (cc)
guard_cases x Output None s g slots args l h f = absurd h
guard_cases x Output (Some p) s g slots args l h f = f
guard_cases x Internal None s g slots args l h f = absurd h
guard_cases x Internal (Some p) s g slots args l h f = f

pub if_some : (P Q : Part → Type 0) (o : Option Part) → ((p : Part) → P p → Q p) → IfSome o P → IfSome o Q
if_some P Q None f h = tt
if_some P Q (Some p) f h = f p h

module _ (m : Member) (vs : List ℕ) (fine : IsFine component_limits m) (types : AreTypesOf m.instance.types (variable_fields m.instance.automaton) vs) (a : Act) (e : EntryTree) (c : EntryCode) (is : IsTranslated m vs e c) (own : IsEntryOf m e) (has : entry_has m.instance a e ≡ true) where
  matched : MatchesEntry m e c
  matched = entry_matches m vs e c fine types is own

  arguments : HaveTypes m.instance.types a.vals (position_types c.positions)
  arguments =
      let declared = subst AreTypes is.effect.types_are is.effect.verified.types in
      let there = (and_parts (bytes_eq e.name a.name) (positions_have m.instance e.positions a.vals) has).1 in
      all_take-typed m.instance.types c.positions a.vals (domains_of m e fine own c.positions declared is.positions) (sym (domains_have m.instance e.positions c.positions a.vals is.positions) ∙ there)

  guard_same : (env : Env) (slots : List Val) → IsTrue (is_local (Some e.kind)) → Corresponds m.instance env slots → enabling m.instance.types matched.transition.pre (environment m.instance e a.vals env) ≡ allows c.pre slots a.vals
  guard_same env slots local r =
      let pre = matched.transition.pre in
      let inner = environment m.instance e a.vals env in
      guard_cases _ e.kind c.pre (scope_of m e) is.transition.0.pre slots a.vals local is.transition.2.pre
      (if_some _ (λ p. enabling m.instance.types pre inner ≡ guard_of p slots a.vals) c.pre (λ p says. enabling-required m.instance.types pre inner ∙ guard_says p slots a.vals (required m.instance.types pre inner) (says env slots a.vals r arguments)) matched.guard)

  effect_same : (env : Env) (slots : List Val) → Corresponds m.instance env slots → AreLike (Corresponds m.instance) (next_state m.instance.automaton env (eff m.instance.types matched.transition.effect (environment m.instance e a.vals env))) (effect_of c.effect slots a.vals)
  effect_same env slots r =
      effect_says m.instance c.effect slots a.vals env (eff m.instance.types matched.transition.effect (environment m.instance e a.vals env)) (matched.effect env slots a.vals r arguments)

-- ---- a component

module _ (m : Member) (vs : List ℕ) (c : MemberCode) (fine : IsFine component_limits m) (same_types : c.start.table ≡ m.instance.types) (types : AreTypesOf m.instance.types (variable_fields m.instance.automaton) vs) (entries : AllZip (IsTranslated m vs) m.instance.automaton.entries c.entries) where
  module _ (a : Act) where
    abbrev tree_entry : Option EntryTree
    tree_entry = entry_for m.instance a

    own_of : (r : Both m vs a m.instance.automaton.entries tree_entry (entry_of c a)) → IsEntryOf m r.entry
    own_of r = record { place = r.place; here = r.here }

    same_entry : Both m vs a m.instance.automaton.entries tree_entry (entry_of c a) ⊎ Neither m vs a tree_entry (entry_of c a)
    same_entry = finds_same m vs a c.start.table same_types m.instance.automaton.entries c.entries entries

    found_transition : (r : Both m vs a m.instance.automaton.entries tree_entry (entry_of c a)) → transition_for m.instance.automaton r.entry ≡ Some (matched m vs fine types a r.entry r.code r.same (own_of r) r.has).transition
    found_transition r = (matched m vs fine types a r.entry r.code r.same (own_of r) r.has).found

    pub guards : (env : Env) (slots : List Val) → IsTrue (is_local ((component_of m.instance).kind_of a)) → Corresponds m.instance env slots → (component_of m.instance).guard a env ≡ (table_component c).guard a slots
    guards env slots local r = go same_entry
      where
        go : Both m vs a m.instance.automaton.entries tree_entry (entry_of c a) ⊎ Neither m vs a tree_entry (entry_of c a) → (component_of m.instance).guard a env ≡ (table_component c).guard a slots
        go (inl b) =
            let is_there = subst (λ o. IsTrue (is_local (option_map (λ e. e.kind) o))) b.entry_is local in
            ap (λ o. option_map_or (λ e. option_map_or (λ t. enabling m.instance.types t.pre (environment m.instance e a.vals env)) (transition_for m.instance.automaton e) (Ok false)) o (Ok false)) b.entry_is
            ∙ ap (λ o. option_map_or (λ t. enabling m.instance.types t.pre (environment m.instance b.entry a.vals env)) o (Ok false)) (found_transition b)
            ∙ guard_same m vs fine types a b.entry b.code b.same (own_of b) b.has env slots is_there r
            ∙ sym (ap (λ o. option_map_or (λ e. allows e.pre slots a.vals) o (Ok false)) b.code_is)
        go (inr n) =
            ap (λ o. option_map_or (λ e. option_map_or (λ t. enabling m.instance.types t.pre (environment m.instance e a.vals env)) (transition_for m.instance.automaton e) (Ok false)) o (Ok false)) n.no_entry
            ∙ sym (ap (λ o. option_map_or (λ e. allows e.pre slots a.vals) o (Ok false)) n.no_code)

    pub effects : (env : Env) (slots : List Val) → Corresponds m.instance env slots → AreLike (Corresponds m.instance) ((component_of m.instance).effect a env) ((table_component c).effect a slots)
    effects env slots r = go same_entry
      where
        go : Both m vs a m.instance.automaton.entries tree_entry (entry_of c a) ⊎ Neither m vs a tree_entry (entry_of c a) → AreLike (Corresponds m.instance) ((component_of m.instance).effect a env) ((table_component c).effect a slots)
        go (inl b) =
            let effect = (matched m vs fine types a b.entry b.code b.same (own_of b) b.has).transition.effect in
            let tree = ap (λ o. option_map_or (λ e. option_map_or (λ t. next_state m.instance.automaton env (eff m.instance.types t.effect (environment m.instance e a.vals env))) (transition_for m.instance.automaton e) (Ok env)) o (Ok env)) b.entry_is
            ∙ ap (λ o. option_map_or (λ t. next_state m.instance.automaton env (eff m.instance.types t.effect (environment m.instance b.entry a.vals env))) o (Ok env)) (found_transition b) in
            let table = ap (λ o. option_map_or (λ e. effect_of e.effect slots a.vals) o (Ok slots)) b.code_is in
            subst (λ x. AreLike (Corresponds m.instance) x ((table_component c).effect a slots)) (sym tree)
            (subst (AreLike (Corresponds m.instance) (next_state m.instance.automaton env (eff m.instance.types effect (environment m.instance b.entry a.vals env)))) (sym table)
            (effect_same m vs fine types a b.entry b.code b.same (own_of b) b.has env slots r))
        go (inr n) =
            let tree = ap (λ o. option_map_or (λ e. option_map_or (λ t. next_state m.instance.automaton env (eff m.instance.types t.effect (environment m.instance e a.vals env))) (transition_for m.instance.automaton e) (Ok env)) o (Ok env)) n.no_entry in
            let table = ap (λ o. option_map_or (λ e. effect_of e.effect slots a.vals) o (Ok slots)) n.no_code in
            subst (λ x. AreLike (Corresponds m.instance) x ((table_component c).effect a slots)) (sym tree)
            (subst (AreLike (Corresponds m.instance) (Ok env)) (sym table) r)
