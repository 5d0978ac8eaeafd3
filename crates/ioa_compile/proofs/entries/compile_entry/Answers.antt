use Rattle.std.proofs.Common.{◌≡◌, false, arith, List, [], ◌∷◌, map, Option, IfSome, refl, sym, ap, ◌∙◌, subst, rules}
use Rattle.std.specs.Option.{option_map}
use Rattle.ioa_value.specs.declared.positions.Position.{Position}
use Rattle.ioa_value.specs.declared.value.Ty.{Ty}
use Rattle.ioa_code.specs.declared.instr.Code.{Code}
use Rattle.ioa_code.specs.declared.instr.PartKind.TheVariants.{Pre, Propose, Eff}
use Rattle.ioa_value.specs.Plain.{number}
use Rattle.ioa_value.specs.Positions.{domain_of}
use Rattle.ioa_code.specs.Parts.{part, listing}
use Rattle.ioa_code.specs.Valid.{Valid}
use Rattle.ioa_tree.specs.declared.tree.Entry as tree
use Rattle.ioa_tree.specs.Compositions.{Member}
use Rattle.ioa_tree.specs.Domains.{AreDomainsOf}
use Rattle.ioa_tree.specs.Tree.{EntryTree, TransitionTree}
use Rattle.ioa_tree.specs.View.{entry_of, transition_of, automaton_of}
use Rattle.ioa_tree.specs.WellFormed.{variable_fields, is_input}
use Rattle.ioa_compose.specs.declared.member.Member as held
use Rattle.ioa_compose.specs.Fine.{IsFine}
use Rattle.ioa_crash.specs.Limits.{component_limits}
use Rattle.ioa_compose.specs.Held.{member_of}
use Rattle.ioa_compile.specs.Shown.{entry_code}
use Rattle.ioa_emit.specs.Scopes.{Scope, scope_of, scope_of_proposals, IsScope, IsKnownGuard, AreKnownProposals, AreKnown}
use Rattle.ioa_compile.specs.Matching.{AreTypesOf}
use Rattle.ioa_compile.specs.Tables.{position_types, parameter_types}
use Rattle.ioa_compile.specs.Translated.{IsEntryOf, IsGuard, IsProposing, IsTransition}
use Rattle.ioa_compile.proofs.Fine as fine
use Rattle.ioa_compile.proofs.Fine.{Setting, setting, bare_setting, bare, fine_of, kind_of, small_of, few_positions_of, guard_typed, effect_typed, is_scope, known_guard, known_stmts, is_some_of_found}
use Rattle.ioa_compile.proofs.Proposed.{known_proposals, proposals_typed}
use Rattle.ioa_compile.proofs.Sizes.{proposals_few}
use Rattle.ioa_compile.proofs.Validity.{guard_valid, proposals_valid, effect_valid}
use Rattle.ioa_compile.proofs.Assembled.{on_local, translated}
use Rattle.ioa_compile.proofs.entries.compile_entry.Goals as goal

-- what is known of the entry and its positions, and the types of what stands in them
abbrev settled : (m : held.Member) (entry : tree.Entry) (slots : List Ty) → IsFine component_limits (member_of m) → IsEntryOf (member_of m) (entry_of entry)
    → AreTypesOf m.types (variable_fields (automaton_of m.automaton)) (map number slots) → (ps : List Position) → AreDomainsOf (member_of m).instance (entry_of entry).positions (map domain_of ps)
    → (args : List Ty) → map number args ≡ position_types (map domain_of ps) → Setting (member_of m) (entry_of entry) (map number slots) (map number args)
settled m entry slots is_fine own variables ps h args types_are =
    setting (member_of m) (entry_of entry) is_fine own (map number slots) (map number args) (map domain_of ps) variables h types_are

-- the code that is made over the transition's scopes
made : (s h : Scope) (m : Member) (e : EntryTree) (t : TransitionTree) (guard proposals : Option Code) (effect : Code) → s ≡ scope_of m e → h ≡ scope_of_proposals m → IsTransition e s h t (option_map (listing s.types) guard) (option_map (listing s.types) proposals) (listing s.types effect)
    → IsTransition e (scope_of m e) (scope_of_proposals m) t (option_map (listing m.instance.types) guard) (option_map (listing m.instance.types) proposals) (listing m.instance.types effect)
made s h m e t guard proposals effect is also_is all =
    let over = subst (λ x. IsTransition e x h t (option_map (listing x.types) guard) (option_map (listing x.types) proposals) (listing x.types effect)) is all in
    subst (λ x. IsTransition e (scope_of m e) x t (option_map (listing m.instance.types) guard) (option_map (listing m.instance.types) proposals) (listing m.instance.types effect)) also_is over

pub transition_of-transition-requires : goal.transition_of-transition-requires
transition_of-transition-requires c =
    is_some_of_found (member_of c.args.member.now) (entry_of c.args.entry.now) c.requires.fine c.requires.own

pub of-scope-requires : goal.of-scope-requires
of-scope-requires c =
    let all = settled c.args.member.now c.args.entry.now c.args.slots.now c.requires.fine c.requires.own c.requires.slots
    c.args.positions.now c.requires.positions c.in_ok-arguments.arguments.items c.in_ok-arguments.ensures in
    is_scope (member_of c.args.member.now) (entry_of c.args.entry.now) _ _ all

pub of_proposals-held-requires : goal.of_proposals-held-requires
of_proposals-held-requires c =
    let m = member_of c.args.member.now in
    let e = entry_of c.args.entry.now in
    let all = settled c.args.member.now c.args.entry.now c.args.slots.now c.requires.fine c.requires.own c.requires.slots
    c.args.positions.now c.requires.positions c.in_ok-arguments.arguments.items c.in_ok-arguments.ensures in
    is_scope m bare _ _ (bare_setting m e _ _ all)

pub transition_code-requires-clause-types : goal.transition_code-requires-clause-types
transition_code-requires-clause-types c = ap (λ (s : Scope). s.types) c.of_proposals-held.ensures ∙ sym (ap (λ (s : Scope). s.types) c.of-scope.ensures)

pub transition_code-requires-clause-proposals : goal.transition_code-requires-clause-proposals
transition_code-requires-clause-proposals c =
    let m = member_of c.args.member.now in
    let e = entry_of c.args.entry.now in
    let all = settled c.args.member.now c.args.entry.now c.args.slots.now c.requires.fine c.requires.own c.requires.slots
    c.args.positions.now c.requires.positions c.in_ok-arguments.arguments.items c.in_ok-arguments.ensures in
    let t = transition_of c.transition_of-transition.result.now in
    let known = known_proposals m e _ _ all t (fine_of m e c.requires.fine c.requires.own t c.transition_of-transition.ensures) in
    subst (λ s. AreKnownProposals s t.proposals e.positions) (sym c.of_proposals-held.ensures) known

pub transition_code-requires-clause-proposals_size : goal.transition_code-requires-clause-proposals_size
transition_code-requires-clause-proposals_size c =
    let m = member_of c.args.member.now in
    let e = entry_of c.args.entry.now in
    let t = transition_of c.transition_of-transition.result.now in
    let few = (small_of m e c.requires.fine c.requires.own t c.transition_of-transition.ensures).proposals in
    omega (arith, few, proposals_few t.proposals e.positions (fine.entry_of m e c.requires.fine c.requires.own).distinct_names)

pub transition_code-requires-clause-positions : goal.transition_code-requires-clause-positions
transition_code-requires-clause-positions c =
    few_positions_of (member_of c.args.member.now) (entry_of c.args.entry.now) c.requires.fine c.requires.own

pub transition_code-requires-clause-guard : goal.transition_code-requires-clause-guard
transition_code-requires-clause-guard c =
    let m = member_of c.args.member.now in
    let e = entry_of c.args.entry.now in
    let all = settled c.args.member.now c.args.entry.now c.args.slots.now c.requires.fine c.requires.own c.requires.slots
    c.args.positions.now c.requires.positions c.in_ok-arguments.arguments.items c.in_ok-arguments.ensures in
    let t = transition_of c.transition_of-transition.result.now in
    let is_fine = fine_of m e c.requires.fine c.requires.own t c.transition_of-transition.ensures in
    let known = known_guard m e _ _ all t.pre (guard_typed m.instance.types all.globals m.instance.automaton e t is_fine) in
    subst (λ s. IsKnownGuard s t.pre) (sym c.of-scope.ensures) known

pub transition_code-requires-clause-effect : goal.transition_code-requires-clause-effect
transition_code-requires-clause-effect c =
    let m = member_of c.args.member.now in
    let e = entry_of c.args.entry.now in
    let all = settled c.args.member.now c.args.entry.now c.args.slots.now c.requires.fine c.requires.own c.requires.slots
    c.args.positions.now c.requires.positions c.in_ok-arguments.arguments.items c.in_ok-arguments.ensures in
    let t = transition_of c.transition_of-transition.result.now in
    let is_fine = fine_of m e c.requires.fine c.requires.own t c.transition_of-transition.ensures in
    let known = known_stmts m e _ _ all t.effect (effect_typed m.instance.types all.globals m.instance.automaton e t is_fine) in
    subst (λ s. AreKnown s t.effect) (sym c.of-scope.ensures) known

pub transition_code-requires-clause-guard_size : goal.transition_code-requires-clause-guard_size
transition_code-requires-clause-guard_size c =
    (small_of (member_of c.args.member.now) (entry_of c.args.entry.now) c.requires.fine c.requires.own (transition_of c.transition_of-transition.result.now) c.transition_of-transition.ensures).guard

pub transition_code-requires-clause-effect_size : goal.transition_code-requires-clause-effect_size
transition_code-requires-clause-effect_size c =
    (small_of (member_of c.args.member.now) (entry_of c.args.entry.now) c.requires.fine c.requires.own (transition_of c.transition_of-transition.result.now) c.transition_of-transition.ensures).effect

pub local_part-requires-clause-valid : goal.local_part-requires-clause-valid
local_part-requires-clause-valid c =
    let m = member_of c.args.member.now in
    let e = entry_of c.args.entry.now in
    let args = c.in_ok-arguments.arguments.items in
    let all = settled c.args.member.now c.args.entry.now c.args.slots.now c.requires.fine c.requires.own c.requires.slots
    c.args.positions.now c.requires.positions args c.in_ok-arguments.ensures in
    let declared = m.instance.types in
    let t = transition_of c.transition_of-transition.result.now in
    let is_fine = fine_of m e c.requires.fine c.requires.own t c.transition_of-transition.ensures in
    let typed = guard_typed declared all.globals m.instance.automaton e t is_fine in
    let bools : List Ty = record { 0 = 0 } ∷ [] in
    let code = made c.of-scope.result c.of_proposals-held.result m e t c.in_ok-code.code.guard c.in_ok-code.code.proposals c.in_ok-code.code.effect c.of-scope.ensures c.of_proposals-held.ensures c.in_ok-code.ensures in
    let result = on_local declared (λ code. Valid (part declared code Pre c.args.slots.now args bools)) (λ code. IsGuard code (scope_of m e) t.pre) e.kind c.in_ok-code.code.guard code.pre (λ code local h. guard_valid m e _ _ all (listing declared code) refl t.pre typed h) in
    subst (λ l. IfSome c.in_ok-code.code.guard (λ code. Valid (part declared code Pre c.args.slots.now l bools))) (sym c.deref.ensures.value) result

pub local_part-requires-2-clause-valid : goal.local_part-requires-2-clause-valid
local_part-requires-2-clause-valid c =
    let m = member_of c.args.member.now in
    let e = entry_of c.args.entry.now in
    let ps = c.args.positions.now in
    let all = settled c.args.member.now c.args.entry.now c.args.slots.now c.requires.fine c.requires.own c.requires.slots
    c.args.positions.now c.requires.positions c.in_ok-arguments.arguments.items c.in_ok-arguments.ensures in
    let declared = m.instance.types in
    let t = transition_of c.transition_of-transition.result.now in
    let is_fine = fine_of m e c.requires.fine c.requires.own t c.transition_of-transition.ensures in
    let none : List Ty = [] in
    let parameters = c.in_ok-parameters.parameters.items in
    let ds = map domain_of ps in
    let types_are : map number parameters ≡ parameter_types ds = c.in_ok-parameters.ensures in
    let code = made c.of-scope.result c.of_proposals-held.result m e t c.in_ok-code.code.guard c.in_ok-code.code.proposals c.in_ok-code.code.effect c.of-scope.ensures c.of_proposals-held.ensures c.in_ok-code.ensures in
    let result = on_local declared (λ code. Valid (part declared code Propose c.args.slots.now none parameters)) (λ code. IsProposing code (scope_of_proposals m) t.proposals e.positions) e.kind c.in_ok-code.code.proposals code.propose
    (λ code local h.
    let its_kind : is_input t.kind ≡ false = ap is_input (sym (kind_of m e c.requires.fine c.requires.own t c.transition_of-transition.ensures)) ∙ local in
    subst (λ l. Valid (record { code = listing declared code; kind = Propose; slots = map number c.args.slots.now; args = []; result = l })) (sym types_are)
    (proposals_valid m e _ _ all (listing declared code) refl t.proposals e.positions ds c.requires.positions (proposals_typed declared all.globals m.instance.automaton e t all.entry its_kind is_fine) h)) in
    subst (λ l. IfSome c.in_ok-code.code.proposals (λ code. Valid (part declared code Propose c.args.slots.now none l))) (sym c.deref-2.ensures.value) result

pub verified-requires-clause-valid : goal.verified-requires-clause-valid
verified-requires-clause-valid c =
    let m = member_of c.args.member.now in
    let e = entry_of c.args.entry.now in
    let args = c.in_ok-arguments.arguments.items in
    let all = settled c.args.member.now c.args.entry.now c.args.slots.now c.requires.fine c.requires.own c.requires.slots
    c.args.positions.now c.requires.positions args c.in_ok-arguments.ensures in
    let declared = m.instance.types in
    let t = transition_of c.transition_of-transition.result.now in
    let is_fine = fine_of m e c.requires.fine c.requires.own t c.transition_of-transition.ensures in
    let typed = effect_typed declared all.globals m.instance.automaton e t is_fine in
    let none : List Ty = [] in
    let code = made c.of-scope.result c.of_proposals-held.result m e t c.in_ok-code.code.guard c.in_ok-code.code.proposals c.in_ok-code.code.effect c.of-scope.ensures c.of_proposals-held.ensures c.in_ok-code.ensures in
    let result = effect_valid m e _ _ all (listing declared c.in_ok-code.code.effect) refl t.effect typed code.effect in
    subst (λ l. Valid (part declared c.in_ok-code.code.effect Eff c.args.slots.now l none)) (sym c.deref-3.ensures.value) result

pub returns : goal.returns
returns c =
    let m = member_of c.args.member.now in
    let e = entry_of c.args.entry.now in
    let slots = c.args.slots.now in
    let args = c.in_ok-arguments.arguments.items in
    let ps = c.in_ok-copied.field-0.items in
    let same : map domain_of c.args.positions.now ≡ map domain_of ps = sym c.in_ok-copied.ensures in
    let domains = subst (AreDomainsOf m.instance e.positions) same c.requires.positions in
    let types_are = c.in_ok-arguments.ensures ∙ ap position_types same in
    let bools : List Ty = record { 0 = 0 } ∷ [] in
    let none : List Ty = [] in
    let declared = m.instance.types in
    let t = transition_of c.transition_of-transition.result.now in
    let new = entry_code record { kind = c.args.entry.now.kind; name = c.in_ok-clone.field-0; positions = c.in_ok-copied.field-0; pre = c.in_ok-local_part.field-0; propose = c.in_ok-local_part-2.field-0; effect = c.in_ok-verified.field-0 } in
    let name : new.name ≡ e.name = search rules in
    let code = made c.of-scope.result c.of_proposals-held.result m e t c.in_ok-code.code.guard c.in_ok-code.code.proposals c.in_ok-code.code.effect c.of-scope.ensures c.of_proposals-held.ensures c.in_ok-code.ensures in
    let parameters = c.in_ok-parameters.parameters.items in
    let parameters_are : map number parameters ≡ parameter_types (map domain_of ps) = c.in_ok-parameters.ensures ∙ ap parameter_types same in
    translated declared slots args parameters bools refl m refl e new t c.in_ok-code.code.guard c.in_ok-code.code.proposals c.in_ok-code.code.effect refl name domains (sym types_are) (sym parameters_are)
    c.transition_of-transition.ensures code
    (c.in_ok-local_part.ensures.value ∙ ap (λ l. option_map (λ code. part declared code Pre slots l bools) c.in_ok-code.code.guard) c.deref.ensures.value)
    (c.in_ok-local_part-2.ensures.value ∙ ap (λ l. option_map (λ code. part declared code Propose slots none l) c.in_ok-code.code.proposals) c.deref-2.ensures.value)
    (c.in_ok-verified.ensures.value ∙ ap (λ l. part declared c.in_ok-code.code.effect Eff slots l none) c.deref-3.ensures.value)
    c.in_ok-local_part.ensures.sound c.in_ok-local_part-2.ensures.sound c.in_ok-verified.ensures.sound
