-- Each reader of a production against its language.
use Rattle.std.proofs.Common.{◌≡◌, ℕ, suc, ◌<◌, Bool, Ok, Err, max, ◌||◌, ◌⊎◌, inl, inr, true, false, List, [], ◌∷◌, ◌++◌, length, refl, sym, ap, ◌∙◌, subst, arith, Option, Some, None, length-append, append_assoc, is_some}
use Rattle.ioa_value.specs.declared.terminal.Terminal.{Terminal}
use Rattle.ioa_value.specs.declared.terminal.Terminal.TheVariants as terminals
use Rattle.ioa_lex.specs.Tokens as tokens
use Rattle.ioa_lex.specs.Tokens.{Tok, terminal}
use Rattle.ioa_value.specs.Actions.{Name}
use Rattle.ioa_tree.specs.declared.tree.Kind.{Kind}
use Rattle.ioa_tree.specs.declared.tree.Kind.TheVariants.{Input, Output, Internal}
use Rattle.ioa_tree.specs.Tree.{Expr, FieldTree, ConstantTree, positive, negative, truth_literal, reference, PositionTree, typed, only, EntryTree, VariableTree, ChoiceTree, exactly, any_below, expr_in, ProposalTree, Stmts, TransitionTree, CrashTree, InstanceTree, FormTree, enumeration, tuple, sequence}
use Rattle.ioa_tree.specs.Depth.{depth_of, deepest, deep_option, deep_variable, deep_proposal, deep_stmts, stmts_depth, deep_transition, deep_automaton, deep_instance, deep_composition}
use Rattle.ioa_grammar.specs.declared.fault.Fault.TheVariants.{Syntax}
use Rattle.ioa_grammar.specs.Grammar as grammar
use Rattle.ioa_grammar.specs.Grammar.{Language, ◌▹◌, single, word, called, empty, kind_word, SpellsExpr, SpellsField, SpellsFields, SpellsConstant, SpellsPosition, SpellsPositions, SpellsEntry, SpellsVariable, SpellsChoice, SpellsProposal, SpellsAfter, SpellsTransition, SpellsAutomaton, SpellsArguments, SpellsCrash, SpellsInstance, SpellsInstances, SpellsHidden, SpellsComposition, SpellsForm, SpellsType, SpellsInvariant}
use Rattle.ioa_grammar.specs.Reading as reading
use Rattle.ioa_grammar.specs.Reading.{taken, sees, sees_name, is_terminal, sees_statement, sees_kind, kind_at, kind_of, terminal_at, same_terminal, is_name, operator_of, field, fields, literal_of, literal_in, literal_at, literal, a_constant, position, positions, entry, entries, variable, sees_variable, variables, a_choice, proposal, proposals, expression, expr, first, prefix_at, prefix_of, operand, primary, start_at, start_of, around_of, optional_list, introduced, statements, transition, transitions, an_automaton, arguments, a_crash, instance, instances, hidden_names, a_composition, rest, an_enumeration, a_tuple, a_sequence, sequence_form, compound_form, type_form, a_type, an_invariant}
use Rattle.ioa_declarations.proofs.Outcomes.{LooksAhead, head_alike}
use Rattle.ioa_declarations.proofs.Exact.{Exact, any, flat, deep_as, before, then, built_as, said_as}
use Rattle.ioa_declarations.proofs.Singles.{seen, sign_exact, name_exact, number_exact, kind_exact, kind_is, kind_alike, either_exact, token_of, perhaps_exact, flag_exact}
use Rattle.ioa_declarations.proofs.Absent.{into_exact, Image, image_exact, deep_some, deep_some_flat, optional_exact, optional_list_exact}
use Rattle.ioa_declarations.proofs.Lists.{terminated_exact, separated_exact, many_exact}
use Rattle.ioa_declarations.proofs.FirstTokens.{first_some, leads, by_list, by_option, by_flag, by_two}
use Rattle.ioa_declarations.proofs.ChoiceLemmas.{by_after, ends_semicolon}
use Rattle.ioa_declarations.proofs.Levels.{after_word_exact}
use Rattle.ioa_declarations.proofs.Enclosed.{enclosed_exact, closing_exact, braced_exact}
use Rattle.ioa_declarations.proofs.Endings.{Ends, ends_close, ends_comma, comma_close}
use Rattle.ioa_declarations.proofs.Spelled.{expression_some}
use Rattle.ioa_declarations.proofs.Deepening.{expression_exact}

deepest_flat : {A : Type 0} (xs : List A) → deepest flat xs ≡ 0
deepest_flat [] = refl
deepest_flat (x ∷ xs) = omega (arith, deepest_flat xs)

-- ---- fields and signatures

pub field_exact : Exact SpellsField flat any (λ b. field)
unfolding field
field_exact =
    deep_as flat (λ x. omega arith)
    (built_as (λ p. record { name = p.0; ty = p.1.1 }) (λ f. (f.name, (tt, f.ty))) (λ f. refl) (λ p. refl)
    (then name_exact (then (sign_exact terminals.Colon) name_exact (λ y ts left s g. tt)) (λ y ts left s g. tt)))

field_some : (f : FieldTree) (ts : List Tok) → SpellsField f ts → 0 < length ts
field_some f ts s = first_some (tokens.name f.name) (word terminals.Colon ▹ called f.ty) ts s

-- what holds of each text that begins with the field's name
field_leads : (F : Language) (f : FieldTree) (M : Language) (ts left : List Tok) → ((z : List Tok) → F (tokens.name f.name ∷ z)) →
    (SpellsField f ▹ M) ts → F (ts ++ left)
field_leads F f M ts left h s =
    subst F (sym (ap (λ z. z ++ left) s.4 ∙ append_assoc s.0 s.1 left))
    (leads F (tokens.name f.name) (word terminals.Colon ▹ called f.ty) s.0 (s.1 ++ left) h s.2)

pub fields_exact : Exact SpellsFields flat any (λ b. fields)
unfolding fields
fields_exact = deep_as flat (λ x. sym (deepest_flat x)) (closing_exact (separated_exact terminals.Comma field_exact field_some (λ ts. tt)) (λ z. (tt, comma_close z)))

-- a constant that is written with one token, and that token
abbrev IsLiteral : ConstantTree → Type 0
IsLiteral (positive n) = Unit {0}
IsLiteral (negative n) = ⊥
IsLiteral (truth_literal b) = Unit {0}
IsLiteral (reference x) = Unit {0}

abbrev literal_token : ConstantTree → Tok
literal_token (positive n) = tokens.number n
literal_token (negative n) = tokens.number n
literal_token (truth_literal true) = terminal terminals.True
literal_token (truth_literal false) = terminal terminals.False
literal_token (reference x) = tokens.name x

abbrev Literal : ConstantTree → Language
Literal c = λ ts. IsLiteral c × single (literal_token c) ts

-- a constant with a sign
abbrev Signed : ConstantTree → Language
Signed c = word terminals.Minus ▹ Image negative (λ n. single (tokens.number n)) c

literal_takes : (ts : List Tok) → literal ts ≡ taken ts (literal_at ts)
unfolding literal
literal_takes ts = refl

literal_alike : LooksAhead literal_at
unfolding literal_at
literal_alike = head_alike literal_at None literal_in refl (λ x ts. refl)

literal_none : literal_at [] ≡ None
unfolding literal_at
literal_none = refl

literal_is : (c : ConstantTree) (ts : List Tok) → IsLiteral c → literal_at (literal_token c ∷ ts) ≡ Some c
unfolding literal_at literal_of
literal_is (positive n) ts v = refl
literal_is (negative n) ts v = absurd v
literal_is (truth_literal true) ts v = refl
literal_is (truth_literal false) ts v = refl
literal_is (reference x) ts v = refl

-- what the token says of the constant
literal_from : (t : Terminal) (c : ConstantTree) → literal_of t ≡ Some c → (terminal t ≡ literal_token c) × IsLiteral c
unfolding literal_of
literal_from terminals.True c h = let same : truth_literal true ≡ c = cc in subst (λ c. (terminal terminals.True ≡ literal_token c) × IsLiteral c) same (refl, tt)
literal_from terminals.False c h = let same : truth_literal false ≡ c = cc in subst (λ c. (terminal terminals.False ≡ literal_token c) × IsLiteral c) same (refl, tt)
literal_from _ c h = absurd (cc)

literal_only : (ts : List Tok) (c : ConstantTree) → literal_at ts ≡ Some c → (ts ≡ literal_token c ∷ rest ts) × IsLiteral c
unfolding literal_at
literal_only [] c h = absurd (cc)
literal_only (tokens.number n ∷ ts) c h = let same : positive n ≡ c = cc in subst (λ c. (tokens.number n ∷ ts ≡ literal_token c ∷ ts) × IsLiteral c) same (refl, tt)
literal_only (tokens.name n ∷ ts) c h = let same : reference n ≡ c = cc in subst (λ c. (tokens.name n ∷ ts ≡ literal_token c ∷ ts) × IsLiteral c) same (refl, tt)
literal_only (terminal t ∷ ts) c h = let from = literal_from t c h in (ap (λ x. x ∷ ts) from.0, from.1)

literal_exact : Exact Literal flat any (λ b. literal)
literal_exact = token_of literal_at literal_token IsLiteral literal literal_takes literal_alike literal_none literal_is literal_only

minus_literal : (c : ConstantTree) (z : List Tok) → IsLiteral c → sees terminals.Minus (literal_token c ∷ z) ≡ false
unfolding sees same_terminal
minus_literal (positive n) z v = refl
minus_literal (negative n) z v = refl
minus_literal (truth_literal true) z v = refl
minus_literal (truth_literal false) z v = refl
minus_literal (reference x) z v = refl

constant_exact : Exact SpellsConstant flat any (λ b. a_constant)
unfolding a_constant
constant_exact =
    said_as SpellsConstant of to
    (either_exact terminals.Minus (image_exact negative flat (λ n. refl) number_exact) literal_exact any (λ left f. f) (λ left f. f)
    (λ c ts left s f. ap (λ z. sees terminals.Minus (z ++ left)) s.1 ∙ minus_literal c left s.0))
  where
    of : (c : ConstantTree) (ts : List Tok) → SpellsConstant c ts → Signed c ts ⊎ Literal c ts
    of (positive n) ts s = inr (tt, s)
    of (negative n) ts s = inl (s.0, s.1, s.2, (n, refl, s.3), s.4)
    of (truth_literal true) ts s = inr (tt, s)
    of (truth_literal false) ts s = inr (tt, s)
    of (reference x) ts s = inr (tt, s)

    plain : (c : ConstantTree) (ts : List Tok) → IsLiteral c → single (literal_token c) ts → SpellsConstant c ts
    plain (positive n) ts v s = s
    plain (negative n) ts v s = absurd v
    plain (truth_literal true) ts v s = s
    plain (truth_literal false) ts v s = s
    plain (reference x) ts v s = s

    to : (c : ConstantTree) (ts : List Tok) → Signed c ts ⊎ Literal c ts → SpellsConstant c ts
    to c ts (inl s) = subst (λ c. SpellsConstant c ts) s.3.1 (s.0, s.1, s.2, s.3.2, s.4)
    to c ts (inr s) = plain c ts s.0 s.1

const_name : (n : Name) (z : List Tok) → sees terminals.Const (tokens.name n ∷ z) ≡ false
unfolding sees
const_name n z = refl

pub position_exact : Exact SpellsPosition flat any (λ b. position)
unfolding position
position_exact =
    said_as SpellsPosition of to
    (either_exact terminals.Const (image_exact only flat (λ c. refl) constant_exact) (image_exact typed flat (λ f. refl) field_exact) any (λ left f. f) (λ left f. f)
    (λ p ts left s f. leads (λ z. sees terminals.Const z ≡ false) (tokens.name s.0.name) (word terminals.Colon ▹ called s.0.ty) ts left (const_name s.0.name) s.2))
  where
    of : (p : PositionTree) (ts : List Tok) → SpellsPosition p ts → ((word terminals.Const ▹ Image only SpellsConstant p) ts) ⊎ Image typed SpellsField p ts
    of (typed f) ts s = inr (f, refl, s)
    of (only c) ts s = inl (s.0, s.1, s.2, (c, refl, s.3), s.4)

    to : (p : PositionTree) (ts : List Tok) → ((word terminals.Const ▹ Image only SpellsConstant p) ts) ⊎ Image typed SpellsField p ts → SpellsPosition p ts
    to p ts (inl s) = subst (λ p. SpellsPosition p ts) s.3.1 (s.0, s.1, s.2, s.3.2, s.4)
    to p ts (inr s) = subst (λ p. SpellsPosition p ts) s.1 s.2

position_some : (p : PositionTree) (ts : List Tok) → SpellsPosition p ts → 0 < length ts
position_some (typed f) ts s = field_some f ts s
position_some (only c) ts s = first_some (terminal terminals.Const) (SpellsConstant c) ts s

pub positions_exact : Exact SpellsPositions flat any (λ b. positions)
unfolding positions
positions_exact = deep_as flat (λ x. sym (deepest_flat x)) (closing_exact (separated_exact terminals.Comma position_exact position_some (λ ts. tt)) (λ z. (tt, comma_close z)))

closed_bare : {A : Type 0} (t u : Terminal) (L : A → Language) (ts : List Tok) → (grammar.separated t L [] ▹ word u) ts → ⊥
closed_bare t u L ts s = s.2

abbrev pub AfterEntry : Language
AfterEntry left = any left × (sees terminals.Open left ≡ false)

pub entry_exact : Exact SpellsEntry flat AfterEntry (λ b. entry)
unfolding entry
entry_exact =
    deep_as flat (λ x. omega arith)
    (built_as (λ p. record { kind = p.0; name = p.1.0; positions = p.1.1 }) (λ e. (e.kind, (e.name, e.positions))) (λ e. refl) (λ p. refl)
    (then kind_exact (then name_exact (optional_list_exact terminals.Open positions_exact (closed_bare terminals.Comma terminals.Close SpellsPosition) refl) (λ y ts left s g. tt)) (λ y ts left s g. tt)))

entry_some : (e : EntryTree) (ts : List Tok) → SpellsEntry e ts → 0 < length ts
entry_some e ts s = first_some (terminal (kind_word e.kind)) (called e.name ▹ grammar.optional_list terminals.Open SpellsPositions e.positions) ts s

pub sees_kind_alike : LooksAhead sees_kind
unfolding sees_kind
sees_kind_alike s s' h = ap is_some (kind_alike s s' h)

pub sees_kind_word : (k : Kind) (z : List Tok) → sees_kind (terminal (kind_word k) ∷ z) ≡ true
unfolding sees_kind
sees_kind_word k z = ap is_some (kind_is k z)

open_semicolon : (z : List Tok) → sees terminals.Open (terminal terminals.Semicolon ∷ z) ≡ false
unfolding sees same_terminal
open_semicolon z = refl

entry_begins : (e : EntryTree) (ts left : List Tok) → SpellsEntry e ts → sees_kind (ts ++ left) ≡ true
entry_begins e ts left s = leads (λ z. sees_kind z ≡ true) (terminal (kind_word e.kind)) (called e.name ▹ grammar.optional_list terminals.Open SpellsPositions e.positions) ts left (sees_kind_word e.kind) s

abbrev AfterEntries : Language
AfterEntries left = AfterEntry left × (sees terminals.Semicolon left ≡ false) × (sees_kind left ≡ false)

pub entries_exact : Exact (grammar.terminated terminals.Semicolon SpellsEntry) flat AfterEntries (λ b. entries)
unfolding entries
entries_exact =
    deep_as flat (λ x. sym (deepest_flat x)) (terminated_exact sees_kind sees_kind_alike terminals.Semicolon entry_exact entry_some (λ ts. (tt, open_semicolon ts)) entry_begins)

-- ---- states

deep_some_is : (x : Option Expr) → deep_option x ≡ deep_some depth_of x
deep_some_is None = refl
deep_some_is (Some e) = refl

abbrev AfterVariable : Language
AfterVariable left = Ends 0 left × (sees terminals.Becomes left ≡ false)

stable_name : (n : Name) (z : List Tok) → sees terminals.Stable (tokens.name n ∷ z) ≡ false
unfolding sees
stable_name n z = refl

pub variable_exact : Exact SpellsVariable deep_variable AfterVariable variable
unfolding variable
variable_exact =
    deep_as deep_variable (λ v. omega (arith, deep_some_is v.start))
    (built_as (λ p. record { stable = p.0; field = p.1.0; start = p.1.1 }) (λ v. (v.stable, (v.field, v.start))) (λ v. refl) (λ p. refl)
    (then (flag_exact terminals.Stable) (then field_exact (optional_exact terminals.Becomes expression_exact) (λ y ts left s g. tt))
    (λ y ts left s g.
    field_leads (λ z. sees terminals.Stable z ≡ false) y.0 (grammar.optional terminals.Becomes (SpellsExpr 0) y.1) ts left (stable_name y.0.name) s)))

variable_some : (v : VariableTree) (ts : List Tok) → SpellsVariable v ts → 0 < length ts
variable_some v ts s = omega (arith, ap length s.4, length-append s.0 s.1, ap length s.3.4, length-append s.3.0 s.3.1, field_some v.field s.3.0 s.3.2)

pub sees_name_alike : LooksAhead sees_name
unfolding sees_name
sees_name_alike = head_alike sees_name false is_name refl (λ x ts. refl)

sees_name_called : (n : Name) (z : List Tok) → sees_name (tokens.name n ∷ z) ≡ true
unfolding sees_name
sees_name_called n z = refl

sees_variable_alike : LooksAhead sees_variable
unfolding sees_variable sees_name sees
sees_variable_alike = head_alike sees_variable false (λ x. is_name x || is_terminal terminals.Stable x) refl (λ x ts. refl)

sees_variable_called : (n : Name) (z : List Tok) → sees_variable (tokens.name n ∷ z) ≡ true
unfolding sees_variable sees_name
sees_variable_called n z = refl

sees_variable_stable : (z : List Tok) → sees_variable (terminal terminals.Stable ∷ z) ≡ true
unfolding sees_variable sees_name sees same_terminal
sees_variable_stable z = refl

variable_begins : (v : VariableTree) (ts left : List Tok) → SpellsVariable v ts → sees_variable (ts ++ left) ≡ true
variable_begins v ts left s =
    let start = grammar.optional terminals.Becomes (SpellsExpr 0) v.start in
    by_flag (λ z. sees_variable z ≡ true) terminals.Stable v.stable (SpellsField v.field ▹ start) ts left sees_variable_stable
    (λ m t. field_leads (λ z. sees_variable z ≡ true) v.field start m left (sees_variable_called v.field.name) t) s

after_semicolon : (z : List Tok) → AfterVariable (terminal terminals.Semicolon ∷ z)
unfolding sees same_terminal terminal_at operator_of
after_semicolon z = ((tt, refl, refl), refl)

abbrev AfterVariables : Language
AfterVariables left = AfterVariable left × (sees terminals.Semicolon left ≡ false) × (sees_variable left ≡ false)

pub variables_exact : Exact (grammar.terminated terminals.Semicolon SpellsVariable) (deepest deep_variable) AfterVariables variables
unfolding variables
variables_exact = terminated_exact sees_variable sees_variable_alike terminals.Semicolon variable_exact variable_some after_semicolon variable_begins

-- ---- transitions

-- no expression begins with `any`
begins_none : (depth : ℕ) (z : List Tok) → expression (suc depth) (terminal terminals.Any ∷ z) ≡ Err (Syntax (length (terminal terminals.Any ∷ z)))
unfolding expression expr first prefix_at prefix_of terminal_at operand primary start_at start_of around_of same_terminal
begins_none depth z = refl

without_any : (e : Expr) (ts left : List Tok) → SpellsExpr 0 e ts → Ends 0 left → sees terminals.Any (ts ++ left) ≡ false
without_any e ts left s f = by (sees terminals.Any (ts ++ left)) refl
  where
    by : (v : Bool) → sees terminals.Any (ts ++ left) ≡ v → sees terminals.Any (ts ++ left) ≡ false
    by true h =
        let depth = depth_of e in
        let read : expression (suc depth) (ts ++ left) ≡ Ok (e, left) = expression_exact.complete (suc depth) e ts left s (omega arith) f in
        let none : expression (suc depth) (ts ++ left) ≡ Err (Syntax (length (terminal terminals.Any ∷ rest (ts ++ left)))) =
        ap (expression (suc depth)) (seen terminals.Any (ts ++ left) h) ∙ begins_none depth (rest (ts ++ left)) in
        absurd (cc)
    by false h = h

abbrev deep_choice : ChoiceTree → ℕ
deep_choice c = depth_of (expr_in c)

choice_exact : Exact SpellsChoice deep_choice (Ends 0) a_choice
unfolding a_choice
choice_exact =
    said_as SpellsChoice of to
    (either_exact terminals.Any (image_exact any_below deep_choice (λ e. refl) (enclosed_exact expression_exact (ends_close 0)))
    (image_exact exactly deep_choice (λ e. refl) expression_exact) (Ends 0) (λ left f. tt) (λ left f. f) (λ c ts left s f. without_any s.0 ts left s.2 f))
  where
    of : (c : ChoiceTree) (ts : List Tok) → SpellsChoice c ts
        → ((word terminals.Any ▹ Image any_below (λ e. grammar.enclosed (SpellsExpr 0 e)) c) ts) ⊎ Image exactly (SpellsExpr 0) c ts
    of (exactly e) ts s = inr (e, refl, s)
    of (any_below e) ts s = inl (s.0, s.1, s.2, (e, refl, s.3), s.4)

    to : (c : ChoiceTree) (ts : List Tok)
        → ((word terminals.Any ▹ Image any_below (λ e. grammar.enclosed (SpellsExpr 0 e)) c) ts) ⊎ Image exactly (SpellsExpr 0) c ts → SpellsChoice c ts
    to c ts (inl s) = subst (λ c. SpellsChoice c ts) s.3.1 (s.0, s.1, s.2, s.3.2, s.4)
    to c ts (inr s) = subst (λ c. SpellsChoice c ts) s.1 s.2

pub proposal_exact : Exact SpellsProposal deep_proposal (Ends 0) proposal
unfolding proposal
proposal_exact =
    deep_as deep_proposal (λ p. omega arith)
    (built_as (λ p. record { name = p.0; choice = p.1.1 }) (λ q. (q.name, (tt, q.choice))) (λ q. refl) (λ p. refl)
    (then name_exact (then (sign_exact terminals.Becomes) choice_exact (λ y ts left s g. tt)) (λ y ts left s g. tt)))

proposal_some : (q : ProposalTree) (ts : List Tok) → SpellsProposal q ts → 0 < length ts
proposal_some q ts s = first_some (tokens.name q.name) (word terminals.Becomes ▹ SpellsChoice q.choice) ts s

abbrev AfterProposals : Language
AfterProposals left = Ends 0 left × (sees terminals.Comma left ≡ false)

pub proposals_exact : Exact (grammar.separated terminals.Comma SpellsProposal) (deepest deep_proposal) AfterProposals proposals
unfolding proposals
proposals_exact = separated_exact terminals.Comma proposal_exact proposal_some (ends_comma 0)

pub record AfterTransition (left : List Tok) : Type 0 where
  pub ends : Ends 0 left
  pub semicolon : sees terminals.Semicolon left ≡ false
  pub begins : sees_statement left ≡ false
  pub comma : sees terminals.Comma left ≡ false
  pub eff : sees terminals.Eff left ≡ false
  pub propose : sees terminals.Propose left ≡ false
  pub pre : sees terminals.Pre left ≡ false

abbrev BeforeEffect : Language
BeforeEffect left = AfterProposals left × (sees terminals.Propose left ≡ false)

abbrev BeforeProposals : Language
BeforeProposals left = Ends 0 left × (sees terminals.Pre left ≡ false)

at_eff : (z : List Tok) → BeforeEffect (terminal terminals.Eff ∷ z)
unfolding sees same_terminal terminal_at operator_of
at_eff z = (((tt, refl, refl), refl), refl)

pre_eff : (z : List Tok) → BeforeProposals (terminal terminals.Eff ∷ z)
unfolding sees same_terminal terminal_at operator_of
pre_eff z = ((tt, refl, refl), refl)

pre_propose : (z : List Tok) → BeforeProposals (terminal terminals.Propose ∷ z)
unfolding sees same_terminal terminal_at operator_of
pre_propose z = ((tt, refl, refl), refl)

parted_bare : {A : Type 0} (t : Terminal) (L : A → Language) (ts : List Tok) → grammar.separated t L [] ts → ⊥
parted_bare t L ts s = s

ended_bare : {A : Type 0} (t : Terminal) (L : A → Language) (ts : List Tok) → grammar.terminated t L [] ts → ⊥
ended_bare t L ts s = s.2

effect_exact : Exact (SpellsAfter terminals.Eff) (λ ss. max (deep_stmts ss) (stmts_depth ss)) AfterTransition (λ b. introduced terminals.Eff (statements b))
effect_exact = before AfterTransition (λ ts a. (record { ends = a.ends; semicolon = a.semicolon; begins = a.begins }, a.eff)) (after_word_exact terminals.Eff)

abbrev Trials : List ProposalTree → Language
Trials ps = grammar.optional_list terminals.Propose (grammar.separated terminals.Comma SpellsProposal) ps

effect_follows : (ss : Stmts) (ts left : List Tok) → SpellsAfter terminals.Eff ss ts → AfterTransition left → BeforeEffect (ts ++ left)
effect_follows ss ts left s a = by_after BeforeEffect terminals.Eff ss ts left at_eff ((a.ends, a.comma), a.propose) s

trials_follow : (y : List ProposalTree × Stmts) (ts left : List Tok) → (Trials y.0 ▹ SpellsAfter terminals.Eff y.1) ts → AfterTransition left → BeforeProposals (ts ++ left)
trials_follow y ts left s a =
    by_two BeforeProposals (Trials y.0) (SpellsAfter terminals.Eff y.1) ts left
    (λ u v t h. by_list BeforeProposals terminals.Propose (grammar.separated terminals.Comma SpellsProposal) y.0 u (v ++ left) pre_propose h t)
    (λ v t. by_after BeforeProposals terminals.Eff y.1 v left pre_eff (a.ends, a.pre) t) s

pub transition_exact : Exact SpellsTransition deep_transition AfterTransition transition
unfolding transition
transition_exact =
    deep_as deep_transition (λ t. omega (arith, deep_some_is t.pre))
    (built_as (λ p. record { kind = p.0; name = p.1.0; pre = p.1.1.0; proposals = p.1.1.1.0; effect = p.1.1.1.1 }) (λ t. (t.kind, (t.name, (t.pre, (t.proposals, t.effect))))) (λ t. refl) (λ p. refl)
    (then kind_exact (then name_exact (then (optional_exact terminals.Pre expression_exact) (then (optional_list_exact terminals.Propose proposals_exact (parted_bare terminals.Comma SpellsProposal) refl) effect_exact effect_follows) trials_follow) (λ y ts left s g. tt)) (λ y ts left s g. tt)))

transition_some : (t : TransitionTree) (ts : List Tok) → SpellsTransition t ts → 0 < length ts
transition_some t ts s = omega (arith, ap length s.4, length-append s.0 s.1, ap length s.2)

at_kind : (k : Kind) (z : List Tok) → AfterTransition (terminal (kind_word k) ∷ z)
unfolding sees same_terminal terminal_at operator_of sees_statement sees_name
at_kind Input z = record { ends = (tt, refl, refl); semicolon = refl; begins = refl; comma = refl; eff = refl; propose = refl; pre = refl }
at_kind Output z = record { ends = (tt, refl, refl); semicolon = refl; begins = refl; comma = refl; eff = refl; propose = refl; pre = refl }
at_kind Internal z = record { ends = (tt, refl, refl); semicolon = refl; begins = refl; comma = refl; eff = refl; propose = refl; pre = refl }

first_kind : (F : Language) (t : TransitionTree) (ts left : List Tok) → ((z : List Tok) → F (terminal (kind_word t.kind) ∷ z)) → SpellsTransition t ts → F (ts ++ left)
first_kind F t ts left h s =
    leads F (terminal (kind_word t.kind))
    (called t.name ▹ (grammar.optional terminals.Pre (SpellsExpr 0) t.pre ▹ (Trials t.proposals ▹ SpellsAfter terminals.Eff t.effect))) ts left h s

sees_kind_none : sees_kind [] ≡ false
unfolding sees_kind kind_at terminal_at
sees_kind_none = refl

abbrev pub AfterTransitions : Language
AfterTransitions left = AfterTransition left × (sees_kind left ≡ false)

pub transitions_exact : Exact (grammar.many SpellsTransition) (deepest deep_transition) AfterTransitions transitions
unfolding transitions
transitions_exact =
    many_exact sees_kind sees_kind_alike sees_kind_none transition_exact transition_some
    (λ t ts left s. first_kind AfterTransition t ts left (at_kind t.kind) s) (λ t ts left s. first_kind (λ z. sees_kind z ≡ true) t ts left (sees_kind_word t.kind) s)

-- ---- automata

abbrev BeforeStates : Language
BeforeStates left = AfterVariables left × (sees terminals.States left ≡ false)

at_transitions : (z : List Tok) → BeforeStates (terminal terminals.Transitions ∷ z)
unfolding sees same_terminal terminal_at operator_of sees_variable sees_name
at_transitions z = ((((tt, refl, refl), refl), refl, refl), refl)

entries_transitions : (z : List Tok) → AfterEntries (terminal terminals.Transitions ∷ z)
unfolding sees same_terminal sees_kind kind_at terminal_at kind_of
entries_transitions z = ((tt, refl), refl, refl)

entries_states : (z : List Tok) → AfterEntries (terminal terminals.States ∷ z)
unfolding sees same_terminal sees_kind kind_at terminal_at kind_of
entries_states z = ((tt, refl), refl, refl)

open_signature : (z : List Tok) → AfterEntry (terminal terminals.Signature ∷ z)
unfolding sees same_terminal
open_signature z = (tt, refl)

abbrev States : List VariableTree → Language
States vs = grammar.optional_list terminals.States (grammar.terminated terminals.Semicolon SpellsVariable) vs

abbrev Rules : List TransitionTree → Language
Rules rs = word terminals.Transitions ▹ grammar.many SpellsTransition rs

rules_follow : (y : Unit {0} × List TransitionTree) (ts left : List Tok) → Rules y.1 ts → AfterTransitions left → BeforeStates (ts ++ left)
rules_follow y ts left s a = leads BeforeStates (terminal terminals.Transitions) (grammar.many SpellsTransition y.1) ts left at_transitions s

states_follow : (y : List VariableTree × (Unit {0} × List TransitionTree)) (ts left : List Tok) → (States y.0 ▹ Rules y.1.1) ts → AfterTransitions left → AfterEntries (ts ++ left)
states_follow y ts left s a =
    by_two AfterEntries (States y.0) (Rules y.1.1) ts left
    (λ u v t h. by_list AfterEntries terminals.States (grammar.terminated terminals.Semicolon SpellsVariable) y.0 u (v ++ left) entries_states h t)
    (λ v t. leads AfterEntries (terminal terminals.Transitions) (grammar.many SpellsTransition y.1.1) v left entries_transitions t) s

signature_follows : (y : Unit {0} × (List EntryTree × (List VariableTree × (Unit {0} × List TransitionTree)))) (ts left : List Tok) →
    (word terminals.Signature ▹ (grammar.terminated terminals.Semicolon SpellsEntry y.1.0 ▹ (States y.1.1.0 ▹ Rules y.1.1.1.1))) ts → AfterTransitions left → AfterEntry (ts ++ left)
signature_follows y ts left s a = leads AfterEntry (terminal terminals.Signature) (grammar.terminated terminals.Semicolon SpellsEntry y.1.0 ▹ (States y.1.1.0 ▹ Rules y.1.1.1.1)) ts left open_signature s

pub automaton_exact : Exact SpellsAutomaton deep_automaton AfterTransitions an_automaton
unfolding an_automaton
automaton_exact =
    deep_as deep_automaton (λ a. omega arith)
    (built_as (λ p. record { name = p.0; formals = p.1.0; entries = p.1.1.1.0; variables = p.1.1.1.1.0; transitions = p.1.1.1.1.1.1 }) (λ a. (a.name, (a.formals, (tt, (a.entries, (a.variables, (tt, a.transitions))))))) (λ a. refl) (λ p. refl)
    (then name_exact (then (optional_list_exact terminals.Open fields_exact (closed_bare terminals.Comma terminals.Close SpellsField) refl)
    (then (sign_exact terminals.Signature) (then entries_exact (then (optional_list_exact terminals.States variables_exact (ended_bare terminals.Semicolon SpellsVariable) refl)
    (then (sign_exact terminals.Transitions) transitions_exact (λ y ts left s g. tt)) rules_follow) states_follow) (λ y ts left s g. tt)) signature_follows) (λ y ts left s g. tt)))

-- ---- compositions

pub arguments_exact : Exact SpellsArguments (deepest depth_of) any arguments
unfolding arguments
arguments_exact = closing_exact (separated_exact terminals.Comma expression_exact expression_some (ends_comma 0)) (λ z. (ends_close 0 z, comma_close z))

crash_exact : Exact SpellsCrash flat any (λ b. a_crash)
unfolding a_crash
crash_exact =
    deep_as flat (λ c. omega arith)
    (built_as (λ p. record { crash = p.0; recover = p.1.1 }) (λ c. (c.crash, (tt, c.recover))) (λ c. refl) (λ p. refl)
    (then name_exact (then (sign_exact terminals.Recover) name_exact (λ y ts left s g. tt)) (λ y ts left s g. tt)))

abbrev pub AfterInstance : Language
AfterInstance left = AfterEntry left × (sees terminals.Crash left ≡ false)

open_crash : (z : List Tok) → AfterEntry (terminal terminals.Crash ∷ z)
unfolding sees same_terminal
open_crash z = (tt, refl)

-- arguments, crash and recover
abbrev Crashes : InstanceTree → Language
Crashes i = grammar.optional_list terminals.Open SpellsArguments i.arguments ▹ grammar.optional terminals.Crash SpellsCrash i.crash

pub instance_exact : Exact SpellsInstance deep_instance AfterInstance instance
unfolding instance
instance_exact =
    deep_as deep_instance (λ i. omega (arith, deep_some_flat i.crash))
    (built_as (λ p. record { name = p.0; automaton = p.1.1.0; arguments = p.1.1.1.0; crash = p.1.1.1.1 })
    (λ i. (i.name, (tt, (i.automaton, (i.arguments, i.crash))))) (λ i. refl) (λ p. refl)
    (then name_exact (then (sign_exact terminals.Colon) (then name_exact (then gives crashes crash_follows)
    (λ y ts left s g. tt)) (λ y ts left s g. tt)) (λ y ts left s g. tt)))
  where
    gives : Exact (grammar.optional_list terminals.Open SpellsArguments) (deepest depth_of) AfterEntry (λ b. optional_list terminals.Open (arguments b))
    gives = optional_list_exact terminals.Open arguments_exact (closed_bare terminals.Comma terminals.Close (SpellsExpr 0)) refl

    crashes : Exact (grammar.optional terminals.Crash SpellsCrash) (deep_some flat) AfterInstance (λ b. reading.optional terminals.Crash a_crash)
    crashes = before AfterInstance (λ left f. (tt, f.1)) (optional_exact terminals.Crash crash_exact)

    crash_follows : (c : Option CrashTree) (ts left : List Tok) → grammar.optional terminals.Crash SpellsCrash c ts → AfterInstance left →
        AfterEntry (ts ++ left)
    crash_follows c ts left s g = by_option AfterEntry terminals.Crash SpellsCrash c ts left open_crash g.0 s

instance_some : (i : InstanceTree) (ts : List Tok) → SpellsInstance i ts → 0 < length ts
instance_some i ts s = first_some (tokens.name i.name) (word terminals.Colon ▹ (called i.automaton ▹ Crashes i)) ts s

instance_begins : (i : InstanceTree) (ts left : List Tok) → SpellsInstance i ts → sees_name (ts ++ left) ≡ true
instance_begins i ts left s =
    leads (λ z. sees_name z ≡ true) (tokens.name i.name) (word terminals.Colon ▹ (called i.automaton ▹ Crashes i)) ts left (sees_name_called i.name) s

instance_semicolon : (z : List Tok) → AfterInstance (terminal terminals.Semicolon ∷ z)
unfolding sees same_terminal
instance_semicolon z = ((tt, refl), refl)

abbrev pub AfterInstances : Language
AfterInstances left = AfterInstance left × (sees terminals.Semicolon left ≡ false) × (sees_name left ≡ false)

pub instances_exact : Exact SpellsInstances (deepest deep_instance) AfterInstances instances
unfolding instances
instances_exact = terminated_exact sees_name sees_name_alike terminals.Semicolon instance_exact instance_some instance_semicolon instance_begins

name_some : (n : Name) (ts : List Tok) → called n ts → 0 < length ts
name_some n ts s = omega (arith, ap length s)

abbrev AfterHidden : Language
AfterHidden left = (sees terminals.Semicolon left ≡ false) × (sees terminals.Comma left ≡ false)

comma_semicolon : (z : List Tok) → sees terminals.Comma (terminal terminals.Semicolon ∷ z) ≡ false
unfolding sees same_terminal
comma_semicolon z = refl

hidden_exact : Exact SpellsHidden flat AfterHidden (λ b. hidden_names)
unfolding hidden_names
hidden_exact =
    deep_as flat (λ ns. omega (arith, deepest_flat ns))
    (built_as (λ p. p.0) (λ ns. (ns, tt)) (λ ns. refl) (λ p. refl)
    (then (separated_exact terminals.Comma name_exact name_some (λ ts. tt)) (before AfterHidden (λ left f. f.0) (perhaps_exact terminals.Semicolon)) (λ y ts left s g. follows ts left s g)))
  where
    follows : (ts left : List Tok) → grammar.perhaps terminals.Semicolon ts → AfterHidden left → any (ts ++ left) × (sees terminals.Comma (ts ++ left) ≡ false)
    follows ts left (inl s) g = (tt, ap (λ z. sees terminals.Comma (z ++ left)) s ∙ comma_semicolon left)
    follows ts left (inr s) g = (tt, ap (λ z. sees terminals.Comma (z ++ left)) s ∙ g.1)

abbrev pub AfterComposition : Language
AfterComposition left = AfterInstances left × (sees terminals.Comma left ≡ false) × (sees terminals.Hidden left ≡ false)

instances_hidden : (z : List Tok) → AfterInstances (terminal terminals.Hidden ∷ z)
unfolding sees same_terminal sees_name
instances_hidden z = (((tt, refl), refl), refl, refl)

pub composition_exact : Exact SpellsComposition deep_composition AfterComposition a_composition
unfolding a_composition
composition_exact =
    deep_as deep_composition (λ c. omega arith)
    (built_as (λ p. record { name = p.0; instances = p.1.1.0; hidden = p.1.1.1 }) (λ c. (c.name, (tt, (c.instances, c.hidden)))) (λ c. refl) (λ p. refl)
    (then name_exact (then (sign_exact terminals.Components) (then instances_exact hides hides_follow) (λ y ts left s g. tt)) (λ y ts left s g. tt)))
  where
    hides : Exact (grammar.optional_list terminals.Hidden SpellsHidden) flat AfterComposition (λ b. optional_list terminals.Hidden hidden_names)
    hides = before AfterComposition (λ left f. ((f.0.1, f.1), f.2)) (optional_list_exact terminals.Hidden hidden_exact (λ ts s. s.2) refl)

    hides_follow : (ns : List Name) (ts left : List Tok) → grammar.optional_list terminals.Hidden SpellsHidden ns ts → AfterComposition left → AfterInstances (ts ++ left)
    hides_follow ns ts left s g = by_list AfterInstances terminals.Hidden SpellsHidden ns ts left instances_hidden g.0 s

-- ---- types

abbrev ByNames : FormTree → Language
ByNames (enumeration ns) = grammar.braced called ns
ByNames (tuple fs) = empty
ByNames (sequence most of) = empty

abbrev ByFields : FormTree → Language
ByFields (enumeration ns) = empty
ByFields (tuple fs) = grammar.braced SpellsField fs
ByFields (sequence most of) = empty

abbrev ByItems : FormTree → Language
ByItems (enumeration ns) = empty
ByItems (tuple fs) = empty
ByItems (sequence most of) = word terminals.Seq ▹ (single (tokens.number most) ▹ (word terminals.Of ▹ called of))

-- all but an enumeration
abbrev ByOthers : FormTree → Language
ByOthers (enumeration ns) = empty
ByOthers (tuple fs) = SpellsForm (tuple fs)
ByOthers (sequence most of) = SpellsForm (sequence most of)

enumeration_exact : Exact ByNames flat any (λ b. an_enumeration)
unfolding an_enumeration
enumeration_exact = into_exact enumeration (braced_exact name_exact name_some) ByNames flat of (λ x ts s. s) (λ x. sym (deepest_flat x))
  where
    of : (y : FormTree) (ts : List Tok) → ByNames y ts → (ns : List Name) × (enumeration ns ≡ y) × grammar.braced called ns ts
    of (enumeration ns) ts s = (ns, refl, s)
    of (tuple fs) ts s = absurd s
    of (sequence most item) ts s = absurd s

tuple_exact : Exact ByFields flat any (λ b. a_tuple)
unfolding a_tuple
tuple_exact = into_exact tuple (braced_exact field_exact field_some) ByFields flat of (λ x ts s. s) (λ x. sym (deepest_flat x))
  where
    of : (y : FormTree) (ts : List Tok) → ByFields y ts → (fs : List FieldTree) × (tuple fs ≡ y) × grammar.braced SpellsField fs ts
    of (enumeration ns) ts s = absurd s
    of (tuple fs) ts s = (fs, refl, s)
    of (sequence most item) ts s = absurd s

abbrev Items : ℕ × (Unit {0} × Name) → Language
Items x = single (tokens.number x.0) ▹ (word terminals.Of ▹ called x.1.1)

abbrev items_form : ℕ × (Unit {0} × Name) → FormTree
items_form x = sequence x.0 x.1.1

a_sequence_exact : Exact (Image items_form Items) flat any (λ b. a_sequence)
unfolding a_sequence
a_sequence_exact = image_exact items_form flat (λ x. omega arith) (then number_exact (then (sign_exact terminals.Of) name_exact (λ y ts left s g. tt)) (λ y ts left s g. tt))

sequence_exact : Exact ByItems flat any (λ b. sequence_form)
unfolding sequence_form
sequence_exact = into_exact (λ p. p.1) (then (sign_exact terminals.Seq) a_sequence_exact (λ y ts left s g. tt)) ByItems flat of into (λ x. omega arith)
  where
    of : (y : FormTree) (ts : List Tok) → ByItems y ts → (x : Unit {0} × FormTree) × (x.1 ≡ y) × (word terminals.Seq ▹ Image items_form Items x.1) ts
    of (enumeration ns) ts s = absurd s
    of (tuple fs) ts s = absurd s
    of (sequence most item) ts s = ((tt, sequence most item), refl, (s.0, s.1, s.2, ((most, (tt, item)), refl, s.3), s.4))

    into : (x : Unit {0} × FormTree) (ts : List Tok) → (word terminals.Seq ▹ Image items_form Items x.1) ts → ByItems x.1 ts
    into x ts s = subst (λ y. ByItems y ts) s.3.1 (s.0, s.1, s.2, s.3.2, s.4)

items_unseen : (t : Terminal) → ((z : List Tok) → sees t (terminal terminals.Seq ∷ z) ≡ false) → (y : FormTree) (ts left : List Tok) → ByItems y ts → sees t (ts ++ left) ≡ false
items_unseen t h (enumeration ns) ts left s = absurd s
items_unseen t h (tuple fs) ts left s = absurd s
items_unseen t h (sequence most item) ts left s = leads (λ z. sees t z ≡ false) (terminal terminals.Seq) (single (tokens.number most) ▹ (word terminals.Of ▹ called item)) ts left h s

tuple_seq : (z : List Tok) → sees terminals.Tuple (terminal terminals.Seq ∷ z) ≡ false
unfolding sees same_terminal
tuple_seq z = refl

enum_seq : (z : List Tok) → sees terminals.Enum (terminal terminals.Seq ∷ z) ≡ false
unfolding sees same_terminal
enum_seq z = refl

enum_tuple : (z : List Tok) → sees terminals.Enum (terminal terminals.Tuple ∷ z) ≡ false
unfolding sees same_terminal
enum_tuple z = refl

compound_exact : Exact ByOthers flat any (λ b. compound_form)
unfolding compound_form
compound_exact =
    said_as ByOthers of to (either_exact terminals.Tuple tuple_exact sequence_exact any (λ left f. f) (λ left f. f) (λ y ts left s f. items_unseen terminals.Tuple tuple_seq y ts left s))
  where
    of : (y : FormTree) (ts : List Tok) → ByOthers y ts → ((word terminals.Tuple ▹ ByFields y) ts) ⊎ ByItems y ts
    of (enumeration ns) ts s = absurd s
    of (tuple fs) ts s = inl s
    of (sequence most item) ts s = inr s

    to : (y : FormTree) (ts : List Tok) → ((word terminals.Tuple ▹ ByFields y) ts) ⊎ ByItems y ts → ByOthers y ts
    to (enumeration ns) ts (inl s) = absurd (s.3)
    to (enumeration ns) ts (inr s) = absurd s
    to (tuple fs) ts (inl s) = s
    to (tuple fs) ts (inr s) = absurd s
    to (sequence most item) ts (inl s) = absurd (s.3)
    to (sequence most item) ts (inr s) = s

others_unseen : (y : FormTree) (ts left : List Tok) → ByOthers y ts → sees terminals.Enum (ts ++ left) ≡ false
others_unseen (enumeration ns) ts left s = absurd s
others_unseen (tuple fs) ts left s = leads (λ z. sees terminals.Enum z ≡ false) (terminal terminals.Tuple) (grammar.braced SpellsField fs) ts left enum_tuple s
others_unseen (sequence most item) ts left s = items_unseen terminals.Enum enum_seq (sequence most item) ts left s

form_exact : Exact SpellsForm flat any (λ b. type_form)
unfolding type_form
form_exact =
    said_as SpellsForm of to (either_exact terminals.Enum enumeration_exact compound_exact any (λ left f. f) (λ left f. f) (λ y ts left s f. others_unseen y ts left s))
  where
    of : (y : FormTree) (ts : List Tok) → SpellsForm y ts → ((word terminals.Enum ▹ ByNames y) ts) ⊎ ByOthers y ts
    of (enumeration ns) ts s = inl s
    of (tuple fs) ts s = inr s
    of (sequence most item) ts s = inr s

    to : (y : FormTree) (ts : List Tok) → ((word terminals.Enum ▹ ByNames y) ts) ⊎ ByOthers y ts → SpellsForm y ts
    to (enumeration ns) ts (inl s) = s
    to (enumeration ns) ts (inr s) = absurd s
    to (tuple fs) ts (inl s) = absurd (s.3)
    to (tuple fs) ts (inr s) = s
    to (sequence most item) ts (inl s) = absurd (s.3)
    to (sequence most item) ts (inr s) = s

pub type_exact : Exact SpellsType flat any (λ b. a_type)
unfolding a_type
type_exact =
    deep_as flat (λ t. omega arith)
    (built_as (λ p. record { name = p.0; form = p.1.1 }) (λ t. (t.name, (tt, t.form))) (λ t. refl) (λ p. refl)
    (then name_exact (then (sign_exact terminals.Equal) form_exact (λ y ts left s g. tt)) (λ y ts left s g. tt)))

-- ---- invariants

abbrev pub AfterInvariant : Language
AfterInvariant left = Ends 0 left × (sees terminals.Semicolon left ≡ false)

pub invariant_exact : Exact SpellsInvariant (λ i. depth_of i.condition) AfterInvariant an_invariant
unfolding an_invariant
invariant_exact =
    deep_as (λ i. depth_of i.condition) (λ i. omega arith)
    (built_as (λ p. record { automaton = p.1.0; condition = p.1.1.1.0 }) (λ i. (tt, (i.automaton, (tt, (i.condition, tt))))) (λ i. refl) (λ p. refl)
    (then (sign_exact terminals.Of) (then name_exact (then (sign_exact terminals.Colon)
    (then expression_exact (before AfterInvariant (λ left f. f.1) (perhaps_exact terminals.Semicolon)) (λ y ts left s g. follows ts left s g))
    (λ y ts left s g. tt)) (λ y ts left s g. tt)) (λ y ts left s g. tt)))
  where
    follows : (ts left : List Tok) → grammar.perhaps terminals.Semicolon ts → AfterInvariant left → Ends 0 (ts ++ left)
    follows ts left (inl s) g = subst (λ z. Ends 0 (z ++ left)) (sym s) (ends_semicolon left)
    follows ts left (inr s) g = subst (λ z. Ends 0 (z ++ left)) (sym s) g.0
