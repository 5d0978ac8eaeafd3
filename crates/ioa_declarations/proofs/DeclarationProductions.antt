-- How declarations, and sources, are read and spelled.
use Rattle.std.proofs.Common.{◌≡◌, ◌<◌, ◌⊎◌, inl, inr, Bool, true, false, List, [], ◌∷◌, ◌++◌, length, refl, arith}
use Rattle.ioa_value.specs.declared.terminal.Terminal.TheVariants as terminals
use Rattle.ioa_lex.specs.Tokens.{Tok, terminal}
use Rattle.ioa_tree.specs.Tree.{AutomatonTree, CompositionTree, InvariantTree, TypeTree, DeclarationTree, declared_type, automaton, composition, invariant}
use Rattle.ioa_tree.specs.Depth.{deepest, deep}
use Rattle.ioa_grammar.specs.Grammar as grammar
use Rattle.ioa_grammar.specs.Grammar.{Language, ◌▹◌, word, empty, SpellsAutomaton, SpellsComposition, SpellsType, SpellsInvariant, SpellsDeclaration}
use Rattle.ioa_grammar.specs.Reading.{built, sees, sees_name, sees_statement, sees_kind, kind_at, kind_of, terminal_at, same_terminal, operator_of, an_automaton, many, a_type, composed, an_invariant, machine, about_machines, declaration}
use Rattle.ioa_declarations.proofs.Outcomes.{LooksAhead, head_alike}
use Rattle.ioa_declarations.proofs.Exact.{Exact, any, then, said_as}
use Rattle.ioa_declarations.proofs.Singles.{sign_exact, either_exact}
use Rattle.ioa_declarations.proofs.Absent.{into_exact}
use Rattle.ioa_declarations.proofs.Lists.{many_exact}
use Rattle.ioa_declarations.proofs.FirstTokens.{first_some, leads}
use Rattle.ioa_declarations.proofs.Productions.{AfterTransitions, automaton_exact, AfterComposition, composition_exact, type_exact, AfterInvariant, invariant_exact}

-- ---- declarations

abbrev ByType : DeclarationTree → Language
ByType (declared_type t) = SpellsType t
ByType (automaton a) = empty
ByType (composition c) = empty
ByType (invariant i) = empty

abbrev ByAutomaton : DeclarationTree → Language
ByAutomaton (declared_type t) = empty
ByAutomaton (automaton a) = SpellsAutomaton a
ByAutomaton (composition c) = empty
ByAutomaton (invariant i) = empty

abbrev ByComposition : DeclarationTree → Language
ByComposition (declared_type t) = empty
ByComposition (automaton a) = empty
ByComposition (composition c) = word terminals.Composition ▹ SpellsComposition c
ByComposition (invariant i) = empty

abbrev ByInvariant : DeclarationTree → Language
ByInvariant (declared_type t) = empty
ByInvariant (automaton a) = empty
ByInvariant (composition c) = empty
ByInvariant (invariant i) = SpellsInvariant i

-- automata and compositions
abbrev ByMachine : DeclarationTree → Language
ByMachine (declared_type t) = empty
ByMachine (automaton a) = SpellsDeclaration (automaton a)
ByMachine (composition c) = SpellsDeclaration (composition c)
ByMachine (invariant i) = empty

-- all but a type
abbrev AboutMachines : DeclarationTree → Language
AboutMachines (declared_type t) = empty
AboutMachines (automaton a) = SpellsDeclaration (automaton a)
AboutMachines (composition c) = SpellsDeclaration (composition c)
AboutMachines (invariant i) = SpellsDeclaration (invariant i)

by_type_exact : Exact ByType deep any (λ b. built declared_type a_type)
by_type_exact = into_exact declared_type type_exact ByType deep of (λ x ts s. s) (λ x. refl)
  where
    of : (y : DeclarationTree) (ts : List Tok) → ByType y ts → (t : TypeTree) × (declared_type t ≡ y) × SpellsType t ts
    of (declared_type t) ts s = (t, refl, s)
    of (automaton a) ts s = absurd s
    of (composition c) ts s = absurd s
    of (invariant i) ts s = absurd s

by_automaton_exact : Exact ByAutomaton deep AfterTransitions (λ b. built automaton (an_automaton b))
by_automaton_exact = into_exact automaton automaton_exact ByAutomaton deep of (λ x ts s. s) (λ x. refl)
  where
    of : (y : DeclarationTree) (ts : List Tok) → ByAutomaton y ts → (a : AutomatonTree) × (automaton a ≡ y) × SpellsAutomaton a ts
    of (declared_type t) ts s = absurd s
    of (automaton a) ts s = (a, refl, s)
    of (composition c) ts s = absurd s
    of (invariant i) ts s = absurd s

composed_exact : Exact ByComposition deep AfterComposition composed
unfolding composed
composed_exact = into_exact (λ p. composition p.1) (then (sign_exact terminals.Composition) composition_exact (λ y ts left s g. tt)) ByComposition deep of (λ x ts s. s) (λ x. omega arith)
  where
    of : (y : DeclarationTree) (ts : List Tok) → ByComposition y ts → (x : Unit {0} × CompositionTree) × (composition x.1 ≡ y) × (word terminals.Composition ▹ SpellsComposition x.1) ts
    of (declared_type t) ts s = absurd s
    of (automaton a) ts s = absurd s
    of (composition c) ts s = ((tt, c), refl, s)
    of (invariant i) ts s = absurd s

by_invariant_exact : Exact ByInvariant deep AfterInvariant (λ b. built invariant (an_invariant b))
by_invariant_exact = into_exact invariant invariant_exact ByInvariant deep of (λ x ts s. s) (λ x. refl)
  where
    of : (y : DeclarationTree) (ts : List Tok) → ByInvariant y ts → (i : InvariantTree) × (invariant i ≡ y) × SpellsInvariant i ts
    of (declared_type t) ts s = absurd s
    of (automaton a) ts s = absurd s
    of (composition c) ts s = absurd s
    of (invariant i) ts s = (i, refl, s)

abbrev pub AfterDeclaration : Language
AfterDeclaration left = AfterTransitions left × AfterComposition left

automaton_composition : (z : List Tok) → sees terminals.Automaton (terminal terminals.Composition ∷ z) ≡ false
unfolding sees same_terminal
automaton_composition z = refl

invariant_automaton : (z : List Tok) → sees terminals.Invariant (terminal terminals.Automaton ∷ z) ≡ false
unfolding sees same_terminal
invariant_automaton z = refl

invariant_composition : (z : List Tok) → sees terminals.Invariant (terminal terminals.Composition ∷ z) ≡ false
unfolding sees same_terminal
invariant_composition z = refl

type_automaton : (z : List Tok) → sees terminals.Type (terminal terminals.Automaton ∷ z) ≡ false
unfolding sees same_terminal
type_automaton z = refl

type_composition : (z : List Tok) → sees terminals.Type (terminal terminals.Composition ∷ z) ≡ false
unfolding sees same_terminal
type_composition z = refl

type_invariant : (z : List Tok) → sees terminals.Type (terminal terminals.Invariant ∷ z) ≡ false
unfolding sees same_terminal
type_invariant z = refl

by_composition_unseen : (d : DeclarationTree) (ts left : List Tok) → ByComposition d ts → sees terminals.Automaton (ts ++ left) ≡ false
by_composition_unseen (declared_type t) ts left s = absurd s
by_composition_unseen (automaton a) ts left s = absurd s
by_composition_unseen (composition c) ts left s = leads (λ z. sees terminals.Automaton z ≡ false) (terminal terminals.Composition) (SpellsComposition c) ts left automaton_composition s
by_composition_unseen (invariant i) ts left s = absurd s

machine_exact : Exact ByMachine deep AfterDeclaration machine
unfolding machine
machine_exact =
    said_as ByMachine of to
    (either_exact terminals.Automaton by_automaton_exact composed_exact AfterDeclaration (λ left f. f.0) (λ left f. f.1) (λ d ts left s f. by_composition_unseen d ts left s))
  where
    of : (d : DeclarationTree) (ts : List Tok) → ByMachine d ts → ((word terminals.Automaton ▹ ByAutomaton d) ts) ⊎ ByComposition d ts
    of (declared_type t) ts s = absurd s
    of (automaton a) ts s = inl s
    of (composition c) ts s = inr s
    of (invariant i) ts s = absurd s

    to : (d : DeclarationTree) (ts : List Tok) → ((word terminals.Automaton ▹ ByAutomaton d) ts) ⊎ ByComposition d ts → ByMachine d ts
    to (declared_type t) ts (inl s) = absurd (s.3)
    to (declared_type t) ts (inr s) = absurd s
    to (automaton a) ts (inl s) = s
    to (automaton a) ts (inr s) = absurd s
    to (composition c) ts (inl s) = absurd (s.3)
    to (composition c) ts (inr s) = s
    to (invariant i) ts (inl s) = absurd (s.3)
    to (invariant i) ts (inr s) = absurd s

by_machine_unseen : (d : DeclarationTree) (ts left : List Tok) → ByMachine d ts → sees terminals.Invariant (ts ++ left) ≡ false
by_machine_unseen (declared_type t) ts left s = absurd s
by_machine_unseen (automaton a) ts left s =
    leads (λ z. sees terminals.Invariant z ≡ false) (terminal terminals.Automaton) (SpellsAutomaton a) ts left invariant_automaton s
by_machine_unseen (composition c) ts left s =
    leads (λ z. sees terminals.Invariant z ≡ false) (terminal terminals.Composition) (SpellsComposition c) ts left invariant_composition s
by_machine_unseen (invariant i) ts left s = absurd s

about_machines_exact : Exact AboutMachines deep AfterDeclaration about_machines
unfolding about_machines
about_machines_exact =
    said_as AboutMachines of to
    (either_exact terminals.Invariant by_invariant_exact machine_exact AfterDeclaration (λ left f. (f.0.0.ends, f.0.0.semicolon)) (λ left f. f)
    (λ d ts left s f. by_machine_unseen d ts left s))
  where
    of : (d : DeclarationTree) (ts : List Tok) → AboutMachines d ts → ((word terminals.Invariant ▹ ByInvariant d) ts) ⊎ ByMachine d ts
    of (declared_type t) ts s = absurd s
    of (automaton a) ts s = inr s
    of (composition c) ts s = inr s
    of (invariant i) ts s = inl s

    to : (d : DeclarationTree) (ts : List Tok) → ((word terminals.Invariant ▹ ByInvariant d) ts) ⊎ ByMachine d ts → AboutMachines d ts
    to (declared_type t) ts (inl s) = absurd (s.3)
    to (declared_type t) ts (inr s) = absurd s
    to (automaton a) ts (inl s) = absurd (s.3)
    to (automaton a) ts (inr s) = s
    to (composition c) ts (inl s) = absurd (s.3)
    to (composition c) ts (inr s) = s
    to (invariant i) ts (inl s) = s
    to (invariant i) ts (inr s) = absurd s

about_machines_unseen : (d : DeclarationTree) (ts left : List Tok) → AboutMachines d ts → sees terminals.Type (ts ++ left) ≡ false
about_machines_unseen (declared_type t) ts left s = absurd s
about_machines_unseen (automaton a) ts left s =
    leads (λ z. sees terminals.Type z ≡ false) (terminal terminals.Automaton) (SpellsAutomaton a) ts left type_automaton s
about_machines_unseen (composition c) ts left s =
    leads (λ z. sees terminals.Type z ≡ false) (terminal terminals.Composition) (SpellsComposition c) ts left type_composition s
about_machines_unseen (invariant i) ts left s =
    leads (λ z. sees terminals.Type z ≡ false) (terminal terminals.Invariant) (SpellsInvariant i) ts left type_invariant s

pub declaration_exact : Exact SpellsDeclaration deep AfterDeclaration declaration
unfolding declaration
declaration_exact =
    said_as SpellsDeclaration of to
    (either_exact terminals.Type by_type_exact about_machines_exact AfterDeclaration (λ left f. tt) (λ left f. f)
    (λ d ts left s f. about_machines_unseen d ts left s))
  where
    of : (d : DeclarationTree) (ts : List Tok) → SpellsDeclaration d ts → ((word terminals.Type ▹ ByType d) ts) ⊎ AboutMachines d ts
    of (declared_type t) ts s = inl s
    of (automaton a) ts s = inr s
    of (composition c) ts s = inr s
    of (invariant i) ts s = inr s

    to : (d : DeclarationTree) (ts : List Tok) → ((word terminals.Type ▹ ByType d) ts) ⊎ AboutMachines d ts → SpellsDeclaration d ts
    to (declared_type t) ts (inl s) = s
    to (declared_type t) ts (inr s) = absurd s
    to (automaton a) ts (inl s) = absurd (s.3)
    to (automaton a) ts (inr s) = s
    to (composition c) ts (inl s) = absurd (s.3)
    to (composition c) ts (inr s) = s
    to (invariant i) ts (inl s) = absurd (s.3)
    to (invariant i) ts (inr s) = s

pub declaration_some : (d : DeclarationTree) (ts : List Tok) → SpellsDeclaration d ts → 0 < length ts
declaration_some (declared_type t) ts s = first_some (terminal terminals.Type) (SpellsType t) ts s
declaration_some (automaton a) ts s = first_some (terminal terminals.Automaton) (SpellsAutomaton a) ts s
declaration_some (composition c) ts s = first_some (terminal terminals.Composition) (SpellsComposition c) ts s
declaration_some (invariant i) ts s = first_some (terminal terminals.Invariant) (SpellsInvariant i) ts s

pub at_type : (z : List Tok) → AfterDeclaration (terminal terminals.Type ∷ z)
unfolding sees same_terminal sees_kind kind_at terminal_at kind_of operator_of sees_statement sees_name
at_type z = (
  (record { ends = (tt, refl, refl); semicolon = refl; begins = refl; comma = refl; eff = refl; propose = refl; pre = refl }, refl),
  ((((tt, refl), refl), refl, refl), refl, refl),
)

pub at_automaton : (z : List Tok) → AfterDeclaration (terminal terminals.Automaton ∷ z)
unfolding sees same_terminal sees_kind kind_at terminal_at kind_of operator_of sees_statement sees_name
at_automaton z = (
  (record { ends = (tt, refl, refl); semicolon = refl; begins = refl; comma = refl; eff = refl; propose = refl; pre = refl }, refl),
  ((((tt, refl), refl), refl, refl), refl, refl),
)

pub at_composition : (z : List Tok) → AfterDeclaration (terminal terminals.Composition ∷ z)
unfolding sees same_terminal sees_kind kind_at terminal_at kind_of operator_of sees_statement sees_name
at_composition z = (
  (record { ends = (tt, refl, refl); semicolon = refl; begins = refl; comma = refl; eff = refl; propose = refl; pre = refl }, refl),
  ((((tt, refl), refl), refl, refl), refl, refl),
)

pub at_invariant : (z : List Tok) → AfterDeclaration (terminal terminals.Invariant ∷ z)
unfolding sees same_terminal sees_kind kind_at terminal_at kind_of operator_of sees_statement sees_name
at_invariant z = (
  (record { ends = (tt, refl, refl); semicolon = refl; begins = refl; comma = refl; eff = refl; propose = refl; pre = refl }, refl),
  ((((tt, refl), refl), refl, refl), refl, refl),
)

pub at_end : AfterDeclaration []
unfolding sees same_terminal sees_kind kind_at terminal_at kind_of operator_of sees_statement sees_name
at_end = (
  (record { ends = (tt, refl, refl); semicolon = refl; begins = refl; comma = refl; eff = refl; propose = refl; pre = refl }, refl),
  ((((tt, refl), refl), refl, refl), refl, refl),
)

pub declaration_leads : (F : Language) (d : DeclarationTree) (ts left : List Tok) → ((z : List Tok) → F (terminal terminals.Type ∷ z)) → ((z : List Tok) → F (terminal terminals.Automaton ∷ z)) →
    ((z : List Tok) → F (terminal terminals.Composition ∷ z)) → ((z : List Tok) → F (terminal terminals.Invariant ∷ z))
    → SpellsDeclaration d ts → F (ts ++ left)
declaration_leads F (declared_type t) ts left f h g k s = leads F (terminal terminals.Type) (SpellsType t) ts left f s
declaration_leads F (automaton a) ts left f h g k s = leads F (terminal terminals.Automaton) (SpellsAutomaton a) ts left h s
declaration_leads F (composition c) ts left f h g k s = leads F (terminal terminals.Composition) (SpellsComposition c) ts left g s
declaration_leads F (invariant i) ts left f h g k s = leads F (terminal terminals.Invariant) (SpellsInvariant i) ts left k s

-- ---- sources

abbrev pub some_left : List Tok → Bool
some_left [] = false
some_left (x ∷ ts) = true

pub some_left_alike : LooksAhead some_left
some_left_alike = head_alike some_left false (λ x. true) refl (λ x ts. refl)

pub all_exact : Exact (grammar.many SpellsDeclaration) (deepest deep) (λ left. AfterDeclaration left × (some_left left ≡ false)) (λ b. many some_left (declaration b))
all_exact =
    many_exact some_left some_left_alike refl declaration_exact declaration_some
    (λ d ts left s. declaration_leads AfterDeclaration d ts left at_type at_automaton at_composition at_invariant s)
    (λ d ts left s. declaration_leads (λ z. some_left z ≡ true) d ts left (λ z. refl) (λ z. refl) (λ z. refl) (λ z. refl) s)
