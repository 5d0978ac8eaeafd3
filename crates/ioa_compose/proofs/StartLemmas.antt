-- Start values: what well formed start expressions give.
use Rattle.std.proofs.Common.{◌≡◌, ℕ, zero, suc, ◌<◌, true, List, [], ◌∷◌, ◌++◌, map, take, length, get_or, IfOk, Option, Some, None, Result, Ok, Err, refl, sym, ap, subst, ◌∙◌, append-nil, arith}
use Rattle.std.specs.List.{AllZip, list_all}
use Rattle.std.specs.Option.{option_map_or}
use Rattle.std.proofs.lemmas.Simd.{map-map}
use Rattle.std.proofs.lemmas.List.{length-append, length-map}
use Rattle.std.proofs.Math.Seq.{get_or-append_seam, take-append_seam}
use Rattle.ioa_value.specs.Actions.{Name}
use Rattle.ioa_arithmetic.specs.declared.arithmetic.Fault.{Fault}
use Rattle.ioa_value.specs.declared.memory.OutOfMemory.{OutOfMemory}
use Rattle.ioa_value.specs.declared.value.Value.{Value}
use Rattle.ioa_value.specs.Plain.{Val, plain}
use Rattle.ioa_value.specs.Operators.{gives, answer_of}
use Rattle.ioa_tree.specs.Types.{first_named}
use Rattle.ioa_tree.specs.declared.tree.Field.{Field}
use Rattle.ioa_tree.specs.declared.tree.Variable.{Variable}
use Rattle.ioa_tree.specs.Tree.{Expr, CrashTree, VariableTree, AutomatonTree}
use Rattle.ioa_tree.specs.View.{field_of, variable_of, automaton_of}
use Rattle.ioa_tree.specs.Compositions.{Member}
use Rattle.ioa_tree.specs.Meaning.{val, values_of}
use Rattle.ioa_value.specs.Table.{Table}
use Rattle.ioa_tree.specs.Instances.{field_names, settled, start_value, start_values}
use Rattle.ioa_tree.specs.WellFormed.{start_fine, is_type}
use Rattle.ioa_compose.specs.declared.binding.Binding.{Binding}
use Rattle.ioa_compose.specs.declared.member.Member as held
use Rattle.ioa_compose.specs.Bindings.{value_in, crash_in, plain_in, instance_in, instance_with, IsStarted}
use Rattle.ioa_compose.specs.Held.{member_of}
use Rattle.ioa_crash.specs.Rewriting.{own_automaton, own_starts, added_arguments, volatile_values, rewritten}
use Rattle.ioa_compose.specs.Simulates.{member_by}
use Rattle.ioa_compose.specs.Refusals.{NoneFaults}
use Rattle.ioa_value.proofs.ItemLemmas.{passes_at}
use Rattle.ioa_crash.proofs.RewrittenNames.{names_of}
use Rattle.ioa_compose.proofs.WithSignals.{more_starts}

pub settled-answer : (r : Result Value Fault) → value_in r ≡ settled (answer_of r)
settled-answer (Ok v) = refl
settled-answer (Err f) = refl

-- the value of a start expression is the variable's start value
pub started-at : (types : Table) (o : Result (Result Value Fault) OutOfMemory) (e : Expr) (v : VariableTree) (fs xs : List Field) (vs ys : List Value) → xs ≡ fs → ys ≡ vs → v.start ≡ Some e
    → IfOk o (λ r. answer_of r ≡ val types e (values_of (field_names (map field_of xs)) (map plain ys)))
    → IfOk o (λ r. value_in r ≡ start_value types (values_of (field_names (map field_of fs)) (map plain vs)) v)
started-at types (Err x) e v fs xs vs ys p q s h = tt
started-at types (Ok r) e v fs xs vs ys p q s h =
    let env = values_of (field_names (map field_of fs)) (map plain vs) in
    settled-answer r ∙ ap settled (h ∙ ap (λ us. val types e (values_of (field_names (map field_of us)) (map plain ys))) p ∙ ap (λ us. val types e (values_of (field_names (map field_of fs)) (map plain us))) q)
    ∙ sym (ap (λ x. settled (option_map_or (λ d. val types d env) x (gives (first_named types v.field.ty)))) s)

-- each variable's start expression and type
pub fine-at : (types : Table) (a : AutomatonTree) (vs ys : List Variable) (i : ℕ) (v : Variable) → list_all (start_fine types types [] a) (map variable_of vs) ≡ true → ys ≡ vs → i < length ys → v ≡ get_or ys i v → start_fine types types [] a (variable_of v) ≡ true
fine-at types a vs ys i v h q l e = passes_at (start_fine types types [] a) variable_of ys i v (ap (λ us. list_all (start_fine types types [] a) (map variable_of us)) q ∙ h) l e

pub known-at : (types : Table) (vs ys : List Variable) (i : ℕ) (v : Variable) → list_all (is_type types) (map (λ u. u.field) (map variable_of vs)) ≡ true → ys ≡ vs → i < length ys → v ≡ get_or ys i v → is_type types (field_of v.field) ≡ true
known-at types vs ys i v h q l e =
    passes_at (is_type types) (λ (u : Variable). field_of u.field) ys i v
    (sym (ap (list_all (is_type types)) (map-map (λ u. u.field) variable_of ys)) ∙ ap (λ us. list_all (is_type types) (map (λ u. u.field) (map variable_of us))) q ∙ h) l e

-- one start value for each variable
pub started-long : (vs : List Variable) (ws : List Value) → length (names_of (map variable_of vs)) ≡ length (map plain ws) → length ws ≡ length vs
started-long vs ws h =
    sym (h ∙ length-map ws plain) ∙ length-map (map variable_of vs) (λ v. v.field.name) ∙ length-map vs variable_of

started-sound : (types : Table) (b : Binding) (m : Member) (f : Fault) → IsStarted types b m → start_values (instance_in types b) ≡ Err f → ⊥
started-sound types b m f h e =
    let given : start_values (plain_in types b) ≡ Err f = sym (more_starts types (crash_in b) (automaton_of b.automaton.now) (map plain b.arguments.items)) ∙ e in
    let same : start_values (plain_in types b) ≡ Ok h.0 = h.1 in
    absurd (cc)

-- no start of those that are started faults
pub none-faulted : (types : Table) (bs : List Binding) (ms : List held.Member) (k : ℕ) → AllZip (λ b m. IsStarted types b (member_of m)) (take k bs) ms → NoneFaults (map (instance_in types) bs) k
none-faulted types [] ms k z j n f l at e = absurd (cc)
none-faulted types (b ∷ bs) ms zero z j n f l at e = absurd (omega arith)
none-faulted types (b ∷ bs) [] (suc k) z j n f l at e = absurd z
none-faulted types (b ∷ bs) (m ∷ ms) (suc k) z zero n f l at e =
    let same : instance_in types b ≡ n = cc in
    started-sound types b (member_of m) f z.0 (ap start_values same ∙ e)
none-faulted types (b ∷ bs) (m ∷ ms) (suc k) z (suc j) n f l at e = none-faulted types bs ms k z.1 j n f (omega arith) at e

-- ---- what a component is made of

module _ (types : Table) (name : Name) (a : AutomatonTree) (arguments starts : List Val) where
  abbrev made : Name → Table → ℕ → AutomatonTree → List Val → List Val → Member
  made n t k own vs ws = record { name = n; instance = instance_with t own vs; starts = ws; declared = k }

  abbrev so : AutomatonTree → List Val → List Val → Member
  so own vs ws = made name types (length a.variables) own vs ws

  -- of its own automaton, with the arguments and the start values that it has
  of_own : (crash : Option CrashTree) (own : AutomatonTree) (vs ws : List Val) → own ≡ own_automaton crash a → vs ≡ arguments ++ added_arguments crash a.variables starts
      → ws ≡ own_starts crash starts → so own vs ws ≡ member_by crash (record { name = name; instance = instance_with types a arguments; starts = starts; crash = crash })
  of_own None own vs ws p q r = ap (λ x. so x vs ws) p ∙ ap (λ us. so a us ws) (q ∙ append-nil arguments) ∙ ap (so a arguments) r
  of_own (Some n) own vs ws p q r =
      ap (λ x. so x vs ws) p ∙ ap (λ us. so (rewritten n a) us ws) q ∙ ap (so (rewritten n a) (arguments ++ volatile_values a.variables starts)) r

  pub member-made : (crash : Option CrashTree) (n : Name) (t : Table) (k : ℕ) (own : AutomatonTree) (vs ws : List Val) → n ≡ name → t ≡ types → k ≡ length a.variables
      → own ≡ own_automaton crash a → vs ≡ arguments ++ added_arguments crash a.variables starts → ws ≡ own_starts crash starts
      → made n t k own vs ws ≡ member_by crash (record { name = name; instance = instance_with types a arguments; starts = starts; crash = crash })
  member-made crash n t k own vs ws e f g p q r =
      ap (λ x. made x t k own vs ws) e ∙ ap (λ x. made name x k own vs ws) f ∙ ap (λ x. made name types x own vs ws) g ∙ of_own crash own vs ws p q r

-- ---- bindings that are taken one by one

-- the next one stands behind those that are taken
pub taken : {X : Type 0} (xs all : List X) (x : X) (rest : List X) → xs ++ x ∷ rest ≡ all → (length xs < length all) × (x ≡ get_or all (length xs) x) × (take (length xs) all ≡ xs)
taken xs all x rest e = (
  subst (λ us. length xs < length us) e (let l = length-append xs (x ∷ rest) in omega arith),
  sym (ap (λ us. get_or us (length xs) x) (sym e) ∙ get_or-append_seam xs x rest x),
  ap (take (length xs)) (sym e) ∙ take-append_seam xs (x ∷ rest),
)

-- there are as many members as bindings that are taken
pub as_many : {A B : Type 0} (R : A → B → Type 0) (xs : List A) (ys : List B) → AllZip R xs ys → length xs ≡ length ys
as_many R [] [] h = refl
as_many R [] (y ∷ ys) h = absurd h
as_many R (x ∷ xs) [] h = absurd h
as_many R (x ∷ xs) (y ∷ ys) h = ap suc (as_many R xs ys h.1)

pub none_left : {X : Type 0} (xs : List X) → length xs ≡ 0 → xs ≡ []
none_left [] e = refl
none_left (x ∷ xs) e = absurd (cc)
