-- The value of an expression does not depend on a name that it does not mention.
use Rattle.std.proofs.Common.{◌≡◌, Bool, true, false, not, List, [], ◌∷◌, Option, Some, None, refl, sym, ap, ap₂, ◌∙◌}
use Rattle.std.specs.Str.{bytes_eq}
use Rattle.std.proofs.lemmas.Bool.{or_parts}
use Rattle.ioa_value.specs.Actions.{Act, Name}
use Rattle.ioa_value.specs.Plain.{Val}
use Rattle.ioa_value.specs.Table.{Table}
use Rattle.ioa_value.specs.Operators.{Answer, gives, faults, nothing, operate}
use Rattle.ioa_tree.specs.Instances.{Instance, enabling, entry_for, environment, formal_values, guard_in, transition_for, truth_of}
use Rattle.ioa_tree.specs.Meaning.{Env, combined, made, or_else, selected, then_all, then_value, val, value_of}
use Rattle.ioa_tree.specs.Tree.{Expr, number, truth, named, parens, prefix, binary, empty, make, select, Exprs, no_expr, also, EntryTree, TransitionTree}
use Rattle.ioa_tree.specs.Types.{constant}
use Rattle.ioa_warnings.specs.Enabled.{FreeIsEnabled}
use Rattle.ioa_warnings.specs.Free.{is_free}
use Rattle.ioa_warnings.specs.Mentions.{any_mentions, mentions}

then_same : (a : Answer) (f g : Val → Answer) → ((v : Val) → f v ≡ g v) → then_value a f ≡ then_value a g
then_same (gives v) f g h = h v
then_same (faults x) f g h = refl
then_same nothing f g h = refl

not_true : (b : Bool) → not b ≡ true → b ≡ false
not_true true e = sym e
not_true false e = refl

module _ (types : Table) (x : Name) (m n : Env) (same : (y : Name) → bytes_eq y x ≡ false → m y ≡ n y) where
  mutual
    val_same : (e : Expr) → mentions x e ≡ false → val types e m ≡ val types e n
    val_same (number k) h = refl
    val_same (truth b) h = refl
    val_same (named y) h = ap (λ o. value_of (or_else o (constant types y))) (same y h)
    val_same (parens e) h = val_same e h
    val_same (prefix o e) h = ap (λ a. then_value a (λ v. operate types o (v ∷ []))) (val_same e h)
    val_same (binary l o r) h =
        let k = or_parts (mentions x l) (mentions x r) h in
        ap₂ (λ a b. then_value a (λ v. combined types o v b)) (val_same l k.0) (val_same r k.1)
    val_same (empty ty) h = refl
    val_same (make ty es) h = all_same es (made types ty) h
    val_same (select e field) h = ap (λ a. then_value a (selected types field)) (val_same e h)

    all_same : (es : Exprs) (go : List Val → Answer) → any_mentions x es ≡ false → then_all types es m go ≡ then_all types es n go
    all_same no_expr go h = refl
    all_same (also e es) go h =
        let k = or_parts (mentions x e) (any_mentions x es) h in
        ap (λ a. then_value a (λ v. then_all types es m (λ vs. go (v ∷ vs)))) (val_same e k.0)
        ∙ then_same (val types e n) (λ v. then_all types es m (λ vs. go (v ∷ vs))) (λ v. then_all types es n (λ vs. go (v ∷ vs)))
        (λ v. all_same es (λ vs. go (v ∷ vs)) k.1)

  enabling_same : (pre : Option Expr) → is_free pre x ≡ true → enabling types pre m ≡ enabling types pre n
  enabling_same None h = refl
  enabling_same (Some e) h = ap truth_of (val_same e (not_true (mentions x e) h))

pub guard_at : (i : Instance) (e : EntryTree) (t : TransitionTree) (a : Act) (s : Env) → entry_for i a ≡ Some e → transition_for i.automaton e ≡ Some t
    → guard_in i a s ≡ enabling i.types t.pre (environment i e a.vals s)
guard_at i e t a s entry transition = rw (entry, transition) refl

pub free_is_enabled : FreeIsEnabled
free_is_enabled i e t x a b s transition free differ =
    guard_at i e t a s differ.one transition
    ∙ enabling_same i.types x (environment i e a.vals s) (environment i e b.vals s)
    (λ y other. ap (λ o. or_else (formal_values i y) (or_else o (s y))) (differ.agree y other)) t.pre free
    ∙ sym (guard_at i e t b s differ.other transition)
