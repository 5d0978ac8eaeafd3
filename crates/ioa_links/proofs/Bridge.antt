-- Components of trees that are like the tables' keep the theorem.
use Rattle.std.proofs.Common.{◌≡◌, ℕ, Bool, true, false, cond, ◌&&◌, ◌||◌, IsTrue, List, [], ◌∷◌, take, find, Option, Some, None, Result, Ok, Err, refl, sym, ap, subst, ◌∙◌, true≢false}
use Rattle.ioa_arithmetic.specs.declared.arithmetic.Fault.{Fault}
use Rattle.ioa_value.specs.Actions.{Act}
use Rattle.ioa_tree.specs.declared.tree.Kind.{Kind}
use Rattle.ioa_tree.specs.declared.tree.Kind.TheVariants.{Input}
use Rattle.ioa_value.specs.Plain.{Val}
use Rattle.ioa_tree.specs.Tree.{EntryTree, CrashTree}
use Rattle.ioa_tree.specs.Instances.{Instance, entry_has, component_of, state_of}
use Rattle.ioa_tree.specs.Components.{Component, has, owns, is_kind, is_local}
use Rattle.ioa_tree.specs.Runs.{run}
use Rattle.ioa_tree.specs.Likes.{AreLike, IsLike, AllLike, AllRelated}
use Rattle.ioa_tree.proofs.Simulation.{run_like}
use Rattle.std.specs.Str.{bytes_eq}
use Rattle.ioa_links.proofs.Rules.{Rule, rule_has, positions_have, of_rules}
use Rattle.ioa_links.proofs.Tables.{Node, stenning, nodes, start, among}
use Rattle.ioa_links.specs.Delivery.{sent, delivered, Begins}
use Rattle.ioa_links.proofs.Bridges.{Holding, IsRule, AreRules, HostsLike, AmongLike}
use Rattle.ioa_links.proofs.Delivers.{stenning_begins}
use Rattle.ioa_tree.specs.Hosts.{HostState, host_state, is_signal, steady, when_ok, wrapped}

-- ---- the theorem, for components that are like these

pub begins_like : {T : Type 0} (R : ℕ → T → Node → Type 0) (ps : List (Component T)) (ss : List T) (n : ℕ)
    → AllLike R 0 ps stenning → AllRelated R 0 ss (nodes (start n)) → (acts : List Act)
    → Begins (delivered (take (run ps acts ss).performed acts)) (sent (take (run ps acts ss).performed acts))
begins_like R ps ss n h r acts =
    subst (λ m. Begins (delivered (take m acts)) (sent (take m acts))) (sym (run_like R ps stenning acts ss (nodes (start n)) h r).performed) (stenning_begins n acts)

-- ---- an instance of an automaton, entry by entry

data Finds {S : Type 0} (i : Instance) (values : S → List Val) (a : Act) (es : List EntryTree) (rs : List (Rule S)) : Type 0 where
  neither : find (entry_has i a) es ≡ None → find (rule_has a) rs ≡ None → Finds i values a es rs
  both : (e : EntryTree) (r : Rule S) → find (entry_has i a) es ≡ Some e → find (rule_has a) rs ≡ Some r → IsTrue (rule_has a r) → IsRule i values e r → Finds i values a es rs

found : {S : Type 0} (i : Instance) (values : S → List Val) (a : Act) (es : List EntryTree) (rs : List (Rule S)) → AreRules i values es rs → Finds i values a es rs
found i values a [] [] h = neither refl refl
found i values a [] (r ∷ rs) h = absurd h
found i values a (e ∷ es) [] h = absurd h
found i values a (e ∷ es) (r ∷ rs) h = by (rule_has a r) refl (found i values a es rs h.1)
  where
    same : entry_has i a e ≡ rule_has a r
    same = rw (h.0.names, h.0.positions a.vals) refl

    by : (b : Bool) → rule_has a r ≡ b → Finds i values a es rs → Finds i values a (e ∷ es) (r ∷ rs)
    by true is later = both e r (rw (same, is) refl) (rw is refl) is h.0
    by false is (neither x y) = neither (rw (same, is) x) (rw is y)
    by false is (both f q x y z k) = both f q (rw (same, is) x) (rw is y) z k

last : (a b : Bool) → IsTrue (a && b) → IsTrue b
last true b h = h
last false b h = absurd (cc)

module _ {S : Type 0} (i : Instance) (values : S → List Val) (rules : List (Rule S)) (h : AreRules i values i.automaton.entries rules) where
  kinds_like : (a : Act) → (component_of i).kind_of a ≡ (of_rules rules).kind_of a
  kinds_like a = by (found i values a i.automaton.entries rules h)
    where
      by : Finds i values a i.automaton.entries rules → (component_of i).kind_of a ≡ (of_rules rules).kind_of a
      by (neither x y) = rw (x, y) refl
      by (both e r x y z k) = rw (x, y) (ap Some k.kinds)

  guards_at : (a : Act) (t : S) → (component_of i).guard a (state_of i.automaton (values t)) ≡ (of_rules rules).guard a t
  guards_at a t = by (found i values a i.automaton.entries rules h)
    where
      by : Finds i values a i.automaton.entries rules → (component_of i).guard a (state_of i.automaton (values t)) ≡ (of_rules rules).guard a t
      by (neither x y) = rw (x, y) refl
      by (both e r x y z k) = rw (x, y) (k.guards a.vals t (last (bytes_eq r.name a.name) (positions_have r.positions a.vals) z))

  effects_at : (a : Act) (t : S) → AreLike (Holding i values) ((component_of i).effect a (state_of i.automaton (values t))) ((of_rules rules).effect a t)
  effects_at a t = by (found i values a i.automaton.entries rules h)
    where
      by : Finds i values a i.automaton.entries rules → AreLike (Holding i values) ((component_of i).effect a (state_of i.automaton (values t))) ((of_rules rules).effect a t)
      by (neither x y) = rw (x, y) refl
      by (both e r x y z k) = rw (x, y) (k.effects a.vals t (last (bytes_eq r.name a.name) (positions_have r.positions a.vals) z))

  pub instance_like : IsLike (Holding i values) (component_of i) (of_rules rules)
  instance_like = record {
    kinds = kinds_like;
    guards = λ a s t o q. subst (λ x. (component_of i).guard a x ≡ (of_rules rules).guard a t) (sym q) (guards_at a t);
    effects = λ a s t o q. subst (λ x. AreLike (Holding i values) ((component_of i).effect a x) ((of_rules rules).effect a t)) (sym q) (effects_at a t);
  }

-- ---- the crash wrapper, and states among others

ok_like : {S T S' T' : Type 0} (R : S → T → Type 0) (Q : S' → T' → Type 0) (f : S → S') (g : T → T') (x : Result S Fault) (y : Result T Fault)
    → ((s : S) (t : T) → R s t → Q (f s) (g t)) → AreLike R x y → AreLike Q (when_ok f x) (when_ok g y)
ok_like R Q f g (Ok s) (Ok t) k h = k s t h
ok_like R Q f g (Ok s) (Err e) k h = absurd h
ok_like R Q f g (Err e) (Ok t) k h = absurd h
ok_like R Q f g (Err e) (Err d) k h = h

module _ {S T : Type 0} (R : S → T → Type 0) (names : CrashTree) (f : S → S) (g : T → T) (p : Component S) (q : Component T)
    (h : IsLike R p q) (resets : (s : S) (t : T) → R s t → R (f s) (g t)) where
  local_inside : (b c : Bool) (o : Option Kind) → IsTrue (is_local (cond (b || c) (Some Input) o)) → IsTrue (is_local o)
  local_inside true c o e = absurd (true≢false (sym e))
  local_inside false true o e = absurd (true≢false (sym e))
  local_inside false false o e = e

  host_guards : (b c : Bool) (x y : Result Bool Fault) → b ≡ c → x ≡ y → cond b x (Ok false) ≡ cond c y (Ok false)
  host_guards b c x y e k = cc

  host_effects : (a : Act) (s : HostState S) (t : HostState T) (b c : Bool) → IsTrue (is_kind (cond (b || c) (Some Input) (p.kind_of a))) → HostsLike R s t
      → AreLike (HostsLike R) (cond b (Ok (host_state false (f s.inner))) (cond c (Ok (host_state true s.inner)) (cond s.up (when_ok (host_state true) (p.effect a s.inner)) (Ok s))))
      (cond b (Ok (host_state false (g t.inner))) (cond c (Ok (host_state true t.inner)) (cond t.up (when_ok (host_state true) (q.effect a t.inner)) (Ok t))))
  host_effects a s t true c e k = (refl, resets s.inner t.inner k.1)
  host_effects a s t false true e k = (refl, k.1)
  host_effects a s t false false e k = by s.up t.up refl refl
    where
      by : (b c : Bool) → s.up ≡ b → t.up ≡ c → AreLike (HostsLike R) (cond b (when_ok (host_state true) (p.effect a s.inner)) (Ok s)) (cond c (when_ok (host_state true) (q.effect a t.inner)) (Ok t))
      by true true x y = ok_like R (HostsLike R) (host_state true) (host_state true) (p.effect a s.inner) (q.effect a t.inner) (λ s t r. (refl, r)) (h.effects a s.inner t.inner e k.1)
      by false false x y = k
      by true false x y = absurd (true≢false (sym x ∙ k.0 ∙ y))
      by false true x y = absurd (true≢false (sym y ∙ sym k.0 ∙ x))

  pub wrapped_like : IsLike (HostsLike R) (wrapped names f p) (wrapped names g q)
  wrapped_like = record {
    kinds = λ a. ap (λ o. cond (is_signal names.crash a || is_signal names.recover a) (Some Input) o) (h.kinds a);
    guards = λ a s t o k. host_guards s.up t.up (p.guard a s.inner) (q.guard a t.inner) k.0
        (h.guards a s.inner t.inner (local_inside (is_signal names.crash a) (is_signal names.recover a) (p.kind_of a) o) k.1);
    effects = λ a s t o k. host_effects a s t (is_signal names.crash a) (is_signal names.recover a) o k;
  }

steady_gives : {S T : Type 0} (R : S → T → Type 0) (b : Bool) (x : Result S Fault) (y : Result T Fault) → AreLike R x y → AreLike (λ s t. R s.inner t) (when_ok (host_state b) x) y
steady_gives R b (Ok v) (Ok w) k = k
steady_gives R b (Ok v) (Err e) k = absurd k
steady_gives R b (Err e) (Ok w) k = absurd k
steady_gives R b (Err e) (Err d) k = k

pub steady_like : {S T : Type 0} (R : S → T → Type 0) (p : Component S) (q : Component T) → IsLike R p q → IsLike (λ s t. R s.inner t) (steady p) q
steady_like R p q h = record {
  kinds = h.kinds;
  guards = λ a s t o k. h.guards a s.inner t o k;
  effects = λ a s t o k. steady_gives R s.up (p.effect a s.inner) (q.effect a t) (h.effects a s.inner t o k);
}

pub among_like : {S T : Type 0} (R : S → T → Type 0) (into : T → Node) (back : Node → Option T) (p : Component S) (q : Component T)
    → ((t : T) → back (into t) ≡ Some t) → IsLike R p q → IsLike (AmongLike into R) p (among into back q)
among_like {S} {T} R into back p q own h = record {
  kinds = h.kinds;
  guards = λ a s x o k. guards a s x o k;
  effects = λ a s x o k. effects a s x o k;
}
  where
    back_is : (x : Node) (t : T) → x ≡ into t → back x ≡ Some t
    back_is x t e = ap back e ∙ own t

    guards : (a : Act) (s : S) (x : Node) → IsTrue (owns a p) → AmongLike into R s x → p.guard a s ≡ (among into back q).guard a x
    guards a s x o k = rw (back_is x k.0 k.1) (h.guards a s k.0 o k.2)

    effects : (a : Act) (s : S) (x : Node) → IsTrue (has a p) → AmongLike into R s x → AreLike (AmongLike into R) (p.effect a s) ((among into back q).effect a x)
    effects a s x o k = rw (back_is x k.0 k.1) (lifts (p.effect a s) (q.effect a k.0) (h.effects a s k.0 o k.2))
      where
        lifts : (y : Result S Fault) (z : Result T Fault) → AreLike R y z → AreLike (AmongLike into R) y (when_ok into z)
        lifts (Ok v) (Ok w) k = (w, refl, k)
        lifts (Ok v) (Err e) k = absurd k
        lifts (Err e) (Ok w) k = absurd k
        lifts (Err e) (Err d) k = k
