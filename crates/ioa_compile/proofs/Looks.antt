-- What a name stands for, by its place among the names of a scope.
use Rattle.std.proofs.Common.{◌≡◌, ℕ, zero, suc, ◌+◌, ◌⊎◌, inl, inr, Bool, true, false, cond, not, ◌||◌, IsTrue, List, [], ◌∷◌, ◌++◌, length, Option, Some, None, refl, sym, ap, ◌∙◌, subst, arith}
use Rattle.std.specs.Prelude.{slice_get, slice_set}
use Rattle.std.specs.Str.{bytes_eq}
use Rattle.std.proofs.lemmas.Slice.Eq.{bytes_eq-Decides}
use Rattle.ioa_value.specs.Actions.{Name}
use Rattle.ioa_value.specs.Plain.{Val}
use Rattle.ioa_value.specs.Typing.{HasType, HaveTypes}
use Rattle.ioa_tree.specs.Answers.{HasValueOf}
use Rattle.ioa_tree.specs.Meaning.{values_of, or_else}
use Rattle.ioa_value.specs.Table.{Table, place_from}
use Rattle.ioa_tree.specs.WellFormed.{contains, distinct, apart}
use Rattle.ioa_value.proofs.PlaceLemmas.{place_from_below}
use Rattle.std.proofs.lemmas.Bool.{and_parts}
use Rattle.ioa_value.proofs.NameLemmas.{same_name, outside_both}

pub name_same : (x y : Name) → x ≡ y → bytes_eq x y ≡ true
name_same x y e = (bytes_eq-Decides x y).1 e

pub true_false : {b : Bool} → b ≡ true → b ≡ false → ⊥
true_false {b} e f = absurd (cc)

-- the names, one after another, stand for these
abbrev pub look : {V : Type 0} → List Name → List V → Name → Option V
look [] vs x = None
look (n ∷ ns) [] x = None
look (n ∷ ns) (v ∷ vs) x = cond (bytes_eq n x) (Some v) (look ns vs x)

pub values_look : (ns : List Name) (vs : List Val) (x : Name) → values_of ns vs x ≡ look ns vs x
values_look [] vs x = refl
values_look (n ∷ ns) [] x = refl
values_look (n ∷ ns) (v ∷ vs) x = ap (cond (bytes_eq n x) (Some v)) (values_look ns vs x)

pub or_else-assoc : {V : Type 0} (a b c : Option V) → or_else (or_else a b) c ≡ or_else a (or_else b c)
or_else-assoc None b c = refl
or_else-assoc (Some v) b c = refl

-- the name has a place, and the item there
pub record IsAt {V : Type 0} (i : ℕ) (place : Option ℕ) (vs : List V) (o : Option V) : Type 0 where
  pub at : ℕ
  pub value : V
  pub place_is : place ≡ Some (i + at)
  pub item_is : slice_get vs at ≡ Some value
  pub look_is : o ≡ Some value

pub record IsNowhere {V : Type 0} (place : Option ℕ) (o : Option V) : Type 0 where
  pub no_place : place ≡ None
  pub no_look : o ≡ None

abbrev pub Looked : {V : Type 0} → ℕ → Option ℕ → List V → Option V → Type 0
Looked i place vs o = IsAt i place vs o ⊎ IsNowhere place o

-- one item more in front, under this name or under none
pub looked_first : {V : Type 0} (i : ℕ) (b : Bool) (place : Option ℕ) (v : V) (vs : List V) (o : Option V) → Looked (i + 1) place vs o → Looked i (cond b (Some i) place) (v ∷ vs) (cond b (Some v) o)
looked_first i true place v vs o r = let k : i ≡ i + 0 = omega arith in inl (record { at = 0; value = v; place_is = ap Some k; item_is = refl; look_is = refl })
looked_first i false place v vs o (inl r) = let k : i + 1 + r.at ≡ i + suc r.at = omega arith in inl (record { at = suc r.at; value = r.value; place_is = r.place_is ∙ ap Some k; item_is = r.item_is; look_is = r.look_is })
looked_first i false place v vs o (inr r) = inr (record { no_place = r.no_place; no_look = r.no_look })

pub looks : {V : Type 0} (i : ℕ) (ns : List Name) (vs : List V) (x : Name) → length ns ≡ length vs → Looked i (place_from i ns x) vs (look ns vs x)
looks i [] vs x e = inr (record { no_place = refl; no_look = refl })
looks i (n ∷ ns) [] x e = absurd (omega (arith, e))
looks i (n ∷ ns) (v ∷ vs) x e = looked_first i (bytes_eq n x) _ v vs _ (looks (i + 1) ns vs x (omega arith))

-- what stands in the place of a name
pub look_at : {V : Type 0} (ns : List Name) (vs : List V) (x : Name) (i : ℕ) (v : V) → length ns ≡ length vs → place_from 0 ns x ≡ Some i → slice_get vs i ≡ Some v → look ns vs x ≡ Some v
look_at {V} ns vs x i v long place item = go (place_from 0 ns x) (look ns vs x) place (looks 0 ns vs x long)
  where
    go : (p : Option ℕ) (o : Option V) → p ≡ Some i → Looked 0 p vs o → o ≡ Some v
    go p o e (inl r) =
        let both : Some (0 + r.at) ≡ Some i = sym r.place_is ∙ e in
        let same : 0 + r.at ≡ i = cc in
        let here : r.at ≡ i = omega (arith, same) in
        r.look_is ∙ sym r.item_is ∙ ap (slice_get vs) here ∙ item
    go p o e (inr r) = let no = r.no_place in absurd (cc)

-- where there is a type there is a value of it, and else nothing
abbrev pub Paired : Table → Option ℕ → Option Val → Type 0
Paired types (Some ty) o = HasValueOf types ty o
Paired types None o = o ≡ None

-- one value more in front, under this name or under none
pub paired_first : (types : Table) (b : Bool) (ty : ℕ) (v : Val) (a : Option ℕ) (o : Option Val) → HasType types v ty → Paired types a o → Paired types (cond b (Some ty) a) (cond b (Some v) o)
paired_first types true ty v a o h r = h
paired_first types false ty v a o h r = r

pub look-paired : (types : Table) (ns : List Name) (vs : List Val) (tys : List ℕ) (x : Name) → HaveTypes types vs tys → Paired types (look ns tys x) (look ns vs x)
look-paired types [] vs tys x h = refl
look-paired types (n ∷ ns) [] [] x h = refl
look-paired types (n ∷ ns) [] (t ∷ ts) x h = absurd h
look-paired types (n ∷ ns) (v ∷ vs) [] x h = absurd h
look-paired types (n ∷ ns) (v ∷ vs) (t ∷ ts) x h = paired_first types (bytes_eq n x) t v _ _ h.0 (look-paired types ns vs ts x h.1)

-- a name that is not among the names
pub look_outside : {V : Type 0} (ns : List Name) (vs : List V) (x : Name) → contains ns x ≡ false → look ns vs x ≡ None
look_outside [] vs x h = refl
look_outside (n ∷ ns) [] x h = refl
look_outside {V} (n ∷ ns) (v ∷ vs) x h = go (bytes_eq n x) h (look_outside ns vs x)
  where
    go : (b : Bool) → (b || contains ns x) ≡ false → (contains ns x ≡ false → look ns vs x ≡ None) → cond b (Some v) (look ns vs x) ≡ None
    go true h r = absurd (cc)
    go false h r = r h

pub look_inside : {V : Type 0} (ns : List Name) (vs : List V) (x : Name) → length ns ≡ length vs → contains ns x ≡ true → (v : V) × (look ns vs x ≡ Some v)
look_inside [] vs x e h = absurd (cc)
look_inside (n ∷ ns) [] x e h = absurd (omega (arith, e))
look_inside {V} (n ∷ ns) (v ∷ vs) x e h = go (bytes_eq n x) h (look_inside ns vs x (omega arith))
  where
    go : (b : Bool) → (b || contains ns x) ≡ true → (contains ns x ≡ true → (w : V) × (look ns vs x ≡ Some w)) → (w : V) × (cond b (Some v) (look ns vs x) ≡ Some w)
    go true h r = (v, refl)
    go false h r = r h

pub not_true : (b : Bool) → IsTrue (not b) → b ≡ false
not_true true h = absurd (cc)
not_true false h = refl

-- names that are distinct are in one of two parts
pub distinct_apart : (ms bs : List Name) (x : Name) → IsTrue (distinct (ms ++ bs)) → contains ms x ≡ true → contains bs x ≡ false
distinct_apart [] bs x h e = absurd (cc)
distinct_apart (n ∷ ms) bs x h e =
    let parts = and_parts (not (contains (ms ++ bs) n)) (distinct (ms ++ bs)) h in
    go (bytes_eq n x) refl e (not_true (contains (ms ++ bs) n) parts.0) (distinct_apart ms bs x parts.1)
  where
    go : (b : Bool) → bytes_eq n x ≡ b → (b || contains ms x) ≡ true → contains (ms ++ bs) n ≡ false → (contains ms x ≡ true → contains bs x ≡ false) → contains bs x ≡ false
    go true t e h r = (outside_both ms bs x (subst (λ (y : Name). contains (ms ++ bs) y ≡ false) (same_name n x t) h)).1
    go false t e h r = r e

pub apart_outside : (ns ms : List Name) (x : Name) → IsTrue (apart ns ms) → contains ns x ≡ true → contains ms x ≡ false
apart_outside [] ms x h e = absurd (cc)
apart_outside (n ∷ ns) ms x h e =
    let parts = and_parts (not (contains ms n)) (apart ns ms) h in
    go (bytes_eq n x) refl e (not_true (contains ms n) parts.0) (apart_outside ns ms x parts.1)
  where
    go : (b : Bool) → bytes_eq n x ≡ b → (b || contains ns x) ≡ true → contains ms n ≡ false → (contains ns x ≡ true → contains ms x ≡ false) → contains ms x ≡ false
    go true t e h r = subst (λ (y : Name). contains ms y ≡ false) (same_name n x t) h
    go false t e h r = r e

-- a write at the place of a name
pub look_set : {V : Type 0} (k : ℕ) (ns : List Name) (vs : List V) (x y : Name) (i : ℕ) (v : V) → length ns ≡ length vs → place_from k ns x ≡ Some (k + i) → look ns (slice_set vs i v) y ≡ cond (bytes_eq x y) (Some v) (look ns vs y)
look_set k [] vs x y i v e h = absurd (cc)
look_set k (n ∷ ns) [] x y i v e h = absurd (omega (arith, e))
look_set {V} k (n ∷ ns) (w ∷ ws) x y i v e h = go (bytes_eq n x) refl i h (look_set (k + 1) ns ws x y)
  where
    here : (b c : Bool) (o : Option V) → c ≡ b → cond b (Some v) o ≡ cond c (Some v) (cond b (Some w) o)
    here true true o t = refl
    here false false o t = refl
    here true false o t = absurd (cc)
    here false true o t = absurd (cc)

    there : (b c : Bool) (o : Option V) → (c ≡ true → b ≡ true → ⊥) → cond b (Some w) (cond c (Some v) o) ≡ cond c (Some v) (cond b (Some w) o)
    there true true o t = absurd (t refl refl)
    there true false o t = refl
    there false c o t = refl

    go : (b : Bool) → bytes_eq n x ≡ b → (i : ℕ) → cond b (Some k) (place_from (k + 1) ns x) ≡ Some (k + i) → ((j : ℕ) (u : V) → length ns ≡ length ws → place_from (k + 1) ns x ≡ Some (k + 1 + j) → look ns (slice_set ws j u) y ≡ cond (bytes_eq x y) (Some u) (look ns ws y)) → look (n ∷ ns) (slice_set (w ∷ ws) i v) y ≡ cond (bytes_eq x y) (Some v) (cond (bytes_eq n y) (Some w) (look ns ws y))
    go true t zero h r = here (bytes_eq n y) (bytes_eq x y) (look ns ws y) (ap (λ z. bytes_eq z y) (sym (same_name n x t)))
    go true t (suc i) h r = let k-is : k ≡ k + suc i = cc in absurd (omega arith)
    go false t zero h r = let low = (place_from_below (k + 1) ns x (k + 0) h).0 in absurd (omega arith)
    go false t (suc i) h r =
        let next : k + suc i ≡ k + 1 + i = omega arith in
        ap (cond (bytes_eq n y) (Some w)) (r i v (omega arith) (h ∙ ap Some next))
        ∙ there (bytes_eq n y) (bytes_eq x y) (look ns ws y) (λ p q. true_false (name_same n x (same_name n y q ∙ sym (same_name x y p))) t)
