-- The names of the global space, as they are gathered.
use Rattle.std.proofs.Common.{◌≡◌, ℕ, ◌+◌, ◌<◌, ◌≤◌, Bool, true, false, not, cond, List, [], ◌∷◌, ◌++◌, take, drop, length, get_or, Result, Ok, Err, IsErr, refl, sym, ap, subst, ◌∙◌, append_assoc, append-nil, take-append-drop}
use Rattle.std.specs.List.{flat_map}
use Rattle.std.specs.Result.{IsErrAnd}
use Rattle.std.proofs.lemmas.Bool.{not_from_false, and_from, and_left}
use Rattle.std.proofs.lemmas.Grind.{flat_map-append}
use Rattle.std.proofs.lemmas.List.{map-append, drop_all}
use Rattle.ioa_value.specs.Actions.{Name}
use Rattle.ioa_value.specs.Table.{contains, distinct}
use Rattle.ioa_value.proofs.ItemLemmas.{take_item}
use Rattle.ioa_value.proofs.NameLemmas.{distinct-again, distinct-append}
use Rattle.ioa_lex.specs.declared.refusal.Refusal.{Refusal}
use Rattle.ioa_tree.specs.declared.tree.Declaration.{Declaration}
use Rattle.ioa_tree.specs.View.{declaration_of, tree_of}
use Rattle.ioa_tree.specs.WellFormed.{declared_names}
use Rattle.ioa_rules.specs.Codes.{duplicate_name, tells}
use Rattle.ioa_rules.specs.Globals.{Adds}
use Rattle.ioa_rules.specs.Verdicts.{SaysOrMemory}
use Rattle.ioa_rules.proofs.SayLemmas.{split-at}

-- ---- one name

has-not : (b : Bool) → true ≡ not b → b ≡ false
has-not true e = absurd (cc)
has-not false e = refl

has : (b : Bool) → false ≡ not b → b ≡ true
has true e = refl
has false e = absurd (cc)

-- a new name goes last
pub added-new : (old new : List Name) (v n : Name) (b : Bool) → v ≡ n → b ≡ not (contains old v) → new ≡ cond b (old ++ v ∷ []) old → b ≡ true
    → (new ≡ old ++ n ∷ []) × (distinct old ≡ true → distinct new ≡ true)
added-new old new v n b is added names fresh = (last ∙ ap (λ m. old ++ m ∷ []) is, once)
  where
    absent : contains old v ≡ false
    absent = has-not _ (sym fresh ∙ added)

    last : new ≡ old ++ v ∷ []
    last = names ∙ ap (λ c. cond c (old ++ v ∷ []) old) fresh

    once : distinct old ≡ true → distinct new ≡ true
    once h = ap distinct last ∙ distinct-append old (v ∷ []) ∙ and_from _ _ h (and_from _ _ refl (and_from _ _ (not_from_false _ absent) refl))

-- a name that is there already
pub added-again : (old : List Name) (v n : Name) (b : Bool) → v ≡ n → b ≡ not (contains old v) → b ≡ false → distinct (old ++ n ∷ []) ≡ false
added-again old v n b is added taken = distinct-again old n [] (ap (contains old) (sym is) ∙ has _ (sym taken ∙ added))

-- ---- names after one another

longer : (xs ys : List Name) → distinct xs ≡ false → distinct (xs ++ ys) ≡ false
longer xs ys h = distinct-append xs ys ∙ and_left _ _ h

pub adds-more : {T U V : Type 0} (q : Result T Refusal) (r : Result U Refusal) (x : V) (old xs mid ys new : List Name) → Adds {T = V} (Ok x) old xs mid
    → Adds r mid ys new → Adds r old (xs ++ ys) new
adds-more q (Ok y) x old xs mid ys new f g = (g.0 ∙ ap (λ ns. ns ++ ys) f.0 ∙ append_assoc old xs ys, λ h. g.1 (f.1 h))
adds-more q (Err e) x old xs mid ys new f g = λ n. let k = g n in
    (k.0, ap distinct (sym (append_assoc old xs ys)) ∙ ap (λ ns. distinct (ns ++ ys)) (sym f.0) ∙ k.1)

-- a refusal that `?` hands on, whatever names come after
pub adds-passed : {T U : Type 0} (q : Result T Refusal) (r : Result U Refusal) (e : Refusal) (old xs mid ys zs new end : List Name) → mid ≡ old ++ xs
    → q ≡ Err e → IsErrAnd r (λ y. y ≡ e) → Adds q mid ys new → Adds r old (xs ++ (ys ++ zs)) end
adds-passed q (Ok y) e old xs mid ys zs new end at was bad h = absurd bad
adds-passed {T} q (Err y) e old xs mid ys zs new end at was bad h = λ n.
    let P : Result T Refusal → Type 0 = λ o. Adds o mid ys new in
    let k : Adds {T = T} (Err y) mid ys new = subst P (was ∙ ap Err (sym bad)) h in
    let f = k n in
    let same : old ++ (xs ++ (ys ++ zs)) ≡ (mid ++ ys) ++ zs = sym (append_assoc old xs (ys ++ zs)) ∙ ap (λ ns. ns ++ (ys ++ zs)) (sym at)
    ∙ sym (append_assoc mid ys zs) in
    (f.0, ap distinct same ∙ longer (mid ++ ys) zs f.1)

-- ---- names of items one after another

module _ {X : Type 0} (all : List X → List Name) (app : (xs ys : List X) → all (xs ++ ys) ≡ all xs ++ all ys) where
  pub adds-next : (old mid new ns : List Name) (xs : List X) (i : ℕ) (x : X) → i < length xs → x ≡ get_or xs i x → all (x ∷ []) ≡ ns
      → Adds {T = Unit {0}} (Ok tt) old (all (take i xs)) mid → Adds {T = Unit {0}} (Ok tt) mid ns new
      → Adds {T = Unit {0}} (Ok tt) old (all (take (i + 1) xs)) new
  adds-next old mid new ns xs i x l is one f g =
      let same : all (take i xs) ++ ns ≡ all (take (i + 1) xs) = ap (λ ms. all (take i xs) ++ ms) (sym one) ∙ sym (app (take i xs) (x ∷ [])) ∙ ap all
      (sym (take_item xs i x l is)) in
      (g.0 ∙ ap (λ ms. ms ++ ns) f.0 ∙ append_assoc old (all (take i xs)) ns ∙ ap (λ ms. old ++ ms) same, λ h. g.1 (f.1 h))

  pub adds-fails : {T U : Type 0} (q : Result T Refusal) (r : Result U Refusal) (e : Refusal) (old mid new end ns : List Name) (xs : List X) (i : ℕ)
      (x : X) → i < length xs → x ≡ get_or xs i x → all (x ∷ []) ≡ ns
      → Adds {T = Unit {0}} (Ok tt) old (all (take i xs)) mid → q ≡ Err e → IsErrAnd r (λ y. y ≡ e) → Adds q mid ns new → Adds r old (all xs) end
  adds-fails q r e old mid new end ns xs i x l is one f was bad h =
      let P : List Name → Type 0 = λ ms. Adds r old ms end in
      let rest : all (x ∷ drop (i + 1) xs) ≡ ns ++ all (drop (i + 1) xs) = app (x ∷ []) (drop (i + 1) xs) ∙ ap (λ ms. ms ++ all (drop (i + 1) xs)) one in
      let same : all (take i xs) ++ (ns ++ all (drop (i + 1) xs)) ≡ all xs = ap (λ ms. all (take i xs) ++ ms) (sym rest)
      ∙ sym (app (take i xs) (x ∷ drop (i + 1) xs)) ∙ ap all (split-at xs i x l is) in
      subst P same (adds-passed q r e old (all (take i xs)) mid ns (all (drop (i + 1) xs)) new end f.0 was bad h)

  pub adds-all : (old new : List Name) (xs : List X) (i : ℕ) → length xs ≤ i → Adds {T = Unit {0}} (Ok tt) old (all (take i xs)) new
      → Adds {T = Unit {0}} (Ok tt) old (all xs) new
  adds-all old new xs i l f =
      let P : List X → Type 0 = λ ys. Adds {T = Unit {0}} (Ok tt) old (all ys) new in
      subst P (sym (append-nil (take i xs)) ∙ ap (λ ys. take i xs ++ ys) (sym (drop_all i xs l)) ∙ take-append-drop i xs) f

-- the names that declarations give
abbrev pub all_declared : List Declaration → List Name
all_declared ds = flat_map declared_names (tree_of ds)

pub declared-append : (xs ys : List Declaration) → all_declared (xs ++ ys) ≡ all_declared xs ++ all_declared ys
declared-append xs ys = ap (flat_map declared_names) (map-append declaration_of xs ys) ∙ flat_map-append declared_names (tree_of xs) (tree_of ys)

pub declared-one : (d : Declaration) → all_declared (d ∷ []) ≡ declared_names (declaration_of d)
declared-one d = append-nil (declared_names (declaration_of d))

-- the first of some names is there already
pub first-fails : {T U : Type 0} (q : Result T Refusal) (r : Result U Refusal) (e : Refusal) (old ns new end : List Name) (n : Name)
    → q ≡ Err e → IsErrAnd r (λ y. y ≡ e) → Adds q old (n ∷ []) new → Adds r old (n ∷ ns) end
first-fails q r e old ns new end n was bad h = adds-passed q r e old [] old (n ∷ []) ns new end (sym (append-nil old)) was bad h

pub adds-say : {T : Type 0} (r : Result T Refusal) (old more end : List Name) → IsErr r → Adds r old more end
    → SaysOrMemory r (distinct (old ++ more)) (tells duplicate_name)
adds-say (Ok x) old more end bad h = absurd (cc)
adds-say (Err e) old more end bad h = h
