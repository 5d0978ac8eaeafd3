-- Components of which no two clash are compatible, and compatible ones do not clash. Both depend on the kinds of actions alone.
use Rattle.std.proofs.Common.{◌≡◌, ◌≢◌, ℕ, ◌<◌, List, Option, Some, None, refl, sym, subst, ◌∙◌, arith, slice_get, ◌⊎◌, inl, inr}
use Rattle.std.specs.List.{AllZip}
use Rattle.std.proofs.lemmas.Bool.{cases_order}
use Rattle.ioa_value.specs.Actions.{Name, Act}
use Rattle.ioa_tree.specs.declared.tree.Kind.{Kind}
use Rattle.ioa_tree.specs.declared.tree.Kind.TheVariants.{Output, Internal}
use Rattle.ioa_tree.specs.Components.{Component, Compatible}
use Rattle.ioa_clash.specs.Clashes.{AreClashing, AreFirstToClash}
use Rattle.ioa_clash.proofs.ZipLemmas.{zip-at, zip-to}

-- ---- by pairs

-- no two of the components clash
abbrev pub NoTwoClash : {S : Type 0} → List (Component S) → Type 0
NoTwoClash {S} ps = (i j : ℕ) (p q : Component S) (x : Name) → i < j → slice_get ps i ≡ Some p → slice_get ps j ≡ Some q → AreClashing x p q → ⊥

-- two that do not clash on any action hold their internal actions and outputs apart
abbrev Holds : {S : Type 0} → Act → Component S → Component S → Type 0
Holds a p q = (p.kind_of a ≡ Some Internal → q.kind_of a ≡ None) × (p.kind_of a ≡ Some Output → q.kind_of a ≡ Some Output → ⊥)

held-apart : {S : Type 0} (p q : Component S) (a : Act) → (AreClashing a.name p q → ⊥) → Holds a p q
held-apart p q a none = (internal (q.kind_of a) refl, λ e f. none (a, refl, inr (inr (e, f))))
  where
    internal : (o : Option Kind) → q.kind_of a ≡ o → p.kind_of a ≡ Some Internal → q.kind_of a ≡ None
    internal None h e = h
    internal (Some k) h e = absurd (none (a, refl, inl (e, λ z. absurd (cc))))

turned : {S : Type 0} (x : Name) (p q : Component S) → AreClashing x p q → AreClashing x q p
turned x p q c =
    (c.0, c.1, elim c.2 [ inl h ↦ inr (inl h) | inr y ↦ elim y [ inl h ↦ inl h | inr h ↦ inr (inr (h.1, h.0)) ] ])

pub compatible-of : {S : Type 0} (ps : List (Component S)) → NoTwoClash ps → Compatible ps
compatible-of {S} ps none = λ i j p q a apart e f. held-apart p q a (two i j p q a.name apart e f (cases_order i j))
  where
    two : (i j : ℕ) (p q : Component S) (x : Name) → i ≢ j → slice_get ps i ≡ Some p → slice_get ps j ≡ Some q → (i ≡ j) ⊎ ((i < j) ⊎ (j < i)) → AreClashing x p q → ⊥
    two i j p q x apart e f (inl same) c = apart same
    two i j p q x apart e f (inr (inl less)) c = none i j p q x less e f c
    two i j p q x apart e f (inr (inr more)) c = none j i q p x more f e (turned x p q c)

pub none-of : {S : Type 0} (ps : List (Component S)) → Compatible ps → NoTwoClash ps
none-of ps k = λ i j p q x less e f c.
    let fore = k i j p q c.0 (λ h. omega arith) e f in
    let back = k j i q p c.0 (λ h. omega arith) f e in
    elim c.2 [ inl h ↦ h.1 (fore.0 h.0) | inr y ↦ elim y [ inl h ↦ h.1 (back.0 h.0) | inr h ↦ fore.1 h.0 h.1 ] ]

pub first-incompatible : {S : Type 0} (ps : List (Component S)) (i j : ℕ) (x : Name) → AreFirstToClash ps i j x → Compatible ps → ⊥
first-incompatible ps i j x h k = none-of ps k i j h.first h.second x h.later h.here h.there h.clash

-- ---- by kinds

-- each action has the same kind in both
abbrev pub HaveSameKinds : {S T : Type 0} → Component S → Component T → Type 0
HaveSameKinds p q = (a : Act) → p.kind_of a ≡ q.kind_of a

pub clashing-like : {S T : Type 0} (x : Name) (p q : Component S) (r s : Component T) → HaveSameKinds p r → HaveSameKinds q s → AreClashing x p q → AreClashing x r s
clashing-like x p q r s f g c =
    let fore = sym (f c.0) in
    let back = sym (g c.0) in (
      c.0,
      c.1,
      elim c.2 [
        | inl h ↦ inl (fore ∙ h.0, λ n. h.1 (g c.0 ∙ n))
        | inr y ↦ elim y [ inl h ↦ inr (inl (back ∙ h.0, λ n. h.1 (f c.0 ∙ n))) | inr h ↦ inr (inr (fore ∙ h.0, back ∙ h.1)) ]
      ],
    )

pub compatible-like : {S T : Type 0} (ps : List (Component S)) (qs : List (Component T)) → AllZip HaveSameKinds ps qs → Compatible ps → Compatible qs
compatible-like ps qs z k = λ i j p q a apart e f.
    let x = zip-to HaveSameKinds ps qs i p z e in
    let y = zip-to HaveSameKinds ps qs j q z f in
    let both = k i j x.0 y.0 a apart x.1 y.1 in
    (λ internal. sym (y.2 a) ∙ both.0 (x.2 a ∙ internal), λ out other. both.1 (x.2 a ∙ out) (y.2 a ∙ other))

pub first-like : {S T : Type 0} (ps : List (Component S)) (qs : List (Component T)) (i j : ℕ) (x : Name) → AllZip HaveSameKinds ps qs → AreFirstToClash ps i j x → AreFirstToClash qs i j x
first-like ps qs i j x z h =
    let f = zip-at HaveSameKinds ps qs i h.first z h.here in
    let s = zip-at HaveSameKinds ps qs j h.second z h.there in
    record {
      later = h.later;
      first = f.0;
      second = s.0;
      here = f.1;
      there = s.1;
      clash = clashing-like x h.first h.second f.0 s.0 f.2 s.2 h.clash;
      none_before = λ k l p q y before e g c.
          let a = zip-to HaveSameKinds ps qs k p z e in
          let b = zip-to HaveSameKinds ps qs l q z g in
          h.none_before k l a.0 b.0 y before a.1 b.1 (clashing-like y p q a.0 b.0 (λ act. sym (a.2 act)) (λ act. sym (b.2 act)) c);
    }

pub between : {S : Type 0} (x : Name) (p q r s : Component S) → r ≡ p → s ≡ q → AreClashing x p q → AreClashing x r s
between x p q r s e f c = subst (λ u. AreClashing x u s) (sym e) (subst (λ u. AreClashing x p u) (sym f) c)
