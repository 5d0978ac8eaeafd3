-- A text is read in at most one way.
use Rattle.std.proofs.Common.{◌≡◌, ℕ, List, [], ◌∷◌, ◌++◌, refl, sym, ap₂, subst, ◌∙◌}
use Rattle.ioa_value.specs.Plain.{Val}
use Rattle.ioa_value.specs.Table.{Table, AreTypes}
use Rattle.ioa_value.specs.Actions.{Act}
use Rattle.ioa_value.specs.Reads.{ReadsValues, ReadsArguments, Reads}
use Rattle.ioa_value.specs.Tokens.{after_first}
use Rattle.ioa_value.proofs.ReadLemmas.{ReadsMore, begins, same_value, apart}
use Rattle.ioa_value.proofs.ActionLemmas.{named}

module _ (types : Table) (declared : AreTypes types) where
  more_once : (text : List ℕ) (vs ws : List Val) → ReadsMore types text vs → ReadsMore types text ws → vs ≡ ws
  more_once text [] [] m n = refl
  more_once text [] (w ∷ ws) m n = absurd (apart _ _ (sym m.0.2 ∙ n.0.4))
  more_once text (v ∷ vs) [] m n = absurd (apart _ _ (sym n.0.2 ∙ m.0.4))
  more_once text (v ∷ vs) (w ∷ ws) m n =
      let x = m.0.0 ++ m.0.1 in
      let e : 44 ∷ x ≡ 44 ∷ (n.0.0 ++ n.0.1) = sym m.0.4 ∙ n.0.4 in
      let k : x ≡ n.0.0 ++ n.0.1 = cc in
      let b = begins types declared x v vs ((m.0.0, m.0.1, m.0.2, m.0.3, refl), m.1) in
      let d = begins types declared x w ws ((n.0.0, n.0.1, n.0.2, n.0.3, k), n.1) in
      let s = same_value types declared x v w b.rest ws b.value d in
      ap₂ (λ y ys. y ∷ ys) s.0 (more_once b.rest vs ws b.more (subst (λ r. ReadsMore types r ws) (sym s.1) d.more))

  pub values_once : (text : List ℕ) (vs ws : List Val) → ReadsValues types text vs → ReadsValues types text ws → vs ≡ ws
  values_once text [] ws r s = absurd r
  values_once text (v ∷ vs) [] r s = absurd s
  values_once text (v ∷ vs) (w ∷ ws) r t =
      let b = begins types declared text v vs r in
      let d = begins types declared text w ws t in
      let s = same_value types declared text v w b.rest ws b.value d in
      ap₂ (λ y ys. y ∷ ys) s.0 (more_once b.rest vs ws b.more (subst (λ r. ReadsMore types r ws) (sym s.1) d.more))

  arguments_once : (text : List ℕ) (vs ws : List Val) → ReadsArguments types text vs → ReadsArguments types text ws → vs ≡ ws
  arguments_once text [] [] r s = refl
  arguments_once text [] (w ∷ ws) r s = let e : [] ≡ 40 ∷ s.0 = sym r ∙ s.2 in absurd (cc)
  arguments_once text (v ∷ vs) [] r s = let e : [] ≡ 40 ∷ r.0 = sym s ∙ r.2 in absurd (cc)
  arguments_once text (v ∷ vs) (w ∷ ws) r s =
      let e : 40 ∷ s.0 ≡ 40 ∷ r.0 = sym s.2 ∙ r.2 in
      let k : s.0 ≡ r.0 = cc in
      values_once r.0 (v ∷ vs) (w ∷ ws) r.1 (subst (λ x. ReadsValues types x (w ∷ ws)) k s.1)

  pub reads_once : (text : List ℕ) (a b : Act) → Reads types text a → Reads types text b → a ≡ b
  reads_once text a b r s =
      let m = named types text a r in
      let n = named types text b s in
      let e = sym m.name ∙ n.name in
      let f = arguments_once (after_first text) a.vals b.vals m.arguments n.arguments in
      ap₂ (λ x y. record { name = x; vals = y }) e f
