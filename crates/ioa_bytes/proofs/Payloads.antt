-- Values of a type are read alike by readers that go deep enough.
use Rattle.std.proofs.Common.{◌≡◌, ℕ, zero, suc, ◌<◌, List, [], ◌∷◌, ◌++◌, Option, Some, None, All, Ok, Err, refl, ap, ◌∙◌, arith}
use Rattle.std.proofs.lemmas.List.Elements.{All-head, All-tail}
use Rattle.ioa_value.specs.Plain.{Val, tuple, items, vals}
use Rattle.ioa_value.specs.Table.{Table, AreTypes, Shape, truths, numbers, names, fields, sequence, shape_at, types_of}
use Rattle.ioa_value.proofs.TableLemmas.{stands}
use Rattle.ioa_bytes.specs.Spots.{Spot}
use Rattle.ioa_bytes.specs.Items.{Outcome, Reader, ◌>>=◌, built, items_at, list_at, parts_at, payload_shaped, payload_in, count_at}

then_alike : {A B : Type 0} (o : Outcome A) (f g : A × Spot → Outcome B) → ((x : A) (d : Spot) → f (x, d) ≡ g (x, d)) → (o >>= f) ≡ (o >>= g)
then_alike (Ok x) f g h = h x.0 x.1
then_alike (Err e) f g h = refl

items_alike : {A : Type 0} (f g : List A → Reader A) → ((before : List A) (c : Spot) → f before c ≡ g before c) → (before : List A) (n : ℕ) (c : Spot)
    → items_at f before n c ≡ items_at g before n c
unfolding items_at
items_alike f g h before zero c = refl
items_alike f g h before (suc n) c =
    ap (λ o. o >>= λ x. items_at f (before ++ x.0 ∷ []) n x.1) (h before c)
    ∙ then_alike (g before c) _ _ (λ x d. items_alike f g h (before ++ x ∷ []) n d)

list_alike : {A : Type 0} (least most : ℕ) (f g : List A → Reader A) → ((before : List A) (c : Spot) → f before c ≡ g before c) → (c : Spot)
    → list_at least most f c ≡ list_at least most g c
unfolding list_at
list_alike least most f g h c = then_alike (count_at least most c) _ _ (λ n d. items_alike f g h [] n d)

parts_alike : (f g : ℕ → Reader Val) (P : ℕ → Type 0) → ((t : ℕ) → P t → (c : Spot) → f t c ≡ g t c) → (before : List Val) (tys : List ℕ) → All P tys → (c : Spot)
    → parts_at f before tys c ≡ parts_at g before tys c
unfolding parts_at
parts_alike f g P h before [] all c = refl
parts_alike f g P h before (t ∷ ts) all c =
    ap (λ o. o >>= λ v. parts_at f (before ++ v.0 ∷ []) ts v.1) (h t (All-head P t ts all) c)
    ∙ then_alike (g t c) _ _ (λ v d. parts_alike f g P h (before ++ v ∷ []) ts (All-tail P t ts all) d)

module _ (types : Table) (declared : AreTypes types) where
  -- enough levels give one value
  pub enough : (n m t : ℕ) → t < n → t < m → (c : Spot) → payload_in n types t c ≡ payload_in m types t c
  unfolding payload_in
  enough zero m t a b c = absurd (omega arith)
  enough (suc n) zero t a b c = absurd (omega arith)
  enough (suc n) (suc m) t a b c = go (shape_at types t) refl (λ k. enough n m k)
    where
      go : (o : Option Shape) → shape_at types t ≡ o → ((k : ℕ) → k < n → k < m → (c : Spot) → payload_in n types k c ≡ payload_in m types k c)
          → payload_shaped (λ k. payload_in n types k) t o c ≡ payload_shaped (λ k. payload_in m types k) t o c
      go None at ih = refl
      go (Some truths) at ih = refl
      go (Some numbers) at ih = refl
      go (Some (names ns)) at ih = refl
      go (Some (fields fs)) at ih =
          ap (built (λ vs. tuple t (vals vs))) (parts_alike _ _ (λ k. k < t) (λ k less. ih k (omega arith) (omega arith)) [] (types_of fs) (stands types t (fields fs) declared at).2 c)
      go (Some (sequence most of)) at ih =
          let before = (stands types t (sequence most of) declared at).2 in
          ap (built (λ vs. items t (vals vs))) (list_alike 0 most _ _ (λ _. ih of (omega arith) (omega arith)) c)
