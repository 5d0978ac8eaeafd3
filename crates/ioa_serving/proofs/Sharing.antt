-- Workers that take part in one action are linked, so they are of one group.
use Rattle.std.proofs.Common.{◌≡◌, ◌+◌, ◌<◌, ◌≤◌, ◌∙◌, ℕ, zero, suc, Bool, true, List, [], ◌∷◌, Option, None, Some, ap, arith, length, refl, subst, sym}
use Rattle.std.specs.Prelude.{slice_get}
use Rattle.std.specs.List.{list_any}
use Rattle.std.specs.Option.{option_map}
use Rattle.std.specs.Str.{bytes_eq}
use Rattle.std.proofs.lemmas.Bool.{and_from, and_parts, or_left, or_right}
use Rattle.std.proofs.lemmas.Slice.Eq.{bytes_eq-Decides}
use Rattle.ioa_value.specs.Actions.{Act}
use Rattle.ioa_value.specs.Positions.{all_meet, all_take}
use Rattle.ioa_value.specs.Table.{Table}
use Rattle.ioa_value.proofs.ItemLemmas.{find_at}
use Rattle.ioa_value.proofs.PositionLemmas.{all_take-meet}
use Rattle.ioa_tree.specs.Components.{has, is_kind}
use Rattle.ioa_compile.specs.Programs.{EntryCode, MemberCode, Prog}
use Rattle.ioa_compile.specs.Tables.{AreMembers, IsProgram, entry_of, is_in, table_component}
use Rattle.ioa_serving.specs.Grouping.{AreGroups, AreTogether}
use Rattle.ioa_serving.specs.Links.{IsPart, ShareGroups, are_linked, are_linked_by, has_of, have_common, share, takes_part}

any_of : {X : Type 0} (q : X → Bool) (xs : List X) (i : ℕ) (x : X) → slice_get xs i ≡ Some x → q x ≡ true → list_any q xs ≡ true
any_of q [] i x e h = absurd (cc)
any_of q (y ∷ ys) zero x e h = let same : y ≡ x = cc in or_left (q y) (list_any q ys) (ap q same ∙ h)
any_of q (y ∷ ys) (suc i) x e h = or_right (q y) (list_any q ys) (any_of q ys i x e h)

types_at : (types : Table) (ms : List MemberCode) (i : ℕ) (m : MemberCode) → AreMembers types ms → slice_get ms i ≡ Some m → m.start.table ≡ types
types_at types [] i m h e = absurd (cc)
types_at types (x ∷ ms) zero m h e = let q : x ≡ m = cc in subst (λ (y : MemberCode). y.start.table ≡ types) q h.0.types_are
types_at types (x ∷ ms) (suc i) m h e = types_at types ms i m h.1 e

-- an entry of the component has the action
record Has (types : Table) (m : MemberCode) (a : Act) : Type 0 where
  entry : EntryCode
  place : ℕ
  here : slice_get m.entries place ≡ Some entry
  is : is_in types a entry ≡ true

entry_has : (types : Table) (m : MemberCode) (a : Act) → m.start.table ≡ types → has a (table_component m) ≡ true → Has types m a
entry_has types m a of h = go (entry_of m a) refl h
  where
    go : (o : Option EntryCode) → entry_of m a ≡ o → is_kind (option_map (λ (e : EntryCode). e.kind) o) ≡ true → Has types m a
    go None f g = absurd (cc)
    go (Some e) f g =
        let at = find_at (is_in m.start.table a) m.entries e f in
        record { entry = e; place = at.0; here = at.1; is = subst (λ ts. is_in ts a e ≡ true) of at.2 }

both_share : (types : Table) (a : Act) (e f : EntryCode) → is_in types a e ≡ true → is_in types a f ≡ true → share types e f ≡ true
both_share types a e f h g =
    let mine = and_parts (bytes_eq e.name a.name) (all_take types e.positions a.vals) h in
    let theirs = and_parts (bytes_eq f.name a.name) (all_take types f.positions a.vals) g in
    and_from (bytes_eq e.name f.name) (all_meet types e.positions f.positions)
    ((bytes_eq-Decides e.name f.name).1 ((bytes_eq-Decides e.name a.name).0 mine.0 ∙ sym ((bytes_eq-Decides f.name a.name).0 theirs.0)))
    (all_take-meet types e.positions f.positions a.vals mine.1 theirs.1)

both_have : (types : Table) (a : Act) (m n : MemberCode) → Has types m a → Has types n a → have_common types m n ≡ true
both_have types a m n h g =
    any_of (has_of types n) m.entries h.place h.entry h.here (any_of (share types h.entry) n.entries g.place g.entry g.here (both_share types a h.entry g.entry h.is g.is))

acted_on : (types : Table) (inputs : List Act) (a : Act) (n : MemberCode) (i : ℕ) → slice_get inputs i ≡ Some a → Has types n a → list_any (takes_part types n) inputs ≡ true
acted_on types inputs a n i e g = any_of (takes_part types n) inputs i a e (any_of (is_in types a) n.entries g.place g.entry g.here g.is)

-- where there is none, the number is past the last
past : {X : Type 0} (xs : List X) (i : ℕ) → slice_get xs i ≡ None → length xs ≤ i
past [] i e = omega arith
past (x ∷ xs) zero e = absurd (cc)
past (x ∷ xs) (suc i) e = let l = past xs i e in omega (arith, l)

module _ (p : Prog) (sound : IsProgram p) (inputs : List Act) (gs : List ℕ) (made : AreGroups (are_linked p inputs) (length p.members + 1) gs) where
  linked : (v w : ℕ) → v < length p.members + 1 → w < length p.members + 1 → (o r : Option MemberCode) → slice_get p.members v ≡ o → slice_get p.members w ≡ r
      → are_linked_by p.types inputs o r ≡ true → AreTogether gs v w
  linked v w here there o r e f l =
      made.together v here w there (subst (λ x. are_linked_by p.types inputs x (slice_get p.members w) ≡ true) (sym e) (subst (λ y. are_linked_by p.types inputs o y ≡ true) (sym f) l))

  parts : (a : Act) (v w : ℕ) → v < length p.members + 1 → w < length p.members + 1 → (o r : Option MemberCode) → slice_get p.members v ≡ o → slice_get p.members w ≡ r
      → IsPart inputs a o → IsPart inputs a r → AreTogether gs v w
  parts a v w here there (Some m) (Some n) e f h g =
      linked v w here there (Some m) (Some n) e f
      (both_have p.types a m n (entry_has p.types m a (types_at p.types p.members v m sound.members e) h) (entry_has p.types n a (types_at p.types p.members w n sound.members f) g))
  parts a v w here there None (Some n) e f h g =
      linked v w here there None (Some n) e f (acted_on p.types inputs a n h.0 h.1 (entry_has p.types n a (types_at p.types p.members w n sound.members f) g))
  parts a v w here there (Some m) None e f h g =
      sym (linked w v there here None (Some m) f e (acted_on p.types inputs a m g.0 g.1 (entry_has p.types m a (types_at p.types p.members v m sound.members e) h)))
  parts a v w here there None None e f h g =
      let v_past = past p.members v e in
      let w_past = past p.members w f in
      let same : v ≡ w = omega (arith, v_past, w_past, here, there) in
      subst (λ x. AreTogether gs v x) same refl

  pub share_groups : ShareGroups p inputs gs
  share_groups a v w here there h g =
      parts a v w (subst (λ n. v < n) made.linked.each here) (subst (λ n. w < n) made.linked.each there) (slice_get p.members v) (slice_get p.members w) refl refl h g
