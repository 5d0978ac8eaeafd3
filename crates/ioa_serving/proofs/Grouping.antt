-- What groups are once two of them have become one.
use Rattle.std.proofs.Common.{◌≡◌, ◌+◌, ◌++◌, ◌<◌, ◌≤◌, ◌∙◌, ℕ, Bool, IsTrue, List, [], ◌∷◌, ap, arith, drop, length, map, refl, subst, sym, take, ⊎_elim}
use Rattle.std.specs.Prelude.{slice_index}
use Rattle.std.specs.List.{range_with_len}
use Rattle.std.proofs.lemmas.Bool.{cases_eq}
use Rattle.std.proofs.lemmas.List.{append-nil, drop_all, get_or-map, length-map, map-id, take_all}
use Rattle.std.proofs.lemmas.List.FromFn.{get_or-range_with_len, length-range_with_len, map-range_with_len_more}
use Rattle.ioa_serving.specs.Grouping.{AreGroups, AreLinked, AreTogether, HasJoined, IsCommon, Keeps, merged}

-- two workers are of one group, once one has gone into another: they were of one, or one of them of each of the two
data Were (from to a b : ℕ) : Type 0 where
  alike : a ≡ b → Were from to a b
  crossed : a ≡ from → b ≡ to → Were from to a b
  back : a ≡ to → b ≡ from → Were from to a b

taken : (from to g : ℕ) → g ≡ from → merged from to g ≡ to
taken from to g e = grind (arith, e)

left : (from to g : ℕ) → (g ≡ from → ⊥) → merged from to g ≡ g
left from to g e = grind (arith, e)

were : (from to a b : ℕ) → merged from to a ≡ merged from to b → Were from to a b
were from to a b h =
    ⊎_elim (λ e. ⊎_elim (λ f. alike (e ∙ sym f)) (λ n. crossed e (sym (left from to b n) ∙ sym h ∙ taken from to a e)) (cases_eq b from))
    (λ m. ⊎_elim (λ f. back (sym (left from to a m) ∙ h ∙ taken from to b f) f) (λ n. alike (sym (left from to a m) ∙ h ∙ left from to b n)) (cases_eq b from))
    (cases_eq a from)

-- the groups, once that of w has gone into that of v
abbrev joined : List ℕ → ℕ → ℕ → List ℕ
joined gs v w = map (merged (slice_index gs w) (slice_index gs v)) gs

group_joined : (gs : List ℕ) (v w x : ℕ) → x < length gs → slice_index (joined gs v w) x ≡ merged (slice_index gs w) (slice_index gs v) (slice_index gs x)
group_joined gs v w x within = get_or-map (merged (slice_index gs w) (slice_index gs v)) gs x 0 0 within

pub keeps_joined : (gs : List ℕ) (v w : ℕ) → Keeps gs (joined gs v w)
keeps_joined gs v w x y here there same =
    group_joined gs v w x here ∙ ap (merged (slice_index gs w) (slice_index gs v)) same ∙ sym (group_joined gs v w y there)

pub together_joined : (gs : List ℕ) (v w : ℕ) → v < length gs → w < length gs → AreTogether (joined gs v w) v w
together_joined gs v w here there =
    let to = slice_index gs v in
    let from = slice_index gs w in
    let stays : merged from to to ≡ to = ⊎_elim (taken from to to) (left from to to) (cases_eq to from) in
    group_joined gs v w v here ∙ stays ∙ sym (taken from to from refl) ∙ sym (group_joined gs v w w there)

pub linked_joined : (link : ℕ → ℕ → Bool) (count : ℕ) (gs : List ℕ) (v w : ℕ) → v < count → w < count → IsTrue (link v w) → AreLinked link count gs → AreLinked link count (joined gs v w)
linked_joined link count gs v w here there l k = record { each = length-map gs (merged from to) ∙ k.each; only = only }
  where
    from : ℕ
    from = slice_index gs w

    to : ℕ
    to = slice_index gs v

    only : (h : ℕ → ℕ) → IsCommon link count h → (x y : ℕ) → x < count → y < count → AreTogether (joined gs v w) x y → h x ≡ h y
    only h c x y p q same =
        elim (were from to (slice_index gs x) (slice_index gs y)
        (sym (group_joined gs v w x (subst (λ n. x < n) (sym k.each) p)) ∙ same ∙ group_joined gs v w y (subst (λ n. y < n) (sym k.each) q))) [
          | alike e ↦ k.only h c x y p q e
          | crossed e f ↦ k.only h c x w p there e ∙ sym (c v w here there l) ∙ sym (k.only h c y v q here f)
          | back e f ↦ k.only h c x v p here e ∙ c v w here there l ∙ sym (k.only h c y w q there f)
        ]

-- at first each worker is a group of its own
pub linked_apart : (link : ℕ → ℕ → Bool) (count : ℕ) → AreLinked link count (range_with_len 0 count)
linked_apart link count = record {
  each = length-range_with_len 0 count;
  only = λ h c v w p q same.
      let e : 0 + v ≡ 0 + w = sym (get_or-range_with_len 0 count v 0 p) ∙ same ∙ get_or-range_with_len 0 count w 0 q in
      let f : v ≡ w = omega (arith, e) in
      ap h f;
}

pub keeps_self : (gs : List ℕ) → Keeps gs gs
keeps_self gs v w p q same = same

pub keeps_more : (gs hs is : List ℕ) → length hs ≡ length gs → Keeps gs hs → Keeps hs is → Keeps gs is
keeps_more gs hs is e k l v w p q same = l v w (subst (λ n. v < n) (sym e) p) (subst (λ n. w < n) (sym e) q) (k v w p q same)

-- who has joined stays so
pub has_joined : (link : ℕ → ℕ → Bool) (gs hs : List ℕ) (v end : ℕ) → v < length gs → end ≤ length gs → Keeps gs hs → HasJoined link gs v end → HasJoined link hs v end
has_joined link gs hs v end here within k j w p l = k v w here (omega (arith, p, within)) (j w p l)

-- and one worker more has
pub joined_more : (link : ℕ → ℕ → Bool) (gs hs : List ℕ) (v end : ℕ) → v < length gs → end < length gs → Keeps gs hs → HasJoined link gs v end
    → (IsTrue (link v end) → AreTogether hs v end) → HasJoined link hs v (end + 1)
joined_more link gs hs v end here within k j last w p l =
    ⊎_elim (λ e. subst (λ x. AreTogether hs v x) (sym e) (last (subst (λ x. IsTrue (link v x)) e l)))
    (λ n. has_joined link gs hs v end here (omega (arith, within)) k j w (omega (arith, p, n)) l)
    (cases_eq w end)

-- one worker more
pub range_more : (n : ℕ) → range_with_len 0 (n + 1) ≡ range_with_len 0 n ++ n ∷ []
range_more n =
    sym (map-id (range_with_len 0 (n + 1))) ∙ map-range_with_len_more (λ (x : ℕ). x) 0 n n (omega arith) ∙ ap (λ l. l ++ n ∷ []) (map-id (range_with_len 0 n))

pub linked_self : (link : ℕ → ℕ → Bool) (count : ℕ) (gs : List ℕ) → AreLinked link count gs → AreLinked link (length gs) gs
linked_self link count gs k = subst (λ n. AreLinked link n gs) (sym k.each) k

-- what stands once those of the first workers have joined
pub record HaveJoined (link : ℕ → ℕ → Bool) (count before : ℕ) (gs : List ℕ) : Type 0 where
  pub linked : AreLinked link count gs
  pub joined : (v : ℕ) → v < before → HasJoined link gs v count

pub none_joined : (link : ℕ → ℕ → Bool) (count : ℕ) → HaveJoined link count 0 (range_with_len 0 count)
none_joined link count = record { linked = linked_apart link count; joined = λ v p. absurd (omega (arith, p)) }

pub one_joined : (link : ℕ → ℕ → Bool) (count v : ℕ) (gs hs : List ℕ) → v < count → HaveJoined link count v gs → AreLinked link (length gs) hs → Keeps gs hs
    → HasJoined link hs v (length gs) → HaveJoined link count (v + 1) hs
one_joined link count v gs hs here k l keeps j = record { linked = subst (λ n. AreLinked link n hs) k.linked.each l; joined = joined }
  where
    joined : (w : ℕ) → w < v + 1 → HasJoined link hs w count
    joined w p =
        ⊎_elim (λ e. subst (λ x. HasJoined link hs x count) (sym e) (subst (HasJoined link hs v) k.linked.each j))
        (λ n. has_joined link gs hs w count (omega (arith, p, here, k.linked.each)) (omega (arith, k.linked.each)) keeps (k.joined w (omega (arith, p, n))))
        (cases_eq w v)

pub all_joined : (link : ℕ → ℕ → Bool) (count v : ℕ) (gs : List ℕ) → count ≤ v → HaveJoined link count v gs → AreGroups link count gs
all_joined link count v gs all k = record { linked = k.linked; together = λ w p. k.joined w (omega (arith, p, all)) }

-- a slice of all that is written back
pub written : (xs ys : List ℕ) (n : ℕ) → n ≡ length xs → length ys ≡ length xs → take n (ys ++ drop (length ys) xs) ≡ ys
written xs ys n e f =
    ap (λ l. take n (ys ++ l)) (drop_all (length ys) xs (omega (arith, f))) ∙ ap (take n) (append-nil ys) ∙ take_all n ys (omega (arith, e, f))
