-- The search for a stack, and what it finds once another stack is added.
use Rattle.std.proofs.Common.{◌≡◌, ◌≢◌, ℕ, zero, suc, ◌+◌, ◌/◌, ◌%◌, ◌==◌, ◌<◌, ◌≤◌, ⊎_elim, Bool, true, false, if◌then◌else◌, List, [], ◌∷◌, ◌++◌, length, Some, Err, refl, sym, ap, ◌∙◌, subst, arith}
use Rattle.std.specs.Prelude.{slice_get, reverse}
use Rattle.std.proofs.lemmas.Bool.{cases_lt}
use Rattle.std.proofs.lemmas.List.{length-append, append_assoc, reverse-reverse}
use Rattle.ioa_code.specs.declared.links.Links.{Links}
use Rattle.ioa_code.specs.declared.stacks.Depth.{Depth}
use Rattle.ioa_code.specs.declared.links.Link.{Link}
use Rattle.ioa_code.specs.declared.links.Link.TheVariants.{Children, Left, Right}
use Rattle.ioa_code.specs.Links.{owner, linked, leads, Hangs, turned, bits_from, searched}
use Rattle.std.proofs.lemmas.Option.{slice_get_within}
use Rattle.ioa_value.proofs.ItemLemmas.{get_last}
use Rattle.ioa_code.proofs.Lists.{get_before}
use Rattle.ioa_code.specs.Stacks.{Numbering, node_at, Spells, IsStack, IsNumber, LiesBeneath, IsDepth, Deepens, Reaches, Searched, IsNumbered}
use Rattle.ioa_code.proofs.Nodes.{node_within, node_old, node_new, node_either, split_top}

-- ---- the search

-- where the search is, and the bits by which it turns next
pub record Looks (s : Numbering) (key : ℕ × ℕ) (link : Link) (bits : ℕ) : Type 0 where
  pub reaches : Reaches s key link
  pub next : bits ≡ bits_from reaches.turns key.1
  pub within : owner link < length s.links

owner_turned : (k bits : ℕ) → owner (turned k bits) ≡ k
owner_turned k bits = go (bits % 2 == 0)
  where
    go : (b : Bool) → owner (if b then Left k else Right k) ≡ k
    go true = refl
    go false = refl

pub looks_first : (s : Numbering) (key : ℕ × ℕ) → IsNumbered s → IsNumber s key.0 → Looks s key (Children key.0) key.1
looks_first s key n le = record {
  reaches = record { turns = 0; comes = refl; past = λ d lt. absurd (omega arith); others = λ d lt. absurd (omega arith) };
  next = refl;
  within = let long = n.long in omega arith;
}

pub looks_next : (s : Numbering) (key : ℕ × ℕ) (link : Link) (bits k : ℕ) → IsNumbered s → Looks s key link bits → k ≡ leads s.links link → k ≢ 0 → node_at s.nodes k ≢ Some key → Looks s key (turned k bits) (bits / 2)
looks_next s key link bits k n l e ne other = record {
  reaches = record {
    turns = suc l.reaches.turns;
    comes = ap (λ x. turned x (bits_from l.reaches.turns key.1)) here ∙ ap (turned k) (sym l.next);
    past = λ d lt z. ⊎_elim (λ less. l.reaches.past d less z) (λ ge. ne (sym (there d lt ge) ∙ z)) (cases_lt d l.reaches.turns);
    others = λ d lt z. ⊎_elim (λ less. l.reaches.others d less z) (λ ge. other (ap (node_at s.nodes) (sym (there d lt ge)) ∙ z)) (cases_lt d l.reaches.turns);
  };
  next = ap (λ b. b / 2) l.next;
  within =
      let later = n.later link (λ z. ne (e ∙ z)) in
      let long = n.long in
      let owner = owner_turned k bits in
      omega arith;
}
  where
    here : leads s.links (searched s.links key l.reaches.turns) ≡ k
    here = ap (leads s.links) l.reaches.comes ∙ sym e

    there : (d : ℕ) → d < suc l.reaches.turns → l.reaches.turns ≤ d → leads s.links (searched s.links key d) ≡ k
    there d lt ge =
        let at : d ≡ l.reaches.turns = omega arith in ap (λ i. leads s.links (searched s.links key i)) at ∙ here

-- the search for one stack finds one number
pub one_found : (s : Numbering) → IsNumbered s → (j k : ℕ) (key : ℕ × ℕ) → node_at s.nodes j ≡ Some key → node_at s.nodes k ≡ Some key → j ≡ k
one_found s n j k key a b =
    let x = n.each key j a in
    let y = n.each key k b in
    ⊎_elim
    (λ less. absurd (passed j x.0 y.0 a x.1 x.2 y.1 less))
    (λ ge. ⊎_elim
    (λ more. absurd (passed k y.0 x.0 b y.1 y.2 x.1 more))
    (λ le.
    let same : x.1.turns ≡ y.1.turns = omega arith in
    let link : x.0 ≡ y.0 = sym x.1.comes ∙ ap (searched s.links key) same ∙ y.1.comes in
    sym x.2 ∙ ap (leads s.links) link ∙ y.2)
    (cases_lt y.1.turns x.1.turns))
    (cases_lt x.1.turns y.1.turns)
  where
    passed : (i : ℕ) (f g : Link) → node_at s.nodes i ≡ Some key → (u : Reaches s key f) → leads s.links f ≡ i → (v : Reaches s key g) → u.turns < v.turns → ⊥
    passed i f g c u e v lt =
        v.others u.turns lt (ap (λ l. node_at s.nodes (leads s.links l)) u.comes ∙ ap (node_at s.nodes) e ∙ c)

-- ---- a stack more

-- no link leads anywhere
abbrev pub none : Links
none = record { children = 0; left = 0; right = 0 }

linked_more : (links : List Links) (k : ℕ) (by : Links → ℕ) → by none ≡ 0 → linked (slice_get (links ++ none ∷ []) k) by ≡ linked (slice_get links k) by
linked_more [] zero by e = e
linked_more [] (suc k) by e = refl
linked_more (l ∷ ls) zero by e = refl
linked_more (l ∷ ls) (suc k) by e = linked_more ls k by e

pub leads_more : (links : List Links) (link : Link) → leads (links ++ none ∷ []) link ≡ leads links link
leads_more links (Children k) = linked_more links k (λ l. l.children) refl
leads_more links (Left k) = linked_more links k (λ l. l.left) refl
leads_more links (Right k) = linked_more links k (λ l. l.right) refl

pub hung : (old mid new : List Links) (link : Link) (k : ℕ) → mid ≡ old ++ none ∷ [] → Hangs mid new link k → Hangs (old ++ none ∷ []) new link k
hung old mid new link k e h = subst (λ l. Hangs l new link k) e h

-- where the search for a stack ended, a new one hangs
module _ (old new : Numbering) (key : ℕ × ℕ) (k : ℕ) (link : Link) (h : IsNumbered old) (number : IsNumber old key.0) (ended : Searched old key (Err link)) (more : new.nodes ≡ old.nodes ++ key ∷ []) (last : k ≡ length new.nodes) (hangs : Hangs (old.links ++ none ∷ []) new.links link k) (depth : Depth) (deepens : Deepens old key.0 depth) (deeper : new.depths ≡ old.depths ++ depth ∷ []) where
  longer : length new.nodes ≡ length old.nodes + 1
  longer = ap length more ∙ length-append old.nodes (key ∷ [])

  leads_kept : (l : Link) → leads old.links l ≢ 0 → leads new.links l ≡ leads old.links l
  leads_kept l ne = ⊎_elim
      (λ e. absurd (ne (ap (leads old.links) e ∙ ended.2)))
      (λ e. e ∙ leads_more old.links l)
      (hangs.others l)

  searched_kept : (q : ℕ × ℕ) (d : ℕ) → ((e : ℕ) → e < d → leads old.links (searched old.links q e) ≢ 0) → searched new.links q d ≡ searched old.links q d
  searched_kept q zero past = refl
  searched_kept q (suc d) past =
      ap (λ n. turned n (bits_from d q.1))
      (ap (leads new.links) (searched_kept q d (λ e lt. past e (omega arith))) ∙ leads_kept (searched old.links q d) (past d (omega arith)))

  reaches_kept : (q : ℕ × ℕ) (l : Link) → Reaches old q l → Reaches new q l
  reaches_kept q l r = record {
    turns = r.turns;
    comes = searched_kept q r.turns r.past ∙ r.comes;
    past = λ d lt e. r.past d lt (sym (same d lt) ∙ e);
    others = λ d lt e. ⊎_elim
        (r.others d lt)
        (λ y.
        let within = (h.later (searched old.links q d) (r.past d lt)).1 in
        let long = longer in
        absurd (omega arith))
        (node_either old.nodes new.nodes key more (leads old.links (searched old.links q d)) q (subst (λ n. node_at new.nodes n ≡ Some q) (same d lt) e));
  }
    where
      same : (d : ℕ) → d < r.turns → leads new.links (searched new.links q d) ≡ leads old.links (searched old.links q d)
      same d lt =
          ap (leads new.links) (searched_kept q d (λ e less. r.past e (omega arith))) ∙ leads_kept (searched old.links q d) (r.past d lt)

  later : (l : Link) → leads new.links l ≢ 0 → (owner l < leads new.links l) × IsNumber new (leads new.links l)
  later l ne = ⊎_elim
      (λ e.
      let to : leads new.links l ≡ k = ap (leads new.links) e ∙ hangs.here in
      let mine : owner l ≡ owner link = ap owner e in
      let within = ended.1 in
      let long = h.long in
      let grown = longer in
      (omega arith, omega arith))
      (λ e.
      let to : leads new.links l ≡ leads old.links l = e ∙ leads_more old.links l in
      let was = h.later l (λ x. ne (to ∙ x)) in
      let grown = longer in
      (omega arith, omega arith))
      (hangs.others l)

  -- stacks that were there have the types that they had
  spells_old : (j : ℕ) (ts : List ℕ) → Spells new.nodes j ts → j ≤ length old.nodes → Spells old.nodes j ts
  spells_old j [] x le = x
  spells_old j (t ∷ ts) x le =
      ⊎_elim
      (λ y. let lt = h.earlier (x.0, t) j y in (x.0, y, spells_old x.0 ts x.2 (omega arith)))
      (λ y. let e = y.1 in let c = longer in absurd (omega arith))
      (node_either old.nodes new.nodes key more j (x.0, t) x.1)

  stack_old : (j : ℕ) (ts : List ℕ) → IsStack new.nodes j ts → j ≤ length old.nodes → IsStack old.nodes j ts
  stack_old j ts x le = spells_old j (reverse ts) x le

  spells_new : (j : ℕ) (ts : List ℕ) → Spells old.nodes j ts → Spells new.nodes j ts
  spells_new j [] x = x
  spells_new j (t ∷ ts) x = (x.0, node_old old.nodes new.nodes key more j (x.0, t) x.1, spells_new x.0 ts x.2)

  beneath_kept : (i j : ℕ) → j ≤ length old.nodes → LiesBeneath old.nodes i j → LiesBeneath new.nodes i j
  beneath_kept i j le f ts x = let y = f ts (stack_old j ts x le) in (y.0, spells_new i (reverse y.0) y.1, y.2)

  old_depth : (j : ℕ) (d : Depth) → j ≤ length old.nodes → IsDepth old.nodes j d → IsDepth new.nodes j d
  old_depth j d le x = record {
    height = λ ts y. x.height ts (stack_old j ts y le);
    low = x.low;
    earlier = x.earlier;
    beneath = beneath_kept d.under j le x.beneath;
  }

  -- the stack below the new one, with its types
  below_new : (j : ℕ) (ts : List ℕ) → j ≡ length new.nodes → IsStack new.nodes j ts → (us : List ℕ) × (ts ≡ us ++ key.1 ∷ []) × IsStack old.nodes key.0 us
  below_new j ts at x =
      let y = split_top new.nodes j key ts x (node_new old.nodes new.nodes key j more at) in
      (y.0, y.1, stack_old key.0 y.0 y.2 number)

  new_depth : (j : ℕ) → j ≡ length new.nodes → IsDepth new.nodes j depth
  new_depth j at = record {
    height = λ ts x.
        let y = below_new j ts at x in
        let h = deepens.height y.0 y.2 in
        h ∙ sym (ap length y.1 ∙ length-append y.0 (key.1 ∷ []));
    low = let l = deepens.low in let n = number in let c = longer in omega arith;
    earlier = let l = deepens.earlier in let n = number in let c = longer in omega arith;
    beneath = λ ts x.
        let y = below_new j ts at x in
        let z = deepens.beneath y.0 y.2 in
        (z.0, spells_new depth.under (reverse z.0) z.1, (z.2.0 ++ key.1 ∷ [], y.1 ∙ ap (λ l. l ++ key.1 ∷ []) z.2.1 ∙ append_assoc z.0 z.2.0 (key.1 ∷ [])));
  }

  depths_are : (j : ℕ) (d : Depth) → slice_get new.depths j ≡ Some d → IsDepth new.nodes j d
  depths_are j d e =
      let e' = subst (λ l. slice_get l j ≡ Some d) deeper e in
      let lt = slice_get_within (old.depths ++ depth ∷ []) j d e' in
      let len = length-append old.depths (depth ∷ []) in
      let tall = h.tall in
      let c = longer in
      ⊎_elim
      (λ (less : j < length old.depths). old_depth j d (omega arith) (h.depths j d (get_before old.depths (depth ∷ []) j less ∙ e')))
      (λ (ge : length old.depths ≤ j).
      let place : j ≡ length old.depths = omega arith in
      let last = subst (λ m. slice_get (old.depths ++ depth ∷ []) m ≡ Some d) place e' in
      let get = get_last old.depths depth in
      let same : depth ≡ d = cc in
      subst (IsDepth new.nodes j) same (new_depth j (omega arith)))
      (cases_lt j (length old.depths))

  pub grown : IsNumbered new
  grown = record {
    long = let a = hangs.long in let b = h.long in let c = longer in omega (arith, length-append old.links (none ∷ []));
    tall = let a = h.tall in let c = longer in omega (arith, ap length deeper, length-append old.depths (depth ∷ []));
    depths = depths_are;
    earlier = λ q j x. ⊎_elim
        (λ y. h.earlier q j y)
        (λ y. let below : q.0 ≡ key.0 = ap (λ p. p.0) y.0 in let c = longer in omega arith)
        (node_either old.nodes new.nodes key more j q x);
    later = later;
    each = λ q j x. ⊎_elim
        (λ y.
        let was = h.each q j y in
        let within = node_within old.nodes j q y in
        let some : leads old.links was.0 ≢ 0 = λ z. let e = was.2 in absurd (omega arith) in
        (was.0, reaches_kept q was.0 was.1, leads_kept was.0 some ∙ was.2))
        (λ y. (link, subst (λ p. Reaches new p link) (sym y.0) (reaches_kept key link ended.0), hangs.here ∙ last ∙ sym y.1))
        (node_either old.nodes new.nodes key more j q x);
  }

-- ---- no stack but the empty one

no_node : (nodes : List (ℕ × ℕ)) (k : ℕ) (key : ℕ × ℕ) → nodes ≡ [] → node_at nodes k ≡ Some key → ⊥
no_node nodes zero key e h = absurd (cc)
no_node nodes (suc k) key e h = let x = subst (λ l. slice_get l k ≡ Some key) e h in absurd (cc)

no_link : (links : List Links) (link : Link) → links ≡ none ∷ [] → leads links link ≡ 0
no_link links link e = ap (λ l. leads l link) e ∙ go link
  where
    go : (l : Link) → leads (none ∷ []) l ≡ 0
    go (Children zero) = refl
    go (Children (suc k)) = refl
    go (Left zero) = refl
    go (Left (suc k)) = refl
    go (Right zero) = refl
    go (Right (suc k)) = refl

-- how deep the empty stack is
abbrev pub at_bottom : Depth
at_bottom = record { height = 0; under = 0 }

pub empty_numbered : (s : Numbering) → s.nodes ≡ [] → s.links ≡ none ∷ [] → s.depths ≡ at_bottom ∷ [] → IsNumbered s
empty_numbered s a b c = record {
  long = omega (arith, ap length a, ap length b);
  earlier = λ key k h. absurd (no_node s.nodes k key a h);
  later = λ link ne. absurd (ne (no_link s.links link b));
  each = λ key k h. absurd (no_node s.nodes k key a h);
  tall = omega (arith, ap length a, ap length c);
  depths = λ k d e. depths k d (subst (λ l. slice_get l k ≡ Some d) c e);
}
  where
    no_types : (ts : List ℕ) → IsStack s.nodes 0 ts → ts ≡ []
    no_types ts x = go (reverse ts) refl x
      where
        go : (rs : List ℕ) → reverse ts ≡ rs → Spells s.nodes 0 rs → ts ≡ []
        go [] e y = sym (reverse-reverse ts) ∙ ap reverse e
        go (t ∷ rs) e y = absurd (no_node s.nodes 0 (y.0, t) a y.1)

    bottom : IsDepth s.nodes 0 at_bottom
    bottom = record {
      height = λ ts x. sym (ap length (no_types ts x));
      low = omega arith;
      earlier = omega arith;
      beneath = λ ts x. ([], refl, (ts, refl));
    }

    depths : (k : ℕ) (d : Depth) → slice_get (at_bottom ∷ []) k ≡ Some d → IsDepth s.nodes k d
    depths zero d e = let same : at_bottom ≡ d = cc in subst (IsDepth s.nodes 0) same bottom
    depths (suc k) d e = absurd (cc)
