-- The step of participants, one by one.
use Rattle.std.proofs.Common.{◌≡◌, ℕ, ◌+◌, ◌<◌, ◌≤◌, List, [], ◌∷◌, ◌++◌, length, get_or, take, drop, set, Bool, true, false, Some, Result, Ok, Err, IfOk, refl, sym, ◌∙◌, ap, subst, arith}
use Rattle.std.specs.Prelude.{slice_index}
use Rattle.std.specs.List.{list_any}
use Rattle.std.proofs.lemmas.List.{append-nil, drop_all, get_or_default, get_or-set_same, length-map, length-set, map-append, take_all}
use Rattle.ioa_value.proofs.ItemLemmas.{drop_item}
use Rattle.ioa_arithmetic.specs.declared.arithmetic.Fault.{Fault}
use Rattle.ioa_value.specs.Actions.{Act}
use Rattle.ioa_value.specs.Plain.{Val}
use Rattle.ioa_node.specs.Drafts.{Fits, Marked, with_draft}
use Rattle.ioa_parts.specs.Nodes.{Node}
use Rattle.ioa_tree.specs.Components.{has, owns, is_local}
use Rattle.ioa_tree.specs.Steps.{Moved, next, fault, Asked, free, owned, asked, with_state, then_rest, effects, allowed, step}
use Rattle.ioa_compile.specs.Shown.{entry_code}
use Rattle.ioa_compile.specs.Tables.{AreEntries, entry_of}
use Rattle.ioa_system.specs.declared.outcomes.Step.{Step}
use Rattle.ioa_system.specs.declared.participation.Participant.{Participant}
use Rattle.ioa_system.specs.declared.steps.Consent.{Consent}
use Rattle.ioa_system.specs.Outcomes.{step_of}
use Rattle.ioa_system.specs.Drafted.{AllFit, AreDrafts, drafted}
use Rattle.ioa_system.specs.Found.{member_of, component_of, components_of, consented, numbers_of, state_of, lent, IsLent, AreReady}
use Rattle.ioa_system.specs.Participants.{renumbered}
use Rattle.ioa_system.specs.Systems.{values_of}
use Rattle.ioa_system.proofs.Participating.{asked_renumbered, put_before, put_before_more, put_before_none}
use Rattle.ioa_system.proofs.Finding.{has_found, owns_found, read_map}
use Rattle.ioa_system.proofs.Drafting.{drafted_more, drafted_later, drafted_whole, fit_more}

-- a participant at its turn
pub record AtTurn (a : Act) (ns : List Node) (qs : List Participant) (k : ℕ) (q : Participant) : Type 0 where
  pub rest : drop k qs ≡ q ∷ drop (k + 1) qs
  pub number : slice_index (numbers_of qs) k ≡ q.component
  pub has : has a (component_of q) ≡ true
  pub owns : owns a (component_of q) ≡ is_local (Some (entry_code q.entry.now).kind)
  pub entry : entry_of (member_of q) a ≡ Some (entry_code q.entry.now)
  pub sound : AreEntries (member_of q) (member_of q).entries
  pub lent : IsLent ns q

pub at_turn : (a : Act) (ns : List Node) (qs : List Participant) (k : ℕ) (q : Participant) → AreReady a ns qs → k < length qs → q ≡ get_or qs k q → AtTurn a ns qs k q
at_turn a ns qs k q r l e =
    let numbers : List ℕ = numbers_of qs in
    let b : k < length numbers = omega (arith, length-map qs (λ (p : Participant). p.component)) in
    let f : entry_of (member_of q) a ≡ Some (entry_code q.entry.now) = subst (λ p. entry_of (member_of p) a ≡ Some (entry_code p.entry.now)) (sym e) (r.entries k q l) in
    record {
      rest = drop_item qs k q l e;
      number = get_or_default numbers k 0 q.component b ∙ sym (read_map (λ (p : Participant). p.component) qs k q q e);
      has = has_found (member_of q) a (entry_code q.entry.now) f;
      owns = owns_found (member_of q) a (entry_code q.entry.now) f;
      entry = f;
      sound = subst (λ p. AreEntries (member_of p) (member_of p).entries) (sym e) (r.sound k q l);
      lent = subst (IsLent ns) (sym e) (r.states k q l);
    }

-- the state that the code reads
pub state_is : (ns : List Node) (q : Participant) (n : Node) → IsLent ns q → n ≡ get_or ns q.place n → n ≡ state_of ns q
state_is ns q n l e = e ∙ get_or_default ns q.place n (member_of q).start l.0

-- ---- the owner's precondition

abbrev pub asks_from : Act → List Node → List Participant → ℕ → Asked
asks_from a ns qs k = asked k (components_of (drop k qs)) a (lent ns (drop k qs))

pub asks_here : (a : Act) (ns : List Node) (qs : List Participant) (k : ℕ) (q : Participant) → AtTurn a ns qs k q → is_local (Some (entry_code q.entry.now).kind) ≡ true
    → asks_from a ns qs k ≡ owned k ((component_of q).guard a (state_of ns q).values)
asks_here a ns qs k q t h = let o : owns a (component_of q) ≡ true = t.owns ∙ h in rw (t.rest, o) refl

pub asks_other : (a : Act) (ns : List Node) (qs : List Participant) (k : ℕ) (q : Participant) → AtTurn a ns qs k q → is_local (Some (entry_code q.entry.now).kind) ≡ false
    → asks_from a ns qs (k + 1) ≡ asks_from a ns qs k
asks_other a ns qs k q t h = let o : owns a (component_of q) ≡ false = t.owns ∙ h in rw (t.rest, o) refl

-- ---- the effects

abbrev pub acts_from : Act → List Node → List Participant → ℕ → Moved (List Val)
acts_from a ns qs k = effects k (components_of (drop k qs)) a (lent ns (drop k qs))

-- what stands where the participants before k have their drafts
pub record ActsOn (a : Act) (ns : List Node) (qs : List Participant) (ds : List Marked) (k : ℕ) : Type 0 where
  pub rest : put_before (values_of (drafted ns (take k qs) ds)) (acts_from a ns qs k) ≡ acts_from a ns qs 0
  pub fit : AllFit ns (take k qs) ds

pub acts_begin : (a : Act) (ns : List Node) (qs : List Participant) (ds : List Marked) → ActsOn a ns qs ds 0
acts_begin a ns qs ds = record { rest = put_before_none (acts_from a ns qs 0); fit = tt }

acts_here : (a : Act) (ns : List Node) (qs : List Participant) (k : ℕ) (q : Participant) → AtTurn a ns qs k q
    → acts_from a ns qs k ≡ then_rest k ((component_of q).effect a (state_of ns q).values) (acts_from a ns qs (k + 1))
acts_here a ns qs k q t = let h : has a (component_of q) ≡ true = t.has in rw (t.rest, h) refl

pub acts_next : (a : Act) (ns : List Node) (qs : List Participant) (ds : List Marked) (k : ℕ) (q : Participant) (d : Marked) → ActsOn a ns qs ds k → AtTurn a ns qs k q
    → k < length qs → q ≡ get_or qs k q → k < length ds
    → Ok (with_draft d (state_of ns q)).values ≡ (component_of q).effect a (state_of ns q).values → Fits d (state_of ns q) → ActsOn a ns qs (set ds k d) (k + 1)
acts_next a ns qs ds k q d s t l g m e fits =
    let more : Moved (List Val) = acts_from a ns qs (k + 1) in
    let after : List Node = drafted ns (take k qs) ds in
    let new : Node = with_draft d (state_of ns q) in
    let r : acts_from a ns qs k ≡ with_state new.values more = acts_here a ns qs k q t ∙ ap (λ (y : Result (List Val) Fault). then_rest k y more) (sym e) in
    let v : values_of (after ++ new ∷ []) ≡ values_of after ++ new.values ∷ [] = map-append (λ (y : Node). y.values) after (new ∷ []) in
    let long : length (set ds k d) ≡ length ds = length-set ds k d in
    let n : drafted ns (take (k + 1) qs) (set ds k d) ≡ after ++ new ∷ [] =
    drafted_more ns qs (set ds k d) k q d l g (omega arith) (sym (get_or-set_same ds k d d m)) ∙ ap (λ ts. ts ++ new ∷ []) (drafted_later ns qs ds k d) in
    record {
      rest = rw (n, v) (sym (put_before_more (values_of after) new.values more) ∙ ap (put_before (values_of after)) (sym r) ∙ s.rest);
      fit = fit_more ns qs ds k q d l g m s.fit fits;
    }

pub acts_fault : (a : Act) (ns : List Node) (qs : List Participant) (ds : List Marked) (k : ℕ) (q : Participant) (f : Fault) → ActsOn a ns qs ds k → AtTurn a ns qs k q
    → Err f ≡ (component_of q).effect a (state_of ns q).values → fault q.component f ≡ renumbered (numbers_of qs) (acts_from a ns qs 0)
acts_fault a ns qs ds k q f s t e =
    let r : acts_from a ns qs k ≡ fault k f = acts_here a ns qs k q t ∙ ap (λ (y : Result (List Val) Fault). then_rest k y (acts_from a ns qs (k + 1))) (sym e) in
    let p : fault k f ≡ acts_from a ns qs 0 = ap (put_before (values_of (drafted ns (take k qs) ds))) (sym r) ∙ s.rest in
    ap (λ j. fault j f) (sym t.number) ∙ ap (renumbered (numbers_of qs)) p

pub acts_end : (a : Act) (ns : List Node) (qs : List Participant) (ds : List Marked) (k : ℕ) → ActsOn a ns qs ds k → length qs ≤ k
    → next (values_of (drafted ns qs ds)) ≡ renumbered (numbers_of qs) (acts_from a ns qs 0)
acts_end a ns qs ds k s l =
    let after : List Node = drafted ns (take k qs) ds in
    let r : acts_from a ns qs k ≡ next [] = rw (drop_all k qs l) refl in
    let p : put_before (values_of after) (next []) ≡ acts_from a ns qs 0 = ap (put_before (values_of after)) (sym r) ∙ s.rest in
    let w : next (values_of after) ≡ acts_from a ns qs 0 = rw append-nil at p in
    ap (λ (ts : List Node). next (values_of ts)) (sym (drafted_whole ns qs ds k l)) ∙ ap (renumbered (numbers_of qs)) w

pub drafts_end : (a : Act) (ns : List Node) (qs : List Participant) (ds : List Marked) (k : ℕ) → ActsOn a ns qs ds k → length qs ≤ k → length qs ≤ length ds → AreDrafts ns qs ds
drafts_end a ns qs ds k s l c = record { count = c; fit = subst (λ ps. AllFit ns ps ds) (take_all k qs l) s.fit }

-- ---- the step

pub some_has : (a : Act) (ns : List Node) (qs : List Participant) → AreReady a ns qs → 0 < length qs → list_any (has a) (components_of qs) ≡ true
some_has a ns [] r l = absurd (omega arith)
some_has a ns (q ∷ qs) r l = let h : has a (component_of q) ≡ true = has_found (member_of q) a (entry_code q.entry.now) (r.entries 0 q l) in rw h refl

renumbered_allowed : (ns : List ℕ) (g : Asked) (m : Moved (List Val)) → renumbered ns (allowed g m) ≡ allowed (asked_renumbered ns g) (renumbered ns m)
renumbered_allowed ns free m = refl
renumbered_allowed ns (owned i (Ok true)) m = refl
renumbered_allowed ns (owned i (Ok false)) m = refl
renumbered_allowed ns (owned i (Err f)) m = refl

pub consent_here : (a : Act) (ns : List Node) (qs : List Participant) (k : ℕ) (q : Participant) (r : Result Bool Fault) (m : Moved (List Val)) → AtTurn a ns qs k q
    → is_local (Some (entry_code q.entry.now).kind) ≡ true → r ≡ (component_of q).guard a (state_of ns q).values → asks_from a ns qs k ≡ asks_from a ns qs 0
    → allowed (owned q.component r) (renumbered (numbers_of qs) m) ≡ renumbered (numbers_of qs) (allowed (asks_from a ns qs 0) m)
consent_here a ns qs k q r m t h g e =
    let o : asks_from a ns qs 0 ≡ owned k r = sym e ∙ asks_here a ns qs k q t h ∙ ap (λ x. owned k x) (sym g) in
    let n : asked_renumbered (numbers_of qs) (owned k r) ≡ owned q.component r = ap (λ j. owned j r) t.number in
    sym (ap (λ x. renumbered (numbers_of qs) (allowed x m)) o ∙ renumbered_allowed (numbers_of qs) (owned k r) m ∙ ap (λ x. allowed x (renumbered (numbers_of qs) m)) n)

pub consent_end : (a : Act) (ns : List Node) (qs : List Participant) (k : ℕ) (m : Moved (List Val)) → length qs ≤ k → asks_from a ns qs k ≡ asks_from a ns qs 0
    → renumbered (numbers_of qs) m ≡ renumbered (numbers_of qs) (allowed (asks_from a ns qs 0) m)
consent_end a ns qs k m l e =
    let f : free ≡ asks_from a ns qs 0 = let d : asks_from a ns qs k ≡ free = rw (drop_all k qs l) refl in sym d ∙ e in
    ap (λ x. renumbered (numbers_of qs) (allowed x m)) f

-- where there is a participant, the owner and the effects answer
pub step_is : (a : Act) (ns : List Node) (qs : List Participant) → AreReady a ns qs → 0 < length qs
    → renumbered (numbers_of qs) (allowed (asks_from a ns qs 0) (acts_from a ns qs 0)) ≡ renumbered (numbers_of qs) (step (components_of qs) a (lent ns qs))
step_is a ns qs r l = let s : list_any (has a) (components_of qs) ≡ true = some_has a ns qs r l in rw s refl

-- what the consent makes of the effects' answer is the step's
abbrev pub Answers : Act → List Node → List Participant → Consent → Type 0
Answers a ns qs r = consented r (renumbered (numbers_of qs) (acts_from a ns qs 0)) ≡ renumbered (numbers_of qs) (step (components_of qs) a (lent ns qs))

pub answers : (a : Act) (ns : List Node) (qs : List Participant) (r : Consent) → AreReady a ns qs → 0 < length qs
    → ((m : Moved (List Val)) → consented r (renumbered (numbers_of qs) m) ≡ renumbered (numbers_of qs) (allowed (asks_from a ns qs 0) m)) → Answers a ns qs r
answers a ns qs r ready l h = h (acts_from a ns qs 0) ∙ step_is a ns qs ready l

pub told : {E : Type 0} (r : Result Step E) (ts : List (List Val)) (x y : Moved (List Val)) → x ≡ y → IfOk r (λ s. step_of s ts ≡ x) → IfOk r (λ s. step_of s ts ≡ y)
told r ts x y e h = subst (λ z. IfOk r (λ s. step_of s ts ≡ z)) e h
