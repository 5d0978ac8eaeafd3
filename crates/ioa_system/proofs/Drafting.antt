-- The participants' drafts, one by one.
use Rattle.std.proofs.Common.{◌≡◌, ◌≢◌, ℕ, zero, suc, ◌+◌, ◌<◌, ◌≤◌, List, [], ◌∷◌, ◌++◌, length, get_or, take, drop, map, set, All, Some, refl, sym, ◌∙◌, ap, ap₂, subst, arith}
use Rattle.std.specs.Prelude.{slice_get, nat_eq, false}
use Rattle.std.specs.List.{AllByRecursion, IsDistinct}
use Rattle.std.proofs.lemmas.Bool.{eqb-false}
use Rattle.std.proofs.lemmas.List.{get_or-set_other, drop_all, get_or_default, take_all}
use Rattle.std.proofs.lemmas.List.Elements.{All-head, All-tail, All-drop}
use Rattle.std.proofs.lemmas.Map.Keys.{IsDistinct-head, IsDistinct-tail}
use Rattle.std.proofs.lemmas.Option.{slice_get-get_or}
use Rattle.ioa_value.proofs.ItemLemmas.{drop_item, image_at}
use Rattle.ioa_parts.specs.Nodes.{Node}
use Rattle.ioa_node.specs.Drafts.{Fits, Marked, with_draft}
use Rattle.ioa_system.specs.declared.participation.Participant.{Participant}
use Rattle.ioa_system.specs.Drafted.{AllFit, AreDrafts, ArePlaces, drafted}
use Rattle.ioa_system.specs.Found.{IsLent, lent_types, member_of, numbers_of, state_of}
use Rattle.ioa_system.specs.Participants.{taken, put_back}
use Rattle.ioa_system.specs.Systems.{Slots, types_of, slots_of}
use Rattle.ioa_system.proofs.Readying.{taken_map}

-- ---- one more draft

drafted_suc : (ns : List Node) (qs : List Participant) (ds : List Marked) (k : ℕ) (q : Participant) (d : Marked) → k < length qs → q ≡ get_or qs k q → k < length ds → d ≡ get_or ds k d
    → drafted ns (take (suc k) qs) ds ≡ drafted ns (take k qs) ds ++ with_draft d (state_of ns q) ∷ []
drafted_suc ns [] ds k q d l e m f = absurd (omega arith)
drafted_suc ns (p ∷ qs) [] k q d l e m f = absurd (omega arith)
drafted_suc ns (p ∷ qs) (c ∷ ds) zero q d l e m f = ap₂ (λ (x : Marked) (y : Participant). with_draft x (state_of ns y) ∷ []) (sym f) (sym e)
drafted_suc ns (p ∷ qs) (c ∷ ds) (suc k) q d l e m f = ap (λ ts. with_draft c (state_of ns p) ∷ ts) (drafted_suc ns qs ds k q d (omega arith) e (omega arith) f)

pub drafted_more : (ns : List Node) (qs : List Participant) (ds : List Marked) (k : ℕ) (q : Participant) (d : Marked) → k < length qs → q ≡ get_or qs k q → k < length ds → d ≡ get_or ds k d
    → drafted ns (take (k + 1) qs) ds ≡ drafted ns (take k qs) ds ++ with_draft d (state_of ns q) ∷ []
drafted_more ns qs ds k q d l e m f =
    let s : k + 1 ≡ suc k = omega arith in
    ap (λ j. drafted ns (take j qs) ds) s ∙ drafted_suc ns qs ds k q d l e m f

-- a draft that comes later makes no difference
pub drafted_later : (ns : List Node) (qs : List Participant) (ds : List Marked) (k : ℕ) (d : Marked) → drafted ns (take k qs) (set ds k d) ≡ drafted ns (take k qs) ds
drafted_later ns qs ds zero d = refl
drafted_later ns [] ds (suc k) d = refl
drafted_later ns (q ∷ qs) [] (suc k) d = refl
drafted_later ns (q ∷ qs) (c ∷ ds) (suc k) d = ap (λ ts. with_draft c (state_of ns q) ∷ ts) (drafted_later ns qs ds k d)

pub drafted_whole : (ns : List Node) (qs : List Participant) (ds : List Marked) (k : ℕ) → length qs ≤ k → drafted ns (take k qs) ds ≡ drafted ns qs ds
drafted_whole ns qs ds k l = ap (λ ps. drafted ns ps ds) (take_all k qs l)

-- ---- drafts that fit

fit_suc : (ns : List Node) (qs : List Participant) (ds : List Marked) (k : ℕ) (q : Participant) (d : Marked) → k < length qs → q ≡ get_or qs k q → k < length ds
    → AllFit ns (take k qs) ds → Fits d (state_of ns q) → AllFit ns (take (suc k) qs) (set ds k d)
fit_suc ns [] ds k q d l e m a f = absurd (omega arith)
fit_suc ns (p ∷ qs) [] k q d l e m a f = absurd (omega arith)
fit_suc ns (p ∷ qs) (c ∷ ds) zero q d l e m a f = (subst (λ (y : Participant). Fits d (state_of ns y)) e f, tt)
fit_suc ns (p ∷ qs) (c ∷ ds) (suc k) q d l e m a f = (a.0, fit_suc ns qs ds k q d (omega arith) e (omega arith) a.1 f)

-- those of the participants before k do, and the next one does
pub fit_more : (ns : List Node) (qs : List Participant) (ds : List Marked) (k : ℕ) (q : Participant) (d : Marked) → k < length qs → q ≡ get_or qs k q → k < length ds
    → AllFit ns (take k qs) ds → Fits d (state_of ns q) → AllFit ns (take (k + 1) qs) (set ds k d)
fit_more ns qs ds k q d l e m a f =
    let s : k + 1 ≡ suc k = omega arith in
    subst (λ j. AllFit ns (take j qs) (set ds k d)) (sym s) (fit_suc ns qs ds k q d l e m a f)

-- the one at k does
pub fit_at : (ns : List Node) (qs : List Participant) (ds : List Marked) (k : ℕ) (q : Participant) (d : Marked) → k < length qs → q ≡ get_or qs k q → k < length ds → d ≡ get_or ds k d
    → AllFit ns qs ds → Fits d (state_of ns q)
fit_at ns [] ds k q d l e m f h = absurd (omega arith)
fit_at ns (p ∷ qs) [] k q d l e m f h = absurd (omega arith)
fit_at ns (p ∷ qs) (c ∷ ds) zero q d l e m f h =
    subst (λ (x : Marked). Fits x (state_of ns q)) (sym f) (subst (λ (y : Participant). Fits c (state_of ns y)) (sym e) h.0)
fit_at ns (p ∷ qs) (c ∷ ds) (suc k) q d l e m f h = fit_at ns qs ds k q d (omega arith) e (omega arith) f h.1

-- ---- the drafted states' types

pub drafted_types : (ns : List Node) (qs : List Participant) (ds : List Marked) → length qs ≤ length ds → types_of (drafted ns qs ds) ≡ map (λ (q : Participant). slots_of (state_of ns q)) qs
drafted_types ns [] ds l = refl
drafted_types ns (q ∷ qs) [] l = absurd (omega arith)
drafted_types ns (q ∷ qs) (d ∷ ds) l = ap (λ (ts : List Slots). slots_of (state_of ns q) ∷ ts) (drafted_types ns qs ds (omega arith))

-- the states at hand are of the participants' types
lent_are : (ns : List Node) (qs : List Participant) → All (IsLent ns) qs → map (λ (q : Participant). slots_of (state_of ns q)) qs ≡ lent_types qs
lent_are ns [] h = refl
lent_are ns (q ∷ qs) h = ap₂ (λ (t : Slots) (ts : List Slots). t ∷ ts) (All-head (IsLent ns) q qs h).1 (lent_are ns qs (All-tail (IsLent ns) q qs h))

pub drafted_lent : (ns : List Node) (qs : List Participant) (ds : List Marked) → All (IsLent ns) qs → length qs ≤ length ds → types_of (drafted ns qs ds) ≡ lent_types qs
drafted_lent ns qs ds h l = drafted_types ns qs ds l ∙ lent_are ns qs h

pub state_got : (qs : List Participant) (ns : List Node) → ArePlaces qs ns → All (λ q. slice_get ns q.component ≡ Some (state_of ns q)) qs
state_got qs ns p = λ k d l.
    let q : Participant = get_or qs k d in
    slice_get-get_or ns q.component (member_of q).start (p.within k d l) ∙ ap (λ (j : ℕ). Some (get_or ns j (member_of q).start)) (sym (p.places k d l))

pub drafted_taken : (ns : List Node) (qs : List Participant) (ds : List Marked) → ArePlaces qs ns → length qs ≤ length ds → types_of (drafted ns qs ds) ≡ taken (numbers_of qs) (types_of ns)
drafted_taken ns qs ds p l =
    drafted_types ns qs ds l
    ∙ sym (taken_map (λ (q : Participant). slots_of (state_of ns q)) (types_of ns) qs
    (λ k d m. let q : Participant = get_or qs k d in image_at slots_of ns q.component (state_of ns q) (state_got qs ns p k d m)))

-- ---- drafts that are put in place one by one

-- a state that changes is no later participant's
drafted_apart : (ns : List Node) (n : ℕ) (new : Node) (qs : List Participant) (ds : List Marked) → AllByRecursion (λ m. nat_eq n m ≡ false) (numbers_of qs) → All (λ q. q.place ≡ q.component) qs
    → drafted (set ns n new) qs ds ≡ drafted ns qs ds
drafted_apart ns n new [] ds h p = refl
drafted_apart ns n new (q ∷ qs) [] h p = refl
drafted_apart ns n new (q ∷ qs) (d ∷ ds) h p =
    let c : q.place ≡ q.component = All-head (λ (r : Participant). r.place ≡ r.component) q qs p in
    let o : q.place ≢ n = λ e. eqb-false n q.component h.0 (sym e ∙ c) in
    let s : state_of (set ns n new) q ≡ state_of ns q = get_or-set_other ns n q.place new (member_of q).start o in
    ap₂ (λ (x : Node) (ts : List Node). with_draft d x ∷ ts) s (drafted_apart ns n new qs ds h.1 (All-tail (λ (r : Participant). r.place ≡ r.component) q qs p))

fit_apart : (ns : List Node) (n : ℕ) (new : Node) (qs : List Participant) (ds : List Marked) → AllByRecursion (λ m. nat_eq n m ≡ false) (numbers_of qs) → All (λ q. q.place ≡ q.component) qs
    → AllFit ns qs ds → AllFit (set ns n new) qs ds
fit_apart ns n new [] ds h p a = tt
fit_apart ns n new (q ∷ qs) [] h p a = tt
fit_apart ns n new (q ∷ qs) (d ∷ ds) h p a =
    let c : q.place ≡ q.component = All-head (λ (r : Participant). r.place ≡ r.component) q qs p in
    let o : q.place ≢ n = λ e. eqb-false n q.component h.0 (sym e ∙ c) in
    let s : state_of (set ns n new) q ≡ state_of ns q = get_or-set_other ns n q.place new (member_of q).start o in
    (subst (Fits d) (sym s) a.0, fit_apart ns n new qs ds h.1 (All-tail (λ (r : Participant). r.place ≡ r.component) q qs p) a.1)

-- where the drafts before k are put in place
pub record Installs (first : List Node) (ds : List Marked) (qs : List Participant) (k : ℕ) (ns : List Node) : Type 0 where
  pub result : put_back (numbers_of (drop k qs)) (drafted ns (drop k qs) (drop k ds)) ns ≡ put_back (numbers_of qs) (drafted first qs ds) first
  pub fit : AllFit ns (drop k qs) (drop k ds)
  pub distinct : IsDistinct nat_eq (numbers_of (drop k qs))

pub installs_begin : (ns : List Node) (qs : List Participant) (ds : List Marked) → ArePlaces qs ns → AreDrafts ns qs ds → Installs ns ds qs 0 ns
installs_begin ns qs ds p h = record { result = refl; fit = h.fit; distinct = p.distinct }

module _ (first : List Node) (ds : List Marked) (qs : List Participant) (k : ℕ) (ns : List Node) (q : Participant) (d : Marked) (x₀ : Node)
    (s : Installs first ds qs k ns) (p : ArePlaces qs first) (h : AreDrafts first qs ds) (states : length ns ≡ length first) (l : k < length qs) (e : q ≡ get_or qs k q) (f : d ≡ get_or ds k d) where
  abbrev x : Node
  x = get_or ns q.component x₀

  m : k < length ds
  m = omega (arith, h.count)

  w : q.component < length ns
  w = let v : q.component < length first = subst (λ (r : Participant). r.component < length first) (sym e) (p.within k q l) in omega arith

  later : drop k qs ≡ q ∷ drop (k + 1) qs
  later = drop_item qs k q l e

  drafts_later : drop k ds ≡ d ∷ drop (k + 1) ds
  drafts_later = drop_item ds k d m f

  place_is : q.place ≡ q.component
  place_is = subst (λ (r : Participant). r.place ≡ r.component) (sym e) (p.places k q l)

  -- the state that the code changes is the participant's
  state_here : x ≡ state_of ns q
  state_here = get_or_default ns q.component x₀ (member_of q).start w ∙ ap (λ j. get_or ns j (member_of q).start) (sym place_is)

  all_here : drafted ns (drop k qs) (drop k ds) ≡ with_draft d x ∷ drafted ns (drop (k + 1) qs) (drop (k + 1) ds)
  all_here = ap₂ (drafted ns) later drafts_later ∙ ap (λ (y : Node). with_draft d y ∷ drafted ns (drop (k + 1) qs) (drop (k + 1) ds)) (sym state_here)

  fit_here : AllFit ns (q ∷ drop (k + 1) qs) (d ∷ drop (k + 1) ds)
  fit_here = subst (λ ps. AllFit ns ps (d ∷ drop (k + 1) ds)) later (subst (AllFit ns (drop k qs)) drafts_later s.fit)

  pub fit_next : Fits d x
  fit_next = subst (Fits d) (sym state_here) fit_here.0

  distinct_here : IsDistinct nat_eq (q.component ∷ numbers_of (drop (k + 1) qs))
  distinct_here = subst (λ ps. IsDistinct nat_eq (numbers_of ps)) later s.distinct

  others : AllByRecursion (λ m. nat_eq q.component m ≡ false) (numbers_of (drop (k + 1) qs))
  others = IsDistinct-head nat_eq q.component (numbers_of (drop (k + 1) qs)) distinct_here

  their_places : All (λ (r : Participant). r.place ≡ r.component) (drop (k + 1) qs)
  their_places = All-drop (λ (r : Participant). r.place ≡ r.component) (k + 1) qs p.places

  apart : drafted (set ns q.component (with_draft d x)) (drop (k + 1) qs) (drop (k + 1) ds) ≡ drafted ns (drop (k + 1) qs) (drop (k + 1) ds)
  apart = drafted_apart ns q.component (with_draft d x) (drop (k + 1) qs) (drop (k + 1) ds) others their_places

  pub installs_next : Installs first ds qs (k + 1) (set ns q.component (with_draft d x))
  installs_next = record {
    result =
        ap (λ ts. put_back (numbers_of (drop (k + 1) qs)) ts (set ns q.component (with_draft d x))) apart
        ∙ sym (ap₂ (λ (ps : List Participant) (ts : List Node). put_back (numbers_of ps) ts ns) later all_here)
        ∙ s.result;
    fit = fit_apart ns q.component (with_draft d x) (drop (k + 1) qs) (drop (k + 1) ds) others their_places fit_here.1;
    distinct = IsDistinct-tail nat_eq q.component (numbers_of (drop (k + 1) qs)) distinct_here;
  }

pub installs_end : (first : List Node) (ds : List Marked) (qs : List Participant) (k : ℕ) (ns : List Node) → Installs first ds qs k ns → length qs ≤ k
    → ns ≡ put_back (numbers_of qs) (drafted first qs ds) first
installs_end first ds qs k ns s l =
    let e : drop k qs ≡ [] = drop_all k qs l in
    sym (ap (λ ps. put_back (numbers_of ps) (drafted ns ps (drop k ds)) ns) e) ∙ s.result
