-- A running program's states.
use Rattle.std.proofs.Common.{◌≡◌, ℕ, ◌<◌, List, [], ◌∷◌, ◌++◌, length, drop, take, map, All, refl, sym, ◌∙◌, ap, subst}
use Rattle.std.proofs.lemmas.List.{length-map}
use Rattle.std.proofs.lemmas.List.Elements.{All-head, All-tail, All-cons}
use Rattle.ioa_value.specs.Actions.{Act}
use Rattle.ioa_value.specs.Plain.{Val}
use Rattle.ioa_parts.specs.Nodes.{Node}
use Rattle.ioa_node.specs.Drafts.{Marked}
use Rattle.ioa_tree.specs.Steps.{Moved, next, step}
use Rattle.ioa_compile.specs.Programs.{MemberCode, Prog}
use Rattle.ioa_compile.specs.Tables.{tabled}
use Rattle.ioa_system.specs.declared.participation.Participant.{Participant}
use Rattle.ioa_system.specs.declared.outcomes.Step.{Step}
use Rattle.ioa_system.specs.Outcomes.{KeepsUnlessNext, step_of}
use Rattle.ioa_system.specs.Drafted.{AreDrafts, ArePlaces, drafted}
use Rattle.ioa_system.specs.Found.{components_of, numbers_of, AreParticipants, lent}
use Rattle.ioa_system.specs.Participants.{put_back, renumbered, all_back}
use Rattle.ioa_system.specs.Systems.{Running, types_of, values_of, slot_types, slots_of}
use Rattle.ioa_system.proofs.Participating.{put_back-taken, map_put_back, step_taken, written_anew}
use Rattle.ioa_system.proofs.Finding.{no_item, numbers_distinct}
use Rattle.ioa_system.proofs.Readying.{lent_all, same_length, within_all}
use Rattle.ioa_system.proofs.Drafting.{drafted_taken}

start_map : {X : Type 0} (f : Node → X) (ms : List MemberCode) → map f (map (λ (m : MemberCode). m.start) ms) ≡ map (λ (m : MemberCode). f m.start) ms
start_map f [] = refl
start_map f (m ∷ ms) = let e : map f (map (λ (k : MemberCode). k.start) ms) ≡ map (λ (k : MemberCode). f k.start) ms = start_map f ms in rw e refl

pub start_types : (ms : List MemberCode) (ns : List Node) → ns ≡ map (λ (m : MemberCode). m.start) ms → types_of ns ≡ slot_types ms
start_types ms ns e = ap types_of e ∙ start_map slots_of ms

pub start_values : (ms : List MemberCode) (ns : List Node) → ns ≡ map (λ (m : MemberCode). m.start) ms → values_of ns ≡ map (λ (m : MemberCode). m.start.values) ms
start_values ms ns e = ap values_of e ∙ start_map (λ (n : Node). n.values) ms

abbrev pub running : Prog → List (List Val) → Running
running p ss = record { program = p; states = ss }

-- the participants that are found for an action of this program, and the states of its components
pub record Runs (p : Prog) (a : Act) (ns : List Node) (qs : List Participant) : Type 0 where
  pub found : AreParticipants a p.members qs
  pub types : types_of ns ≡ slot_types p.members

-- the step's answer, where the participants' new states are put back
pub step_put : (p : Prog) (a : Act) (ns : List Node) (qs : List Participant) (m : Moved (List Val)) → Runs p a ns qs
    → m ≡ renumbered (numbers_of qs) (step (components_of qs) a (lent ns qs)) → all_back (numbers_of qs) (values_of ns) m ≡ step (tabled p) a (values_of ns)
step_put p a ns qs m r e =
    let f : AreParticipants a p.members qs = r.found in
    let l : length (values_of ns) ≡ length (tabled p) =
    length-map ns (λ (n : Node). n.values) ∙ same_length p.members ns r.types ∙ sym (length-map p.members _) in
    let s = step_taken (tabled p) a (values_of ns) l in
    rw (e, f.numbers, f.components, lent_all a p.members ns qs f r.types) (sym s)

pub values_put : (ns : List ℕ) (changed before after : List Node) → after ≡ put_back ns changed before → next (values_of after) ≡ all_back ns (values_of before) (next (values_of changed))
values_put ns changed before after e = ap (λ (xs : List (List Val)). next xs) (ap values_of e ∙ map_put_back (λ (n : Node). n.values) ns changed before)

numbers_within : (qs : List Participant) (n : ℕ) → All (λ q. q.component < n) qs → All (λ m. m < n) (numbers_of qs)
numbers_within [] n h = no_item (λ m. m < n)
numbers_within (q ∷ qs) n h =
    All-cons (λ m. m < n) q.component (numbers_of qs) (All-head (λ (p : Participant). p.component < n) q qs h) (numbers_within qs n (All-tail (λ (p : Participant). p.component < n) q qs h))

-- the participants that are found among all components, and their states
pub places_found : (p : Prog) (a : Act) (ns : List Node) (qs : List Participant) → Runs p a ns qs → ArePlaces qs ns
places_found p a ns qs r = record {
  within = within_all a p.members ns qs r.found r.types;
  places = r.found.places;
  distinct = numbers_distinct a p.members qs r.found;
}

pub types_put : (qs : List Participant) (ds : List Marked) (before after : List Node) → ArePlaces qs before → AreDrafts before qs ds
    → after ≡ put_back (numbers_of qs) (drafted before qs ds) before → types_of after ≡ types_of before
types_put qs ds before after p h e =
    let v : All (λ n. n < length (types_of before)) (numbers_of qs) = subst (λ j. All (λ n. n < j) (numbers_of qs)) (sym (length-map before slots_of)) (numbers_within qs (length before) p.within) in
    ap types_of e ∙ map_put_back slots_of (numbers_of qs) (drafted before qs ds) before ∙ rw (drafted_taken before qs ds p h.count) (put_back-taken (numbers_of qs) (types_of before) v)

pub kept_values : (s : Step) (before after : List Node) → KeepsUnlessNext s before after → KeepsUnlessNext s (values_of before) (values_of after)
kept_values Step.Next before after k = tt
kept_values Step.NotAnAction before after k = ap values_of k
kept_values Step.NotEnabled before after k = ap values_of k
kept_values (Step.Fault c f) before after k = ap values_of k

-- ---- a step of all components

-- what stands after the participants' answer is settled
pub record Settled (p : Prog) (a : Act) (before after : List Node) (s : Step) : Type 0 where
  pub answer : step_of s (values_of after) ≡ step (tabled p) a (values_of before)
  pub types : types_of after ≡ slot_types p.members
  pub kept : KeepsUnlessNext s (values_of before) (values_of after)
  pub count : length after ≡ length before

pub settled : (p : Prog) (a : Act) (before after : List Node) (qs : List Participant) (m : Moved (List Val)) (s : Step) → Runs p a before qs
    → m ≡ renumbered (numbers_of qs) (step (components_of qs) a (lent before qs))
    → step_of s (values_of after) ≡ all_back (numbers_of qs) (values_of before) m → KeepsUnlessNext s before after
    → types_of after ≡ types_of before → Settled p a before after s
settled p a before after qs m s r e b k types = record {
  answer = b ∙ step_put p a before qs m r e;
  types = types ∙ r.types;
  kept = kept_values s before after k;
  count = sym (length-map after slots_of) ∙ ap length types ∙ length-map before slots_of;
}

-- the states of all components, of which a loan is given back with states of the same types
pub lent_whole : (n : ℕ) (before lent after : List Node) → lent ≡ before → types_of after ≡ types_of lent → n ≡ length before → take n (after ++ drop (length after) before) ≡ after
lent_whole n before lent after e types l =
    written_anew n after before (sym (length-map after slots_of) ∙ ap length types ∙ length-map lent slots_of ∙ ap length e) l
