-- What effects take by an action in the states of a program's components, and over a run.
use Rattle.std.proofs.Common.{◌≡◌, ◌+◌, ◌++◌, ◌<◌, ◌≤◌, ◌&&◌, ◌⊎◌, ℕ, All, Bool, true, false, List, [], ◌∷◌, Some, None, ap, ap₂, arith, drop, get_or, if◌then◌else◌, inl, inr, length, map, option_map, refl, set, subst, sym, take, ◌∙◌}
use Rattle.std.specs.Prelude.{slice_get}
use Rattle.std.specs.Option.{option_map_or}
use Rattle.std.proofs.lemmas.List.{append-nil, drop-set-lt, drop_all, drop_more, length-map, map-append, take_all, take_more, take_more_set}
use Rattle.std.proofs.Math.Seq.{map-set_same}
use Rattle.std.proofs.lemmas.List.Elements.{All-cons, All-head, All-nil, All-set, All-tail}
use Rattle.std.proofs.lemmas.Option.{slice_get-map}
use mathlib.Core.Path.{fun_ext}
use Rattle.ioa_arithmetic.specs.declared.arithmetic.Fault.{Fault}
use Rattle.ioa_value.specs.Actions.{Act, act_of}
use Rattle.ioa_value.specs.Plain.{Val, plain}
use Rattle.ioa_value.specs.declared.action.Action.{Action}
use Rattle.ioa_value.specs.declared.value.Value.{Value}
use Rattle.ioa_value.specs.Typing.{HaveTypes}
use Rattle.ioa_value.proofs.ItemLemmas.{drop_item, image_at}
use Rattle.ioa_parts.specs.Nodes.{Node}
use Rattle.ioa_tree.specs.Instances.{environment, state_of}
use Rattle.ioa_tree.specs.Meaning.{Env}
use Rattle.ioa_tree.specs.Steps.{Moved, step}
use Rattle.ioa_tree.specs.View.{variable_of}
use Rattle.ioa_compile.specs.Programs.{MemberCode, Prog}
use Rattle.ioa_compile.specs.Tables.{is_in, tabled}
use Rattle.ioa_system.specs.declared.log.LogEntry.{LogEntry}
use Rattle.ioa_system.specs.declared.outcomes.Step.{Step}
use Rattle.ioa_system.specs.declared.outcomes.Step.TheVariants as answers
use Rattle.ioa_system.specs.Outcomes.{step_of}
use Rattle.ioa_system.specs.Systems.{Slots, slot_types, slots_of, types_of, values_of}
use Rattle.ioa_coverage.specs.declared.effect.Effect.{Effect}
use Rattle.ioa_coverage.specs.Counts.{entered}
use Rattle.ioa_coverage.specs.Effects.{EntryEffect, HasPlaces, MayTake, counts_of, effect_of, environment_in, is_up, is_up_by, taken_at, taken_in_slots}
use Rattle.ioa_coverage.specs.Following.{MayFollowAll, with_marks}
use Rattle.ioa_coverage.specs.Taken.{marks_in, taken_over, then_run}
use Rattle.ioa_coverage.proofs.Marked.{marks_joined}

-- ---- by an action, in states of the components' types

module _ (p : Prog) (e : EntryEffect) (may : MayTake p e) (ns : List Node) (typed : types_of ns ≡ slot_types p.members) where
  its_slots : (n : Node) → slice_get ns e.number ≡ Some n → slots_of n ≡ slots_of e.member.start
  its_slots n at =
      let mine : slice_get (types_of ns) e.number ≡ Some (slots_of n) = image_at slots_of ns e.number n at in
      let its : slice_get (slot_types p.members) e.number ≡ Some (slots_of e.member.start) = image_at (λ (m : MemberCode). slots_of m.start) p.members e.number e.member may.member in
      let same : Some (slots_of n) ≡ Some (slots_of e.member.start) = sym mine ∙ ap (λ (ss : List Slots). slice_get ss e.number) typed ∙ its in
      cc

  pub in_slots : (a : Act) (n : Node) → slice_get ns e.number ≡ Some n → HaveTypes n.table n.values n.types → is_in e.member.start.table a e.code ≡ true
      → MayFollowAll e.instance.types (environment_in e a n.values) e.statements
  in_slots a n at kept has = may.follow a n.values (subst (λ (s : Slots). HaveTypes s.table n.values s.types) (its_slots n at) kept) has

module _ (e : EntryEffect) (a : Act) (ns : List Node) where
  pub no_state : slice_get ns e.number ≡ None → taken_at e a (values_of ns) ≡ []
  no_state at = ap (λ o. option_map_or (taken_in_slots e a) o []) (slice_get-map (λ (n : Node). n.values) ns e.number ∙ ap (option_map (λ (n : Node). n.values)) at)

  pub in_state : (n : Node) → slice_get ns e.number ≡ Some n → taken_at e a (values_of ns) ≡ taken_in_slots e a n.values
  in_state n at = ap (λ o. option_map_or (taken_in_slots e a) o []) (image_at (λ (n : Node). n.values) ns e.number n at)

module _ (e : EntryEffect) (a : Act) (slots : List Val) where
  by_tests : (b c : Bool) → is_in e.member.start.table a e.code ≡ b → is_up e.instance slots ≡ c
      → taken_in_slots e a slots ≡ (if b && c then marks_in e.instance.types 0 e.statements (environment_in e a slots) else [])
  by_tests b c has up = ap₂ (λ (d : Bool) (f : Bool). if d && f then marks_in e.instance.types 0 e.statements (environment_in e a slots) else []) has up

  pub takes : is_in e.member.start.table a e.code ≡ true → is_up e.instance slots ≡ true → taken_in_slots e a slots ≡ marks_in e.instance.types 0 e.statements (environment_in e a slots)
  takes has up = by_tests true true has up

  pub not_its : is_in e.member.start.table a e.code ≡ false → taken_in_slots e a slots ≡ []
  not_its has = by_tests false (is_up e.instance slots) has refl

  pub is_down : is_in e.member.start.table a e.code ≡ true → is_up e.instance slots ≡ false → taken_in_slots e a slots ≡ []
  is_down has up = by_tests true false has up

-- ---- as the program has it

module _ (x : Effect) (slots : List Value) where
  pub up_shown : (b : Bool) → b ≡ is_up_by (slice_get (map plain slots) (length x.automaton.now.variables.items)) → is_up (effect_of x).instance (map plain slots) ≡ b
  up_shown b is = ap (λ (k : ℕ). is_up_by (slice_get (map plain slots) k)) (length-map x.automaton.now.variables.items variable_of) ∙ sym is

  pub scope_shown : (a : Action) (given : List Value) (env : Env) → given ≡ a.vals.items
      → env ≡ environment (effect_of x).instance (effect_of x).entry (map plain given) (state_of (effect_of x).instance.automaton (map plain slots)) → environment_in (effect_of x) (act_of a) (map plain slots) ≡ env
  scope_shown a given env vals is =
      sym (is ∙ ap (λ (us : List Value). environment (effect_of x).instance (effect_of x).entry (map plain us) (state_of (effect_of x).instance.automaton (map plain slots))) vals)

-- counts that are written back are all that there are
pub written_back : (n : ℕ) (new old : List ℕ) → n ≡ length old → length new ≡ length old → take n (new ++ drop (length new) old) ≡ new
written_back n new old long same =
    ap (λ (ns : List ℕ). take n (new ++ ns)) (drop_all (length new) old (omega (arith, same))) ∙ ap (take n) (append-nil new) ∙ take_all n new (omega (arith, long, same))

-- ---- by all effects

-- their counts with what they take
abbrev pub with_taken : (EntryEffect → List ℕ) → List Effect → List (List ℕ)
with_taken T xs = map (λ (x : Effect). with_marks (counts_of x) (T (effect_of x))) xs

pub taken_same : (T R : EntryEffect → List ℕ) (xs : List Effect) → ((e : EntryEffect) → T e ≡ R e) → with_taken T xs ≡ with_taken R xs
taken_same T R xs same = ap (λ (f : EntryEffect → List ℕ). with_taken f xs) (fun_ext same)

-- what follows is counted on
pub taken_more : (T R : EntryEffect → List ℕ) (old new : List Effect) → map effect_of new ≡ map effect_of old → map counts_of new ≡ with_taken T old
    → with_taken R new ≡ with_taken (λ e. T e ++ R e) old
taken_more T R [] [] same counts = refl
taken_more T R [] (y ∷ ys) same counts = absurd (cc)
taken_more T R (x ∷ xs) [] same counts = absurd (cc)
taken_more T R (x ∷ xs) (y ∷ ys) same counts =
    let one : effect_of y ≡ effect_of x = cc in
    let others : map effect_of ys ≡ map effect_of xs = cc in
    let its : counts_of y ≡ with_marks (counts_of x) (T (effect_of x)) = cc in
    let theirs : map counts_of ys ≡ with_taken T xs = cc in
    ap₂ (λ (n : List ℕ) (ns : List (List ℕ)). n ∷ ns)
    (ap₂ (λ (ns : List ℕ) (e : EntryEffect). with_marks ns (R e)) its one ∙ sym (marks_joined (counts_of x) (T (effect_of x)) (R (effect_of x))))
    (taken_more T R xs ys others theirs)

-- what is known of effects stays known while only counts change
module _ (P : EntryEffect → Type 0) where
  pub still : (old new : List Effect) → map effect_of new ≡ map effect_of old → All (λ x. P (effect_of x)) old → All (λ x. P (effect_of x)) new
  still old [] same h = All-nil (λ (x : Effect). P (effect_of x))
  still [] (y ∷ ys) same h = absurd (cc)
  still (x ∷ xs) (y ∷ ys) same h =
      let one : effect_of x ≡ effect_of y = cc in
      let others : map effect_of ys ≡ map effect_of xs = cc in
      All-cons (λ (z : Effect). P (effect_of z)) y ys (subst P one (All-head (λ (z : Effect). P (effect_of z)) x xs h)) (still xs ys others (All-tail (λ (z : Effect). P (effect_of z)) x xs h))

-- ---- one effect after another

-- the first ones have counted, the others have not
pub record HaveTaken (T : EntryEffect → List ℕ) (old : List Effect) (i : ℕ) (new : List Effect) : Type 0 where
  pub effects : map effect_of new ≡ map effect_of old
  pub places : All HasPlaces new
  pub done : map counts_of (take i new) ≡ with_taken T (take i old)
  pub rest : drop i new ≡ drop i old

module _ (T : EntryEffect → List ℕ) (old : List Effect) where
  pub none_yet : All HasPlaces old → HaveTaken T old 0 old
  none_yet places = record { effects = refl; places = places; done = refl; rest = refl }

  as_long : (i : ℕ) (new : List Effect) → HaveTaken T old i new → length new ≡ length old
  as_long i new h = sym (length-map new effect_of) ∙ ap length h.effects ∙ length-map old effect_of

  pub one_more_taken : (i : ℕ) (new : List Effect) (x y : Effect) → i < length new → x ≡ get_or new i x → effect_of y ≡ effect_of x → HasPlaces y
      → counts_of y ≡ with_marks (counts_of x) (T (effect_of x)) → HaveTaken T old i new → HaveTaken T old (i + 1) (set new i y)
  one_more_taken i new x y within at same places counts h =
      let long : length new ≡ length old = as_long i new h in
      let inside : i < length old = omega (arith, within, long) in
      let z = get_or old i x in
      let heads : x ∷ drop (i + 1) new ≡ z ∷ drop (i + 1) old = sym (drop_item new i x within at) ∙ h.rest ∙ drop_more old i x inside in
      let unchanged : x ≡ z = cc in
      let others : drop (i + 1) new ≡ drop (i + 1) old = cc in
      record {
        effects = map-set_same effect_of new i y x (same ∙ ap effect_of at) ∙ h.effects;
        places = All-set HasPlaces new i y places h.places;
        done = ap (map counts_of) (take_more_set new i y within) ∙ map-append counts_of (take i new) (y ∷ []) ∙ ap₂ (λ (ns : List (List ℕ)) (n : List ℕ). ns ++ n ∷ []) h.done counts
            ∙ ap (λ (u : Effect). with_taken T (take i old) ++ with_marks (counts_of u) (T (effect_of u)) ∷ []) unchanged
            ∙ sym (ap (with_taken T) (take_more old i x inside) ∙ map-append (λ (u : Effect). with_marks (counts_of u) (T (effect_of u))) (take i old) (z ∷ []));
        rest = drop-set-lt (i + 1) new i y (omega arith) ∙ others;
      }

  pub all_taken : (i : ℕ) (new : List Effect) → length new ≤ i → HaveTaken T old i new → map counts_of new ≡ with_taken T old
  all_taken i new over h =
      let long : length new ≡ length old = as_long i new h in
      ap (map counts_of) (sym (take_all i new over)) ∙ h.done ∙ ap (with_taken T) (take_all i old (omega (arith, over, long)))

-- ---- over a run

-- what an effect takes from here on
abbrev pub taken_from : Prog → List Act → List (List Val) → EntryEffect → List ℕ
taken_from p acts ss e = taken_over (tabled p) (taken_at e) acts ss

module _ (p : Prog) (acts : List Act) (a : Act) (ss us : List (List Val)) (e : EntryEffect) where
  by_answer : (m : Moved (List Val)) → m ≡ step (tabled p) a ss → taken_from p (a ∷ acts) ss e ≡ then_run m (λ ts. taken_at e a ss ++ taken_from p acts ts e)
  by_answer m is = ap (λ (k : Moved (List Val)). then_run k (λ ts. taken_at e a ss ++ taken_from p acts ts e)) (sym is)

  goes_on : (s : Step) → step_of s us ≡ step (tabled p) a ss → s ≡ answers.Next → taken_from p (a ∷ acts) ss e ≡ taken_at e a ss ++ taken_from p acts us e
  goes_on s is next = by_answer (step_of answers.Next us) (ap (λ (t : Step). step_of t us) (sym next) ∙ is)

  stops : (s : Step) → step_of s us ≡ step (tabled p) a ss → (s ≡ answers.Next → ⊥) → taken_from p (a ∷ acts) ss e ≡ []
  stops answers.Next is other = absurd (other refl)
  stops answers.NotAnAction is other = by_answer (step_of answers.NotAnAction us) is
  stops answers.NotEnabled is other = by_answer (step_of answers.NotEnabled us) is
  stops (answers.Fault i f) is other = by_answer (step_of (answers.Fault i f) us) is

module _ (p q : Prog) (log : List LogEntry) (i : ℕ) (x : LogEntry) (ss us : List (List Val)) (s : Step) (same : q ≡ p) (within : i < length log) (at : x ≡ get_or log i x)
    (is : step_of s us ≡ step (tabled q) (act_of x.action) ss) where
  here : entered (drop i log) ≡ act_of x.action ∷ entered (drop (i + 1) log)
  here = ap entered (drop_item log i x within at)

  by_program : step_of s us ≡ step (tabled p) (act_of x.action) ss
  by_program = subst (λ (r : Prog). step_of s us ≡ step (tabled r) (act_of x.action) ss) same is

  -- an entry that is performed
  pub performs : s ≡ answers.Next → (e : EntryEffect) → taken_at e (act_of x.action) ss ++ taken_from p (entered (drop (i + 1) log)) us e ≡ taken_from p (entered (drop i log)) ss e
  performs next e =
      sym (ap (λ (acts : List Act). taken_from p acts ss e) here ∙ goes_on p (entered (drop (i + 1) log)) (act_of x.action) ss us e s by_program next)

  -- the first that is not
  pub performs_not : (s ≡ answers.Next → ⊥) → (e : EntryEffect) → [] ≡ taken_from p (entered (drop i log)) ss e
  performs_not other e =
      sym (ap (λ (acts : List Act). taken_from p acts ss e) here ∙ stops p (entered (drop (i + 1) log)) (act_of x.action) ss us e s by_program other)

-- which answers are none of a step
pub no_next : (s : Step) → (s ≡ answers.NotAnAction) ⊎ ((s ≡ answers.NotEnabled) ⊎ ((i : ℕ) × (f : Fault) × (s ≡ answers.Fault i f))) → s ≡ answers.Next → ⊥
no_next s (inl other) next = cc
no_next s (inr (inl other)) next = cc
no_next s (inr (inr other)) next = let e : s ≡ answers.Fault other.0 other.1 = other.2 in cc

-- the same step from the same states leaves the same states
pub same_again : (s t : Step) (us vs : List (List Val)) (m : Moved (List Val)) → s ≡ answers.Next → step_of s us ≡ m → step_of t vs ≡ m → us ≡ vs
same_again s answers.Next us vs m next this that = let e : Moved.next us ≡ Moved.next vs = ap (λ (r : Step). step_of r us) (sym next) ∙ this ∙ sym that in cc
same_again s answers.NotAnAction us vs m next this that = let e : Moved.next us ≡ Moved.not_an_action = ap (λ (r : Step). step_of r us) (sym next) ∙ this ∙ sym that in absurd (cc)
same_again s answers.NotEnabled us vs m next this that = let e : Moved.next us ≡ Moved.not_enabled = ap (λ (r : Step). step_of r us) (sym next) ∙ this ∙ sym that in absurd (cc)
same_again s (answers.Fault i f) us vs m next this that = let e : Moved.next us ≡ Moved.fault i f = ap (λ (r : Step). step_of r us) (sym next) ∙ this ∙ sym that in absurd (cc)
