-- Schedules of components that step alike answer alike.
use Rattle.std.proofs.Common.{◌≡◌, ℕ, zero, suc, ◌+◌, List, [], ◌∷◌, ◌++◌, length, Option, None, Some, refl, sym, ◌∙◌, ap, subst, arith, replicate}
use Rattle.std.specs.Prelude.{IsSome, slice_get, slice_set, unwrap_or}
use Rattle.std.specs.List.{AllZip, cons_option}
use Rattle.ioa_value.specs.Actions.{Act}
use Rattle.ioa_tree.specs.Components.{Component}
use Rattle.ioa_tree.specs.Likes.{AllRelated, MovesLike}
use Rattle.ioa_tree.specs.Steps.{Moved, next, not_an_action, not_enabled, fault, participants, step}
use Rattle.ioa_system.specs.Logs.{worker}
use Rattle.ioa_system.specs.Participants.{taken}
use Rattle.ioa_board.specs.declared.answer.Answer.{Answer}
use Rattle.ioa_board.specs.Boards.{Commits, Failure, Intent, IsCurrent, Standing, now_of, with_entry, with_failure, Plans, intent}
use Rattle.ioa_run.specs.Subjects.{BoardsLike, IntentsLike, PlansLike, SchedulesLike}
use Rattle.ioa_run.specs.Schedules.{Answers, Event, Plays, Schedule, Spends, commit, copy, plan_of, schedule_from, with_plan}
use Rattle.ioa_run.proofs.Alike.{Both, fault_back, next_back, related_at, related_length}
use Rattle.ioa_run.proofs.Lengths.{long_step}

-- ---- copies of states

cons_alike : {S T : Type 0} (x y : Option S) (a b : Option T) (xs ys : List S) (as' bs : List T)
    → Both (λ s t. Unit {0}) x a → Both (λ s t. Unit {0}) y b → (x ≡ None → y ≡ None) → (y ≡ None → x ≡ None) → (x ≡ y → a ≡ b)
    → (xs ≡ ys → as' ≡ bs) → cons_option x xs ≡ cons_option y ys → cons_option a as' ≡ cons_option b bs
cons_alike None None None None xs ys as' bs r q l k here rest e = rest e
cons_alike None None None (Some b) xs ys as' bs r q l k here rest e = absurd q
cons_alike None None (Some a) b xs ys as' bs r q l k here rest e = absurd r
cons_alike None (Some y) a b xs ys as' bs r q l k here rest e = let z : Some y ≡ None = l refl in absurd (cc)
cons_alike (Some x) None a b xs ys as' bs r q l k here rest e = let z : Some x ≡ None = k refl in absurd (cc)
cons_alike (Some x) (Some y) None b xs ys as' bs r q l k here rest e = absurd r
cons_alike (Some x) (Some y) (Some a) None xs ys as' bs r q l k here rest e = absurd q
cons_alike (Some x) (Some y) (Some a) (Some b) xs ys as' bs r q l k here rest e =
    let first : x ≡ y = cc in
    let more : xs ≡ ys = cc in
    let h : Some a ≡ Some b = here (ap Some first) in
    let i : a ≡ b = cc in
    let j : as' ≡ bs = rest more in
    cc

there_both : {S T : Type 0} (R : S → T → Type 0) (o : Option S) (q : Option T) → Both R o q → Both (λ s t. Unit {0}) o q
there_both R None None h = tt
there_both R None (Some t) h = absurd h
there_both R (Some s) None h = absurd h
there_both R (Some s) (Some t) h = tt

turn_both : {S T : Type 0} (R : S → T → Type 0) (o : Option S) (q : Option T) → Both R o q → Both (λ t s. R s t) q o
turn_both R None None h = tt
turn_both R None (Some t) h = absurd h
turn_both R (Some s) None h = absurd h
turn_both R (Some s) (Some t) h = h

none_too : {X : Type 0} (xs ys : List X) (n : ℕ) → length xs ≡ length ys → slice_get xs n ≡ None → slice_get ys n ≡ None
none_too [] [] n l e = refl
none_too [] (y ∷ ys) n l e = absurd (cc)
none_too (x ∷ xs) [] n l e = absurd (cc)
none_too (x ∷ xs) (y ∷ ys) zero l e = absurd (cc)
none_too (x ∷ xs) (y ∷ ys) (suc n) l e = none_too xs ys n (omega (arith, l)) e

module _ {S T : Type 0} (R : ℕ → S → T → Type 0) (same : (i : ℕ) (x y : S) (a b : T) → R i x a → R i y b → x ≡ y → a ≡ b) where
  item_alike : (i : ℕ) (x y : Option S) (a b : Option T) → Both (R i) x a → Both (R i) y b → x ≡ y → a ≡ b
  item_alike i None None None None r q e = refl
  item_alike i None None None (Some b) r q e = absurd q
  item_alike i None None (Some a) b r q e = absurd r
  item_alike i None (Some y) a b r q e = absurd (cc)
  item_alike i (Some x) None a b r q e = absurd (cc)
  item_alike i (Some x) (Some y) None b r q e = absurd r
  item_alike i (Some x) (Some y) (Some a) None r q e = absurd q
  item_alike i (Some x) (Some y) (Some a) (Some b) r q e = let z : x ≡ y = cc in ap Some (same i x y a b r q z)

  taken_alike : (ns : List ℕ) (xs ys : List S) (as' bs : List T) → length xs ≡ length ys → ((n : ℕ) → Both (R n) (slice_get xs n) (slice_get as' n))
      → ((n : ℕ) → Both (R n) (slice_get ys n) (slice_get bs n)) → taken ns xs ≡ taken ns ys → taken ns as' ≡ taken ns bs
  taken_alike [] xs ys as' bs l r q e = refl
  taken_alike (n ∷ ns) xs ys as' bs l r q e =
      cons_alike (slice_get xs n) (slice_get ys n) (slice_get as' n) (slice_get bs n) (taken ns xs) (taken ns ys) (taken ns as') (taken ns bs)
      (there_both (R n) (slice_get xs n) (slice_get as' n) (r n)) (there_both (R n) (slice_get ys n) (slice_get bs n) (q n))
      (none_too xs ys n l) (none_too ys xs n (sym l)) (item_alike n (slice_get xs n) (slice_get ys n) (slice_get as' n) (slice_get bs n) (r n) (q n))
      (taken_alike ns xs ys as' bs l r q) e

-- ---- plans of workers

plan_like : {S T : Type 0} (P : Option S → Option T → Type 0) (w : ℕ) (xs : List (Option S)) (ys : List (Option T)) → P None None → AllZip P xs ys
    → P (unwrap_or (slice_get xs w) None) (unwrap_or (slice_get ys w) None)
plan_like P w [] [] n h = n
plan_like P w [] (y ∷ ys) n h = absurd h
plan_like P w (x ∷ xs) [] n h = absurd h
plan_like P zero (x ∷ xs) (y ∷ ys) n h = h.0
plan_like P (suc w) (x ∷ xs) (y ∷ ys) n h = plan_like P w xs ys n h.1

set_like : {S T : Type 0} (P : S → T → Type 0) (w : ℕ) (xs : List S) (ys : List T) (x : S) (y : T) → P x y → AllZip P xs ys → AllZip P (slice_set xs w x) (slice_set ys w y)
set_like P w [] [] x y k h = tt
set_like P w [] (b ∷ ys) x y k h = absurd h
set_like P w (a ∷ xs) [] x y k h = absurd h
set_like P zero (a ∷ xs) (b ∷ ys) x y k h = (k, h.1)
set_like P (suc w) (a ∷ xs) (b ∷ ys) x y k h = (h.0, set_like P w xs ys x y k h.1)

no_plans_like : {S T : Type 0} (P : S → T → Type 0) (n k : ℕ) (x : S) (y : T) → n ≡ k → P x y → AllZip P (replicate n x) (replicate k y)
no_plans_like P zero zero x y e h = tt
no_plans_like P zero (suc k) x y e h = absurd (omega (arith, e))
no_plans_like P (suc n) zero x y e h = absurd (omega (arith, e))
no_plans_like P (suc n) (suc k) x y e h = (h, no_plans_like P n k x y (omega (arith, e)) h)

-- ---- what is no action of those on the right is none of those on the left

module _ {S T : Type 0} (R : ℕ → S → T → Type 0) where
  no_action_back : (m : Moved S) (n : Moved T) → MovesLike R 0 m n → n ≡ not_an_action → m ≡ not_an_action
  no_action_back (next ss) n (us, e, r) k = absurd (cc)
  no_action_back not_an_action n e k = refl
  no_action_back not_enabled n e k = absurd (cc)
  no_action_back (fault c f) n e k = absurd (cc)

  disabled_back : (m : Moved S) (n : Moved T) → MovesLike R 0 m n → n ≡ not_enabled → m ≡ not_enabled
  disabled_back (next ss) n (us, e, r) k = absurd (cc)
  disabled_back not_an_action n e k = absurd (cc)
  disabled_back not_enabled n e k = refl
  disabled_back (fault c f) n e k = absurd (cc)

  no_action_on : (m : Moved S) (n : Moved T) → MovesLike R 0 m n → m ≡ not_an_action → n ≡ not_an_action
  no_action_on m n l e = subst (λ k. MovesLike R 0 k n) e l

  disabled_on : (m : Moved S) (n : Moved T) → MovesLike R 0 m n → m ≡ not_enabled → n ≡ not_enabled
  disabled_on m n l e = subst (λ k. MovesLike R 0 k n) e l

-- ---- copies

module _ {S T : Type 0} (R : ℕ → S → T → Type 0) (ps : List (Component S)) (qs : List (Component T))
    (steps : (a : Act) (ss : List S) (ts : List T) → AllRelated R 0 ss ts → MovesLike R 0 (step ps a ss) (step qs a ts))
    (workers : (a : Act) → worker ps a ≡ worker qs a) where
  planned_like : (w own : ℕ) (m : Moved S) (n : Moved T) (p : Intent S) (q : Intent T) (x : Answer) (o : Option (Intent T)) → MovesLike R 0 m n → IntentsLike R ps qs p q
      → Plans w own n q x o → (k : Option (Intent S)) × Plans w own m p x k × PlansLike R ps qs k o
  planned_like w own m n p q Answer.NotAnAction o l i h = (None, (no_action_back R m n l h.0, refl), subst (PlansLike R ps qs None) (sym h.1) tt)
  planned_like w own m n p q Answer.NotYours o l i h = (None, ((λ e. h.0 (no_action_on R m n l e)), h.1, refl), subst (PlansLike R ps qs None) (sym h.2) tt)
  planned_like w own m n p q Answer.NotEnabled o l i h = (None, (h.0, disabled_back R m n l h.1, refl), subst (PlansLike R ps qs None) (sym h.2) tt)
  planned_like w own m n p q Answer.Planned o l i h =
      (Some p, (h.0, (λ e. h.1 (no_action_on R m n l e)), (λ e. h.2 (disabled_on R m n l e)), refl), subst (PlansLike R ps qs (Some p)) (sym h.3) i)
  planned_like w own m n p q _ o l i h = absurd h

  -- what those on the right are answered to a copy, those on the left are
  pub copy_like : (w : ℕ) (a : Act) (s : Schedule S) (u : Schedule T) (x : Answer) (o : Option (Intent T)) → SchedulesLike R ps qs s u
      → Plans w (worker qs a) (step qs a u.board.states) (intent qs a u.board.states) x o
      → (t : Schedule S) × Answers ps (copy w a) s x t × SchedulesLike R ps qs t (with_plan u w o)
  copy_like w a s u x o l h =
      let i : IntentsLike R ps qs (intent ps a s.board.states) (intent qs a u.board.states) =
      record { action = a; states = s.board.states; others = u.board.states; related = l.board.states; left = refl; right = refl } in
      let own = subst (λ v. Plans w v (step qs a u.board.states) (intent qs a u.board.states) x o) (sym (workers a)) h in
      let k = planned_like w (worker ps a) (step ps a s.board.states) (step qs a u.board.states) (intent ps a s.board.states) (intent qs a u.board.states) x o
      (steps a s.board.states u.board.states l.board.states) i own in (
        with_plan s w k.0,
        (k.0, k.1, refl),
        record { board = l.board; plans = set_like (PlansLike R ps qs) w s.plans u.plans k.0 o k.2 l.plans },
      )

-- ---- events

is_some_back : (f g : Option Failure) → f ≡ g → IsSome g → IsSome f
is_some_back f g e h = subst IsSome (sym e) h

module _ {S T : Type 0} (R : ℕ → S → T → Type 0) (ps : List (Component S)) (qs : List (Component T))
    (steps : (a : Act) (ss : List S) (ts : List T) → AllRelated R 0 ss ts → MovesLike R 0 (step ps a ss) (step qs a ts))
    (workers : (a : Act) → worker ps a ≡ worker qs a) (members : (a : Act) → participants ps a ≡ participants qs a)
    (once : (i : ℕ) (x y : S) (a b : T) → R i x a → R i y b → a ≡ b → x ≡ y) (apart : (i : ℕ) (x y : S) (a b : T) → R i x a → R i y b → x ≡ y → a ≡ b) where
  -- related states are copied alike
  fresh_on : (a : Act) (xs ys : List S) (as' bs : List T) → length xs ≡ length ys → AllRelated R 0 xs as' → AllRelated R 0 ys bs
      → now_of ps a xs ≡ now_of ps a ys → now_of qs a as' ≡ now_of qs a bs
  fresh_on a xs ys as' bs l r q e =
      subst (λ ns. taken ns as' ≡ taken ns bs) (members a)
      (taken_alike R apart (participants ps a) xs ys as' bs l (λ n. related_at R n xs as' r) (λ n. related_at R n ys bs q) e)

  fresh_back : (a : Act) (xs ys : List S) (as' bs : List T) → length as' ≡ length bs → AllRelated R 0 xs as' → AllRelated R 0 ys bs
      → now_of qs a as' ≡ now_of qs a bs → now_of ps a xs ≡ now_of ps a ys
  fresh_back a xs ys as' bs l r q e =
      subst (λ ns. taken ns xs ≡ taken ns ys) (sym (members a))
      (taken_alike (λ n t s. R n s t) (λ i x y c d h k. once i c d x y h k) (participants qs a) as' bs xs ys l
      (λ n. turn_both (R n) (slice_get xs n) (slice_get as' n) (related_at R n xs as' r))
      (λ n. turn_both (R n) (slice_get ys n) (slice_get bs n) (related_at R n ys bs q)) e)

  -- the plan was made of as many states as there are components
  abbrev Made : Option (Intent S) → Option (Intent T) → Type 0
  Made None None = Unit {0}
  Made None (Some q) = ⊥
  Made (Some p) None = ⊥
  Made (Some p) (Some q) = (i : IntentsLike R ps qs p q) × (length i.others ≡ length qs)

  made_like : (o : Option (Intent S)) (q : Option (Intent T)) → Made o q → PlansLike R ps qs o q
  made_like None None h = tt
  made_like None (Some q) h = absurd h
  made_like (Some p) None h = absurd h
  made_like (Some p) (Some q) h = h.0

  lengths_back : (xs ys : List S) (as' bs : List T) → AllRelated R 0 xs as' → AllRelated R 0 ys bs → length as' ≡ length bs → length xs ≡ length ys
  lengths_back xs ys as' bs r q e = related_length R 0 xs as' r ∙ e ∙ sym (related_length R 0 ys bs q)

  -- what a commit answers
  record Committed (w : ℕ) (p : Intent S) (b : Standing S) (x : Answer) (d' : Standing T) : Type 0 where
    board : Standing S
    commits : Commits ps w p b x board
    like : BoardsLike R board d'
    whole : length d'.states ≡ length qs

  module _ (w : ℕ) (a : Act) (ss : List S) (ts : List T) (r : AllRelated R 0 ss ts) (long : length ts ≡ length qs) (b : Standing S) (d : Standing T) (l : BoardsLike R b d)
      (whole : length d.states ≡ length qs) where
    abbrev mine : Intent S
    mine = intent ps a ss

    abbrev theirs : Intent T
    theirs = intent qs a ts

    current_back : IsCurrent qs theirs d → IsCurrent ps mine b
    current_back k = record {
      calm = l.failure ∙ k.calm;
      fresh = fresh_back a b.states ss d.states ts (whole ∙ sym long) l.states r k.fresh;
    }

    commits_back : (x : Answer) (d' : Standing T) → Commits qs w theirs d x d' → Committed w mine b x d'
    commits_back Answer.Stopped d' h = record {
      board = b;
      commits = (is_some_back b.failure d.failure l.failure h.0, refl);
      like = subst (BoardsLike R b) (sym h.1) l;
      whole = ap (λ (z : Standing T). length z.states) h.1 ∙ whole;
    }
    commits_back Answer.Stale d' h = record {
      board = b;
      commits = (l.failure ∙ h.0, (λ e. h.1 (fresh_on a b.states ss d.states ts (lengths_back b.states ss d.states ts l.states r (whole ∙ sym long)) l.states r e)), refl);
      like = subst (BoardsLike R b) (sym h.2) l;
      whole = ap (λ (z : Standing T). length z.states) h.2 ∙ whole;
    }
    commits_back (Answer.Faulted c f) d' h = record {
      board = with_failure b w a c f;
      commits = (current_back h.0, fault_back R (step ps a b.states) (step qs a d.states) c f (steps a b.states d.states l.states) h.1, refl);
      like = subst (BoardsLike R (with_failure b w a c f)) (sym h.2) (record { history = l.history; failure = refl; states = l.states });
      whole = ap (λ (z : Standing T). length z.states) h.2 ∙ whole;
    }
    commits_back (Answer.Committed n) d' h =
        let us : List T = h.2.0 in
        let s = next_back R (step ps a b.states) (step qs a d.states) us (steps a b.states d.states l.states) h.2.1 in
        record {
          board = with_entry b w a s.0;
          commits = (current_back h.0, h.1 ∙ sym (ap length l.history), (s.0, s.1, refl));
          like = subst (BoardsLike R (with_entry b w a s.0)) (sym h.2.2)
              (record { history = ap (λ (es : List (ℕ × Act)). es ++ (w, a) ∷ []) l.history; failure = l.failure; states = s.2 });
          whole = ap (λ (z : Standing T). length z.states) h.2.2 ∙ long_step qs a d.states us whole h.2.1;
        }
    commits_back _ d' h = absurd h

  -- what holds of schedules along the way
  record Follows (s : Schedule S) (u : Schedule T) : Type 0 where
    board : BoardsLike R s.board u.board
    plans : AllZip Made s.plans u.plans
    whole : length u.board.states ≡ length qs

  spends_back : (w : ℕ) (o : Option (Intent S)) (q : Option (Intent T)) (s : Schedule S) (u u' : Schedule T) (x : Answer) → Made o q → Follows s u
      → Spends qs w q u x u' → (s' : Schedule S) × Spends ps w o s x s' × Follows s' u'
  spends_back w None None s u u' x m f h = (s, (h.0, refl), subst (Follows s) (sym h.1) f)
  spends_back w None (Some q) s u u' x m f h = absurd m
  spends_back w (Some p) None s u u' x m f h = absurd m
  spends_back w (Some p) (Some q) s u u' x m f h =
      let i = m.0 in
      let k : Commits qs w (intent qs i.action i.others) u.board x h.0 = subst (λ y. Commits qs w y u.board x h.0) i.right h.1 in
      let c = commits_back w i.action i.states i.others i.related m.1 s.board u.board f.board f.whole x h.0 k in
      let s' : Schedule S = record (with_plan s w None) { board = c.board } in (
        s',
        (c.board, subst (λ y. Commits ps w y s.board x c.board) (sym i.left) c.commits, refl),
        subst (Follows s') (sym h.2) (record { board = c.like; plans = set_like Made w s.plans u.plans None None tt f.plans; whole = c.whole }),
      )

  answers_back : (e : Event) (s : Schedule S) (u u' : Schedule T) (x : Answer) → Follows s u → Answers qs e u x u' → (s' : Schedule S) × Answers ps e s x s' × Follows s' u'
  answers_back (copy w a) s u u' x f h =
      let i : IntentsLike R ps qs (intent ps a s.board.states) (intent qs a u.board.states) =
      record { action = a; states = s.board.states; others = u.board.states; related = f.board.states; left = refl; right = refl } in
      let own = subst (λ v. Plans w v (step qs a u.board.states) (intent qs a u.board.states) x h.0) (sym (workers a)) h.1 in
      let k = planned (worker ps a) (step ps a s.board.states) (step qs a u.board.states) (intent ps a s.board.states) (intent qs a u.board.states) x h.0
      (steps a s.board.states u.board.states f.board.states) (i, f.whole) own in
      let s' : Schedule S = with_plan s w k.0 in (
        s',
        (k.0, k.1, refl),
        subst (Follows s') (sym h.2) (record { board = f.board; plans = set_like Made w s.plans u.plans k.0 h.0 k.2 f.plans; whole = f.whole }),
      )
    where
      planned : (own : ℕ) (m : Moved S) (n : Moved T) (p : Intent S) (q : Intent T) (x : Answer) (o : Option (Intent T))
          → MovesLike R 0 m n → ((i : IntentsLike R ps qs p q) × (length i.others ≡ length qs)) → Plans w own n q x o → (k : Option (Intent S)) × Plans w own m p x k × Made k o
      planned own m n p q Answer.NotAnAction o l i h = (None, (no_action_back R m n l h.0, refl), subst (Made None) (sym h.1) tt)
      planned own m n p q Answer.NotYours o l i h = (None, ((λ e. h.0 (no_action_on R m n l e)), h.1, refl), subst (Made None) (sym h.2) tt)
      planned own m n p q Answer.NotEnabled o l i h = (None, (h.0, disabled_back R m n l h.1, refl), subst (Made None) (sym h.2) tt)
      planned own m n p q Answer.Planned o l i h =
          (Some p, (h.0, (λ e. h.1 (no_action_on R m n l e)), (λ e. h.2 (disabled_on R m n l e)), refl), subst (Made (Some p)) (sym h.3) i)
      planned own m n p q _ o l i h = absurd h
  answers_back (commit w) s u u' x f h = spends_back w (plan_of s w) (plan_of u w) s u u' x (plan_like Made w s.plans u.plans tt f.plans) f h

  plays_back : (es : List Event) (s : Schedule S) (u u' : Schedule T) (xs : List Answer) → Follows s u → Plays qs es u xs u' → (s' : Schedule S) × Plays ps es s xs s' × Follows s' u'
  plays_back [] s u u' [] f h = (s, refl, subst (Follows s) (sym h) f)
  plays_back [] s u u' (x ∷ xs) f h = absurd h
  plays_back (e ∷ es) s u u' [] f h = absurd h
  plays_back (e ∷ es) s u u' (x ∷ xs) f h =
      let k = answers_back e s u h.0 x f h.1 in
      let more = plays_back es k.0 h.0 u' xs k.2 h.2 in
      (more.0, (k.0, k.1, more.1), more.2)

  all_made_like : (xs : List (Option (Intent S))) (ys : List (Option (Intent T))) → AllZip Made xs ys → AllZip (PlansLike R ps qs) xs ys
  all_made_like [] [] h = tt
  all_made_like [] (y ∷ ys) h = absurd h
  all_made_like (x ∷ xs) [] h = absurd h
  all_made_like (x ∷ xs) (y ∷ ys) h = (made_like x y h.0, all_made_like xs ys h.1)

  -- what the components on the right are answered, those on the left are
  pub schedules_back : (es : List Event) (b : Standing S) (d : Standing T) (xs : List Answer) (u : Schedule T) → BoardsLike R b d → length d.states ≡ length qs
      → Plays qs es (schedule_from d) xs u → (s : Schedule S) × Plays ps es (schedule_from b) xs s × SchedulesLike R ps qs s u
  schedules_back es b d xs u l whole h =
      let many : length b.states + 1 ≡ length d.states + 1 = ap (λ n. n + 1) (related_length R 0 b.states d.states l.states) in
      let first : Follows (schedule_from b) (schedule_from d) = record {
        board = l;
        plans = no_plans_like Made (length b.states + 1) (length d.states + 1) None None many tt;
        whole = whole;
      } in
      let k = plays_back es (schedule_from b) (schedule_from d) u xs first h in
      (k.0, k.1, record { board = k.2.board; plans = all_made_like k.0.plans u.plans k.2.plans })

-- ---- the other way round

abbrev flip : {S T : Type 0} → (ℕ → S → T → Type 0) → ℕ → T → S → Type 0
flip R i t s = R i s t

related_flip : {S T : Type 0} (R : ℕ → S → T → Type 0) (i : ℕ) (xs : List S) (ys : List T) → AllRelated R i xs ys → AllRelated (flip R) i ys xs
related_flip R i [] [] r = tt
related_flip R i [] (y ∷ ys) r = absurd r
related_flip R i (x ∷ xs) [] r = absurd r
related_flip R i (x ∷ xs) (y ∷ ys) r = (r.0, related_flip R (i + 1) xs ys r.1)

moves_flip : {S T : Type 0} (R : ℕ → S → T → Type 0) (i : ℕ) (m : Moved S) (n : Moved T) → MovesLike R i m n → MovesLike (flip R) i n m
moves_flip R i (next ss) n (ts, e, r) = subst (λ k. MovesLike (flip R) i k (next ss)) (sym e) (ss, refl, related_flip R i ss ts r)
moves_flip R i not_an_action n e = subst (λ k. MovesLike (flip R) i k not_an_action) (sym e) refl
moves_flip R i not_enabled n e = subst (λ k. MovesLike (flip R) i k not_enabled) (sym e) refl
moves_flip R i (fault c f) n e = subst (λ k. MovesLike (flip R) i k (fault c f)) (sym e) refl

boards_flip : {S T : Type 0} (R : ℕ → S → T → Type 0) (b : Standing S) (d : Standing T) → BoardsLike R b d → BoardsLike (flip R) d b
boards_flip R b d l = record { history = sym l.history; failure = sym l.failure; states = related_flip R 0 b.states d.states l.states }

plans_flip : {S T : Type 0} (R : ℕ → S → T → Type 0) (ps : List (Component S)) (qs : List (Component T)) (o : Option (Intent S)) (k : Option (Intent T))
    → PlansLike R ps qs o k → PlansLike (flip R) qs ps k o
plans_flip R ps qs None None h = tt
plans_flip R ps qs None (Some q) h = absurd h
plans_flip R ps qs (Some p) None h = absurd h
plans_flip R ps qs (Some p) (Some q) h =
    record { action = h.action; states = h.others; others = h.states; related = related_flip R 0 h.states h.others h.related; left = h.right; right = h.left }

all_plans_flip : {S T : Type 0} (R : ℕ → S → T → Type 0) (ps : List (Component S)) (qs : List (Component T)) (xs : List (Option (Intent S))) (ys : List (Option (Intent T)))
    → AllZip (PlansLike R ps qs) xs ys → AllZip (PlansLike (flip R) qs ps) ys xs
all_plans_flip R ps qs [] [] h = tt
all_plans_flip R ps qs [] (y ∷ ys) h = absurd h
all_plans_flip R ps qs (x ∷ xs) [] h = absurd h
all_plans_flip R ps qs (x ∷ xs) (y ∷ ys) h = (plans_flip R ps qs x y h.0, all_plans_flip R ps qs xs ys h.1)

-- what the components on the left are answered, those on the right are
pub schedules_on : {S T : Type 0} (R : ℕ → S → T → Type 0) (ps : List (Component S)) (qs : List (Component T))
    → ((a : Act) (ss : List S) (ts : List T) → AllRelated R 0 ss ts → MovesLike R 0 (step ps a ss) (step qs a ts)) → ((a : Act) → worker ps a ≡ worker qs a)
    → ((a : Act) → participants ps a ≡ participants qs a) → ((i : ℕ) (x y : S) (a b : T) → R i x a → R i y b → a ≡ b → x ≡ y)
    → ((i : ℕ) (x y : S) (a b : T) → R i x a → R i y b → x ≡ y → a ≡ b) → (es : List Event) (b : Standing S) (d : Standing T) (xs : List Answer) (s : Schedule S)
    → BoardsLike R b d → length b.states ≡ length ps → Plays ps es (schedule_from b) xs s
    → (u : Schedule T) × Plays qs es (schedule_from d) xs u × SchedulesLike R ps qs s u
schedules_on R ps qs steps workers members once apart es b d xs s l whole plays =
    let w = schedules_back (flip R) qs ps
    (λ a us vs k. moves_flip R 0 (step ps a vs) (step qs a us) (steps a vs us (related_flip (flip R) 0 us vs k)))
    (λ a. sym (workers a)) (λ a. sym (members a)) (λ i x y a b h k e. apart i a b x y h k e) (λ i x y a b h k e. once i a b x y h k e)
    es d b xs s (boards_flip R b d l) whole plays in
    (w.0, w.1, record { board = boards_flip (flip R) w.0.board s.board w.2.board; plans = all_plans_flip (flip R) qs ps w.0.plans s.plans w.2.plans })
