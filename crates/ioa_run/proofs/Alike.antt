-- Boards, histories and turns of components that step alike and propose alike.
use Rattle.std.proofs.Common.{◌≡◌, ℕ, zero, suc, ◌+◌, ◌==◌, List, [], ◌∷◌, ◌++◌, length, Bool, true, false, cond, if◌then◌else◌, Option, None, Some, refl, sym, ◌∙◌, ap, subst, arith, replicate}
use Rattle.std.specs.Prelude.{◌%◌, slice_get, unwrap_or}
use Rattle.std.specs.List.{AllZip}
use Rattle.std.specs.Option.{option_map_or}
use Rattle.std.proofs.lemmas.Slice.Zip.{AllZip-long}
use Rattle.ioa_arithmetic.specs.declared.arithmetic.Fault.{Fault}
use Rattle.ioa_value.specs.Actions.{Act}
use Rattle.ioa_tree.specs.Components.{Component}
use Rattle.ioa_tree.specs.Likes.{AllRelated, MovesLike}
use Rattle.ioa_tree.specs.Proposing.{Words, Tried, tries, idle}
use Rattle.ioa_tree.specs.Steps.{Moved, next, not_an_action, not_enabled, fault, step}
use Rattle.ioa_system.specs.Histories.{Leads}
use Rattle.ioa_system.specs.Logs.{worker}
use Rattle.ioa_board.specs.declared.answer.Answer.{Answer}
use Rattle.ioa_board.specs.declared.report.Report.{Report}
use Rattle.ioa_board.specs.Boards.{Failure, IsFailureFrom, IsSound, Standing, attempt, not_own, own_attempt}
use Rattle.ioa_run.specs.Played.{alone_events, attempt_events, first_events, rounds_events, tried_events, turn_events}
use Rattle.ioa_board.specs.Reports.{blank, with_idle, told}
use Rattle.ioa_run.specs.Schedules.{Event}
use Rattle.ioa_run.specs.Subjects.{BoardsLike, TurnsLike}
use Rattle.ioa_run.specs.Turns.{Proposer, Turns, after, all_done, alone_from, changed, chosen, has_ended, is_last, meant, next_choice, next_input, rounds, turn, turned, turns_from, turns_of_first, with_done}

pub related_length : {S T : Type 0} (R : ℕ → S → T → Type 0) (i : ℕ) (xs : List S) (ys : List T) → AllRelated R i xs ys → length xs ≡ length ys
related_length R i [] [] r = refl
related_length R i [] (y ∷ ys) r = absurd r
related_length R i (x ∷ xs) [] r = absurd r
related_length R i (x ∷ xs) (y ∷ ys) r = ap suc (related_length R (i + 1) xs ys r.1)

-- two items that are there and related, or none
abbrev pub Both : {S T : Type 0} → (S → T → Type 0) → Option S → Option T → Type 0
Both R None None = Unit {0}
Both R None (Some y) = ⊥
Both R (Some x) None = ⊥
Both R (Some x) (Some y) = R x y

related_from : {S T : Type 0} (R : ℕ → S → T → Type 0) (i w : ℕ) (xs : List S) (ys : List T) → AllRelated R i xs ys → Both (R (w + i)) (slice_get xs w) (slice_get ys w)
related_from R i w [] [] r = tt
related_from R i w [] (y ∷ ys) r = absurd r
related_from R i w (x ∷ xs) [] r = absurd r
related_from R i zero (x ∷ xs) (y ∷ ys) r = let e : i ≡ zero + i = omega arith in subst (λ k. R k x y) e r.0
related_from R i (suc w) (x ∷ xs) (y ∷ ys) r =
    let e : w + (i + 1) ≡ suc w + i = omega arith in
    subst (λ k. Both (R k) (slice_get xs w) (slice_get ys w)) e (related_from R (i + 1) w xs ys r.1)

pub related_at : {S T : Type 0} (R : ℕ → S → T → Type 0) (w : ℕ) (xs : List S) (ys : List T) → AllRelated R 0 xs ys → Both (R w) (slice_get xs w) (slice_get ys w)
related_at R w xs ys r = let e : w + 0 ≡ w = omega arith in subst (λ k. Both (R k) (slice_get xs w) (slice_get ys w)) e (related_from R 0 w xs ys r)

-- ---- what components propose

-- two entries of components in this place, which propose the same in related states
abbrev pub OneLike : {S T : Type 0} → (S → T → Type 0) → Proposer S → Proposer T → Type 0
OneLike {S} {T} R e f = (s : S) (t : T) (words : Words) (taken : ℕ) → R s t → e s words taken ≡ f t words taken

-- those of the components in each place
abbrev pub ProposeLike : {S T : Type 0} → (ℕ → S → T → Type 0) → List (List (Proposer S)) → List (List (Proposer T)) → Type 0
ProposeLike R es fs = (w : ℕ) → Both (AllZip (OneLike (R w))) (slice_get es w) (slice_get fs w)

module _ {S T : Type 0} (R : S → T → Type 0) (s : S) (t : T) (r : R s t) where
  picks_like : (es : List (Proposer S)) (fs : List (Proposer T)) (n : ℕ) (words : Words) → AllZip (OneLike R) es fs
      → option_map_or (λ e. e s words 1) (slice_get es n) (idle 0) ≡ option_map_or (λ f. f t words 1) (slice_get fs n) (idle 0)
  picks_like [] [] n words h = refl
  picks_like [] (f ∷ fs) n words h = absurd h
  picks_like (e ∷ es) [] n words h = absurd h
  picks_like (e ∷ es) (f ∷ fs) zero words h = h.0 s t words 1 r
  picks_like (e ∷ es) (f ∷ fs) (suc n) words h = picks_like es fs n words h.1

  chosen_like : (es : List (Proposer S)) (fs : List (Proposer T)) (words : Words) → AllZip (OneLike R) es fs → chosen es s words ≡ chosen fs t words
  chosen_like es fs words h =
      ap (λ n. option_map_or (λ e. e s words 1) (slice_get es (words 0 % n)) (idle 0)) (sym (AllZip-long (OneLike R) es fs h))
      ∙ picks_like es fs (words 0 % length fs) words h

choice_like : {S T : Type 0} (R : S → T → Type 0) (es : List (Proposer S)) (fs : List (Proposer T)) (o : Option S) (q : Option T) (words : Option Words)
    → AllZip (OneLike R) es fs → Both R o q → next_choice es o words ≡ next_choice fs q words
choice_like R es fs None None words h r = refl
choice_like R es fs None (Some t) words h r = absurd r
choice_like R es fs (Some s) None words h r = absurd r
choice_like R es fs (Some s) (Some t) None h r = refl
choice_like R es fs (Some s) (Some t) (Some words) h r = chosen_like R s t r es fs words h

-- ---- steps that are alike

module _ {S T : Type 0} (R : ℕ → S → T → Type 0) where
  not_own_like : (m : Moved S) (n : Moved T) → MovesLike R 0 m n → not_own m ≡ not_own n
  not_own_like (next ss) n (ts, e, r) = ap not_own (sym e)
  not_own_like not_an_action n e = ap not_own (sym e)
  not_own_like not_enabled n e = ap not_own (sym e)
  not_own_like (fault c f) n e = ap not_own (sym e)

  -- what is performed by those on the right is performed by those on the left
  pub next_back : (m : Moved S) (n : Moved T) (ts : List T) → MovesLike R 0 m n → n ≡ next ts → (ss : List S) × (m ≡ next ss) × AllRelated R 0 ss ts
  next_back (next ss) n ts (us, e, r) k =
      let same : next us ≡ next ts = sym e ∙ k in
      let q : us ≡ ts = cc in
      (ss, refl, subst (AllRelated R 0 ss) q r)
  next_back not_an_action n ts e k = absurd (cc)
  next_back not_enabled n ts e k = absurd (cc)
  next_back (fault c f) n ts e k = absurd (cc)

  pub fault_back : (m : Moved S) (n : Moved T) (c : ℕ) (f : Fault) → MovesLike R 0 m n → n ≡ fault c f → m ≡ fault c f
  fault_back (next ss) n c f (us, e, r) k = absurd (cc)
  fault_back not_an_action n c f e k = absurd (cc)
  fault_back not_enabled n c f e k = absurd (cc)
  fault_back (fault d g) n c f e k =
      let same : fault d g ≡ fault c f = sym e ∙ k in
      let i : d ≡ c = cc in
      let j : g ≡ f = cc in
      ap (λ x. fault x g) i ∙ ap (fault c) j

  -- ---- attempts

  abbrev pub AttemptsLike : Answer × Standing S → Answer × Standing T → Type 0
  AttemptsLike x y = (x.0 ≡ y.0) × BoardsLike R x.1 y.1

  either_like : (c : Bool) (x z : Answer × Standing S) (y u : Answer × Standing T) → AttemptsLike x y → AttemptsLike z u
      → AttemptsLike (if c then x else z) (if c then y else u)
  either_like true x z y u h k = h
  either_like false x z y u h k = k

  own_like : (w : ℕ) (a : Act) (b : Standing S) (d : Standing T) (f : Option Failure) (m : Moved S) (n : Moved T) → BoardsLike R b d → MovesLike R 0 m n
      → AttemptsLike (own_attempt w a b f m) (own_attempt w a d f n)
  own_like w a b d f not_an_action n l e = subst (λ k. AttemptsLike (Answer.NotAnAction, b) (own_attempt w a d f k)) (sym e) (refl, l)
  own_like w a b d f not_enabled n l e = subst (λ k. AttemptsLike (Answer.NotEnabled, b) (own_attempt w a d f k)) (sym e) (refl, l)
  own_like w a b d (Some r) (next ts) n l (us, e, k) = subst (λ m. AttemptsLike (Answer.Stopped, b) (own_attempt w a d (Some r) m)) (sym e) (refl, l)
  own_like w a b d (Some r) (fault c x) n l e = subst (λ m. AttemptsLike (Answer.Stopped, b) (own_attempt w a d (Some r) m)) (sym e) (refl, l)
  own_like w a b d None (next ts) n l (us, e, k) =
      subst (λ m. AttemptsLike (own_attempt w a b None (next ts)) (own_attempt w a d None m)) (sym e) (
        ap (λ (h : List (ℕ × Act)). Answer.Committed (length h)) l.history,
        record { history = ap (λ (h : List (ℕ × Act)). h ++ (w, a) ∷ []) l.history; failure = l.failure; states = k },
      )
  own_like w a b d None (fault c x) n l e =
      subst (λ m. AttemptsLike (own_attempt w a b None (fault c x)) (own_attempt w a d None m)) (sym e)
      (refl, record { history = l.history; failure = refl; states = l.states })

  module _ (ps : List (Component S)) (qs : List (Component T))
      (steps : (a : Act) (ss : List S) (ts : List T) → AllRelated R 0 ss ts → MovesLike R 0 (step ps a ss) (step qs a ts))
      (workers : (a : Act) → worker ps a ≡ worker qs a) where
    pub attempt_like : (w : ℕ) (a : Act) (b : Standing S) (d : Standing T) → BoardsLike R b d → AttemptsLike (attempt ps w a b) (attempt qs w a d)
    attempt_like w a b d l =
        let moves = steps a b.states d.states l.states in
        let own = subst (λ f. AttemptsLike (own_attempt w a b b.failure (step ps a b.states)) (own_attempt w a d f (step qs a d.states))) l.failure
        (own_like w a b d b.failure (step ps a b.states) (step qs a d.states) l moves) in
        subst (λ v. AttemptsLike (attempt ps w a b) (if w == v then own_attempt w a d d.failure (step qs a d.states) else (not_own (step qs a d.states), d))) (workers a)
        (either_like (w == worker ps a) (own_attempt w a b b.failure (step ps a b.states)) (not_own (step ps a b.states), b)
        (own_attempt w a d d.failure (step qs a d.states)) (not_own (step qs a d.states), d) own
        (not_own_like (step ps a b.states) (step qs a d.states) moves, l))

    -- ---- turns

    tried_events_like : (w : ℕ) (x : Tried Act) (b : Standing S) (d : Standing T) → BoardsLike R b d → tried_events ps w x b ≡ tried_events qs w x d
    tried_events_like w (idle taken) b d l = refl
    tried_events_like w (tries a taken) b d l = ap (attempt_events w a) (attempt_like w a b d l).0

    turned_like : (w : ℕ) (x : Tried Act) (t : Turns S) (u : Turns T) → TurnsLike R t u → TurnsLike R (turned ps w x t) (turned qs w x u)
    turned_like w (idle taken) t u l =
        record { board = l.board; reports = ap (changed with_idle w) l.reports; words = ap (changed (after taken) w) l.words; ended = l.ended }
    turned_like w (tries a taken) t u l =
        let k = attempt_like w a t.board u.board l.board in
        record {
          board = k.1;
          reports = ap (λ x. changed (told x) w t.reports) k.0 ∙ ap (changed (told (attempt qs w a u.board).0) w) l.reports;
          words = ap (changed (after taken) w) l.words;
          ended = ap (λ x. changed (λ e. is_last x) w t.ended) k.0 ∙ ap (changed (λ e. is_last (attempt qs w a u.board).0) w) l.ended;
        }

    cond_turns : (c : Bool) (x z : Turns S) (y u : Turns T) → TurnsLike R x y → TurnsLike R z u → TurnsLike R (cond c x z) (cond c y u)
    cond_turns true x z y u h k = h
    cond_turns false x z y u h k = k

    module _ (entries : List (List (Proposer S))) (others : List (List (Proposer T))) (inputs : List Act)
        (many : length entries ≡ length others) (propose : ProposeLike R entries others) where
      meant_like : (w : ℕ) (t : Turns S) (u : Turns T) → TurnsLike R t u → meant ps entries inputs w t ≡ meant qs others inputs w u
      meant_like w t u l =
          go (slice_get entries w) (slice_get others w) (propose w)
        where
          go : (o : Option (List (Proposer S))) (q : Option (List (Proposer T))) → Both (AllZip (OneLike (R w))) o q
              → option_map_or (λ es. next_choice es (slice_get t.board.states w) (slice_get t.words w)) o (next_input inputs (slice_get t.reports w))
              ≡ option_map_or (λ es. next_choice es (slice_get u.board.states w) (slice_get u.words w)) q (next_input inputs (slice_get u.reports w))
          go None None h = ap (λ (rs : List Report). next_input inputs (slice_get rs w)) l.reports
          go None (Some fs) h = absurd h
          go (Some es) None h = absurd h
          go (Some es) (Some fs) h =
              ap (λ (ws : List Words). next_choice es (slice_get t.board.states w) (slice_get ws w)) l.words
              ∙ choice_like (R w) es fs (slice_get t.board.states w) (slice_get u.board.states w) (slice_get u.words w) h (related_at R w t.board.states u.board.states l.board.states)

      turn_like : (w : ℕ) (t : Turns S) (u : Turns T) → TurnsLike R t u → TurnsLike R (turn ps entries inputs w t) (turn qs others inputs w u)
      turn_like w t u l =
          let ended : has_ended t w ≡ has_ended u w = ap (λ (bs : List Bool). unwrap_or (slice_get bs w) true) l.ended in
          let same : meant ps entries inputs w t ≡ meant qs others inputs w u = meant_like w t u l in
          let taken = subst (λ x. TurnsLike R (turned ps w (meant ps entries inputs w t) t) (turned qs w x u)) same (turned_like w (meant ps entries inputs w t) t u l) in
          subst (λ b. TurnsLike R (turn ps entries inputs w t) (cond b u (turned qs w (meant qs others inputs w u) u))) ended
          (cond_turns (has_ended t w) t (turned ps w (meant ps entries inputs w t) t) u (turned qs w (meant qs others inputs w u) u) l taken)

      first_like : (n : ℕ) (t : Turns S) (u : Turns T) → TurnsLike R t u → TurnsLike R (turns_of_first ps entries inputs n t) (turns_of_first qs others inputs n u)
      first_like zero t u l = l
      first_like (suc n) t u l = turn_like n (turns_of_first ps entries inputs n t) (turns_of_first qs others inputs n u) (first_like n t u l)

      rounds_like : (n : ℕ) (t : Turns S) (u : Turns T) → TurnsLike R t u → TurnsLike R (rounds ps entries inputs n t) (rounds qs others inputs n u)
      rounds_like zero t u l = l
      rounds_like (suc n) t u l =
          let t' : Turns S = rounds ps entries inputs n t in
          let u' : Turns T = rounds qs others inputs n u in
          subst (λ k. TurnsLike R (turns_of_first ps entries inputs (length entries + 1) t') (turns_of_first qs others inputs (k + 1) u')) many
          (first_like (length entries + 1) t' u' (rounds_like n t u l))

      done_like : (t : Turns S) (u : Turns T) → TurnsLike R t u → TurnsLike R (all_done t) (all_done u)
      done_like t u l =
          record { board = l.board; reports = ap (λ bs. with_done bs t.reports) l.ended ∙ ap (with_done u.ended) l.reports; words = l.words; ended = l.ended }

      start_like : (n k : ℕ) (b : Standing S) (d : Standing T) (words : List Words) → n ≡ k → BoardsLike R b d → TurnsLike R (turns_from b words n) (turns_from d words k)
      start_like n k b d words e l = record {
        board = l;
        reports = ap (λ m. replicate (m + 1) blank) e;
        words = refl;
        ended = ap (λ m. replicate (m + 1) false) e;
      }

      -- ---- the events of turns

      turn_events_like : (w : ℕ) (t : Turns S) (u : Turns T) → TurnsLike R t u → turn_events ps entries inputs w t ≡ turn_events qs others inputs w u
      turn_events_like w t u l =
          let ended : has_ended t w ≡ has_ended u w = ap (λ (bs : List Bool). unwrap_or (slice_get bs w) true) l.ended in
          ap (λ (c : Bool). cond c [] (tried_events ps w (meant ps entries inputs w t) t.board)) ended
          ∙ ap (cond (has_ended u w) []) (tried_events_like w (meant ps entries inputs w t) t.board u.board l.board
          ∙ ap (λ (x : Tried Act). tried_events qs w x u.board) (meant_like w t u l))

      first_events_like : (n : ℕ) (t : Turns S) (u : Turns T) → TurnsLike R t u → first_events ps entries inputs n t ≡ first_events qs others inputs n u
      first_events_like zero t u l = refl
      first_events_like (suc n) t u l =
          let t' : Turns S = turns_of_first ps entries inputs n t in
          let u' : Turns T = turns_of_first qs others inputs n u in
          ap (λ (es : List (Event × Answer)). es ++ turn_events ps entries inputs n t') (first_events_like n t u l)
          ∙ ap (λ (es : List (Event × Answer)). first_events qs others inputs n u ++ es) (turn_events_like n t' u' (first_like n t u l))

      rounds_events_like : (n : ℕ) (t : Turns S) (u : Turns T) → TurnsLike R t u → rounds_events ps entries inputs n t ≡ rounds_events qs others inputs n u
      rounds_events_like zero t u l = refl
      rounds_events_like (suc n) t u l =
          let t' : Turns S = rounds ps entries inputs n t in
          let u' : Turns T = rounds qs others inputs n u in
          ap (λ (es : List (Event × Answer)). es ++ first_events ps entries inputs (length entries + 1) t') (rounds_events_like n t u l)
          ∙ ap (λ (es : List (Event × Answer)). rounds_events qs others inputs n u ++ es)
          (first_events_like (length entries + 1) t' u' (rounds_like n t u l) ∙ ap (λ k. first_events qs others inputs (k + 1) u') many)

      -- so are those of runs on one thread
      pub events_like : (turns : ℕ) (b : Standing S) (d : Standing T) (words : List Words) → BoardsLike R b d
          → alone_events ps entries inputs turns b words ≡ alone_events qs others inputs turns d words
      events_like turns b d words l =
          rounds_events_like turns (turns_from b words (length entries)) (turns_from d words (length others)) (start_like (length entries) (length others) b d words many l)

      -- runs on one thread are alike
      pub alone_like : (turns : ℕ) (b : Standing S) (d : Standing T) (words : List Words) → BoardsLike R b d
          → TurnsLike R (alone_from ps entries inputs turns b words) (alone_from qs others inputs turns d words)
      alone_like turns b d words l =
          let first = start_like (length entries) (length others) b d words many l in
          done_like (rounds ps entries inputs turns (turns_from b words (length entries))) (rounds qs others inputs turns (turns_from d words (length others)))
          (rounds_like turns (turns_from b words (length entries)) (turns_from d words (length others)) first)

    -- ---- legal histories

    leads_back : (es : List (ℕ × Act)) (ss : List S) (ts us : List T) → AllRelated R 0 ss ts → Leads qs es ts us → (vs : List S) × Leads ps es ss vs × AllRelated R 0 vs us
    leads_back [] ss ts us r l = (ss, refl, subst (AllRelated R 0 ss) (sym l) r)
    leads_back (e ∷ es) ss ts us r (mid, own, goes, more) =
        let here = next_back (step ps e.1 ss) (step qs e.1 ts) mid (steps e.1 ss ts r) goes in
        let rest = leads_back es here.0 mid us here.2 more in
        (rest.0, (here.0, own ∙ sym (workers e.1), here.1, rest.1), rest.2)

    failure_back : (o : Option Failure) (ss : List S) (ts : List T) → AllRelated R 0 ss ts → IsFailureFrom qs ts o → IsFailureFrom ps ss o
    failure_back None ss ts r f = tt
    failure_back (Some x) ss ts r f =
        (f.0 ∙ sym (workers x.entry.1), fault_back (step ps x.entry.1 ss) (step qs x.entry.1 ts) x.component x.fault (steps x.entry.1 ss ts r) f.1)

    -- a sound board on the right is one on the left
    pub sound_back : (ss : List S) (ts : List T) (b : Standing T) → AllRelated R 0 ss ts → IsSound qs ts b → (d : Standing S) × IsSound ps ss d × BoardsLike R d b
    sound_back ss ts b r s =
        let l = leads_back b.history ss ts b.states r s.legal in (
          record { history = b.history; states = l.0; failure = b.failure },
          record { legal = l.1; failure = failure_back b.failure l.0 b.states l.2 s.failure },
          record { history = refl; failure = refl; states = l.2 },
        )

    leads_on : (es : List (ℕ × Act)) (ss us : List S) (ts : List T) → AllRelated R 0 ss ts → Leads ps es ss us → (vs : List T) × Leads qs es ts vs × AllRelated R 0 us vs
    leads_on [] ss us ts r l = (ts, refl, subst (λ xs. AllRelated R 0 xs ts) (sym l) r)
    leads_on (e ∷ es) ss us ts r (mid, own, goes, more) =
        let here : MovesLike R 0 (next mid) (step qs e.1 ts) = subst (λ m. MovesLike R 0 m (step qs e.1 ts)) goes (steps e.1 ss ts r) in
        let rest = leads_on es mid us here.0 here.2 more in
        (rest.0, (here.0, own ∙ workers e.1, here.1, rest.1), rest.2)

    failure_on : (o : Option Failure) (ss : List S) (ts : List T) → AllRelated R 0 ss ts → IsFailureFrom ps ss o → IsFailureFrom qs ts o
    failure_on None ss ts r f = tt
    failure_on (Some x) ss ts r f =
        (f.0 ∙ workers x.entry.1, subst (λ m. MovesLike R 0 m (step qs x.entry.1 ts)) f.1 (steps x.entry.1 ss ts r))

    pub sound_on : (ss : List S) (ts : List T) (d : Standing S) → AllRelated R 0 ss ts → IsSound ps ss d → (b : Standing T) × IsSound qs ts b × BoardsLike R d b
    sound_on ss ts d r s =
        let l = leads_on d.history ss d.states ts r s.legal in (
          record { history = d.history; states = l.0; failure = d.failure },
          record { legal = l.1; failure = failure_on d.failure d.states l.0 l.2 s.failure },
          record { history = refl; failure = refl; states = l.2 },
        )
