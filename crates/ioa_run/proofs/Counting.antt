-- Who takes turns in each of so many rounds has as many counted.
use Rattle.std.proofs.Common.{◌≡◌, ◌≢◌, ℕ, zero, suc, ◌+◌, ◌<◌, ◌==◌, List, [], ◌∷◌, length, replicate, All, Bool, true, false, cond, Option, None, Some, refl, sym, ◌∙◌, ap, subst, arith, inl, inr}
use Rattle.std.specs.Prelude.{slice_get, unwrap_or}
use Rattle.std.specs.Option.{option_map}
use Rattle.std.proofs.Math.Nat.{min-eq_left}
use Rattle.std.proofs.lemmas.Bool.Decides.{eqb_tells}
use Rattle.std.proofs.lemmas.List.Elements.{All-head, All-tail}
use Rattle.std.proofs.lemmas.Option.{slice_get_within}
use Rattle.ioa_value.specs.Actions.{Act}
use Rattle.ioa_tree.specs.Components.{Component}
use Rattle.ioa_tree.specs.Proposing.{Words, Tried, tries, idle}
use Rattle.ioa_board.specs.declared.answer.Answer.{Answer}
use Rattle.ioa_board.specs.declared.report.Report.{Report}
use Rattle.ioa_board.specs.declared.report.Why.{Why}
use Rattle.ioa_run.specs.Going.{AreCounted, AreGoing, Counts, IsRefused, dismissed}
use Rattle.ioa_board.specs.Reports.{blank, counted, left, one_more, unless_done, unless_faulted, with_idle, with_why, told}
use Rattle.ioa_board.specs.Boards.{Standing, attempt}
use Rattle.ioa_run.specs.Turns.{Proposer, Turns, turns_from, has_ended, is_last, meant, rounds, turn, turned, turns_of_first, with_done}
use Rattle.ioa_run.proofs.Turned.{At, at_changed, has_not, here, length_changed, same_items, there}

one_counted : (n : ℕ) → n + 1 < 18446744073709551616 → one_more n ≡ n + 1
one_counted n l = min-eq_left (omega (arith, l))

idle_counted : (r : Report) (n : ℕ) → n + 1 < 18446744073709551616 → counted r ≡ n → counted (with_idle r) ≡ n + 1
idle_counted r n l e = let o : one_more r.idle ≡ r.idle + 1 = one_counted r.idle (omega (arith, l, e)) in omega (arith, o, e)

stale_counted : (r : Report) (n : ℕ) → n + 1 < 18446744073709551616 → counted r ≡ n → r.committed + r.idle + one_more r.stale ≡ n + 1
stale_counted r n l e = let o : one_more r.stale ≡ r.stale + 1 = one_counted r.stale (omega (arith, l, e)) in omega (arith, o, e)

told_counted : (x : Answer) (r : Report) (n : ℕ) → is_last x ≡ false → n + 1 < 18446744073709551616 → counted r ≡ n → counted (told x r) ≡ n + 1
told_counted (Answer.Committed k) r n f l e = omega (arith, e)
told_counted (Answer.Faulted c g) r n f l e = absurd (cc)
told_counted Answer.Stopped r n f l e = absurd (cc)
told_counted Answer.NotAnAction r n f l e = idle_counted r n l e
told_counted Answer.NotYours r n f l e = idle_counted r n l e
told_counted Answer.NotEnabled r n f l e = idle_counted r n l e
told_counted Answer.Planned r n f l e = idle_counted r n l e
told_counted Answer.NoPlan r n f l e = idle_counted r n l e
told_counted Answer.Stale r n f l e = stale_counted r n l e

one_turn : (n k : ℕ) (q : Report) → counted q ≡ n + 1 → Counts n (k + 1) k q
one_turn n k q e = record { had = λ _. e; before = λ l. absurd (omega (arith, l)) }

pub no_turn : (n k v : ℕ) (q : Report) → v ≢ k → Counts n k v q → Counts n (k + 1) v q
no_turn n k v q d c = record {
  had = λ l. elim (eqb_tells v k) as (λ _. counted q ≡ n + 1) [
    | inl p ↦ absurd (d p.1)
    | inr p ↦ c.had (less v k l d)
  ];
  before = λ l. c.before (omega (arith, l));
}
  where
    less : (a b : ℕ) → a < b + 1 → a ≢ b → a < b
    less zero zero l d = absurd (d refl)
    less zero (suc b) l d = omega arith
    less (suc a) zero l d = absurd (omega (arith, l))
    less (suc a) (suc b) l d = let m : a < b = less a b (omega (arith, l)) (λ e. d (ap suc e)) in omega (arith, m)

module _ {S : Type 0} (ps : List (Component S)) where
  pub counted_turned : (n k : ℕ) (m : Tried Act) (t : Turns S) → n + 1 < 18446744073709551616 → slice_get t.ended k ≡ Some false → AreCounted n k t → AreCounted n (k + 1) (turned ps k m t)
  counted_turned n k (idle taken) t l o h v q e g =
      elim (at_changed with_idle k v t.reports q g) as (λ _. Counts n (k + 1) v q) [
        | here x p i j ↦
            subst (λ u. Counts n (k + 1) u q) (sym p)
            (one_turn n k q (ap counted j ∙ idle_counted x n l ((h k x o i).before (omega arith))))
        | there d i ↦ no_turn n k v q d (h v q e i)
      ]
  counted_turned n k (tries a taken) t l o h v q e g =
      let x : Answer = (attempt ps k a t.board).0 in
      let e' : At (λ _. is_last x) k v t.ended false = at_changed (λ _. is_last x) k v t.ended false e in
      elim (at_changed (told x) k v t.reports q g) as (λ _. Counts n (k + 1) v q) [
        | here r p i j ↦
            elim e' as (λ _. Counts n (k + 1) v q) [
              | here b _ _ f ↦
                  subst (λ u. Counts n (k + 1) u q) (sym p)
                  (one_turn n k q (ap counted j ∙ told_counted x r n (sym f) l ((h k r o i).before (omega arith))))
              | there d _ ↦ absurd (d p)
            ]
        | there d i ↦
            elim e' as (λ _. Counts n (k + 1) v q) [
              | here _ p _ _ ↦ absurd (d p)
              | there _ f ↦ no_turn n k v q d (h v q f i)
            ]
      ]

  length_turned : (k : ℕ) (m : Tried Act) (t : Turns S) → length (turned ps k m t).reports ≡ length t.reports
  length_turned k (idle taken) t = length_changed with_idle k t.reports
  length_turned k (tries a taken) t = length_changed (told (attempt ps k a t.board).0) k t.reports

ended_not : (o : Option Bool) → unwrap_or o true ≡ true → o ≡ Some false → ⊥
ended_not None e f = cc
ended_not (Some b) e f = cc

by_ended : {X : Type 0} (P : X → Type 0) (b : Bool) (x y : X) → (b ≡ true → P x) → (b ≡ false → P y) → P (cond b x y)
by_ended P true x y h k = h refl
by_ended P false x y h k = k refl

module _ {S : Type 0} (ps : List (Component S)) (entries : List (List (Proposer S))) (inputs : List Act) where
  counted_turn : (n k : ℕ) (t : Turns S) → n + 1 < 18446744073709551616 → AreCounted n k t → AreCounted n (k + 1) (turn ps entries inputs k t)
  counted_turn n k t l h =
      by_ended (λ (u : Turns S). AreCounted n (k + 1) u) (has_ended t k) t (turned ps k (meant ps entries inputs k t) t)
      (λ e v q f g. no_turn n k v q (λ p. ended_not (slice_get t.ended k) e (subst (λ u. slice_get t.ended u ≡ Some false) p f)) (h v q f g))
      (λ e. counted_turned ps n k (meant ps entries inputs k t) t l (has_not t k e) h)

  length_turn : (k : ℕ) (t : Turns S) → length (turn ps entries inputs k t).reports ≡ length t.reports
  length_turn k t = by_ended (λ (u : Turns S). length u.reports ≡ length t.reports) (has_ended t k) t (turned ps k (meant ps entries inputs k t) t) (λ _. refl) (λ _. length_turned ps k (meant ps entries inputs k t) t)

  counted_first : (n k : ℕ) (t : Turns S) → n + 1 < 18446744073709551616 → AreCounted n 0 t → AreCounted n k (turns_of_first ps entries inputs k t)
  counted_first n zero t l h = h
  counted_first n (suc k) t l h =
      subst (λ j. AreCounted n j (turns_of_first ps entries inputs (suc k) t)) (omega arith) (counted_turn n k (turns_of_first ps entries inputs k t) l (counted_first n k t l h))

  length_first : (k : ℕ) (t : Turns S) → length (turns_of_first ps entries inputs k t).reports ≡ length t.reports
  length_first zero t = refl
  length_first (suc k) t = length_turn k (turns_of_first ps entries inputs k t) ∙ length_first k t

  length_rounds : (n : ℕ) (t : Turns S) → length (rounds ps entries inputs n t).reports ≡ length t.reports
  length_rounds zero t = refl
  length_rounds (suc n) t = length_first (length entries + 1) (rounds ps entries inputs n t) ∙ length_rounds n t

  pub counted_rounds : (n : ℕ) (t : Turns S) → n < 18446744073709551616 → length t.reports ≡ length entries + 1 → AreCounted 0 0 t → AreCounted n 0 (rounds ps entries inputs n t)
  counted_rounds zero t l c h v q e g = h v q e g
  counted_rounds (suc n) t l c h v q e g =
      let r : Turns S = rounds ps entries inputs n t in
      let within : v < length (rounds ps entries inputs (suc n) t).reports = slice_get_within (rounds ps entries inputs (suc n) t).reports v q g in
      let many : length (rounds ps entries inputs (suc n) t).reports ≡ length t.reports = length_rounds (suc n) t in
      let more : Counts n (length entries + 1) v q = counted_first n (length entries + 1) r (omega (arith, l)) (counted_rounds n t (omega (arith, l)) c h) v q e g in
      let all : counted q ≡ n + 1 = more.had (omega (arith, within, many, c)) in
      record { had = λ z. absurd (omega (arith, z)); before = λ _. omega (arith, all) }

-- ---- the start

pub got_replicated : {X : Type 0} (n v : ℕ) (x y : X) → slice_get (replicate n x) v ≡ Some y → y ≡ x
got_replicated zero v x y e = absurd (cc)
got_replicated (suc n) zero x y e = cc
got_replicated (suc n) (suc v) x y e = got_replicated n v x y e

pub first_going : {S : Type 0} (b : Standing S) (ws : List Words) (n : ℕ) → AreGoing (turns_from b ws n)
first_going b ws n v q e g = ap (λ (r : Report). r.why) (got_replicated (n + 1) v blank q g)

pub first_counted : {S : Type 0} (b : Standing S) (ws : List Words) (n : ℕ) → AreCounted 0 0 (turns_from b ws n)
first_counted b ws n v q e g = record { had = λ z. absurd (omega (arith, z)); before = λ _. ap counted (got_replicated (n + 1) v blank q g) }

-- ---- the end

same_option : {X : Type 0} (o : Option X) → o ≡ option_map (λ x. x) o
same_option None = refl
same_option (Some x) = refl

done_at : (es : List Bool) (rs : List Report) (w : ℕ) → slice_get (with_done es rs) w ≡ option_map (λ q. cond (unwrap_or (slice_get es w) true) q (with_why Why.TurnsDone q)) (slice_get rs w)
done_at [] rs w = same_option (slice_get rs w)
done_at (e ∷ es) [] w = refl
done_at (e ∷ es) (r ∷ rs) zero = refl
done_at (e ∷ es) (r ∷ rs) (suc w) = done_at es rs w

pub left_done : (turns : ℕ) (q : Report) → q.why ≡ Why.Stopped → counted q ≡ turns → left turns Why.TurnsDone q ≡ with_why Why.TurnsDone q
left_done turns q s c =
    let all : (counted q == turns) ≡ true =
    elim (eqb_tells (counted q) turns) as (λ _. (counted q == turns) ≡ true) [ inl p ↦ p.0 | inr p ↦ absurd (p.1 c) ] in
    ap (λ y. with_why (unless_faulted y (unless_done (counted q == turns) y Why.TurnsDone)) q) s
    ∙ ap (λ b. with_why (unless_faulted Why.Stopped (unless_done b Why.Stopped Why.TurnsDone)) q) all

dismissed_done : (turns : ℕ) (o : Option Bool) (q : Report) → (o ≡ Some false → (q.why ≡ Why.Stopped) × (counted q ≡ turns))
    → cond (unwrap_or o true) q (left turns Why.TurnsDone q) ≡ cond (unwrap_or o true) q (with_why Why.TurnsDone q)
dismissed_done turns None q h = refl
dismissed_done turns (Some true) q h = refl
dismissed_done turns (Some false) q h = let k = h refl in left_done turns q k.0 k.1

mapped_alike : {X : Type 0} (f g : X → X) (o : Option X) → ((x : X) → o ≡ Some x → f x ≡ g x) → option_map f o ≡ option_map g o
mapped_alike f g None h = refl
mapped_alike f g (Some x) h = ap Some (h x refl)

-- who has not ended, and is counted as many turns as it has, is told that they are done
pub dismissed_is : (turns : ℕ) (es : List Bool) (rs rs' : List Report) → ((w : ℕ) → slice_get rs' w ≡ option_map (dismissed turns es w) (slice_get rs w))
    → ((w : ℕ) (q : Report) → slice_get es w ≡ Some false → slice_get rs w ≡ Some q → (q.why ≡ Why.Stopped) × (counted q ≡ turns)) → rs' ≡ with_done es rs
dismissed_is turns es rs rs' d h =
    same_items rs' (with_done es rs) (λ w.
    d w ∙ mapped_alike _ _ (slice_get rs w) (λ q e. dismissed_done turns (slice_get es w) q (λ o. h w q o e)) ∙ sym (done_at es rs w))

-- memory that was refused stays told
pub refused_dismissed : (turns : ℕ) (es : List Bool) (rs rs' : List Report) → ((w : ℕ) → slice_get rs' w ≡ option_map (dismissed turns es w) (slice_get rs w)) → IsRefused rs es → IsRefused rs' es
refused_dismissed turns es rs rs' d f = record {
  worker = f.worker;
  report = f.report;
  there = d f.worker ∙ ap (option_map (dismissed turns es f.worker)) f.there ∙ ap (λ o. Some (cond (unwrap_or o true) f.report (left turns Why.TurnsDone f.report))) f.ended;
  memory = f.memory;
  ended = f.ended;
}

pub got_all : {X : Type 0} (P : X → Type 0) (xs : List X) (w : ℕ) (x : X) → All P xs → slice_get xs w ≡ Some x → P x
got_all P [] w x h e = absurd (cc)
got_all P (y ∷ ys) zero x h e = let q : y ≡ x = cc in subst P q (All-head P y ys h)
got_all P (y ∷ ys) (suc w) x h e = got_all P ys w x (All-tail P y ys h) e

-- where no report says so, memory was refused to no worker
pub none_refused : (rs : List Report) (es : List Bool) → All (λ (r : Report). r.why ≢ Why.Memory) rs → IsRefused rs es → ⊥
none_refused rs es h f = got_all (λ (r : Report). r.why ≢ Why.Memory) rs f.worker f.report h f.there f.memory
