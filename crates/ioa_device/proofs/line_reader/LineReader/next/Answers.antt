use Rattle.std.proofs.Common.{◌≡◌, true, inl, inr, ◌++◌, ◌∷◌, ◌-◌, ◌+◌, ◌<◌, ◌≤◌, ◌^◌, min, ℕ, List, [], Ok, take, drop, length, refl, sym, ap, subst, ◌∙◌, arith, length-append}
use Rattle.ioa_device.specs.LineReading.{HasLine, IsLineText, rest, to_come}
use Rattle.ioa_device.specs.declared.line_reader.LineReader.{LineReader}
use Rattle.ioa_device.proofs.LineReading.{first_whole, joined, gathered_ended, of_each, counted_line, counted_on, enough, further, length_rest, none_gathered, gathered_end, gathered_more, gathered_line, after_left}
use Rattle.ioa_device.proofs.line_reader.LineReader.next.Goals as goal

pub loop-turn-init : goal.loop-turn-init
loop-turn-init g c = record {
  within = c.requires.within;
  over = c.requires.over;
  passed = refl;
  turns = omega arith;
  counted = λ n h. let z : length c.clear.new.self.items ≡ 0 = ap length c.clear.ensures.items in omega (arith, z, h);
  some = λ h. let z : length c.clear.new.self.items ≡ 0 = ap length c.clear.ensures.items in omega (arith, z, h);
  unended = subst IsLineText (sym c.clear.ensures.items) refl;
  first = λ h. (refl, h, refl);
  stays = λ h. h;
  taken = none_gathered (g.R.Read.remaining c.args.input.now) c.args.self.now
      (record { room = c.args.self.now.room; start = c.args.self.now.start; end = c.args.self.now.end; over = c.args.self.now.over; line = c.clear.new.self }) refl c.clear.ensures.items;
}

none_left : (n : ℕ) (xs : List ℕ) → take (n - n) (drop n xs) ≡ []
none_left n xs = let z : n - n ≡ 0 = omega arith in ap (λ (m : ℕ). take m (drop n xs)) z

pub returns-in-Some-clause-line : goal.returns-in-Some-clause-line
returns-in-Some-clause-line g c =
    let r : LineReader = c.loop-turn.self in
    let is : take (r.end - r.start) (drop r.start c.deref.result.now) ≡ rest r = ap (λ xs. take (r.end - r.start) (drop r.start xs)) c.deref.ensures.value in
    let p = sym is ∙ c.in-Some.ensures.parts in
    gathered_line (to_come (g.R.Read.remaining c.args.input.now) c.args.self.now) (g.R.Read.remaining c.loop-turn.input) r
    (record { room = r.room; start = r.end - length c.in-Some.after.now; end = r.end; over = r.over; line = c.extend_from_slice.new.self }) c.in-Some.line.now c.in-Some.after.now
    c.loop-turn.invariant.taken c.loop-turn.invariant.unended (subst IsLineText (sym c.in-Some.ensures.line) (first_whole (take (r.end - r.start) (drop r.start c.deref.result.now)))) p
    (after_left r.room.items c.in-Some.line.now c.in-Some.after.now r.start r.end c.loop-turn.invariant.within.1 c.loop-turn.invariant.within.0 p) c.in_ok-extend_from_slice.ensures.items

pub returns-in-Some-clause-counted : goal.returns-in-Some-clause-counted
returns-in-Some-clause-counted g c = λ n h some.
    let r : LineReader = c.loop-turn.self in
    let is : take (r.end - r.start) (drop r.start c.deref.result.now) ≡ rest r = ap (λ xs. take (r.end - r.start) (drop r.start xs)) c.deref.ensures.value in
    let p = sym is ∙ c.in-Some.ensures.parts in
    let after : List ℕ = c.in-Some.after.now in
    let e : length (rest r) ≡ length c.in-Some.line.now + (1 + length after) = omega (arith, ap length p, length-append c.in-Some.line.now (10 ∷ after)) in
    let left = after_left r.room.items c.in-Some.line.now after r.start r.end c.loop-turn.invariant.within.1 c.loop-turn.invariant.within.0 p in
    subst (λ (xs : List ℕ). min (n + 1 + length xs) (2 ^ 64 - 1) ≤ g.R.InputDevice.given_count c.loop-turn.input) (sym left)
    (counted_line n (length r.line.items) (length c.in-Some.line.now) (length after) (length (rest r)) (2 ^ 64 - 1) (g.R.InputDevice.given_count c.loop-turn.input) e (c.loop-turn.invariant.counted n h))

pub returns-then-not-branch-clause-counted : goal.returns-then-not-branch-clause-counted
returns-then-not-branch-clause-counted g c = λ n h some.
    let r : LineReader = c.loop-turn.self in
    let none : take (r.end - r.end) (drop r.end r.room.items) ≡ [] = none_left r.end r.room.items in
    enough n (length r.line.items) (length (rest r)) (length (rest c.has_more.new.self)) (2 ^ 64 - 1) (g.R.InputDevice.given_count c.has_more.new.input) (c.loop-turn.invariant.some some)
    (counted_on n (length r.line.items) (length (rest r)) _ (length (rest c.has_more.new.self)) (2 ^ 64 - 1) _ _ (length r.line.items + length (rest r)) refl (ap length none) (c.loop-turn.invariant.counted n h) c.in_ok-has_more.ensures.counted)

pub returns-then-not-branch-clause-line : goal.returns-then-not-branch-clause-line
returns-then-not-branch-clause-line g c =
    let r : LineReader = c.loop-turn.self in
    let is : take (r.end - r.start) (drop r.start c.deref.result.now) ≡ rest r = ap (λ xs. take (r.end - r.start) (drop r.start xs)) c.deref.ensures.value in
    gathered_end (to_come (g.R.Read.remaining c.args.input.now) c.args.self.now) (g.R.Read.remaining c.loop-turn.input) (to_come (g.R.Read.remaining c.has_more.new.input) c.has_more.new.self) r
    (record { room = r.room; start = r.end; end = r.end; over = r.over; line = c.extend_from_slice-in-loop-turn.new.self }) c.has_more.new.self.line.items
    c.loop-turn.invariant.taken c.loop-turn.invariant.unended (subst (λ xs. IsLineText xs) is (sym c.in_default.ensures.none)) (none_left r.end r.room.items)
    (ap (λ v. v.items) c.in_ok-has_more.ensures.line ∙ c.in_ok-extend_from_slice-2.ensures.items ∙ ap (λ xs. r.line.items ++ xs) is)
    (c.in_ok-has_more.ensures.none (ap Ok c.if-not-branch.true))

pub loop-turn-preserved : goal.loop-turn-preserved
loop-turn-preserved g c =
    let r : LineReader = c.loop-turn.self in
    let is : take (r.end - r.start) (drop r.start c.deref.result.now) ≡ rest r = ap (λ xs. take (r.end - r.start) (drop r.start xs)) c.deref.ensures.value in
    let none : take (r.end - r.end) (drop r.end r.room.items) ≡ [] = none_left r.end r.room.items in
    let items : c.has_more.new.self.line.items ≡ r.line.items ++ rest r =
    ap (λ v. v.items) c.in_ok-has_more.ensures.line ∙ c.in_ok-extend_from_slice-2.ensures.items ∙ ap (λ xs. r.line.items ++ xs) is in
    let all : length c.has_more.new.self.line.items ≡ length r.line.items + length (rest r) = ap length items ∙ length-append r.line.items (rest r) in
    let unended : IsLineText (rest r) = subst (λ xs. IsLineText xs) is (sym c.in_default.ensures.none) in
    let room : c.has_more.new.self.start < c.has_more.new.self.end = c.in_ok-has_more.ensures.room (ap Ok c.if-not-branch.false) in
    let long : length (rest c.has_more.new.self) ≡ c.has_more.new.self.end - c.has_more.new.self.start = length_rest c.has_more.new.self c.in_ok-has_more.ensures.within.0 in
    let over_not : r.over ≡ true → ⊥ = λ over. let same = (c.in_ok-has_more.ensures.asked (inr over)).1 in omega (arith, room, ap (λ s. s.start) same, ap (λ s. s.end) same) in
    let further_not : HasLine c.args.self.now → ⊥ = λ h. elim (c.loop-turn.invariant.first h).1 [ inl whole ↦ whole unended | inr over ↦ over_not over ] in
    record {
      within = c.in_ok-has_more.ensures.within;
      over = c.in_ok-has_more.ensures.over;
      passed = c.in_ok-has_more.ensures.devices.passed (λ e. absurd (cc)) ∙ c.loop-turn.invariant.passed;
      turns = further c.loop-turn.turn (g.R.InputDevice.given_count c.loop-turn.input) (g.R.InputDevice.given_count c.has_more.new.input) (2 ^ 64 - 1) (length (rest c.has_more.new.self))
          _ c.loop-turn.invariant.turns (omega arith) (omega (arith, long, room)) (ap length none) c.in_ok-has_more.ensures.counted;
      counted = λ n h. counted_on n (length r.line.items) (length (rest r)) _ (length (rest c.has_more.new.self)) (2 ^ 64 - 1) _ _ _ all (ap length none) (c.loop-turn.invariant.counted n h) c.in_ok-has_more.ensures.counted;
      some = λ h. omega (arith, all, c.loop-turn.invariant.some h);
      first = λ h. absurd (further_not h);
      stays = λ h. absurd (further_not (inr h));
      unended = subst (λ xs. IsLineText xs) (sym items) (joined r.line.items (rest r) c.loop-turn.invariant.unended unended);
      taken = gathered_more (to_come (g.R.Read.remaining c.args.input.now) c.args.self.now) (g.R.Read.remaining c.loop-turn.input) (to_come (g.R.Read.remaining c.has_more.new.input) c.has_more.new.self) r
          (record { room = r.room; start = r.end; end = r.end; over = r.over; line = c.extend_from_slice-in-loop-turn.new.self }) c.has_more.new.self.line.items c.loop-turn.invariant.taken none items
          (c.in_ok-has_more.ensures.some (ap Ok c.if-not-branch.false));
    }

pub returns-in-Some-clause-ended : goal.returns-in-Some-clause-ended
returns-in-Some-clause-ended g c =
    let r : LineReader = c.loop-turn.self in
    let is : take (r.end - r.start) (drop r.start c.deref.result.now) ≡ rest r = ap (λ xs. take (r.end - r.start) (drop r.start xs)) c.deref.ensures.value in
    gathered_ended (to_come (g.R.Read.remaining c.args.input.now) c.args.self.now) (g.R.Read.remaining c.loop-turn.input) r c.in-Some.line.now c.in-Some.after.now (r.over ≡ true)
    c.loop-turn.invariant.taken (sym is ∙ c.in-Some.ensures.parts)

pub returns-then-not-branch-clause-ended : goal.returns-then-not-branch-clause-ended
returns-then-not-branch-clause-ended g c =
    of_each (to_come (g.R.Read.remaining c.args.input.now) c.args.self.now) IsLineText (c.has_more.new.self.over ≡ true) (c.in_ok-has_more.ensures.ended (ap Ok c.if-not-branch.true))
