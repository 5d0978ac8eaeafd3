-- What holds of the protocol in each state that it reaches. Sent values are numbered from 1; the tag is number a + 1, and what is
-- wanted is number b + 1.
use Rattle.std.proofs.Common.{◌≡◌, ℕ, suc, ◌+◌, ◌-◌, ◌≤◌, ℤ, pos, ◌+ℤ◌, ◌-ℤ◌, ltb, negsuc, Bool, true, false, cond, List, [], ◌∷◌, ◌++◌, length, Result, Ok, Err, refl, sym, ap, subst, ◌∙◌, arith, append_assoc, append-nil, length-append, codes, le_refl}
use Rattle.ioa_arithmetic.specs.declared.arithmetic.Fault.{Fault}
use Rattle.ioa_arithmetic.specs.declared.arithmetic.Fault.TheVariants.{Overflow, Full}
use Rattle.ioa_arithmetic.specs.Arithmetic.{fits, tested}
use Rattle.ioa_value.specs.Actions.{Act}
use Rattle.ioa_value.specs.Plain.{Val, num}
use Rattle.ioa_value.specs.Same.{same_number}
use Rattle.ioa_value.proofs.SameLemmas.{same_equal}
use Rattle.ioa_links.proofs.Rules.{and_then, has_room}
use Rattle.ioa_links.proofs.Tables.{World, start, Sender, with_buf, Receiver, with_out, data_packet, ack_packet, tag_of, message_of, held_after, acked, accepted, owing}
use Rattle.ioa_links.specs.Delivery.{values_if}
use Rattle.ioa_links.proofs.Each.{Each, each_weaker, each_held, each_tail, each_rotated, each_has, split_once}
use Rattle.ioa_links.proofs.Moves.{Moves, sends_msg, gives_msg, sends_data, sends_ack, takes_data, misses_data, takes_ack, misses_ack, drops_data, drops_ack, turns_data, turns_ack, crashes_s, recovers_s, crashes_r, recovers_r}
use Rattle.ioa_tree.specs.Hosts.{host_state, when_ok}

number_is : (y z : ℤ) → same_number y z ≡ true → y ≡ z
number_is y z e = let h : num y ≡ num z = same_equal (num y) (num z) e in cc

-- the value after the first i
pub record Numbered (sent : List Val) (i : ℕ) (m : Val) : Type 0 where
  pub before : List Val
  pub after : List Val
  pub split : sent ≡ before ++ m ∷ after
  pub count : length before ≡ i

-- a data packet with a number at most that of the tag, and that number's value
pub record IsData (sent : List Val) (a : ℕ) (p : Val) : Type 0 where
  pub i : ℕ
  pub message : Val
  pub low : i ≤ a
  pub is : p ≡ data_packet (pos (suc i)) message
  pub value : Numbered sent i message

-- an ack below what is wanted
pub record IsAck (b : ℕ) (p : Val) : Type 0 where
  pub i : ℕ
  pub low : i ≤ b
  pub is : p ≡ ack_packet (pos i)

-- buf is what was sent from the tag on; delivered and out are what was sent before what is wanted
pub record Progress (a b : ℕ) (sent delivered buf : List Val) (tag : ℤ) (out : List Val) (want : ℤ) : Type 0 where
  pub tag_is : tag ≡ pos (suc a)
  pub want_is : want ≡ pos (suc b)
  pub low : a ≤ b
  pub high : b ≤ a + 1
  pub gone : List Val
  pub buffered : sent ≡ gone ++ buf
  pub gone_count : length gone ≡ a
  pub ahead : List Val
  pub taken : sent ≡ (delivered ++ out) ++ ahead
  pub taken_count : length (delivered ++ out) ≡ b

pub record Holds (sent delivered buf : List Val) (tag : ℤ) (packets acks : List Val) (out : List Val) (want : ℤ) : Type 0 where
  pub a : ℕ
  pub b : ℕ
  pub progress : Progress a b sent delivered buf tag out want
  pub held : Each (IsData sent a) packets
  pub held_acks : Each (IsAck b) acks

-- whether hosts are up, what is owed, and the counters do not matter
abbrev pub Inv : List Val → List Val → World → Type 0
Inv s d w = Holds s d w.source.inner.buf w.source.inner.tag w.packets w.acks w.sink.inner.out w.sink.inner.want

pub starts : (n : ℕ) → Inv [] [] (start n)
starts n = record {
  a = 0;
  b = 0;
  progress = record { tag_is = refl; want_is = refl; low = omega arith; high = omega arith; gone = []; buffered = refl; gone_count = refl; ahead = []; taken = refl; taken_count = refl };
  held = tt;
  held_acks = tt;
}

-- ---- numbers

tested_is : (z t : ℤ) → tested z ≡ Ok t → t ≡ z
tested_is z t h = by (fits z) h
  where
    by : (b : Bool) → cond b (Ok z) (Err Overflow) ≡ Ok t → t ≡ z
    by true h = cc
    by false h = absurd (cc)

one_more : (a : ℕ) (z t : ℤ) → z ≡ pos (suc a) → tested (z +ℤ pos 1) ≡ Ok t → t ≡ pos (suc (suc a))
one_more a z t e h = tested_is (z +ℤ pos 1) t h ∙ ap (λ x. x +ℤ pos 1) e ∙ ap pos (plus a)
  where
    plus : (a : ℕ) → suc a + 1 ≡ suc (suc a)
    plus a = omega arith

minus_one : (b : ℕ) → pos (suc b) -ℤ pos 1 ≡ pos b
minus_one b = by (ltb (suc b) 1) refl
  where
    by : (c : Bool) → ltb (suc b) 1 ≡ c → cond c (negsuc (1 - suc (suc b))) (pos (suc b - 1)) ≡ pos b
    by true e = absurd (grind arith)
    by false e = ap pos (omega arith)

one_less : (b : ℕ) (z t : ℤ) → z ≡ pos (suc b) → tested (z -ℤ pos 1) ≡ Ok t → t ≡ pos b
one_less b z t e h = tested_is (z -ℤ pos 1) t h ∙ ap (λ x. x -ℤ pos 1) e ∙ minus_one b

pos_same : (a b : ℕ) → pos a ≡ pos b → a ≡ b
pos_same a b h = cc

-- ---- what hosts do with packets

-- the receiver's messages and what it wants, after a packet
data Accepts (p : Val) (out : List Val) (want : ℤ) (r : Receiver) : Type 0 where
  keeps : r.out ≡ out → r.want ≡ want → Accepts p out want r
  takes : same_number (tag_of p) want ≡ true → r.out ≡ out ++ message_of p ∷ [] → tested (want +ℤ pos 1) ≡ Ok r.want → Accepts p out want r

-- the sender's messages and its tag, after a packet
data Acks (p : Val) (buf : List Val) (tag : ℤ) (s : Sender) : Type 0 where
  stays : s.buf ≡ buf → s.tag ≡ tag → Acks p buf tag s
  goes_on : (m : Val) → buf ≡ m ∷ s.buf → same_number (tag_of p) tag ≡ true → tested (tag +ℤ pos 1) ≡ Ok s.tag → Acks p buf tag s

ok_is : {S : Type 0} (s t : S) → ◌≡◌ {A = Result S Fault} (Ok s) (Ok t) → s ≡ t
ok_is s t h = cc

accepts : (p : Val) (x r : Receiver) → accepted p x ≡ Ok r → Accepts p x.out x.want r
accepts p x r h = by (same_number (tag_of p) x.want) (has_room x.out) (tested (x.want +ℤ pos 1)) refl refl h
  where
    by : (c d : Bool) (z : Result ℤ Fault) → same_number (tag_of p) x.want ≡ c → tested (x.want +ℤ pos 1) ≡ z →
        cond c (cond d (and_then (cond d (Ok (x.out ++ message_of p ∷ [])) (Err Full)) (λ ms. when_ok (λ w. with_out ms w x.owe) z)) (Ok x)) (Ok x) ≡ Ok r → Accepts p x.out x.want r
    by false d z e f h = let k = ok_is x r h in keeps (ap (λ r. r.out) (sym k)) (ap (λ r. r.want) (sym k))
    by true false z e f h = let k = ok_is x r h in keeps (ap (λ r. r.out) (sym k)) (ap (λ r. r.want) (sym k))
    by true true (Ok z) e f h =
        let k = ok_is (with_out (x.out ++ message_of p ∷ []) z x.owe) r h in
        takes e (ap (λ r. r.out) (sym k)) (f ∙ ap (λ r. Ok r.want) k)
    by true true (Err y) e f h = absurd (cc)

acks : (p : Val) (buf : List Val) (tag : ℤ) (s : Sender) → acked p buf tag ≡ Ok s → Acks p buf tag s
acks p [] tag s h = let k = ok_is (with_buf [] tag) s h in stays (ap (λ r. r.buf) (sym k)) (ap (λ r. r.tag) (sym k))
acks p (m ∷ ms) tag s h = by (same_number (tag_of p) tag) (tested (tag +ℤ pos 1)) refl refl h
  where
    by : (c : Bool) (z : Result ℤ Fault) → same_number (tag_of p) tag ≡ c → tested (tag +ℤ pos 1) ≡ z →
        cond c (when_ok (with_buf ms) z) (Ok (with_buf (m ∷ ms) tag)) ≡ Ok s → Acks p (m ∷ ms) tag s
    by false z e f h = let k = ok_is (with_buf (m ∷ ms) tag) s h in stays (ap (λ r. r.buf) (sym k)) (ap (λ r. r.tag) (sym k))
    by true (Ok z) e f h = let k = ok_is (with_buf ms z) s h in goes_on m (ap (λ r. m ∷ r.buf) k) e (f ∙ ap (λ r. Ok r.tag) k)
    by true (Err y) e f h = absurd (cc)

-- ---- more is sent, or more is acknowledged

later_value : (s : List Val) (x : Val) (i : ℕ) (m : Val) → Numbered s i m → Numbered (s ++ x ∷ []) i m
later_value s x i m v = record {
  before = v.before;
  after = v.after ++ x ∷ [];
  split = ap (λ z. z ++ x ∷ []) v.split ∙ append_assoc v.before (m ∷ v.after) (x ∷ []);
  count = v.count;
}

later_data : (s : List Val) (x : Val) (a : ℕ) (p : Val) → IsData s a p → IsData (s ++ x ∷ []) a p
later_data s x a p d = record { i = d.i; message = d.message; low = d.low; is = d.is; value = later_value s x d.i d.message d.value }

higher_data : (s : List Val) (a : ℕ) (p : Val) → IsData s a p → IsData s (suc a) p
higher_data s a p d = record { i = d.i; message = d.message; low = omega (arith, d.low); is = d.is; value = d.value }

higher_ack : (b : ℕ) (p : Val) → IsAck b p → IsAck (suc b) p
higher_ack b p d = record { i = d.i; low = omega (arith, d.low); is = d.is }

-- ---- one lemma for each kind of move

module _ (s d buf : List Val) (tag : ℤ) (packets acks out : List Val) (want : ℤ) (h : Holds s d buf tag packets acks out want) where
  holds_packets : (q : List Val) → Each (IsData s h.a) q → Holds s d buf tag q acks out want
  holds_packets q e = record { a = h.a; b = h.b; progress = h.progress; held = e; held_acks = h.held_acks }

  holds_acks : (q : List Val) → Each (IsAck h.b) q → Holds s d buf tag packets q out want
  holds_acks q e = record { a = h.a; b = h.b; progress = h.progress; held = h.held; held_acks = e }

  holds_sent : (m : Val) → Holds (s ++ m ∷ []) d (buf ++ m ∷ []) tag packets acks out want
  holds_sent m =
      let g = h.progress in
      record {
        a = h.a;
        b = h.b;
        progress = record {
          tag_is = g.tag_is;
          want_is = g.want_is;
          low = g.low;
          high = g.high;
          gone = g.gone;
          gone_count = g.gone_count;
          taken_count = g.taken_count;
          buffered = ap (λ z. z ++ m ∷ []) g.buffered ∙ append_assoc g.gone buf (m ∷ []);
          ahead = g.ahead ++ m ∷ [];
          taken = ap (λ z. z ++ m ∷ []) g.taken ∙ append_assoc (d ++ out) g.ahead (m ∷ []);
        };
        held = each_weaker (IsData s h.a) (IsData (s ++ m ∷ []) h.a) packets (later_data s m h.a) h.held;
        held_acks = h.held_acks;
      }

  holds_delivered : (m : Val) (ms : List Val) → out ≡ m ∷ ms → Holds s (d ++ m ∷ []) buf tag packets acks ms want
  holds_delivered m ms e =
      let g = h.progress in
      let moved : d ++ out ≡ (d ++ m ∷ []) ++ ms = ap (λ z. d ++ z) e ∙ sym (append_assoc d (m ∷ []) ms) in
      record {
        a = h.a;
        b = h.b;
        progress = record {
          tag_is = g.tag_is;
          want_is = g.want_is;
          low = g.low;
          high = g.high;
          gone = g.gone;
          gone_count = g.gone_count;
          buffered = g.buffered;
          ahead = g.ahead;
          taken = g.taken ∙ ap (λ z. z ++ g.ahead) moved;
          taken_count = ap length (sym moved) ∙ g.taken_count;
        };
        held = h.held;
        held_acks = h.held_acks;
      }

  -- the packet that the sender offers
  offered_data : (p m : Val) (ms : List Val) → buf ≡ m ∷ ms → p ≡ data_packet tag m → IsData s h.a p
  offered_data p m ms e f =
      let g = h.progress in
      record {
        i = h.a;
        message = m;
        low = le_refl h.a;
        is = f ∙ ap (λ t. data_packet t m) g.tag_is;
        value = record { before = g.gone; after = ms; split = g.buffered ∙ ap (λ z. g.gone ++ z) e; count = g.gone_count };
      }

  offered_ack : (p : Val) (t : ℤ) → tested (want -ℤ pos 1) ≡ Ok t → p ≡ ack_packet t → IsAck h.b p
  offered_ack p t e f = record { i = h.b; low = le_refl h.b; is = f ∙ ap ack_packet (one_less h.b want t h.progress.want_is e) }

  -- the wanted packet is accepted
  holds_accepted : (p : Val) (out' : List Val) (want' : ℤ) → IsData s h.a p → same_number (tag_of p) want ≡ true
      → out' ≡ out ++ message_of p ∷ [] → tested (want +ℤ pos 1) ≡ Ok want' → Holds s d buf tag packets acks out' want'
  holds_accepted p out' want' x e f t =
      let g = h.progress in
      let v = x.value in
      let tags : pos (suc x.i) ≡ pos (suc h.b) = ap tag_of (sym x.is) ∙ number_is (tag_of p) want e ∙ g.want_is in
      let number : x.i ≡ h.b = omega (arith, pos_same (suc x.i) (suc h.b) tags) in
      let parts = split_once v.before (d ++ out) (x.message ∷ v.after) g.ahead (sym v.split ∙ g.taken) (v.count ∙ number ∙ sym g.taken_count) in
      let longer : d ++ out' ≡ (d ++ out) ++ x.message ∷ [] =
      ap (λ z. d ++ z) (f ∙ ap (λ y. out ++ message_of y ∷ []) x.is) ∙ sym (append_assoc d out (x.message ∷ [])) in
      record {
        a = h.a;
        b = suc h.b;
        progress = record {
          tag_is = g.tag_is;
          want_is = one_more h.b want want' g.want_is t;
          low = omega (arith, g.low);
          high = omega (arith, x.low, number);
          gone = g.gone;
          gone_count = g.gone_count;
          buffered = g.buffered;
          ahead = v.after;
          taken = g.taken ∙ ap (λ z. (d ++ out) ++ z) (sym parts.1) ∙ sym (append_assoc (d ++ out) (x.message ∷ []) v.after) ∙ ap (λ z. z ++ v.after) (sym longer);
          taken_count = ap length longer ∙ length-append (d ++ out) (x.message ∷ []) ∙ plus g.taken_count;
        };
        held = h.held;
        held_acks = each_weaker (IsAck h.b) (IsAck (suc h.b)) acks (higher_ack h.b) h.held_acks;
      }
    where
      plus : length (d ++ out) ≡ h.b → length (d ++ out) + 1 ≡ suc h.b
      plus e = omega (arith, e)

  -- the first message is acknowledged
  holds_acked : (p m : Val) (ms : List Val) (tag' : ℤ) → IsAck h.b p → buf ≡ m ∷ ms → same_number (tag_of p) tag ≡ true
      → tested (tag +ℤ pos 1) ≡ Ok tag' → Holds s d ms tag' packets acks out want
  holds_acked p m ms tag' x f e t =
      let g = h.progress in
      let tags : pos x.i ≡ pos (suc h.a) = ap tag_of (sym x.is) ∙ number_is (tag_of p) tag e ∙ g.tag_is in
      let number : x.i ≡ suc h.a = pos_same x.i (suc h.a) tags in
      record {
        a = suc h.a;
        b = h.b;
        progress = record {
          tag_is = one_more h.a tag tag' g.tag_is t;
          want_is = g.want_is;
          low = omega (arith, x.low, number);
          high = omega (arith, g.high);
          gone = g.gone ++ m ∷ [];
          gone_count = length-append g.gone (m ∷ []) ∙ plus g.gone_count;
          buffered = g.buffered ∙ ap (λ z. g.gone ++ z) f ∙ sym (append_assoc g.gone (m ∷ []) ms);
          ahead = g.ahead;
          taken = g.taken;
          taken_count = g.taken_count;
        };
        held = each_weaker (IsData s h.a) (IsData s (suc h.a)) packets (higher_data s h.a) h.held;
        held_acks = h.held_acks;
      }
    where
      plus : {n : ℕ} → n ≡ h.a → n + 1 ≡ suc h.a
      plus e = omega (arith, e)

-- ---- each move

-- nothing is sent and nothing delivered
quiet : (s d : List Val) (v : World) → Inv s d v → Inv (s ++ []) (d ++ []) v
quiet s d v h = subst (λ x. Inv x (d ++ []) v) (sym (append-nil s)) (subst (λ y. Inv s y v) (sym (append-nil d)) h)

abbrev Keeps : List Val → List Val → Act → World → Type 0
Keeps s d a v = Inv (s ++ values_if (codes "send_msg") a) (d ++ values_if (codes "receive_msg") a) v

module _ (s d : List Val) (w : World) (h : Inv s d w) where
  abbrev buf : List Val
  buf = w.source.inner.buf

  abbrev tag : ℤ
  tag = w.source.inner.tag

  abbrev out : List Val
  out = w.sink.inner.out

  abbrev want : ℤ
  want = w.sink.inner.want

  accepts_keeps : (p : Val) (r : Receiver) → IsData s h.a p → Accepts p out want r → Inv s d (record w { sink = host_state true (owing p r) })
  accepts_keeps p r x (keeps e f) = subst (λ o. Holds s d buf tag w.packets w.acks o r.want) (sym e) (subst (λ z. Holds s d buf tag w.packets w.acks out z) (sym f) h)
  accepts_keeps p r x (takes e f t) = holds_accepted s d buf tag w.packets w.acks out want h p r.out r.want x e f t

  acks_keeps : (p : Val) (x : Sender) → IsAck h.b p → Acks p buf tag x → Inv s d (record w { source = host_state true x })
  acks_keeps p x y (stays e f) = subst (λ o. Holds s d o x.tag w.packets w.acks out want) (sym e) (subst (λ z. Holds s d buf z w.packets w.acks out want) (sym f) h)
  acks_keeps p x y (goes_on m e f t) = holds_acked s d buf tag w.packets w.acks out want h p m x.buf x.tag y e f t

  pub move_keeps : (a : Act) (v : World) → Moves w a v → Keeps s d a v
  move_keeps _ _ (sends_msg m u) =
      subst (λ y. Holds (s ++ m ∷ []) y (buf ++ m ∷ []) tag w.packets w.acks out want) (sym (append-nil d)) (holds_sent s d buf tag w.packets w.acks out want h m)
  move_keeps _ _ (gives_msg m ms u e) =
      subst (λ x. Holds x (d ++ m ∷ []) buf tag w.packets w.acks ms want) (sym (append-nil s)) (holds_delivered s d buf tag w.packets w.acks out want h m ms e)
  move_keeps _ _ (sends_data p m ms e f) =
      quiet s d (record w { source = host_state true w.source.inner; packets = held_after p w.packets })
      (holds_packets s d buf tag w.packets w.acks out want h (held_after p w.packets)
      (each_held (IsData s h.a) w.packets p h.held (offered_data s d buf tag w.packets w.acks out want h p m ms e f)))
  move_keeps _ _ (sends_ack p t e f) =
      quiet s d (record w { acks = held_after p w.acks; sink = host_state true (with_out out want false) })
      (holds_acks s d buf tag w.packets w.acks out want h (held_after p w.acks)
      (each_held (IsAck h.b) w.acks p h.held_acks (offered_ack s d buf tag w.packets w.acks out want h p t e f)))
  move_keeps _ _ (takes_data p r e f) =
      quiet s d (record w { sink = host_state true (owing p r) }) (accepts_keeps p r (each_has (IsData s h.a) p w.packets e h.held) (accepts p w.sink.inner r f))
  move_keeps _ _ (misses_data p) = quiet s d w h
  move_keeps _ _ (takes_ack p x e f) =
      quiet s d (record w { source = host_state true x }) (acks_keeps p x (each_has (IsAck h.b) p w.acks e h.held_acks) (acks p buf tag x f))
  move_keeps _ _ (misses_ack p) = quiet s d w h
  move_keeps _ _ (drops_data q e) =
      quiet s d (record w { packets = q }) (holds_packets s d buf tag w.packets w.acks out want h q (each_tail (IsData s h.a) w.packets q e h.held))
  move_keeps _ _ (drops_ack q e) =
      quiet s d (record w { acks = q }) (holds_acks s d buf tag w.packets w.acks out want h q (each_tail (IsAck h.b) w.acks q e h.held_acks))
  move_keeps _ _ (turns_data q e) =
      quiet s d (record w { packets = q }) (holds_packets s d buf tag w.packets w.acks out want h q (each_rotated (IsData s h.a) w.packets q e h.held))
  move_keeps _ _ (turns_ack q e) =
      quiet s d (record w { acks = q }) (holds_acks s d buf tag w.packets w.acks out want h q (each_rotated (IsAck h.b) w.acks q e h.held_acks))
  move_keeps _ _ (crashes_s left) = quiet s d (record w { source = host_state false w.source.inner; left = left }) h
  move_keeps _ _ recovers_s = quiet s d (record w { source = host_state true w.source.inner }) h
  move_keeps _ _ (crashes_r left) = quiet s d (record w { sink = host_state false (with_out out want false); left = left }) h
  move_keeps _ _ recovers_r = quiet s d (record w { sink = host_state true w.sink.inner }) h
