-- Each step of the composition is one of the moves.
use Rattle.std.proofs.Common.{◌≡◌, ℤ, pos, ◌+ℤ◌, ◌-ℤ◌, Bool, true, false, cond, ◌⊎◌, inl, inr, List, [], ◌∷◌, ◌++◌, Result, Ok, Err, refl, sym, ap, subst, ◌∙◌, codes, true≢false}
use Rattle.std.specs.List.{list_any}
use Rattle.ioa_arithmetic.specs.declared.arithmetic.Fault.{Fault}
use Rattle.ioa_arithmetic.specs.declared.arithmetic.Fault.TheVariants.{Full}
use Rattle.ioa_arithmetic.specs.Arithmetic.{tested}
use Rattle.ioa_value.specs.Actions.{Act}
use Rattle.ioa_value.specs.Plain.{Val}
use Rattle.ioa_value.specs.Same.{same}
use Rattle.ioa_tree.specs.Steps.{next, step}
use Rattle.ioa_links.proofs.Rules.{is_int, is_packet, has_room, appended}
use Rattle.ioa_links.proofs.Tables.{World, nodes, stenning, Sender, with_buf, Receiver, with_out, User, counted, data_packet, ack_packet, held_after, tail_of, rotated, offers, acked, accepted, owing, offers_ack, gives_out, Node, sender, receiver, channel, crasher, user, sender_component, channel_component, receiver_component, crasher_component, user_component}
use Rattle.ioa_value.proofs.SameLemmas.{same_equal}
use Rattle.ioa_links.proofs.Inversion.{AllMove, Performed, step_next}
use Rattle.ioa_links.proofs.Six.{Six, apart, Lands, lands}
use Rattle.ioa_links.proofs.Moves.{Moves, act, n0, n1, sends_msg, gives_msg, sends_data, sends_ack, takes_data, misses_data, takes_ack, misses_ack, drops_data, drops_ack, turns_data, turns_ack, crashes_s, recovers_s, crashes_r, recovers_r}
use Rattle.ioa_links.proofs.Views.{View, view, of_send_msg, of_receive_msg, of_send_data, of_send_ack, of_recv_data, of_recv_ack, of_drop_data, of_drop_ack, of_rotate_data, of_rotate_ack, of_crash_s, of_recover_s, of_crash_r, of_recover_r, of_none}
use Rattle.ioa_tree.specs.Hosts.{HostState, host_state, when_ok}

abbrev Parts : World → Act → List Node → Type 0
Parts w a ts =
    Six sender_component (channel_component (pos 0)) (channel_component (pos 1)) receiver_component crasher_component user_component a
    (sender w.source) (channel w.packets) (channel w.acks) (receiver w.sink) (crasher w.left) (user w.counts) ts

parts : (w : World) (a : Act) (ts : List Node) → AllMove stenning a (nodes w) ts → Parts w a ts
parts w a ts h =
    apart sender_component (channel_component (pos 0)) (channel_component (pos 1)) receiver_component crasher_component user_component a
    (sender w.source) (channel w.packets) (channel w.acks) (receiver w.sink) (crasher w.left) (user w.counts) ts h

pub record Found (w : World) (a : Act) (ts : List Node) : Type 0 where
  pub world : World
  pub moves : Moves w a world
  pub all : ts ≡ nodes world

abbrev Finds : World → Act → Type 0
Finds w a = (ts : List Node) → Performed stenning a (nodes w) ts → Found w a ts

-- the new states are those of this world
ends_in : (w : World) (a : Act) (ts : List Node) (k : Parts w a ts) (v : World) → Moves w a v
    → Lands (sender v.source) k.t0 → Lands (channel v.packets) k.t1 → Lands (channel v.acks) k.t2
    → Lands (receiver v.sink) k.t3 → Lands (crasher v.left) k.t4 → Lands (user v.counts) k.t5 → Found w a ts
ends_in w a ts k v m e0 e1 e2 e3 e4 e5 = record {
  world = v;
  moves = m;
  all = lands k.t0 k.t1 k.t2 k.t3 k.t4 k.t5 (sender v.source) (channel v.packets) (channel v.acks) (receiver v.sink) (crasher v.left) (user v.counts) ts k.all e0 e1 e2 e3 e4 e5;
}

-- ---- what hosts and counters do

-- a host_state's own action: it is up, the precondition is true, and the effect gives a state
record Acts {S : Type 0} (into : HostState S → Node) (g : Result Bool Fault) (r : Result S Fault) (t : Node) : Type 0 where
  pub guard : g ≡ Ok true
  pub state : S
  pub gives : r ≡ Ok state
  pub ends : Lands (into (host_state true state)) t

ok_true : (b : Bool) → ◌≡◌ {A = Result Bool Fault} (Ok b) (Ok true) → b ≡ true
ok_true true h = refl
ok_true false h = absurd (cc)

acts : {S : Type 0} (into : HostState S → Node) (b : Bool) (g : Result Bool Fault) (r : Result S Fault) (x : HostState S) (t : Node)
    → cond b g (Ok false) ≡ Ok true → when_ok into (cond b (when_ok (host_state true) r) (Ok x)) ≡ Ok t → Acts into g r t
acts into true g (Ok s) x t h e = record { guard = h; state = s; gives = refl; ends = e }
acts into true g (Err f) x t h e = absurd (cc)
acts into false g r x t h e = absurd (cc)

-- an input of a host_state: it is taken, or the host_state is down and misses it
abbrev Takes : {S : Type 0} → (HostState S → Node) → Result S Fault → HostState S → Node → Type 0
Takes {S} into r x t = ((s : S) × (r ≡ Ok s) × Lands (into (host_state true s)) t) ⊎ Lands (into x) t

takes : {S : Type 0} (into : HostState S → Node) (b : Bool) (r : Result S Fault) (x : HostState S) (t : Node)
    → when_ok into (cond b (when_ok (host_state true) r) (Ok x)) ≡ Ok t → Takes into r x t
takes into true (Ok s) x t e = inl (s, refl, e)
takes into true (Err f) x t e = absurd (cc)
takes into false r x t e = inr e

counts : (f : ℤ → User) (r : Result ℤ Fault) (t : Node) → when_ok user (when_ok f r) ≡ Ok t → (u : User) × Lands (user u) t
counts f (Ok z) t e = (f z, e)
counts f (Err x) t e = absurd (cc)

crash_counts : (r : Result ℤ Fault) (t : Node) → when_ok crasher r ≡ Ok t → (z : ℤ) × Lands (crasher z) t
crash_counts (Ok z) t e = (z, e)
crash_counts (Err x) t e = absurd (cc)

-- ---- the protocol's own preconditions and effects

ok_is : {S : Type 0} (s t : S) → ◌≡◌ {A = Result S Fault} (Ok s) (Ok t) → s ≡ t
ok_is s t h = cc

put_gives : (c : Bool) (ys : List Val) (tag : ℤ) (s : Sender) → c ≡ true → when_ok (λ ms. with_buf ms tag) (cond c (Ok ys) (Err Full)) ≡ Ok s → s ≡ with_buf ys tag
put_gives true ys tag s h e = sym (ok_is (with_buf ys tag) s e)
put_gives false ys tag s h e = absurd (cc)

offered : (p : Val) (buf : List Val) (tag : ℤ) → offers p buf tag ≡ true → (m : Val) × (ms : List Val) × (buf ≡ m ∷ ms) × (p ≡ data_packet tag m)
offered p [] tag h = absurd (cc)
offered p (m ∷ ms) tag h = (m, ms, refl, same_equal p (data_packet tag m) h)

given_out : (m : Val) (out : List Val) (want : ℤ) (owe : Bool) (r : Receiver) → gives_out m out ≡ true → when_ok (λ ms. with_out ms want owe) (tail_of out) ≡ Ok r
    → (ms : List Val) × (out ≡ m ∷ ms) × (r ≡ with_out ms want owe)
given_out m [] want owe r h e = absurd (cc)
given_out m (x ∷ xs) want owe r h e = (xs, ap (λ y. y ∷ xs) (sym (same_equal m x h)), sym (ok_is (with_out xs want owe) r e))

channel_lands : (r : Result (List Val) Fault) (t : Node) → when_ok channel r ≡ Ok t → (q : List Val) × (r ≡ Ok q) × Lands (channel q) t
channel_lands (Ok q) t e = (q, refl, e)
channel_lands (Err f) t e = absurd (cc)

ack_tag : (p : Val) (r : Result ℤ Fault) → when_ok (λ t. same p (ack_packet t)) r ≡ Ok true → (t : ℤ) × (r ≡ Ok t) × (p ≡ ack_packet t)
ack_tag p (Ok t) h = (t, refl, same_equal p (ack_packet t) (ok_true (same p (ack_packet t)) h))
ack_tag p (Err f) h = absurd (cc)

owed : (b : Bool) (p : Val) (r : Result ℤ Fault) → cond b (when_ok (λ t. same p (ack_packet t)) r) (Ok false) ≡ Ok true → (t : ℤ) × (r ≡ Ok t) × (p ≡ ack_packet t)
owed true p r h = ack_tag p r h
owed false p r h = absurd (cc)

owes : (p : Val) (r : Result Receiver Fault) (s : Receiver) → when_ok (owing p) r ≡ Ok s → (x : Receiver) × (r ≡ Ok x) × (owing p x ≡ s)
owes p (Ok x) s h = (x, refl, ok_is (owing p x) s h)
owes p (Err f) s h = absurd (cc)

-- the same, where the new state is known
renamed : {S : Type 0} (into : HostState S → Node) (x y : S) (t : Node) → x ≡ y → Lands (into (host_state true x)) t → Lands (into (host_state true y)) t
renamed into x y t e h = subst (λ s. Lands (into (host_state true s)) t) e h

-- the effect gives this state
gives_as : {S : Type 0} (into : HostState S → Node) (x y : S) (t : Node) → ◌≡◌ {A = Result S Fault} (Ok x) (Ok y) → Lands (into (host_state true y)) t → Lands (into (host_state true x)) t
gives_as into x y t g h = renamed into y x t (sym (ok_is x y g)) h

-- ---- the actions

on_send_msg : (w : World) (m : Val) → is_int m ≡ true → Finds w (act (codes "send_msg") (m ∷ []))
on_send_msg w m ok ts h =
    let k = parts w (act (codes "send_msg") (m ∷ [])) ts h.moves in
    let s = w.source.inner in
    let a = acts sender w.source.up (Ok (has_room s.buf)) (when_ok (λ ms. with_buf ms s.tag) (appended s.buf m)) w.source k.t0 (rw ok at h.allows) (rw ok at k.e0) in
    let new : a.state ≡ with_buf (s.buf ++ m ∷ []) s.tag =
    put_gives (has_room s.buf) (s.buf ++ m ∷ []) s.tag a.state (ok_true (has_room s.buf) a.guard) a.gives in
    let u = counts (λ z. counted z w.counts.got) (tested (w.counts.sent +ℤ pos 1)) k.t5 (rw ok at k.e5) in
    ends_in w (act (codes "send_msg") (m ∷ [])) ts k (record w { source = host_state true (with_buf (s.buf ++ m ∷ []) s.tag); counts = u.0 }) (sends_msg m u.0)
    (renamed sender a.state (with_buf (s.buf ++ m ∷ []) s.tag) k.t0 new a.ends) k.e1 k.e2 k.e3 k.e4 u.1

on_receive_msg : (w : World) (m : Val) → is_int m ≡ true → Finds w (act (codes "receive_msg") (m ∷ []))
on_receive_msg w m ok ts h =
    let k = parts w (act (codes "receive_msg") (m ∷ [])) ts h.moves in
    let r = w.sink.inner in
    let a = acts receiver w.sink.up (Ok (gives_out m r.out)) (when_ok (λ ms. with_out ms r.want r.owe) (tail_of r.out)) w.sink k.t3 (rw ok at h.allows) (rw ok at k.e3) in
    let g = given_out m r.out r.want r.owe a.state (ok_true (gives_out m r.out) a.guard) a.gives in
    let u = counts (λ z. counted w.counts.sent z) (tested (w.counts.got +ℤ pos 1)) k.t5 (rw ok at k.e5) in
    ends_in w (act (codes "receive_msg") (m ∷ [])) ts k (record w { sink = host_state true (with_out g.0 r.want r.owe); counts = u.0 }) (gives_msg m g.0 u.0 g.1)
    k.e0 k.e1 k.e2 (renamed receiver a.state (with_out g.0 r.want r.owe) k.t3 g.2 a.ends) k.e4 u.1

on_send_data : (w : World) (p : Val) → is_packet p ≡ true → Finds w (act (codes "send") (n0 ∷ p ∷ []))
on_send_data w p ok ts h =
    let k = parts w (act (codes "send") (n0 ∷ p ∷ [])) ts h.moves in
    let s = w.source.inner in
    let a = acts sender w.source.up (Ok (offers p s.buf s.tag)) (Ok s) w.source k.t0 (rw ok at h.allows) (rw ok at k.e0) in
    let o = offered p s.buf s.tag (ok_true (offers p s.buf s.tag) a.guard) in
    ends_in w (act (codes "send") (n0 ∷ p ∷ [])) ts k (record w { source = host_state true s; packets = held_after p w.packets }) (sends_data p o.0 o.1 o.2 o.3)
    (gives_as sender s a.state k.t0 a.gives a.ends) (rw ok at k.e1) k.e2 k.e3 k.e4 k.e5

on_send_ack : (w : World) (p : Val) → is_packet p ≡ true → Finds w (act (codes "send") (n1 ∷ p ∷ []))
on_send_ack w p ok ts h =
    let k = parts w (act (codes "send") (n1 ∷ p ∷ [])) ts h.moves in
    let r = w.sink.inner in
    let new : Receiver = with_out r.out r.want false in
    let a = acts receiver w.sink.up (offers_ack p r) (Ok new) w.sink k.t3 (rw ok at h.allows) (rw ok at k.e3) in
    let o = owed r.owe p (tested (r.want -ℤ pos 1)) a.guard in
    ends_in w (act (codes "send") (n1 ∷ p ∷ [])) ts k (record w { acks = held_after p w.acks; sink = host_state true new }) (sends_ack p o.0 o.1 o.2)
    k.e0 k.e1 (rw ok at k.e2) (gives_as receiver new a.state k.t3 a.gives a.ends) k.e4 k.e5

on_recv_data : (w : World) (p : Val) → is_packet p ≡ true → Finds w (act (codes "recv") (n0 ∷ p ∷ []))
on_recv_data w p ok ts h =
    let k = parts w (act (codes "recv") (n0 ∷ p ∷ [])) ts h.moves in
    let held = ok_true (list_any (same p) w.packets) (rw ok at h.allows) in
    let t : Takes receiver (when_ok (owing p) (accepted p w.sink.inner)) w.sink k.t3 =
    takes receiver w.sink.up (when_ok (owing p) (accepted p w.sink.inner)) w.sink k.t3 (rw ok at k.e3) in
    by k t held (rw ok at k.e1)
  where
    by : (k : Parts w (act (codes "recv") (n0 ∷ p ∷ [])) ts) → Takes receiver (when_ok (owing p) (accepted p w.sink.inner)) w.sink k.t3 →
        list_any (same p) w.packets ≡ true → Lands (channel w.packets) k.t1 → Found w (act (codes "recv") (n0 ∷ p ∷ [])) ts
    by k (inl t) held e1 =
        let x = owes p (accepted p w.sink.inner) t.0 t.1 in
        ends_in w (act (codes "recv") (n0 ∷ p ∷ [])) ts k (record w { sink = host_state true (owing p x.0) }) (takes_data p x.0 held x.1)
        k.e0 e1 k.e2 (renamed receiver t.0 (owing p x.0) k.t3 (sym x.2) t.2) k.e4 k.e5
    by k (inr e3) held e1 = ends_in w (act (codes "recv") (n0 ∷ p ∷ [])) ts k w (misses_data p) k.e0 e1 k.e2 e3 k.e4 k.e5

on_recv_ack : (w : World) (p : Val) → is_packet p ≡ true → Finds w (act (codes "recv") (n1 ∷ p ∷ []))
on_recv_ack w p ok ts h =
    let k = parts w (act (codes "recv") (n1 ∷ p ∷ [])) ts h.moves in
    let s = w.source.inner in
    let held = ok_true (list_any (same p) w.acks) (rw ok at h.allows) in
    by k (takes sender w.source.up (acked p s.buf s.tag) w.source k.t0 (rw ok at k.e0)) held (rw ok at k.e2)
  where
    by : (k : Parts w (act (codes "recv") (n1 ∷ p ∷ [])) ts) → Takes sender (acked p w.source.inner.buf w.source.inner.tag) w.source k.t0 →
        list_any (same p) w.acks ≡ true → Lands (channel w.acks) k.t2 → Found w (act (codes "recv") (n1 ∷ p ∷ [])) ts
    by k (inl t) held e2 =
        ends_in w (act (codes "recv") (n1 ∷ p ∷ [])) ts k (record w { source = host_state true t.0 }) (takes_ack p t.0 held t.1) t.2 k.e1 e2 k.e3 k.e4 k.e5
    by k (inr e0) held e2 = ends_in w (act (codes "recv") (n1 ∷ p ∷ [])) ts k w (misses_ack p) e0 k.e1 e2 k.e3 k.e4 k.e5

on_drop_data : (w : World) → Finds w (act (codes "drop") (n0 ∷ []))
on_drop_data w ts h =
    let k = parts w (act (codes "drop") (n0 ∷ [])) ts h.moves in
    let q = channel_lands (tail_of w.packets) k.t1 k.e1 in
    ends_in w (act (codes "drop") (n0 ∷ [])) ts k (record w { packets = q.0 }) (drops_data q.0 q.1) k.e0 q.2 k.e2 k.e3 k.e4 k.e5

on_drop_ack : (w : World) → Finds w (act (codes "drop") (n1 ∷ []))
on_drop_ack w ts h =
    let k = parts w (act (codes "drop") (n1 ∷ [])) ts h.moves in
    let q = channel_lands (tail_of w.acks) k.t2 k.e2 in
    ends_in w (act (codes "drop") (n1 ∷ [])) ts k (record w { acks = q.0 }) (drops_ack q.0 q.1) k.e0 k.e1 q.2 k.e3 k.e4 k.e5

on_rotate_data : (w : World) → Finds w (act (codes "rotate") (n0 ∷ []))
on_rotate_data w ts h =
    let k = parts w (act (codes "rotate") (n0 ∷ [])) ts h.moves in
    let q = channel_lands (rotated w.packets) k.t1 k.e1 in
    ends_in w (act (codes "rotate") (n0 ∷ [])) ts k (record w { packets = q.0 }) (turns_data q.0 q.1) k.e0 q.2 k.e2 k.e3 k.e4 k.e5

on_rotate_ack : (w : World) → Finds w (act (codes "rotate") (n1 ∷ []))
on_rotate_ack w ts h =
    let k = parts w (act (codes "rotate") (n1 ∷ [])) ts h.moves in
    let q = channel_lands (rotated w.acks) k.t2 k.e2 in
    ends_in w (act (codes "rotate") (n1 ∷ [])) ts k (record w { acks = q.0 }) (turns_ack q.0 q.1) k.e0 k.e1 q.2 k.e3 k.e4 k.e5

on_crash_s : (w : World) → Finds w (act (codes "crash_s") [])
on_crash_s w ts h =
    let k = parts w (act (codes "crash_s") []) ts h.moves in
    let z = crash_counts (tested (w.left -ℤ pos 1)) k.t4 k.e4 in
    ends_in w (act (codes "crash_s") []) ts k (record w { source = host_state false w.source.inner; left = z.0 }) (crashes_s z.0) k.e0 k.e1 k.e2 k.e3 z.1 k.e5

on_recover_s : (w : World) → Finds w (act (codes "recover_s") [])
on_recover_s w ts h =
    let k = parts w (act (codes "recover_s") []) ts h.moves in
    ends_in w (act (codes "recover_s") []) ts k (record w { source = host_state true w.source.inner }) recovers_s k.e0 k.e1 k.e2 k.e3 k.e4 k.e5

on_crash_r : (w : World) → Finds w (act (codes "crash_r") [])
on_crash_r w ts h =
    let k = parts w (act (codes "crash_r") []) ts h.moves in
    let z = crash_counts (tested (w.left -ℤ pos 1)) k.t4 k.e4 in
    ends_in w (act (codes "crash_r") []) ts k (record w { sink = host_state false (with_out w.sink.inner.out w.sink.inner.want false); left = z.0 }) (crashes_r z.0)
    k.e0 k.e1 k.e2 k.e3 z.1 k.e5

on_recover_r : (w : World) → Finds w (act (codes "recover_r") [])
on_recover_r w ts h =
    let k = parts w (act (codes "recover_r") []) ts h.moves in
    ends_in w (act (codes "recover_r") []) ts k (record w { sink = host_state true w.sink.inner }) recovers_r k.e0 k.e1 k.e2 k.e3 k.e4 k.e5

moved : (w : World) (a : Act) → View a → Finds w a
moved w _ (of_send_msg m ok) = on_send_msg w m ok
moved w _ (of_receive_msg m ok) = on_receive_msg w m ok
moved w _ (of_send_data p ok) = on_send_data w p ok
moved w _ (of_send_ack p ok) = on_send_ack w p ok
moved w _ (of_recv_data p ok) = on_recv_data w p ok
moved w _ (of_recv_ack p ok) = on_recv_ack w p ok
moved w _ of_drop_data = on_drop_data w
moved w _ of_drop_ack = on_drop_ack w
moved w _ of_rotate_data = on_rotate_data w
moved w _ of_rotate_ack = on_rotate_ack w
moved w _ of_crash_s = on_crash_s w
moved w _ of_recover_s = on_recover_s w
moved w _ of_crash_r = on_crash_r w
moved w _ of_recover_r = on_recover_r w
moved w a (of_none unknown) = λ ts h. absurd (true≢false (sym h.known ∙ unknown))

-- a step leads to a world again, by one of the moves
pub step_moves : (w : World) (a : Act) (ts : List Node) → step stenning a (nodes w) ≡ next ts → Found w a ts
step_moves w a ts h = moved w a (view a) ts (step_next stenning a (nodes w) ts h)
