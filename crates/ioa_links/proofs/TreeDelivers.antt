-- The theorem, of the hosts that the trees declare.
use Rattle.std.proofs.Common.{◌≡◌, ℕ, zero, suc, ℤ, pos, Bool, true, false, List, [], ◌∷◌, map, take, Some, None, refl, ap, subst, ◌∙◌, codes}
use Rattle.std.specs.Str.{bytes_eq}
use Rattle.std.proofs.lemmas.Slice.Eq.{bytes_eq-Decides}
use mathlib.Core.Path.{fun_ext}
use Rattle.ioa_value.specs.Actions.{Name, Act}
use Rattle.ioa_value.specs.Plain.{Val, truth, num, items, none}
use Rattle.ioa_tree.specs.Tree.{CrashTree}
use Rattle.ioa_tree.specs.Meaning.{Env}
use Rattle.ioa_tree.specs.Instances.{component_of, state_of}
use Rattle.ioa_tree.specs.Hosts.{Host, HostState, host_of, host_start, reset_to, host_state}
use Rattle.ioa_tree.specs.Runs.{run}
use Rattle.ioa_tree.specs.Likes.{IsLike, AllLike, AllRelated}
use Rattle.ioa_links.proofs.Rules.{of_rules}
use Rattle.ioa_links.proofs.Tables.{Node, Receiver, sender, receiver, channel, crasher, user, as_sender, as_receiver, as_channel, as_crasher, as_user, crash_names, sender_rules, receiver_rules, channel_rules, crasher_rules, user_rules, keeps_all, forgets_owe, sender_component, receiver_component, channel_component, crasher_component, user_component, stenning, nodes, start, with_buf, with_out, counted}
use Rattle.ioa_links.proofs.Bridges.{Holding, HostsLike, AmongLike}
use Rattle.ioa_links.specs.Trees as tree
use Rattle.ioa_links.specs.Delivery.{sent, delivered, Begins}
use Rattle.ioa_links.proofs.Bridge.{wrapped_like, steady_like, among_like, begins_like}
use Rattle.ioa_links.proofs.SenderTree as senders
use Rattle.ioa_links.proofs.ReceiverTree as receivers
use Rattle.ioa_links.proofs.ChannelTree as channels
use Rattle.ioa_links.proofs.CounterTrees as counters

-- ---- the hosts

abbrev names_s : CrashTree
names_s = crash_names (codes "crash_s") (codes "recover_s")

abbrev names_r : CrashTree
names_r = crash_names (codes "crash_r") (codes "recover_r")

abbrev sender_starts : List Val
sender_starts = items 4 none ∷ num (pos 1) ∷ []

abbrev receiver_starts : List Val
receiver_starts = items 4 none ∷ num (pos 1) ∷ truth false ∷ []

abbrev sender_host : Host
sender_host = record { name = codes "S"; instance = senders.instance; starts = sender_starts; crash = Some names_s }

abbrev receiver_host : Host
receiver_host = record { name = codes "R"; instance = receivers.instance; starts = receiver_starts; crash = Some names_r }

abbrev channel_host : Name → ℤ → Host
channel_host x c = record { name = x; instance = channels.instance c; starts = items 5 none ∷ []; crash = None }

abbrev crasher_host : ℕ → Host
crasher_host n = record { name = codes "C"; instance = counters.crasher_instance n; starts = num (pos n) ∷ []; crash = None }

abbrev user_host : Host
user_host = record { name = codes "U"; instance = counters.user_instance; starts = num (pos 0) ∷ num (pos 0) ∷ []; crash = None }

abbrev pub protocol_hosts : ℕ → List Host
protocol_hosts n =
    sender_host ∷ channel_host (codes "D") (pos 0) ∷ channel_host (codes "A") (pos 1) ∷ receiver_host ∷ crasher_host n ∷ user_host ∷ []

-- ---- each is like its table

abbrev IsSender : HostState Env → Node → Type 0
IsSender = AmongLike sender (HostsLike (Holding senders.instance senders.values))

abbrev IsReceiver : HostState Env → Node → Type 0
IsReceiver = AmongLike receiver (HostsLike (Holding receivers.instance receivers.values))

abbrev IsChannel : ℤ → HostState Env → Node → Type 0
IsChannel c h x = AmongLike channel (Holding (channels.instance c) channels.values) h.inner x

abbrev IsCrasher : ℕ → HostState Env → Node → Type 0
IsCrasher n h x = AmongLike crasher (Holding (counters.crasher_instance n) counters.crasher_values) h.inner x

abbrev IsUser : HostState Env → Node → Type 0
IsUser h x = AmongLike user (Holding counters.user_instance counters.user_values) h.inner x

-- a crash of the receiver forgets that it owes
reset_at : (out : List Val) (want : ℤ) (owe : Bool) (x : Name)
    → reset_to tree.receiver.variables receiver_starts (state_of tree.receiver (receivers.held out want owe)) x ≡ state_of tree.receiver (receivers.held out want false) x
reset_at out want owe x = by (bytes_eq tree.owe x) refl
  where
    by : (b : Bool) → bytes_eq tree.owe x ≡ b
        → reset_to tree.receiver.variables receiver_starts (state_of tree.receiver (receivers.held out want owe)) x ≡ state_of tree.receiver (receivers.held out want false) x
    by true e =
        subst (λ y. reset_to tree.receiver.variables receiver_starts (state_of tree.receiver (receivers.held out want owe)) y ≡ state_of tree.receiver (receivers.held out want false) y)
        ((bytes_eq-Decides tree.owe x).0 e) refl
    by false e = rw e refl

resets : (s : Env) (r : Receiver) → Holding receivers.instance receivers.values s r
    → Holding receivers.instance receivers.values (reset_to tree.receiver.variables receiver_starts s) (forgets_owe r)
resets s r h = ap (λ e. reset_to tree.receiver.variables receiver_starts e) h ∙ fun_ext (reset_at r.out r.want r.owe)

sender_is : IsLike IsSender (host_of sender_host) sender_component
sender_is =
    among_like (HostsLike (Holding senders.instance senders.values)) sender as_sender (host_of sender_host) _ (λ t. refl)
    (wrapped_like (Holding senders.instance senders.values) names_s (reset_to tree.sender.variables sender_starts) keeps_all
    (component_of senders.instance) (of_rules sender_rules) senders.sender_like (λ s t h. h))

receiver_is : IsLike IsReceiver (host_of receiver_host) receiver_component
receiver_is =
    among_like (HostsLike (Holding receivers.instance receivers.values)) receiver as_receiver (host_of receiver_host) _ (λ t. refl)
    (wrapped_like (Holding receivers.instance receivers.values) names_r (reset_to tree.receiver.variables receiver_starts) forgets_owe
    (component_of receivers.instance) (of_rules receiver_rules) receivers.receiver_like resets)

channel_is : (x : Name) (c : ℤ) → IsLike (IsChannel c) (host_of (channel_host x c)) (channel_component c)
channel_is x c =
    steady_like (AmongLike channel (Holding (channels.instance c) channels.values)) (component_of (channels.instance c)) (channel_component c)
    (among_like (Holding (channels.instance c) channels.values) channel as_channel (component_of (channels.instance c)) (of_rules (channel_rules (num c))) (λ t. refl) (channels.channel_like c))

crasher_is : (n : ℕ) → IsLike (IsCrasher n) (host_of (crasher_host n)) crasher_component
crasher_is n =
    steady_like (AmongLike crasher (Holding (counters.crasher_instance n) counters.crasher_values)) (component_of (counters.crasher_instance n)) crasher_component
    (among_like (Holding (counters.crasher_instance n) counters.crasher_values) crasher as_crasher (component_of (counters.crasher_instance n)) (of_rules crasher_rules) (λ t. refl) (counters.crasher_like n))

user_is : IsLike IsUser (host_of user_host) user_component
user_is =
    steady_like (AmongLike user (Holding counters.user_instance counters.user_values)) (component_of counters.user_instance) user_component
    (among_like (Holding counters.user_instance counters.user_values) user as_user (component_of counters.user_instance) (of_rules user_rules) (λ t. refl) counters.user_like)

-- ---- all together

abbrev pub Places : ℕ → ℕ → HostState Env → Node → Type 0
Places n zero h x = IsSender h x
Places n (suc zero) h x = IsChannel (pos 0) h x
Places n (suc (suc zero)) h x = IsChannel (pos 1) h x
Places n (suc (suc (suc zero))) h x = IsReceiver h x
Places n (suc (suc (suc (suc zero)))) h x = IsCrasher n h x
Places n (suc (suc (suc (suc (suc zero))))) h x = IsUser h x
Places n (suc (suc (suc (suc (suc (suc i)))))) h x = ⊥

pub all_like : (n : ℕ) → AllLike (Places n) 0 (map host_of (protocol_hosts n)) stenning
all_like n = (sender_is, (channel_is (codes "D") (pos 0), (channel_is (codes "A") (pos 1), (receiver_is, (crasher_is n, (user_is, tt))))))

starts_like : (n : ℕ) → AllRelated (Places n) 0 (map host_start (protocol_hosts n)) (nodes (start n))
starts_like n = (
  (host_state true (with_buf [] (pos 1)), refl, (refl, refl)),
  (
    ([], refl, refl),
    (
      ([], refl, refl),
      (
        (host_state true (with_out [] (pos 1) false), refl, (refl, refl)),
        (
          (pos n, refl, refl),
          ((counted (pos 0) (pos 0), refl, refl), tt),
        ),
      ),
    ),
  ),
)

pub hosts_begin : (n : ℕ) (acts : List Act)
    → Begins (delivered (take (run (map host_of (protocol_hosts n)) acts (map host_start (protocol_hosts n))).performed acts))
    (sent (take (run (map host_of (protocol_hosts n)) acts (map host_start (protocol_hosts n))).performed acts))
hosts_begin n acts = begins_like (Places n) (map host_of (protocol_hosts n)) (map host_start (protocol_hosts n)) n (all_like n) (starts_like n) acts
