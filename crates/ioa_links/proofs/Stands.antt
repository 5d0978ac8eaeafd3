-- The source declares a composition: the theorem speaks of something.
use Rattle.std.proofs.Common.{◌≡◌, ℕ, ◌<◌, ◌^◌, Bool, true, false, ◌||◌, List, [], ◌∷◌, map, Option, Some, None, refl, sym, subst, codes, arith, nat_lt}
use Rattle.std.specs.List.{list_any}
use Rattle.std.proofs.lemmas.Bool.{and_from}
use Rattle.std.proofs.lemmas.Bool.Decides.{nat_tests}
use Rattle.ioa_value.specs.Actions.{Act}
use Rattle.ioa_tree.specs.declared.tree.Kind.{Kind}
use Rattle.ioa_tree.specs.Components.{Component, has, is_kind}
use Rattle.ioa_tree.specs.Compositions.{picked}
use Rattle.ioa_tree.specs.Hosts.{Hosted, IsHosted, host_of}
use Rattle.ioa_tree.specs.Tree.{CompositionTree}
use Rattle.ioa_tree.specs.WellFormed.{WellFormed}
use Rattle.ioa_tree.proofs.OneHosted.{hosted_once, some_same}
use Rattle.ioa_links.specs.Trees.{stenning_source, protocol}
use Rattle.ioa_links.specs.Delivery.{Begins, Delivers, delivered, performed, sent}
use Rattle.ioa_links.proofs.Rules.{types}
use Rattle.ioa_links.proofs.Tables.{stenning}
use Rattle.ioa_links.proofs.Views.{View, view, of_send_msg, of_receive_msg, of_send_data, of_send_ack, of_recv_data, of_recv_ack, of_drop_data, of_drop_ack, of_rotate_data, of_rotate_ack, of_crash_s, of_recover_s, of_crash_r, of_recover_r, of_none}
use Rattle.ioa_links.proofs.TreeDelivers.{protocol_hosts, Places, all_like, hosts_begin}
use Rattle.ioa_links.proofs.Apart.{kinds, none_with, none_clash, compatible, kinds_like}

-- who has no action clashes with nobody
abbrev nones : {S : Type 0} → List (Component S) → List (Option Kind)
nones ps = map (λ p. None) ps

none_alone : {S : Type 0} (ps : List (Component S)) → none_with None (nones ps) ≡ true
none_alone [] = refl
none_alone (p ∷ ps) = none_alone ps

nones_apart : {S : Type 0} (ps : List (Component S)) → none_clash (nones ps) ≡ true
nones_apart [] = refl
nones_apart (p ∷ ps) = and_from (none_with None (nones ps)) (none_clash (nones ps)) (none_alone ps) (nones_apart ps)

both_none : (o : Option Kind) (b : Bool) → (is_kind o || b) ≡ false → (o ≡ None) × (b ≡ false)
both_none None b h = (refl, h)
both_none (Some k) b h = absurd (cc)

joined : (k l : Option Kind) (ks ls : List (Option Kind)) → k ≡ l → ks ≡ ls → k ∷ ks ≡ l ∷ ls
joined k l ks ls e f = cc

kinds_none : {S : Type 0} (a : Act) (ps : List (Component S)) → list_any (has a) ps ≡ false → kinds a ps ≡ nones ps
kinds_none a [] h = refl
kinds_none a (p ∷ ps) h =
    let b = both_none (p.kind_of a) (list_any (has a) ps) h in joined (p.kind_of a) None (kinds a ps) (nones ps) b.0 (kinds_none a ps b.1)

none_of : {S : Type 0} (a : Act) (ps : List (Component S)) → list_any (has a) ps ≡ false → none_clash (kinds a ps) ≡ true
none_of a ps h = subst (λ ks. none_clash ks ≡ true) (sym (kinds_none a ps h)) (nones_apart ps)

view_apart : (a : Act) → View a → none_clash (kinds a stenning) ≡ true
view_apart _ (of_send_msg m ok) = rw ok refl
view_apart _ (of_receive_msg m ok) = rw ok refl
view_apart _ (of_send_data p ok) = rw ok refl
view_apart _ (of_send_ack p ok) = rw ok refl
view_apart _ (of_recv_data p ok) = rw ok refl
view_apart _ (of_recv_ack p ok) = rw ok refl
view_apart _ of_drop_data = refl
view_apart _ of_drop_ack = refl
view_apart _ of_rotate_data = refl
view_apart _ of_rotate_ack = refl
view_apart _ of_crash_s = refl
view_apart _ of_recover_s = refl
view_apart _ of_crash_r = refl
view_apart _ of_recover_r = refl
view_apart a (of_none e) = none_of a stenning e

hosts_apart : (n : ℕ) (a : Act) → none_clash (kinds a (map host_of (protocol_hosts n))) ≡ true
hosts_apart n a =
    subst (λ ks. none_clash ks ≡ true) (sym (kinds_like (Places n) 0 (map host_of (protocol_hosts n)) stenning a (all_like n))) (view_apart a (view a))

abbrev pub hosted : ℕ → Hosted
hosted n = record { types = types; name = codes "Stenning"; hosts = protocol_hosts n; hidden = codes "send" ∷ codes "recv" ∷ []; invariants = [] }

in_range : (n : ℕ) → n < 2 ^ 63 → nat_lt n (2 ^ 63) ≡ true
in_range n h = grind (arith, nat_tests)

pub stands : (n : ℕ) → n < 2 ^ 63 → IsHosted (stenning_source n) (protocol n) (hosted n)
stands n h = record {
  types = refl;
  name = refl;
  hosts = (
    record { name = refl; types = refl; automaton = refl; arguments = refl; fit = tt; starts = refl; crash = refl; fine = refl },
    (
      record { name = refl; types = refl; automaton = refl; arguments = refl; fit = (1, refl, refl, tt); starts = refl; crash = refl; fine = refl },
      (
        record { name = refl; types = refl; automaton = refl; arguments = refl; fit = (1, refl, refl, tt); starts = refl; crash = refl; fine = refl },
        (
          record { name = refl; types = refl; automaton = refl; arguments = refl; fit = tt; starts = refl; crash = refl; fine = refl },
          (
            record { name = refl; types = refl; automaton = refl; arguments = refl; fit = (1, refl, in_range n h, tt); starts = refl; crash = refl; fine = refl },
            (record { name = refl; types = refl; automaton = refl; arguments = refl; fit = tt; starts = refl; crash = refl; fine = refl }, tt),
          ),
        ),
      ),
    ),
  );
  hidden = refl;
  outputs = refl;
  invariants = refl;
  compatible = compatible (map host_of (protocol_hosts n)) (hosts_apart n);
}

-- whatever hosts the composition is of, they are these
begins : (n : ℕ) → n < 2 ^ 63 → (t : CompositionTree) (h : Hosted) (acts : List Act) → picked (stenning_source n) (Some (codes "Stenning")) ≡ Some t
    → IsHosted (stenning_source n) t h → Begins (delivered (performed h acts)) (sent (performed h acts))
begins n small t h acts e is =
    let tree : protocol n ≡ t = some_same (picked (stenning_source n) (Some (codes "Stenning"))) (protocol n) t refl e in
    let same : hosted n ≡ h = hosted_once (stenning_source n) t (hosted n) h (subst (λ u. IsHosted (stenning_source n) u (hosted n)) tree (stands n small)) is in
    subst (λ k. Begins (delivered (performed k acts)) (sent (performed k acts))) same (hosts_begin n acts)

pub stenning_delivers : (n : ℕ) → n < 2 ^ 63 → Delivers (stenning_source n) (codes "Stenning")
stenning_delivers n h = record { stands = (protocol n, hosted n, refl, stands n h); begins = begins n h }

pub stenning_fine : (n : ℕ) → n < 2 ^ 63 → WellFormed (stenning_source n)
stenning_fine n h = rw (in_range n h) refl
