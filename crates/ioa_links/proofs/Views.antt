-- The actions of the composition, one by one.
use Rattle.std.proofs.Common.{◌≡◌, Bool, true, false, List, [], ◌∷◌, refl, subst, codes, ◌&&◌, ◌⊎◌, inl, inr}
use Rattle.std.specs.List.{list_any}
use Rattle.std.specs.Str.{bytes_eq}
use Rattle.std.proofs.lemmas.Slice.Eq.{bytes_eq-Decides}
use Rattle.ioa_value.specs.Actions.{Name, Act}
use Rattle.ioa_value.specs.Plain.{Val}
use Rattle.ioa_value.specs.Positions.{Domain}
use Rattle.ioa_value.specs.Same.{same}
use Rattle.ioa_tree.specs.Components.{has}
use Rattle.ioa_links.proofs.Rules.{is_int, is_packet, constant, an_int, a_packet, positions_have}
use Rattle.ioa_links.proofs.Tables.{stenning}
use Rattle.ioa_value.proofs.SameLemmas.{same_equal}
use Rattle.ioa_links.proofs.Moves.{act, n0, n1}

pub data View : Act → Type 0 where
  of_send_msg : (m : Val) → is_int m ≡ true → View (act (codes "send_msg") (m ∷ []))
  of_receive_msg : (m : Val) → is_int m ≡ true → View (act (codes "receive_msg") (m ∷ []))
  of_send_data : (p : Val) → is_packet p ≡ true → View (act (codes "send") (n0 ∷ p ∷ []))
  of_send_ack : (p : Val) → is_packet p ≡ true → View (act (codes "send") (n1 ∷ p ∷ []))
  of_recv_data : (p : Val) → is_packet p ≡ true → View (act (codes "recv") (n0 ∷ p ∷ []))
  of_recv_ack : (p : Val) → is_packet p ≡ true → View (act (codes "recv") (n1 ∷ p ∷ []))
  of_drop_data : View (act (codes "drop") (n0 ∷ []))
  of_drop_ack : View (act (codes "drop") (n1 ∷ []))
  of_rotate_data : View (act (codes "rotate") (n0 ∷ []))
  of_rotate_ack : View (act (codes "rotate") (n1 ∷ []))
  of_crash_s : View (act (codes "crash_s") [])
  of_recover_s : View (act (codes "recover_s") [])
  of_crash_r : View (act (codes "crash_r") [])
  of_recover_r : View (act (codes "recover_r") [])
  of_none : {a : Act} → list_any (has a) stenning ≡ false → View a

-- ---- the values of an action

abbrev Tests : List Domain → (List Val → Type 0) → Type 0
Tests ps P = (vs : List Val) → positions_have ps vs ≡ false → P vs

abbrev TestsTwo : List Domain → List Domain → (List Val → Type 0) → Type 0
TestsTwo ps qs P = (vs : List Val) → positions_have ps vs ≡ false → positions_have qs vs ≡ false → P vs

and_false : (b : Bool) → (b && false) ≡ false
and_false true = refl
and_false false = refl

and_first : (b c : Bool) → b ≡ false → (b && c) ≡ false
and_first b c e = rw e refl

and_second : (b c : Bool) → c ≡ false → (b && c) ≡ false
and_second true c e = e
and_second false c e = refl

none_at : (P : List Val → Type 0) → P [] → Tests [] P → (vs : List Val) → P vs
none_at P some none [] = some
none_at P some none (v ∷ vs) = none (v ∷ vs) refl

int_at : (P : List Val → Type 0) → ((m : Val) → is_int m ≡ true → P (m ∷ [])) → Tests (an_int ∷ []) P → (vs : List Val) → P vs
int_at P some none [] = none [] refl
int_at P some none (m ∷ v ∷ vs) = none (m ∷ v ∷ vs) (and_false (is_int m))
int_at P some none (m ∷ []) = by (is_int m) refl
  where
    by : (b : Bool) → is_int m ≡ b → P (m ∷ [])
    by true e = some m e
    by false e = none (m ∷ []) (and_first (is_int m) true e)

-- an end of a channel
abbrev place : Val → List Domain
place c = constant c ∷ []

place_at : (P : List Val → Type 0) → P (n0 ∷ []) → P (n1 ∷ []) → TestsTwo (place n0) (place n1) P → (vs : List Val) → P vs
place_at P zeroth first none [] = none [] refl refl
place_at P zeroth first none (c ∷ v ∷ vs) = none (c ∷ v ∷ vs) (and_false (same n0 c)) (and_false (same n1 c))
place_at P zeroth first none (c ∷ []) = by (same n0 c) (same n1 c) refl refl
  where
    by : (x y : Bool) → same n0 c ≡ x → same n1 c ≡ y → P (c ∷ [])
    by true y e f = subst (λ v. P (v ∷ [])) (same_equal n0 c e) zeroth
    by false true e f = subst (λ v. P (v ∷ [])) (same_equal n1 c f) first
    by false false e f = none (c ∷ []) (and_first (same n0 c) true e) (and_first (same n1 c) true f)

abbrev on : Val → List Domain
on c = constant c ∷ a_packet ∷ []

packet_at : (P : List Val → Type 0) → ((p : Val) → is_packet p ≡ true → P (n0 ∷ p ∷ [])) → ((p : Val) → is_packet p ≡ true → P (n1 ∷ p ∷ []))
    → TestsTwo (on n0) (on n1) P → (vs : List Val) → P vs
packet_at P zeroth first none [] = none [] refl refl
packet_at P zeroth first none (c ∷ []) = none (c ∷ []) (and_false (same n0 c)) (and_false (same n1 c))
packet_at P zeroth first none (c ∷ p ∷ v ∷ vs) =
    none (c ∷ p ∷ v ∷ vs) (and_second (same n0 c) (is_packet p && false) (and_false (is_packet p))) (and_second (same n1 c) (is_packet p && false) (and_false (is_packet p)))
packet_at P zeroth first none (c ∷ p ∷ []) = by (same n0 c) (same n1 c) (is_packet p) refl refl refl
  where
    by : (x y z : Bool) → same n0 c ≡ x → same n1 c ≡ y → is_packet p ≡ z → P (c ∷ p ∷ [])
    by x y false e f g =
        let no = and_first (is_packet p) true g in
        none (c ∷ p ∷ []) (and_second (same n0 c) (is_packet p && true) no) (and_second (same n1 c) (is_packet p && true) no)
    by true y true e f g = subst (λ v. P (v ∷ p ∷ [])) (same_equal n0 c e) (zeroth p g)
    by false true true e f g = subst (λ v. P (v ∷ p ∷ [])) (same_equal n1 c f) (first p g)
    by false false true e f g = none (c ∷ p ∷ []) (and_first (same n0 c) (is_packet p && true) e) (and_first (same n1 c) (is_packet p && true) f)

-- ---- the names

view_send_msg : (vs : List Val) → View (act (codes "send_msg") vs)
view_send_msg vs = int_at (λ vs. View (act (codes "send_msg") vs)) of_send_msg (λ vs e. of_none (rw e refl)) vs

view_receive_msg : (vs : List Val) → View (act (codes "receive_msg") vs)
view_receive_msg vs = int_at (λ vs. View (act (codes "receive_msg") vs)) of_receive_msg (λ vs e. of_none (rw e refl)) vs

view_send : (vs : List Val) → View (act (codes "send") vs)
view_send vs = packet_at (λ vs. View (act (codes "send") vs)) of_send_data of_send_ack (λ vs e f. of_none (rw (e, f) refl)) vs

view_recv : (vs : List Val) → View (act (codes "recv") vs)
view_recv vs = packet_at (λ vs. View (act (codes "recv") vs)) of_recv_data of_recv_ack (λ vs e f. of_none (rw (e, f) refl)) vs

view_drop : (vs : List Val) → View (act (codes "drop") vs)
view_drop vs = place_at (λ vs. View (act (codes "drop") vs)) of_drop_data of_drop_ack (λ vs e f. of_none (rw (e, f) refl)) vs

view_rotate : (vs : List Val) → View (act (codes "rotate") vs)
view_rotate vs = place_at (λ vs. View (act (codes "rotate") vs)) of_rotate_data of_rotate_ack (λ vs e f. of_none (rw (e, f) refl)) vs

view_crash_s : (vs : List Val) → View (act (codes "crash_s") vs)
view_crash_s vs = none_at (λ vs. View (act (codes "crash_s") vs)) of_crash_s (λ vs e. of_none (rw e refl)) vs

view_recover_s : (vs : List Val) → View (act (codes "recover_s") vs)
view_recover_s vs = none_at (λ vs. View (act (codes "recover_s") vs)) of_recover_s (λ vs e. of_none (rw e refl)) vs

view_crash_r : (vs : List Val) → View (act (codes "crash_r") vs)
view_crash_r vs = none_at (λ vs. View (act (codes "crash_r") vs)) of_crash_r (λ vs e. of_none (rw e refl)) vs

view_recover_r : (vs : List Val) → View (act (codes "recover_r") vs)
view_recover_r vs = none_at (λ vs. View (act (codes "recover_r") vs)) of_recover_r (λ vs e. of_none (rw e refl)) vs

name_is : (y x : Name) → (y ≡ x) ⊎ (bytes_eq y x ≡ false)
name_is y x = by (bytes_eq y x) refl
  where
    by : (b : Bool) → bytes_eq y x ≡ b → (y ≡ x) ⊎ (bytes_eq y x ≡ false)
    by true e = inl ((bytes_eq-Decides y x).0 e)
    by false e = inr e

-- the view for this name, or for one of the others
or_view : (y : Name) (a : Act) → ((vs : List Val) → View (act y vs)) → (bytes_eq y a.name ≡ false → View a) → View a
or_view y a here there =
    elim (name_is y a.name) [
      | inl e ↦ subst (λ x. View (act x a.vals)) e (here a.vals)
      | inr f ↦ there f
    ]

pub view : (a : Act) → View a
view a =
    or_view (codes "send_msg") a view_send_msg λ f0. or_view (codes "receive_msg") a view_receive_msg λ f1.
    or_view (codes "send") a view_send λ f2. or_view (codes "recv") a view_recv λ f3.
    or_view (codes "drop") a view_drop λ f4. or_view (codes "rotate") a view_rotate λ f5.
    or_view (codes "crash_s") a view_crash_s λ f6. or_view (codes "recover_s") a view_recover_s λ f7.
    or_view (codes "crash_r") a view_crash_r λ f8. or_view (codes "recover_r") a view_recover_r λ f9.
    of_none (rw (f0, f1, f2, f3, f4, f5, f6, f7, f8, f9) refl)
