-- The participants that are found for an action, and their states.
use Rattle.std.proofs.Common.{◌≡◌, ℕ, zero, suc, List, [], ◌∷◌, get_or, map, All, true, false, None, Some, refl, sym, ap, subst, arith}
use Rattle.std.specs.Prelude.{nat_eq}
use Rattle.std.specs.List.{IsDistinct}
use Rattle.std.proofs.lemmas.List.Elements.{All-cons}
use Rattle.ioa_value.specs.Actions.{Act}
use Rattle.ioa_value.specs.Plain.{Val}
use Rattle.ioa_tree.specs.Components.{Component, has, owns, is_local}
use Rattle.ioa_compile.specs.Programs.{EntryCode, MemberCode}
use Rattle.ioa_compile.specs.Tables.{entry_of, table_component}
use Rattle.ioa_system.specs.declared.participation.Participant.{Participant}
use Rattle.ioa_system.specs.Found.{numbers_of, AreParticipants}
use Rattle.ioa_system.proofs.Participating.{participants_differ}

abbrev pub tables : List MemberCode → List (Component (List Val))
tables ms = map table_component ms

pub has_found : (m : MemberCode) (a : Act) (e : EntryCode) → entry_of m a ≡ Some e → has a (table_component m) ≡ true
has_found m a e h = rw h refl

pub has_none : (m : MemberCode) (a : Act) → entry_of m a ≡ None → has a (table_component m) ≡ false
has_none m a h = rw h refl

pub owns_found : (m : MemberCode) (a : Act) (e : EntryCode) → entry_of m a ≡ Some e → owns a (table_component m) ≡ is_local (Some e.kind)
owns_found m a e h = rw h refl

-- ---- items by their places

pub read_map : {X Y : Type 0} (f : X → Y) (xs : List X) (i : ℕ) (x d : X) → x ≡ get_or xs i d → f x ≡ get_or (map f xs) i (f d)
read_map f [] i x d e = ap f e
read_map f (y ∷ ys) zero x d e = ap f e
read_map f (y ∷ ys) (suc i) x d e = read_map f ys i x d e

-- ---- lists of none and of one

pub no_item : {X : Type 0} (P : X → Type 0) → All P []
no_item P = λ k d l. absurd (omega arith)

pub one_item : {X : Type 0} (P : X → Type 0) (x : X) → P x → All P (x ∷ [])
one_item P x h = All-cons P x [] h (no_item P)

pub numbers_distinct : (a : Act) (ms : List MemberCode) (qs : List Participant) → AreParticipants a ms qs → IsDistinct nat_eq (numbers_of qs)
numbers_distinct a ms qs p = subst (IsDistinct nat_eq) (sym p.numbers) (participants_differ a 0 (tables ms))
