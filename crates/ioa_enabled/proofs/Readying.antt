-- The components of a program's table, ready to be asked what is enabled, and the lines of each.
use Rattle.std.proofs.Common.{◌≡◌, ℕ, ◌≤◌, List, [], ◌∷◌, length, Option, Some, None, refl, sym, ap, ap₂, ◌∙◌}
use Rattle.std.specs.Prelude.{slice_get}
use Rattle.std.proofs.lemmas.Option.{slice_get_past}
use Rattle.ioa_value.specs.Plain.{Val}
use Rattle.ioa_value.specs.Table.{Table}
use Rattle.ioa_value.proofs.ItemLemmas.{image_at}
use Rattle.ioa_parts.specs.Nodes.{Node}
use Rattle.ioa_tree.specs.Compositions.{Member}
use Rattle.ioa_compile.specs.Programs.{MemberCode, Prog}
use Rattle.ioa_compile.specs.Tables.{AreMembers, IsMember, IsProgram}
use Rattle.ioa_system.specs.Systems.{Slots, slot_types, slots_of}
use Rattle.ioa_system.proofs.Participating.{taken_some}
use Rattle.ioa_run.proofs.Wishing.{over_copy}
use Rattle.ioa_enabled.specs.declared.part.Part.{Part}
use Rattle.ioa_enabled.specs.Offers.{IsPlaced, IsReady}
use Rattle.ioa_enabled.specs.Told.{lines_at, lines_of, member_lines}
use Rattle.ioa_enabled.specs.Ways.{Values}
use Rattle.ioa_enabled.proofs.Hosting.{member_at}

pub ready_at : (p : Prog) (i : ℕ) (m : MemberCode) → IsProgram p → slice_get p.members i ≡ Some m → IsReady m
ready_at p i m program there = record {
  sound = (member_at (IsMember p.types) (AreMembers p.types) (λ x xs a. a) p.members i m program.members there).entries;
  codes = λ n slots.
      over_copy p (n ∷ []) i n m program
      (ap (λ (s : Slots). s ∷ []) slots ∙ sym (taken_some i [] (slot_types p.members) (slots_of m.start) (image_at (λ (x : MemberCode). slots_of x.start) p.members i m there)))
      refl there;
}

pub is_placed : (m : MemberCode) (n : Node) → IsReady m → slots_of n ≡ slots_of m.start → IsPlaced m n
is_placed m n ready slots = record { sound = ready.sound; slots = slots; codes = ready.codes n slots }

-- ---- lines by the place of a component

module _ (part : Part) (types : Table) (cs : List Member) (ms : List MemberCode) (w : ℕ → ℕ → List Values) (i : ℕ) (s : List Val) where
  pub lines_there : (c : Member) (m : MemberCode) → slice_get cs i ≡ Some c → slice_get ms i ≡ Some m → lines_at part types cs ms w i s ≡ member_lines part types c m s (w i)
  lines_there c m at there = ap (λ o. lines_of part types o (slice_get ms i) s (w i)) at ∙ ap (λ o. lines_of part types (Some c) o s (w i)) there

  no_member : (o : Option MemberCode) → lines_of part types None o s (w i) ≡ []
  no_member None = refl
  no_member (Some m) = refl

  no_code : (o : Option Member) → lines_of part types o None s (w i) ≡ []
  no_code None = refl
  no_code (Some c) = refl

  pub past_members : length cs ≤ i → lines_at part types cs ms w i s ≡ []
  past_members past = ap (λ o. lines_of part types o (slice_get ms i) s (w i)) (slice_get_past cs i past) ∙ no_member (slice_get ms i)

  pub past_codes : length ms ≤ i → lines_at part types cs ms w i s ≡ []
  past_codes past = ap (λ o. lines_of part types (slice_get cs i) o s (w i)) (slice_get_past ms i past) ∙ no_code (slice_get cs i)
