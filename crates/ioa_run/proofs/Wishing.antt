-- What a worker means to do, by its state and its words, or by the script.
use Rattle.std.proofs.Common.{◌≡◌, ℕ, zero, suc, ◌<◌, List, [], ◌∷◌, length, Option, None, Some, refl, sym, ◌∙◌, ap, subst, arith}
use Rattle.std.specs.Prelude.{IfSome, slice_get, slice_set}
use Rattle.std.specs.Option.{option_map_or}
use Rattle.std.proofs.lemmas.List.{length-map}
use Rattle.std.proofs.lemmas.List.Elements.{All-cons}
use Rattle.std.proofs.lemmas.Option.{slice_get_past, slice_get_within}
use Rattle.ioa_value.specs.Actions.{Act}
use Rattle.ioa_value.specs.Plain.{Val}
use Rattle.ioa_value.specs.Table.{Table}
use Rattle.ioa_value.proofs.ItemLemmas.{image_at}
use Rattle.ioa_parts.specs.Nodes.{Node}
use Rattle.ioa_tree.specs.declared.tree.Kind.{Kind}
use Rattle.ioa_tree.specs.declared.tree.Kind.TheVariants.{Input, Output, Internal}
use Rattle.ioa_tree.specs.Proposing.{Words, tries, idle}
use Rattle.ioa_compile.specs.Programs.{EntryCode, MemberCode, Prog}
use Rattle.ioa_compile.specs.Tables.{AreEntries, AreMembers, HasLocal, IsEntry, IsMember, IsProgram}
use Rattle.ioa_system.specs.Participants.{taken}
use Rattle.ioa_system.specs.Systems.{Slots, slot_types, slots_of, types_of}
use Rattle.ioa_system.proofs.Finding.{no_item}
use Rattle.ioa_system.proofs.Participating.{taken_some}
use Rattle.ioa_run.specs.Choices.{AreOfState, Chooses, IsOfState}
use Rattle.ioa_board.specs.Histories.{count}
use Rattle.ioa_board.specs.ProgramRooms.{ProgramRoom, new_in}
use Rattle.ioa_run.specs.Proposers.{local_entries, proposers, proposers_of, tried}
use Rattle.ioa_run.specs.Turning.{HasPerformed, Wishes}
use Rattle.ioa_run.specs.Turns.{after, next_choice, next_input}
use Rattle.ioa_run.proofs.Turned.{changed_alike, changed_none, changed_set}

-- ---- the proposals are over the state's types

local_has : {X : Type 0} (P : X → Type 0) (k : Kind) (o : Option X) → HasLocal P k o → IfSome o P
local_has P Input None h = tt
local_has P Input (Some x) h = absurd h
local_has P Output None h = absurd h
local_has P Output (Some x) h = h
local_has P Internal None h = absurd h
local_has P Internal (Some x) h = h

weaker_some : {X : Type 0} (P Q : X → Type 0) (o : Option X) → ((x : X) → P x → Q x) → IfSome o P → IfSome o Q
weaker_some P Q None f h = tt
weaker_some P Q (Some x) f h = f x h

entry_over : (m : MemberCode) (n : Node) (e : EntryCode) → slots_of n ≡ slots_of m.start → IsEntry m e → IfSome e.propose (IsOfState n)
entry_over m n e s h =
    weaker_some _ (IsOfState n) e.propose
    (λ part p. record {
      kind = p.kind;
      args = p.args;
      table = ap (λ (t : Slots). t.table) s ∙ sym p.types;
      types = ap (λ (t : Slots). t.types) s ∙ sym p.slots;
    })
    (local_has _ e.kind e.propose h.propose)

entries_over : (m : MemberCode) (n : Node) (es : List EntryCode) → slots_of n ≡ slots_of m.start → AreEntries m es → AreOfState n es
entries_over m n [] s h = no_item (λ (e : EntryCode). IfSome e.propose (IsOfState n))
entries_over m n (e ∷ es) s h = All-cons (λ (e : EntryCode). IfSome e.propose (IsOfState n)) e es (entry_over m n e s h.0) (entries_over m n es s h.1)

member_at : (types : Table) (ms : List MemberCode) (w : ℕ) (m : MemberCode) → AreMembers types ms → slice_get ms w ≡ Some m → IsMember types m
member_at types [] w m h e = absurd (cc)
member_at types (x ∷ xs) zero m h e = let q : x ≡ m = cc in subst (IsMember types) q h.0
member_at types (x ∷ xs) (suc w) m h e = member_at types xs w m h.1 e

same_place : (ns : List Node) (ms : List MemberCode) (w : ℕ) (n : Node) (m : MemberCode) → types_of ns ≡ slot_types ms → slice_get ns w ≡ Some n → slice_get ms w ≡ Some m → slots_of n ≡ slots_of m.start
same_place ns ms w n m t e f =
    let q : Some (slots_of n) ≡ Some (slots_of m.start) =
    sym (image_at slots_of ns w n e) ∙ ap (λ ts. slice_get ts w) t ∙ image_at (λ (x : MemberCode). slots_of x.start) ms w m f in
    cc

-- the entries of the component are over its state on the board
pub over_state : (p : Prog) (ns : List Node) (w : ℕ) (n : Node) (m : MemberCode) → IsProgram p → types_of ns ≡ slot_types p.members → slice_get ns w ≡ Some n → slice_get p.members w ≡ Some m
    → AreOfState n m.entries
over_state p ns w n m h t e f = entries_over m n m.entries (same_place ns p.members w n m t e f) (member_at p.types p.members w m h.members f).entries

-- what a copy of the component's own state alone is
own_slots : (ns : List Node) (ms : List MemberCode) (w : ℕ) (m : MemberCode) → types_of ns ≡ taken (w ∷ []) (slot_types ms) → slice_get ms w ≡ Some m → types_of ns ≡ slots_of m.start ∷ []
own_slots ns ms w m t f = t ∙ taken_some w [] (slot_types ms) (slots_of m.start) (image_at (λ (x : MemberCode). slots_of x.start) ms w m f)

pub own_there : (ns : List Node) (ms : List MemberCode) (w : ℕ) (m : MemberCode) → types_of ns ≡ taken (w ∷ []) (slot_types ms) → slice_get ms w ≡ Some m → length ns ≡ 1
own_there ns ms w m t f = sym (length-map ns slots_of) ∙ ap length (own_slots ns ms w m t f)

-- and over a copy of that state
pub over_copy : (p : Prog) (ns : List Node) (w : ℕ) (n : Node) (m : MemberCode) → IsProgram p → types_of ns ≡ taken (w ∷ []) (slot_types p.members) → slice_get ns 0 ≡ Some n
    → slice_get p.members w ≡ Some m → AreOfState n m.entries
over_copy p ns w n m h t e f =
    let q : Some (slots_of n) ≡ Some (slots_of m.start) = sym (image_at slots_of ns 0 n e) ∙ ap (λ ts. slice_get ts 0) (own_slots ns p.members w m t f) in
    let same : slots_of n ≡ slots_of m.start = cc in
    entries_over m n m.entries same (member_at p.types p.members w m h.members f).entries

-- ---- what is meant

pub component_wishes : (r : ProgramRoom) (ws ws' : List Words) (w : ℕ) (m : MemberCode) (s : List Val) (words rest : Words) (o : Option Act) → slice_get r.program.members w ≡ Some m
    → slice_get r.board.states w ≡ Some s → slice_get ws w ≡ Some words → ws' ≡ slice_set ws w rest → Chooses (local_entries m.entries) s words o rest → Wishes r ws w o ws'
component_wishes r ws ws' w m s words rest o e f g h c = record {
  taken = c.taken;
  wish = λ _.
      ap (λ z. option_map_or (λ es. next_choice es (slice_get r.board.states w) (slice_get ws w)) z (next_input r.inputs (slice_get r.reports w))) (image_at proposers_of r.program.members w m e)
      ∙ ap (λ z. next_choice (proposers_of m) z (slice_get ws w)) f ∙ ap (λ z. next_choice (proposers_of m) (Some s) z) g ∙ c.chooses;
  words = h ∙ changed_set w ws rest ∙ changed_alike (λ _. rest) (after c.taken) w ws (λ x k. (let q : words ≡ x = some_is words x (sym g ∙ k) in c.left ∙ ap (after c.taken) q));
  script = λ q. absurd (omega (arith, slice_get_within r.program.members w m e, q));
}
  where
    some_is : (x y : Words) → Some x ≡ Some y → x ≡ y
    some_is x y k = cc

tried_next : (o : Option Act) → option_map_or (λ a. tries a 0) o (idle 0) ≡ tried o 0
tried_next None = refl
tried_next (Some a) = refl

pub environment_wishes : (r : ProgramRoom) (ws : List Words) (w n : ℕ) (o : Option Act) → length ws ≡ length r.program.members → (w < length r.program.members → ⊥)
    → HasPerformed r w n → o ≡ slice_get r.inputs n → Wishes r ws w o ws
environment_wishes r ws w n o l d p e =
    let past : slice_get (proposers r.program) w ≡ None = slice_get_past (proposers r.program) w (omega (arith, d, length-map r.program.members proposers_of)) in
    record {
      taken = 0;
      wish = λ _.
          ap (λ z. option_map_or (λ es. next_choice es (slice_get r.board.states w) (slice_get ws w)) z (next_input r.inputs (slice_get r.reports w))) past
          ∙ ap (next_input r.inputs) p.there ∙ ap (λ k. option_map_or (λ a. tries a 0) (slice_get r.inputs k) (idle 0)) (sym p.told) ∙ tried_next (slice_get r.inputs n)
          ∙ ap (λ z. tried z 0) (sym e);
      words = sym (changed_none (after 0) w ws (omega (arith, d, l)));
      script = λ q. e ∙ ap (slice_get r.inputs) p.counted ∙ ap (λ k. slice_get r.inputs (count (new_in r) k)) q;
    }
