-- Whether the precondition of an action's owner faults.
use Rattle.std.proofs.Common.{◌≡◌, ◌∙◌, ℕ, List, length, map, filter, true, false, Result, Ok, Err, refl, sym, ap}
use Rattle.std.proofs.lemmas.List.{length-map}
use Rattle.ioa_value.specs.Actions.{Act}
use Rattle.ioa_value.specs.Plain.{Val}
use Rattle.ioa_parts.specs.Nodes.{Node}
use Rattle.ioa_tree.specs.Components.{has}
use Rattle.ioa_tree.specs.Steps.{Moved, not_an_action, Asked, free, owned, allowed, asked, participants}
use Rattle.ioa_compile.specs.Programs.{Prog}
use Rattle.ioa_compile.specs.Tables.{table_component, tabled}
use Rattle.ioa_system.specs.declared.participation.Participant.{Participant}
use Rattle.ioa_system.specs.declared.steps.Consent.{Consent}
use Rattle.ioa_system.specs.Found.{AreParticipants, components_of, consented, lent}
use Rattle.ioa_system.specs.Participants.{renumbered, taken}
use Rattle.ioa_system.specs.Preconditions.{is_fault_of, is_faulted, precondition_faults}
use Rattle.ioa_system.specs.Systems.{slot_types, types_of, values_of}
use Rattle.ioa_system.proofs.Participating.{asked_from, asked_renumbered}
use Rattle.ioa_system.proofs.Readying.{lent_all, same_length}

abbrev nothing : Moved (List Val)
nothing = not_an_action

-- what the owner's consent makes of an action tells whether its precondition faults
pub faulted_so : (ns : List ℕ) (r : Consent) (g : Asked) → consented r (renumbered ns nothing) ≡ renumbered ns (allowed g nothing) → is_fault_of r ≡ is_faulted g
faulted_so ns Consent.Given free h = refl
faulted_so ns Consent.Given (owned i (Ok true)) h = refl
faulted_so ns Consent.Given (owned i (Ok false)) h = refl
faulted_so ns Consent.Given (owned i (Err f)) h = absurd (cc)
faulted_so ns Consent.Denied free h = refl
faulted_so ns Consent.Denied (owned i (Ok true)) h = refl
faulted_so ns Consent.Denied (owned i (Ok false)) h = refl
faulted_so ns Consent.Denied (owned i (Err f)) h = absurd (cc)
faulted_so ns (Consent.Faulted c e) free h = absurd (cc)
faulted_so ns (Consent.Faulted c e) (owned i (Ok true)) h = absurd (cc)
faulted_so ns (Consent.Faulted c e) (owned i (Ok false)) h = absurd (cc)
faulted_so ns (Consent.Faulted c e) (owned i (Err f)) h = refl

renumbered_faults : (ns : List ℕ) (g : Asked) → is_faulted (asked_renumbered ns g) ≡ is_faulted g
renumbered_faults ns free = refl
renumbered_faults ns (owned i (Ok b)) = refl
renumbered_faults ns (owned i (Err f)) = refl

-- of all components as of those that have the action
pub asked_of_all : (p : Prog) (a : Act) (ns : List Node) (qs : List Participant) → AreParticipants a p.members qs → types_of ns ≡ slot_types p.members
    → is_faulted (asked 0 (components_of qs) a (lent ns qs)) ≡ precondition_faults (tabled p) a (values_of ns)
asked_of_all p a ns qs found types =
    let long : length (values_of ns) ≡ length (tabled p) =
    length-map ns (λ (n : Node). n.values) ∙ same_length p.members ns types ∙ sym (length-map p.members table_component) in
    let ts = taken (participants (tabled p) a) (values_of ns) in
    ap (λ ps. is_faulted (asked 0 ps a (lent ns qs))) found.components
    ∙ ap (λ ss. is_faulted (asked 0 (filter (has a) (tabled p)) a ss)) (lent_all a p.members ns qs found types)
    ∙ sym (renumbered_faults (participants (tabled p) a) (asked 0 (filter (has a) (tabled p)) a ts))
    ∙ ap is_faulted (sym (asked_from (tabled p) a (values_of ns) long))
