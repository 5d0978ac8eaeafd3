-- What lines of streams tell, and how specifications are told of: each answer is computed.
use Rattle.std.proofs.Common.{◌≡◌, [], Some, None, codes, false, refl, true}
use Rattle.std.specs.Fmt.{digits}
use Rattle.serde_json.specs.Data.{Data, string, number, unsigned, array, object, member, no_members, no_items}
use Rattle.ioa_arithmetic.specs.declared.arithmetic.Fault.TheVariants.{Overflow}
use Rattle.ioa_json.specs.Says.{text_at}
use Rattle.ioa_tree.specs.Runs.{fault_at, not_enabled_at}
use Rattle.ioa_watch.specs.Streams.{TellsEnd, accepted_line, before_values, refusal_line}

-- ---- lines

-- an action, and what else a system writes
abbrev login : Data
login = object (member (codes "act") (string (codes "login(\"ann\")")) (member (codes "at") (number (unsigned 1)) (member (codes "end") (string (codes "soon")) no_members)))

its_text : text_at (codes "act") login ≡ Some (codes "login(\"ann\")")
its_text = refl

no_end : TellsEnd login → ⊥
no_end h = let x : Some (codes "login(\"ann\")") ≡ None = h.0 in absurd (cc)

an_end : TellsEnd (object (member (codes "act") (number (unsigned 5)) (member (codes "end") (string (codes "done after 3")) no_members)))
an_end = (refl, refl)

no_object : text_at (codes "act") (array no_items) ≡ None
no_object = refl

-- ---- names

before_its_values : before_values (codes "login(\"ann\")") ≡ codes "login"
before_its_values = refl

without_values : before_values (codes "reset") ≡ codes "reset"
without_values = refl

-- ---- what is told

refused : refusal_line false (codes "Spec") (Some (not_enabled_at 3)) ≡ codes "Spec: not enabled at 3\n"
unfolding digits
refused = refl

faulting : refusal_line false (codes "Spec") (Some (fault_at 0 Overflow 12)) ≡ codes "Spec: fault 1 in component 0 at 12\n"
unfolding digits
faulting = refl

nothing_refused : refusal_line false (codes "Spec") None ≡ []
nothing_refused = refl

accepted : accepted_line false (codes "Spec") None ≡ codes "Spec: ok\n"
accepted = refl

not_accepted : accepted_line false (codes "Spec") (Some (not_enabled_at 3)) ≡ []
not_accepted = refl

refused_object : refusal_line true (codes "Spec") (Some (fault_at 0 Overflow 12)) ≡ codes "{\"specification\":\"Spec\",\"verdict\":\"fault\",\"fault\":1,\"component\":0,\"index\":12}\n"
unfolding digits
refused_object = refl

accepted_object : accepted_line true (codes "Spec") None ≡ codes "{\"specification\":\"Spec\",\"verdict\":\"ok\"}\n"
accepted_object = refl
