use Rattle.std.proofs.Common.{◌++◌, Result, Ok, Err, OnOk, append_assoc, ap, string_bytes, ◌∙◌}
use Rattle.ioa_account.specs.States.{state_lines}
use Rattle.ioa_compile.proofs.Subjects.{all_held}
use Rattle.ioa_enabled.specs.Told.{enabled_lines}
use Rattle.ioa_serving.proofs.states_replay.put_shown.Goals as goal

-- what is said where it is written is weakened
weaker_on : {X E : Type 0} (r : Result X E) (P Q : Type 0) → (P → Q) → OnOk r P → OnOk r Q
weaker_on (Ok x) P Q f p = f p
weaker_on (Err e) P Q f p = tt

pub returns-in-States : goal.returns-in-States
returns-in-States c =
    rw c.in-States.is
    (weaker_on c.put_states.result _ _ (λ told h hs over stands means held. told h hs stands (all_held c.args.program.now h 0 hs _ held)) c.put_states.ensures)

pub returns-in-Enabled : goal.returns-in-Enabled
returns-in-Enabled c = rw c.in-Enabled.is c.put_enabled.ensures

pub returns-in_ok-put_states-in-Both : goal.returns-in_ok-put_states-in-Both
returns-in_ok-put_states-in-Both c =
    rw c.in-Both.is
    (weaker_on c.put_enabled-in-Both.result _ _
    (λ told h hs over stands means held.
    told h hs over stands means held
    ∙ ap (λ l. l ++ enabled_lines h.types h.hosts hs) (c.in_ok-put_states-in-Both.ensures h hs stands (all_held c.args.program.now h 0 hs _ held))
    ∙ append_assoc (string_bytes c.args.text.now) (state_lines h.types h.hosts hs) (enabled_lines h.types h.hosts hs))
    c.put_enabled-in-Both.ensures)
