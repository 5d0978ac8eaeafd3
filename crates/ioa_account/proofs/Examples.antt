-- The answers of the definitions, of small texts.
use Rattle.std.proofs.Common.{◌≡◌, ℕ, List, [], ◌∷◌, Some, None, true, false, codes, refl}
use Rattle.std.specs.Fmt.{digits}
use Rattle.ioa_arithmetic.specs.declared.arithmetic.Fault.TheVariants.{ZeroDivisor, Empty}
use Rattle.ioa_value.specs.Actions.{Act}
use Rattle.ioa_value.specs.Written.{written_action}
use Rattle.ioa_tree.specs.Runs.{done, not_an_action_at, not_enabled_at, fault_at}
use Rattle.ioa_account.specs.Accounts.{why}
use Rattle.ioa_account.specs.Lines.{line_at, line_of_action}
use Rattle.ioa_account.specs.Quoted.{end_of, goes_on}
use Rattle.ioa_account.specs.Remarks.{all_performed, asked_text, broken_of, known_text, other_fault}

-- a blank line, a comment, an action, a line of blanks, and another action
list : List ℕ
list = codes "\n% two steps\nstep\n  \nstep\n"

first_action : line_of_action list 0 ≡ Some 3
unfolding list
first_action = refl

second_action : line_of_action list 1 ≡ Some 5
unfolding list
second_action = refl

no_third_action : line_of_action list 2 ≡ None
unfolding list
no_third_action = refl

comment : line_at list 2 ≡ Some (codes "% two steps")
unfolding list
comment = refl

no_line_is_the_0th : line_at list 0 ≡ None
unfolding list
no_line_is_the_0th = refl

no_line_behind : line_at list 6 ≡ None
unfolding list
no_line_behind = refl

-- ---- why runs end

steps : List Act
steps = record { name = codes "step"; vals = [] } ∷ []

unknown : why [] steps (codes "Left") false false (not_an_action_at 0) ≡ codes "no component has step"
unfolding steps written_action
unknown = refl

blocked : why [] steps (codes "Left") false false (not_enabled_at 0) ≡ codes "the precondition of step in Left is false"
unfolding steps written_action
blocked = refl

down : why [] steps (codes "Left") true false (not_enabled_at 0) ≡ codes "Left is down, so that step is not enabled"
unfolding steps written_action
down = refl

faulted : why [] steps (codes "Left") false false (fault_at 0 ZeroDivisor 0) ≡ codes "fault 2 in the effect of step in Left: the divisor is 0"
unfolding steps written_action digits
faulted = refl

faulted_early : why [] steps (codes "Left") false true (fault_at 0 ZeroDivisor 0) ≡ codes "fault 2 in the precondition of step in Left: the divisor is 0"
unfolding steps written_action digits
faulted_early = refl

-- ---- how a log differs

ends_otherwise : other_fault 1 (fault_at 0 ZeroDivisor 0) (fault_at 0 Empty 0) ≡ codes "the run's end is: fault 3 in component 0 at 0\n"
unfolding digits
ends_otherwise = refl

faults_before : other_fault 2 (fault_at 0 ZeroDivisor 1) (fault_at 0 Empty 0) ≡ []
faults_before = refl

does_not_fault : all_performed [] steps (fault_at 1 ZeroDivisor 0) ≡ codes "the log says that step faults, and it is performed\n"
unfolding steps written_action
does_not_fault = refl

ends_later : all_performed [] steps (done 2) ≡ codes "all actions of the log are performed, so that the run's end is: done after 1\n"
unfolding steps digits
ends_later = refl

-- ---- how much was asked

known : known_text 2 5 ≡ codes "the specification has 2 of 5 actions of the log\n"
unfolding digits
known = refl

none_known : known_text 0 5 ≡ codes "the specification has 0 of 5 actions of the log: nothing was specified\n"
unfolding digits
none_known = refl

asked : asked_text 1 4 ≡ codes "invariants asked: 1 in each of 4 states\n"
unfolding digits
asked = refl

-- ---- an invariant that is broken

false_there : broken_of (codes "in the first state") (codes "Left") None ≡ codes "in the first state an invariant of Left is broken:\n"
false_there = refl

faults_there : broken_of (codes "after this action") (codes "Left") (Some ZeroDivisor) ≡ codes "after this action an invariant of Left has fault 2: the divisor is 0\n"
unfolding digits
faults_there = refl

-- ---- lines of a transition

precondition_goes_on : goes_on (codes "    pre x = 1") ≡ true
precondition_goes_on = refl

transition_begins : goes_on (codes "    input ack") ≡ false
transition_begins = refl

blank_ends : goes_on (codes "  ") ≡ false
blank_ends = refl

whole_line : end_of 160 ≡ codes "\n"
whole_line = refl

cut_line : end_of 161 ≡ codes " ..\n"
cut_line = refl
