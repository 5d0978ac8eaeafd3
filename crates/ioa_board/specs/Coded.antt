-- Boards and plans as plain data in a row, so that models can hold them.
use Rattle.std.specs.Prelude.{ℕ, List, Option, refl}
use Rattle.std.specs.Coded.{Coded, code_by, coded×, coded_ℕ, coded_list, coded_option}
use Rattle.ioa_arithmetic.specs.declared.arithmetic.Fault.{Fault}
use Rattle.ioa_arithmetic.specs.contracts.arithmetic.Fault as faults
use Rattle.ioa_value.specs.Actions.{Name, Act}
use Rattle.ioa_value.specs.Plain.{Val}
use Rattle.ioa_value.specs.Coded.{coded_vals}
use Rattle.ioa_board.specs.Boards.{Failure, Intent, Standing}

abbrev pub coded_act : Coded Act
coded_act =
    code_by (Name × List Val) (coded× (coded_list coded_ℕ) coded_vals) (λ a. (a.name, a.vals)) (λ p. record { name = p.0; vals = p.1 }) (λ _. refl)

abbrev pub coded_entry : Coded (ℕ × Act)
coded_entry = coded× coded_ℕ coded_act

abbrev pub coded_failure : Coded Failure
coded_failure =
    code_by ((ℕ × Act) × (ℕ × Fault)) (coded× coded_entry (coded× coded_ℕ faults.the_row.coded)) (λ r. (r.entry, (r.component, r.fault)))
    (λ p. record { entry = p.0; component = p.1.0; fault = p.1.1 }) (λ _. refl)

-- the states are the values of the components' variables
abbrev pub coded_standing : Coded (Standing (List Val))
coded_standing =
    code_by (List (ℕ × Act) × (List (List Val) × Option Failure)) (coded× (coded_list coded_entry) (coded× (coded_list coded_vals) (coded_option coded_failure)))
    (λ b. (b.history, (b.states, b.failure)))
    (λ p. record { history = p.0; states = p.1.0; failure = p.1.1 }) (λ _. refl)

abbrev pub coded_intent : Coded (Intent (List Val))
coded_intent =
    code_by (Act × List (List Val)) (coded× coded_act (coded_list coded_vals)) (λ p. (p.action, p.copied)) (λ p. record { action = p.0; copied = p.1 }) (λ _. refl)
