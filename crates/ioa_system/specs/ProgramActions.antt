-- An action of a program: who takes part in it, both determine.
use Rattle.std.specs.Prelude.{List, refl}
use Rattle.std.specs.Coded.{Coded, code_by, coded×, coded_list, coded_ℕ}
use Rattle.ioa_value.specs.Actions.{Name, Act}
use Rattle.ioa_value.specs.Plain.{Val}
use Rattle.ioa_value.specs.Coded.{coded_vals}
use Rattle.ioa_compile.specs.Programs.{Prog}
use Rattle.ioa_compile.specs.Coded.{coded_prog}

pub record ProgramAction : Type 0 where
  pub program : Prog
  pub action : Act

abbrev pub coded_program_action : Coded ProgramAction
coded_program_action =
    code_by (Prog × (Name × List Val)) (coded× coded_prog (coded× (coded_list coded_ℕ) coded_vals)) (λ q. (q.program, (q.action.name, q.action.vals)))
    (λ p. record { program = p.0; action = record { name = p.1.0; vals = p.1.1 } }) (λ _. refl)
