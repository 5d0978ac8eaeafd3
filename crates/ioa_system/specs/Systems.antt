-- A running program: the program, and the state of each of its components.
use Rattle.std.specs.Prelude.{ℕ, List, map, refl}
use Rattle.std.specs.Coded.{Coded, code_by, coded×, coded_list}
use Rattle.ioa_value.specs.Plain.{Val}
use Rattle.ioa_value.specs.Table.{Table}
use Rattle.ioa_value.specs.Coded.{coded_vals}
use Rattle.ioa_parts.specs.Nodes.{Node}
use Rattle.ioa_compile.specs.Programs.{MemberCode, Prog}
use Rattle.ioa_compile.specs.Coded.{coded_prog}

pub record Running : Type 0 where
  pub program : Prog
  pub states : List (List Val)

abbrev pub coded_running : Coded Running
coded_running =
    code_by (Prog × List (List Val)) (coded× coded_prog (coded_list coded_vals)) (λ r. (r.program, r.states)) (λ p. record { program = p.0; states = p.1 }) (λ _. refl)

-- the declared types, and the types of a component's variables
pub record Slots : Type 0 where
  pub table : Table
  pub types : List ℕ

abbrev pub slots_of : Node → Slots
slots_of n = record { table = n.table; types = n.types }

abbrev pub types_of : List Node → List Slots
types_of ns = map slots_of ns

abbrev pub values_of : List Node → List (List Val)
values_of ns = map (λ n. n.values) ns

-- the types of each component's variables
abbrev pub slot_types : List MemberCode → List Slots
slot_types ms = map (λ m. slots_of m.start) ms
