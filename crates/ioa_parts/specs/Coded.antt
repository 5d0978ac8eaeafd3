-- States as plain data in a row, so that models can hold them.
use Rattle.std.specs.Prelude.{ℕ, List, refl}
use Rattle.std.specs.Coded.{Coded, code_by, coded×, coded_ℕ, coded_list}
use Rattle.ioa_value.specs.Plain.{Val}
use Rattle.ioa_value.specs.Table.{Table}
use Rattle.ioa_value.specs.Coded.{coded_vals, coded_table}
use Rattle.ioa_parts.specs.Nodes.{Node}

abbrev pub coded_node : Coded Node
coded_node =
    code_by (Table × (List ℕ × List Val)) (coded× coded_table (coded× (coded_list coded_ℕ) coded_vals)) (λ n. (n.table, (n.types, n.values))) (λ p. record { table = p.0; types = p.1.0; values = p.1.1 }) (λ _. refl)
