-- Programs as plain data in a row, so that models can hold programs.
use Rattle.std.specs.Prelude.{List, Option, refl}
use Rattle.std.specs.Coded.{Coded, code_by, coded×, coded_list, coded_option}
use Rattle.ioa_value.specs.Actions.{Name}
use Rattle.ioa_value.specs.Table.{Table}
use Rattle.ioa_value.specs.Coded.{coded_domain, coded_table}
use Rattle.ioa_value.specs.Positions.{Domain}
use Rattle.ioa_code.specs.Coded.{coded_part}
use Rattle.ioa_code.specs.Valid.{Part}
use Rattle.ioa_parts.specs.Coded.{coded_node}
use Rattle.ioa_parts.specs.Nodes.{Node}
use Rattle.ioa_tree.specs.declared.tree.Kind.{Kind}
use Rattle.ioa_tree.specs.contracts.tree.Kind as kinds
use Rattle.ioa_emit.specs.CodedScopes.{coded_name}
use Rattle.ioa_compile.specs.Programs.{EntryCode, MemberCode, Prog}

abbrev pub coded_entry : Coded EntryCode
coded_entry =
    code_by (Kind × (Name × (List Domain × (Option Part × (Option Part × Part)))))
    (coded× kinds.the_row.coded (coded× coded_name (coded× (coded_list coded_domain) (coded× (coded_option coded_part) (coded× (coded_option coded_part) coded_part)))))
    (λ e. (e.kind, (e.name, (e.positions, (e.pre, (e.propose, e.effect))))))
    (λ p. record { kind = p.0; name = p.1.0; positions = p.1.1.0; pre = p.1.1.1.0; propose = p.1.1.1.1.0; effect = p.1.1.1.1.1 }) (λ _. refl)

abbrev pub coded_member : Coded MemberCode
coded_member =
    code_by (Name × (Node × List EntryCode)) (coded× coded_name (coded× coded_node (coded_list coded_entry))) (λ m. (m.name, (m.start, m.entries))) (λ p. record { name = p.0; start = p.1.0; entries = p.1.1 }) (λ _. refl)

abbrev pub coded_prog : Coded Prog
coded_prog =
    code_by (Table × (Name × (List MemberCode × List Name))) (coded× coded_table (coded× coded_name (coded× (coded_list coded_member) (coded_list coded_name)))) (λ p. (p.types, (p.name, (p.members, p.hidden)))) (λ p. record { types = p.0; name = p.1.0; members = p.1.1.0; hidden = p.1.1.1 }) (λ _. refl)
