-- What tells programs apart: the rest of an entry's code follows from this and from the component's types.
use Rattle.std.specs.Prelude.{List, Option, map}
use Rattle.std.specs.Option.{option_map}
use Rattle.std.specs.String.{string_bytes}
use Rattle.ioa_value.specs.Actions.{Name}
use Rattle.ioa_value.specs.Plain.{Val}
use Rattle.ioa_value.specs.Positions.{Domain}
use Rattle.ioa_code.specs.declared.instr.Instr.{Instr}
use Rattle.ioa_code.specs.Valid.{Part}
use Rattle.ioa_parts.specs.Nodes.{Node}
use Rattle.ioa_tree.specs.declared.tree.Kind.{Kind}
use Rattle.ioa_compile.specs.declared.table.Entry.{Entry}
use Rattle.ioa_compile.specs.declared.table.Member.{Member}
use Rattle.ioa_compile.specs.Programs.{EntryCode}
use Rattle.ioa_compile.specs.Shown.{entry_code}

pub record EntryOutline : Type 0 where
  pub kind : Kind
  pub name : Name
  pub positions : List Domain
  pub pre : Option (List Instr)
  pub propose : Option (List Instr)
  pub effect : List Instr
  pub consts : List Val

abbrev pub instrs_of : Part → List Instr
instrs_of p = p.code.instrs

abbrev pub outline : EntryCode → EntryOutline
outline e = record {
  kind = e.kind;
  name = e.name;
  positions = e.positions;
  pre = option_map instrs_of e.pre;
  propose = option_map instrs_of e.propose;
  effect = instrs_of e.effect;
  consts = e.effect.code.consts;
}

abbrev pub outline_of : Entry → EntryOutline
outline_of e = outline (entry_code e)

pub record MemberOutline : Type 0 where
  pub name : Name
  pub start : Node
  pub entries : List EntryOutline

abbrev pub outlined : Member → MemberOutline
outlined m = record { name = string_bytes m.name; start = m.start; entries = map outline_of m.entries.items }
