-- An object of 39 bytes, read and spelled by computation; and the same with a byte changed.
use Rattle.std.proofs.Common.{◌≡◌, ℕ, true, List, [], ◌∷◌, Some, Ok, Err, refl, codes}
use Rattle.std.specs.Prelude.{slice_set}
use Rattle.ioa_value.specs.Names.{is_name, is_reserved, reserved}
use Rattle.ioa_value.specs.Plain.{truth}
use Rattle.ioa_value.specs.Table.{basic}
use Rattle.ioa_code.specs.declared.instr.Instr.{Instr}
use Rattle.ioa_code.specs.declared.instr.Instr.TheVariants.{Const}
use Rattle.ioa_code.specs.declared.instr.PartKind.{PartKind}
use Rattle.ioa_code.specs.declared.instr.PartKind.TheVariants.{Pre, Propose, Eff}
use Rattle.ioa_code.specs.Valid.{Part}
use Rattle.ioa_tree.specs.declared.tree.Kind.TheVariants.{Output}
use Rattle.ioa_compile.specs.Programs.{Prog}
use Rattle.ioa_object.specs.Reading.{read, versioned_at, tables_at, types_at, component_at, hidden_at, entry_at, opening_at, coded_at, kind_at, part_at, local_at, instrs_at, instr_at, instr_of}
use Rattle.ioa_bytes.specs.Items.{byte_at, count_at, short_at, bytes_at, items_at, list_at, name_at, named_at, value_at, type_at, payload_in, truth_at}
use Rattle.ioa_object.specs.Spelling.{object}
use Rattle.ioa_bytes.specs.declared.failure.ObjErr.TheVariants as errors

-- composition X of component A, with the output go, whose precondition is the constant true
abbrev bytes : List ℕ
bytes =
    0x7f ∷ 0x49 ∷ 0x4f ∷ 0x41 ∷ 0x01 ∷ 0x00 ∷ 0x00 ∷ 0x01 ∷ 0x58 ∷ 0x01 ∷ 0x00 ∷ 0x01 ∷ 0x41 ∷ 0x00 ∷ 0x00 ∷ 0x01 ∷ 0x00 ∷ 0x01 ∷ 0x02 ∷ 0x67 ∷ 0x6f ∷ 0x00 ∷ 0x00
    ∷ 0x01 ∷ 0x00 ∷ 0x00 ∷ 0x00 ∷ 0x01 ∷ 0x01 ∷ 0x00 ∷ 0x01 ∷ 0x00 ∷ 0x00 ∷ 0x00 ∷ 0x00 ∷ 0x00 ∷ 0x00 ∷ 0x00 ∷ 0x00 ∷ []

abbrev part : PartKind → List Instr → List ℕ → Part
part kind instrs end =
    record { code = record { types = basic; instrs = instrs; consts = truth true ∷ [] }; kind = kind; slots = []; args = []; result = end }

abbrev program : Prog
program = record {
  types = basic;
  name = codes "X";
  members = record {
    name = codes "A";
    start = record { table = basic; types = []; values = [] };
    entries = record {
      kind = Output;
      name = codes "go";
      positions = [];
      pre = Some (part Pre (Const 0 ∷ []) (0 ∷ []));
      propose = Some (part Propose [] []);
      effect = part Eff [] [];
    } ∷ [];
  } ∷ [];
  hidden = [];
}

pub spelled : object program ≡ bytes
spelled = refl

pub is_read : read bytes ≡ Ok (program, record { place = 39; rest = []; parts = 3 })
unfolding read versioned_at byte_at tables_at types_at count_at short_at bytes_at items_at list_at name_at named_at component_at hidden_at entry_at opening_at coded_at kind_at value_at type_at payload_in truth_at part_at local_at instrs_at instr_at instr_of is_name is_reserved reserved
is_read = refl

-- under the version with loops it is read as well: read_object refuses it, since it has none
pub needless_read : read (slice_set bytes 4 0x02) ≡ Ok (program, record { place = 39; rest = []; parts = 3 })
unfolding read versioned_at byte_at tables_at types_at count_at short_at bytes_at items_at list_at name_at named_at component_at hidden_at entry_at opening_at coded_at kind_at value_at type_at payload_in truth_at part_at local_at instrs_at instr_at instr_of is_name is_reserved reserved
needless_read = refl

-- no kind
pub kind_refused : read (slice_set bytes 17 0x03) ≡ Err (errors.BadTable 17)
unfolding read versioned_at byte_at tables_at types_at count_at short_at bytes_at items_at list_at name_at named_at component_at entry_at opening_at kind_at is_name is_reserved reserved
kind_refused = refl

-- no truth value
pub payload_refused : read (slice_set bytes 27 0x02) ≡ Err (errors.BadTable 27)
unfolding read versioned_at byte_at tables_at types_at count_at short_at bytes_at items_at list_at name_at named_at component_at entry_at opening_at kind_at value_at type_at payload_in truth_at is_name is_reserved reserved
payload_refused = refl

-- an instruction of loops, which are not there under the version without
pub loop_refused : read (slice_set bytes 30 0x28) ≡ Err (errors.BadCode 0 0)
unfolding read versioned_at byte_at tables_at types_at count_at short_at bytes_at items_at list_at name_at named_at component_at entry_at opening_at coded_at kind_at value_at type_at payload_in truth_at part_at local_at instrs_at instr_at instr_of is_name is_reserved reserved
loop_refused = refl

-- a variable that is not there
pub code_refused : read (slice_set bytes 30 0x02) ≡ Err (errors.BadCode 0 0)
unfolding read versioned_at byte_at tables_at types_at count_at short_at bytes_at items_at list_at name_at named_at component_at entry_at opening_at coded_at kind_at value_at type_at payload_in truth_at part_at local_at instrs_at instr_at instr_of is_name is_reserved reserved
code_refused = refl
