-- What may stand at each place of an object, read from the left: what stands there with the place after it, or the first thing that is
-- wrong. A tag, a number, a name or a payload that may not stand is told by its first byte.
use Rattle.std.specs.Prelude.{ℕ, zero, suc, ◌+◌, ◌==◌, Bool, not, ◌&&◌, ◌||◌, nat_le, if◌then◌else◌, List, [], ◌∷◌, ◌++◌, length, drop, map, Option, Some, None, Ok, Err}
use Rattle.ioa_value.specs.Actions.{Name}
use Rattle.ioa_value.specs.Plain.{Val}
use Rattle.ioa_value.specs.Positions.{Domain, every, single}
use Rattle.ioa_value.specs.Table.{Table, TupleField, Shape, names, fields, sequence, Declaration, basic, contains, field_names, all_names}
use Rattle.ioa_value.specs.Typing.{own}
use Rattle.ioa_value.specs.Widths.{shape_width, widths}
use Rattle.ioa_value.specs.declared.limits.TheConstants.{LIMITS}
use Rattle.ioa_value.specs.declared.operator.Op.{Op}
use Rattle.ioa_value.specs.declared.operator.Op.TheVariants.{Neg, Add, Sub, Mul, Div, Mod, Lt, Le, Gt, Ge, Not, Eq, Ne, Len, Head, Tail, Last, Init, Append, At, Member, Without, Make, Field}
use Rattle.ioa_value.specs.declared.value.Ty.{Ty}
use Rattle.ioa_code.specs.declared.instr.Instr.{Instr}
use Rattle.ioa_code.specs.declared.instr.Instr.TheVariants.{Const, Slot, Arg, Store, Jump, JumpIfFalse, Any, Pick, Apply, Each, Again, Local}
use Rattle.ioa_code.specs.declared.instr.PartKind.{PartKind}
use Rattle.ioa_code.specs.declared.instr.PartKind.TheVariants.{Pre, Propose, Eff}
use Rattle.ioa_code.specs.Scan.{Verdict, good, bad, scan}
use Rattle.ioa_code.specs.Valid.{Part}
use Rattle.ioa_tree.specs.declared.tree.Kind.{Kind}
use Rattle.ioa_tree.specs.declared.tree.Kind.TheVariants.{Input, Output, Internal}
use Rattle.ioa_crash.specs.Limits.{component_limits}
use Rattle.ioa_compile.specs.Programs.{EntryCode, MemberCode, Prog}
use Rattle.ioa_compile.specs.Tables.{have_output, parameter_types, position_types}
use Rattle.ioa_compile.specs.declared.limits.TheConstants.{MOST_PLACES}
use Rattle.ioa_bytes.specs.Items.{Outcome, Reader, ◌>>=◌, ◌>>◌, built, right, counted, byte_at, short_at, count_at, type_at, name_at, items_at, list_at, value_at}
use Rattle.ioa_object.specs.Spelling.{mark}
use Rattle.ioa_object.specs.Versions.{version_of}
use Rattle.ioa_bytes.specs.declared.failure.ObjErr.TheVariants as errors

-- ---- types

unfoldable pub field_at : ℕ → List TupleField → Reader TupleField
field_at count before c = do
  x ← name_at (contains (field_names before)) c
  ty ← type_at count x.1
  Ok (record { name = x.0; ty = ty.0 }, ty.1)

unfoldable pub sequence_at : ℕ → Reader Shape
sequence_at count c = do
  most ← count_at 1 LIMITS.capacity c
  of ← type_at count most.1
  Ok (sequence most.0 of.0, of.1)

-- what a type of this tag is, where these names are taken and there are so many types
unfoldable pub form_at : ℕ → List Name → ℕ → Reader Shape
form_at tag taken count c =
    if tag == 1 then built names (list_at 1 LIMITS.names (λ before. name_at (contains (taken ++ before))) c)
    else (if tag == 2 then built fields (list_at 1 LIMITS.fields (field_at count) c) else sequence_at count c)

-- the declaration that comes after these
unfoldable pub declaration_at : Table → Reader Declaration
declaration_at types c = do
  tag ← byte_at c
  right (nat_le 1 tag.0 && nat_le tag.0 3) c.place
  x ← name_at (contains (all_names types)) tag.1
  form ← form_at tag.0 (all_names types ++ x.0 ∷ []) (length types) x.1
  right (nat_le (shape_width (widths types) form.0) LIMITS.words) c.place
  Ok (record { name = x.0; shape = form.0 }, form.1)

unfoldable pub types_at : Reader Table
types_at c = do
  n ← count_at 0 LIMITS.types c
  items_at declaration_at basic n.0 n.1

-- ---- code

-- the operator's instruction of this byte, or there is none
unfoldable pub operator_at : ℕ → Option Op
operator_at b =
    if b == 16 then Some Neg else (if b == 17 then Some Add else (if b == 18 then Some Sub else (if b == 19 then Some Mul else (
    if b == 20 then Some Div else (if b == 21 then Some Mod else (if b == 22 then Some Lt else (if b == 23 then Some Le else (
    if b == 24 then Some Gt else (if b == 25 then Some Ge else (if b == 26 then Some Not else (if b == 27 then Some Eq else (
    if b == 28 then Some Ne else (if b == 29 then Some Len else (if b == 30 then Some Head else (if b == 31 then Some Tail else (
    if b == 32 then Some Last else (if b == 33 then Some Init else (if b == 34 then Some Append else (if b == 35 then Some At else (
    if b == 36 then Some Member else (if b == 37 then Some Without else None)))))))))))))))))))))

abbrev pub type_operand : ℕ → Ty
type_operand n = record { 0 = n }

-- the instruction of this byte, which is an operator's without an operand, or there is none
abbrev pub applied : ℕ → ℕ → Option Op → Reader Instr
applied part at (Some op) c = Ok (Apply op, c)
applied part at None c = Err (errors.BadCode part at)

-- the instruction of this byte, as the one of this place of this part
unfoldable pub instr_of : ℕ → ℕ → ℕ → Reader Instr
instr_of part at b c =
    if b == 1 then built Const (short_at c) else (
    if b == 2 then built Slot (short_at c) else (
    if b == 3 then built Arg (short_at c) else (
    if b == 4 then built Store (short_at c) else (
    if b == 5 then built Jump (short_at c) else (
    if b == 6 then built JumpIfFalse (short_at c) else (
    if b == 7 then Ok (Any, c) else (
    if b == 8 then built (λ n. Pick (type_operand n)) (short_at c) else (
    if b == 38 then built (λ n. Apply (Make (type_operand n))) (short_at c) else (
    if b == 39 then built (λ n. Apply (Field n)) (short_at c) else (
    if b == 40 then built Each (short_at c) else (
    if b == 41 then built Again (short_at c) else (
    if b == 42 then built Local (short_at c) else
    applied part at (operator_at b) c))))))))))))

-- the byte is that of an instruction of loops
abbrev pub is_of_loops : ℕ → Bool
is_of_loops b = nat_le 40 b && nat_le b 42

-- the instruction that comes after these, as one of this part; where loops may not stand, their instructions are unknown
unfoldable pub instr_at : Bool → ℕ → List Instr → Reader Instr
instr_at loops part before c = do
  b ← byte_at c
  if not loops && is_of_loops b.0 then Err (errors.BadCode part (length before)) else instr_of part (length before) b.0 b.1

-- the part, which is valid code
abbrev pub verified : Verdict → Part → Reader Part
verified good part c = Ok (part, counted c)
verified (bad at why) part c = Err (errors.BadCode c.parts at)

-- code over these types, variables and constants, of this kind, over values of these types, that ends with those on the stack
abbrev pub part_of : Table → List ℕ → List Val → PartKind → List ℕ → List ℕ → List Instr → Part
part_of types slots consts kind args end instrs =
    record { code = record { types = types; instrs = instrs; consts = consts }; kind = kind; slots = slots; args = args; result = end }

unfoldable pub instrs_at : Bool → Reader (List Instr)
instrs_at loops c = do
  n ← short_at c
  items_at (instr_at loops c.parts) [] n.0 n.1

unfoldable pub part_at : Bool → Table → List ℕ → List Val → PartKind → List ℕ → List ℕ → Reader Part
part_at loops types slots consts kind args end c = do
  instrs ← instrs_at loops c
  verified (scan (part_of types slots consts kind args end instrs.0)) (part_of types slots consts kind args end instrs.0) instrs.1

-- a part that an input has not
unfoldable pub local_at : Kind → Reader Part → Reader (Option Part)
local_at Input part c = Ok (None, c)
local_at Output part c = built Some (part c)
local_at Internal part c = built Some (part c)

-- ---- components

-- the kind of this byte
abbrev pub kind_of : ℕ → Option Kind
kind_of zero = Some Input
kind_of (suc zero) = Some Output
kind_of (suc (suc zero)) = Some Internal
kind_of (suc (suc (suc n))) = None

abbrev pub kind_from : ℕ → Option Kind → Reader Kind
kind_from place (Some kind) c = Ok (kind, c)
kind_from place None c = Err (errors.BadTable place)

unfoldable pub kind_at : Reader Kind
kind_at c = do
  b ← byte_at c
  kind_from c.place (kind_of b.0) b.1

unfoldable pub position_at : Table → Reader Domain
position_at types c = do
  tag ← byte_at c
  right (nat_le tag.0 1) c.place
  if tag.0 == 0 then built every (type_at (length types) tag.1) else built single (value_at types tag.1)

-- what stands of an entry before its code
pub record Opening : Type 0 where
  pub kind : Kind
  pub name : Name
  pub positions : List Domain
  pub consts : List Val

-- of the entry that comes after these
unfoldable pub opening_at : Table → List EntryCode → Reader Opening
opening_at types before c = do
  kind ← kind_at c
  x ← name_at (contains (map (λ e. e.name) before)) kind.1
  ds ← list_at 0 LIMITS.parameters (λ _. position_at types) x.1
  consts ← list_at 0 MOST_PLACES (λ _. value_at types) ds.1
  Ok (record { kind = kind.0; name = x.0; positions = ds.0; consts = consts.0 }, consts.1)

-- the entry, with its code over variables of these types
unfoldable pub coded_at : Bool → Table → List ℕ → Opening → Reader EntryCode
coded_at loops types slots o c = do
  pre ← local_at o.kind (part_at loops types slots o.consts Pre (position_types o.positions) (0 ∷ [])) c
  propose ← local_at o.kind (part_at loops types slots o.consts Propose [] (parameter_types o.positions)) pre.1
  effect ← part_at loops types slots o.consts Eff (position_types o.positions) [] propose.1
  Ok (record { kind = o.kind; name = o.name; positions = o.positions; pre = pre.0; propose = propose.0; effect = effect.0 }, effect.1)

-- the entry that comes after these, over variables of these types
unfoldable pub entry_at : Bool → Table → List ℕ → List EntryCode → Reader EntryCode
entry_at loops types slots before c = do
  o ← opening_at types before c
  coded_at loops types slots o.0 o.1

-- the component that comes after these
unfoldable pub component_at : Bool → Table → List MemberCode → Reader MemberCode
component_at loops types before c = do
  x ← name_at (contains (map (λ m. m.name) before)) c
  vs ← list_at 0 component_limits.variables (λ _. value_at types) x.1
  es ← list_at 1 component_limits.entries (entry_at loops types (map own vs.0)) vs.1
  Ok (record { name = x.0; start = record { table = types; types = map own vs.0; values = vs.0 }; entries = es.0 }, es.1)

-- ---- programs

-- a program's tables
abbrev pub program_of : Table → Name → List MemberCode → List Name → Prog
program_of types x ms hidden = record { types = types; name = x; members = ms; hidden = hidden }

-- the hidden name that comes after these: an output of one of the components has it
unfoldable pub hidden_at : List MemberCode → List Name → Reader Name
hidden_at ms before c = name_at (λ x. contains before x || not (have_output ms x)) c

-- the tables, in whose code loops may stand or not
unfoldable pub tables_at : Bool → Reader Prog
tables_at loops c = do
  types ← types_at c
  x ← name_at (contains (all_names types.0)) types.1
  ms ← list_at 1 LIMITS.components (component_at loops types.0) x.1
  hidden ← list_at 0 LIMITS.hidden (hidden_at ms.0) ms.1
  Ok (program_of types.0 x.0 ms.0 hidden.0, hidden.1)

-- the bytes begin with these ones
abbrev pub begins : List ℕ → List ℕ → Bool
begins [] bytes = Bool.true
begins (b ∷ bs) [] = Bool.false
begins (b ∷ bs) (c ∷ cs) = (b == c) && begins bs cs

-- the tables under this version, if it is one
abbrev pub under_version : Option Bool → Reader Prog
under_version (Some loops) c = tables_at loops c
under_version None c = Err errors.Version

-- behind the mark the version, and then the tables
unfoldable pub versioned_at : Reader Prog
versioned_at c = do
  v ← byte_at c
  under_version (version_of v.0) v.1

-- the tables that stand at the front of the bytes, behind the mark and the version
unfoldable pub read : List ℕ → Outcome Prog
read bytes = if begins mark bytes then versioned_at (record { place = 4; rest = drop 4 bytes; parts = 0 }) else Err errors.Magic
