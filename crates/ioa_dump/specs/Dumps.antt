-- What a dump says of a program: its tables and its code as lines of text, for people.
use Rattle.std.specs.Prelude.{ℕ, List, [], ◌∷◌, ◌++◌, Option, Some, None, codes, slice_get}
use Rattle.std.specs.Fmt.{decimal}
use Rattle.std.specs.List.{flat_map}
use Rattle.std.specs.Option.{option_map_or}
use Rattle.ioa_value.specs.Actions.{Name}
use Rattle.ioa_value.specs.Plain.{Val, truth, num, name, tuple, items}
use Rattle.ioa_value.specs.Positions.{Domain, every, single}
use Rattle.ioa_value.specs.Table.{Table, TupleField, Shape, truths, numbers, names, fields, sequence, Declaration, type_name}
use Rattle.ioa_value.specs.Typing.{own}
use Rattle.ioa_value.specs.Written.{written_values}
use Rattle.ioa_value.specs.declared.operator.Op.{Op}
use Rattle.ioa_value.specs.declared.operator.Op.TheVariants.{Neg, Add, Sub, Mul, Div, Mod, Lt, Le, Gt, Ge, Not, Eq, Ne, Len, Head, Tail, Last, Init, Append, At, Member, Without, Make, Field}
use Rattle.ioa_code.specs.declared.instr.Instr.{Instr}
use Rattle.ioa_code.specs.declared.instr.Instr.TheVariants.{Const, Slot, Arg, Store, Jump, JumpIfFalse, Any, Pick, Apply, Each, Again, Local}
use Rattle.ioa_code.specs.Valid.{Part}
use Rattle.ioa_tree.specs.declared.tree.Kind.{Kind}
use Rattle.ioa_tree.specs.declared.tree.Kind.TheVariants.{Input, Output, Internal}
use Rattle.ioa_compile.specs.Programs.{EntryCode, MemberCode, Prog}
use Rattle.ioa_object.specs.Spelling.{declared}
use Rattle.ioa_picture.specs.Lines.{numbered}

-- ---- types

abbrev pub name_line : ℕ → Name → List ℕ
name_line n x = codes "  name " ++ (decimal n ++ (codes " " ++ (x ++ codes "\n")))

abbrev pub field_line : Table → ℕ → TupleField → List ℕ
field_line types n f = codes "  field " ++ (decimal n ++ (codes " " ++ (f.name ++ (codes ": " ++ (type_name types f.ty ++ codes "\n")))))

-- what a type is; Bool and Int are not declared
abbrev pub form_lines : Table → Shape → List ℕ
form_lines types (names ns) = codes "enumeration\n" ++ numbered name_line 0 ns
form_lines types (fields fs) = codes "tuple\n" ++ numbered (field_line types) 0 fs
form_lines types (sequence most of) = codes "sequence of at most " ++ (decimal most ++ (codes " " ++ (type_name types of ++ codes "\n")))
form_lines types truths = []
form_lines types numbers = []

abbrev pub type_lines : Table → ℕ → Declaration → List ℕ
type_lines types n d = codes "type " ++ (decimal n ++ (codes " " ++ (d.name ++ (codes ": " ++ form_lines types d.shape))))

-- ---- values

-- a value: its type, and in parentheses the value, as it stands in an action
abbrev pub typed_value : Table → Val → List ℕ
typed_value types v = type_name types (own v) ++ (codes " " ++ written_values types (v ∷ []))

-- the same, but of a value that holds others the type alone
abbrev pub brief_value : Table → Val → List ℕ
brief_value types (truth b) = typed_value types (truth b)
brief_value types (num z) = typed_value types (num z)
brief_value types (name ty n) = typed_value types (name ty n)
brief_value types (tuple ty vs) = type_name types ty
brief_value types (items ty vs) = type_name types ty

-- a value behind a label and its number
abbrev pub value_line : List ℕ → Table → ℕ → Val → List ℕ
value_line label types n v = label ++ (codes " " ++ (decimal n ++ (codes ": " ++ (typed_value types v ++ codes "\n"))))

-- ---- code

-- an operator's instruction: its name and, where it has one, its operand
abbrev pub operator_text : Table → Op → List ℕ
operator_text types Neg = codes "Neg"
operator_text types Add = codes "Add"
operator_text types Sub = codes "Sub"
operator_text types Mul = codes "Mul"
operator_text types Div = codes "Div"
operator_text types Mod = codes "Mod"
operator_text types Lt = codes "Lt"
operator_text types Le = codes "Le"
operator_text types Gt = codes "Gt"
operator_text types Ge = codes "Ge"
operator_text types Not = codes "Not"
operator_text types Eq = codes "Eq"
operator_text types Ne = codes "Ne"
operator_text types Len = codes "Len"
operator_text types Head = codes "Head"
operator_text types Tail = codes "Tail"
operator_text types Last = codes "Last"
operator_text types Init = codes "Init"
operator_text types Append = codes "Append"
operator_text types At = codes "At"
operator_text types Member = codes "Member"
operator_text types Without = codes "Without"
operator_text types (Make ty) = codes "Make " ++ type_name types ty.0
operator_text types (Field j) = codes "Field " ++ decimal j

-- the name of the type that stands in this place among types
abbrev pub type_in : Table → List ℕ → ℕ → List ℕ
type_in types tys i = option_map_or (type_name types) (slice_get tys i) []

-- an instruction of a part: its name and operand, with the constant or the type that the operand stands for
abbrev pub instruction_text : Table → Part → Instr → List ℕ
instruction_text types part (Const k) = codes "Const " ++ (decimal k ++ (codes ": " ++ option_map_or (brief_value types) (slice_get part.code.consts k) []))
instruction_text types part (Slot i) = codes "Slot " ++ (decimal i ++ (codes ": " ++ type_in types part.slots i))
instruction_text types part (Arg i) = codes "Arg " ++ (decimal i ++ (codes ": " ++ type_in types part.args i))
instruction_text types part (Store i) = codes "Store " ++ (decimal i ++ (codes ": " ++ type_in types part.slots i))
instruction_text types part (Jump t) = codes "Jump " ++ decimal t
instruction_text types part (JumpIfFalse t) = codes "JumpIfFalse " ++ decimal t
instruction_text types part Any = codes "Any"
instruction_text types part (Pick ty) = codes "Pick " ++ type_name types ty.0
instruction_text types part (Apply op) = operator_text types op
instruction_text types part (Each t) = codes "Each " ++ decimal t
instruction_text types part (Again t) = codes "Again " ++ decimal t
instruction_text types part (Local d) = codes "Local " ++ decimal d

-- it stands behind its place
abbrev pub instruction_line : Table → Part → ℕ → Instr → List ℕ
instruction_line types part n instr = codes "      " ++ (decimal n ++ (codes " " ++ (instruction_text types part instr ++ codes "\n")))

-- a part under this heading
abbrev pub part_lines : Table → List ℕ → Part → List ℕ
part_lines types heading part = codes "    " ++ (heading ++ (codes "\n" ++ numbered (instruction_line types part) 0 part.code.instrs))

-- a part that an input has not
abbrev pub local_lines : Table → List ℕ → Option Part → List ℕ
local_lines types heading (Some part) = part_lines types heading part
local_lines types heading None = []

-- ---- components

abbrev pub kind_word : Kind → List ℕ
kind_word Input = codes "input"
kind_word Output = codes "output"
kind_word Internal = codes "internal"

-- what an action may have in a position: a value of a type, or this value alone
abbrev pub position_text : Table → Domain → List ℕ
position_text types (every ty) = type_name types ty
position_text types (single v) = typed_value types v

abbrev pub position_line : Table → ℕ → Domain → List ℕ
position_line types n d = codes "    position " ++ (decimal n ++ (codes ": " ++ (position_text types d ++ codes "\n")))

-- an entry: its kind and name, its positions, the constants of its code, and its parts
abbrev pub entry_lines : Table → EntryCode → List ℕ
entry_lines types e =
    codes "  " ++ (kind_word e.kind ++ (codes " " ++ (e.name ++ (codes "\n" ++ (numbered (position_line types) 0 e.positions ++ (numbered (value_line (codes "    constant") types) 0 e.effect.code.consts
    ++ (local_lines types (codes "precondition") e.pre ++ (local_lines types (codes "proposals") e.propose ++ part_lines types (codes "effect") e.effect))))))))

-- a component: its name, its variables by the values with which they start, and its entries
abbrev pub component_lines : Table → ℕ → MemberCode → List ℕ
component_lines types n m =
    codes "component " ++ (decimal n ++ (codes " " ++ (m.name ++ (codes "\n" ++ (numbered (value_line (codes "  variable") types) 0 m.start.values ++ flat_map (entry_lines types) m.entries)))))

-- ---- programs

abbrev pub hidden_line : Name → List ℕ
hidden_line x = codes "hidden " ++ (x ++ codes "\n")

-- the composition's name, the declared types, whose numbers are those behind Bool and Int, the components, and the hidden names
abbrev pub dump : Prog → List ℕ
dump p =
    codes "composition " ++ (p.name ++ (codes "\n" ++ (numbered (type_lines p.types) 2 (declared p.types) ++ (numbered (component_lines p.types) 0 p.members ++ flat_map hidden_line p.hidden))))
