-- How a program is spelled as bytes: item by item, in the order of the bytes. Numbers are little-endian.
use Rattle.std.specs.Prelude.{ℕ, ℤ, Bool, true, false, List, [], ◌∷◌, ◌++◌, length, drop, codes, Option, Some, None}
use Rattle.std.specs.Int.{w16, w64, to_le_bytes, cast_unsigned}
use Rattle.std.specs.List.{flat_map}
use Rattle.ioa_value.specs.Actions.{Name}
use Rattle.ioa_value.specs.Plain.{Val, Vals, truth, num, name, tuple, items, none, more, count}
use Rattle.ioa_value.specs.Positions.{Domain, every, single}
use Rattle.ioa_value.specs.Table.{Table, TupleField, Shape, truths, numbers, names, fields, sequence, Declaration}
use Rattle.ioa_value.specs.Typing.{own}
use Rattle.ioa_value.specs.declared.operator.Op.{Op}
use Rattle.ioa_value.specs.declared.operator.Op.TheVariants.{Neg, Add, Sub, Mul, Div, Mod, Lt, Le, Gt, Ge, Not, Eq, Ne, Len, Head, Tail, Last, Init, Append, At, Member, Without, Make, Field}
use Rattle.ioa_code.specs.declared.instr.Instr.{Instr}
use Rattle.ioa_code.specs.declared.instr.Instr.TheVariants.{Const, Slot, Arg, Store, Jump, JumpIfFalse, Any, Pick, Apply, Each, Again, Local}
use Rattle.ioa_code.specs.Valid.{Part}
use Rattle.ioa_tree.specs.declared.tree.Kind.{Kind}
use Rattle.ioa_tree.specs.declared.tree.Kind.TheVariants.{Input, Output, Internal}
use Rattle.ioa_compile.specs.Programs.{EntryCode, MemberCode, Prog}
use Rattle.ioa_object.specs.Versions.{version_byte, loops_in}

-- ---- numbers, texts and lists

-- a number of 16 bits
abbrev pub short : ℕ → List ℕ
short n = to_le_bytes w16 n

-- a whole number of 64 bits
abbrev pub long : ℤ → List ℕ
long z = to_le_bytes w64 (cast_unsigned w64 z)

-- a text: a byte with its length, and that many bytes
abbrev pub text : Name → List ℕ
text x = length x ∷ x

-- a list: its count, and the items
abbrev pub list_of : {A : Type 0} → (A → List ℕ) → List A → List ℕ
list_of item xs = short (length xs) ++ flat_map item xs

-- ---- values

abbrev pub bit : Bool → ℕ
bit true = 1
bit false = 0

-- what is spelled of a value whose type is known
abbrev mutual
  pub payload : Val → List ℕ
  payload (truth b) = bit b ∷ []
  payload (num z) = long z
  payload (name ty n) = n ∷ []
  payload (tuple ty vs) = payloads vs
  payload (items ty vs) = short (count vs) ++ payloads vs

  pub payloads : Vals → List ℕ
  payloads none = []
  payloads (more v vs) = payload v ++ payloads vs

-- a value: its type, and the payload
abbrev pub value : Val → List ℕ
value v = short (own v) ++ payload v

-- ---- types

-- a field of a tuple: its name, and its type
abbrev pub field : TupleField → List ℕ
field f = text f.name ++ short f.ty

-- what a type of this name is. Bool and Int are not declared
abbrev pub form : Name → Shape → List ℕ
form x (names ns) = 1 ∷ (text x ++ list_of text ns)
form x (fields fs) = 2 ∷ (text x ++ list_of field fs)
form x (sequence most of) = 3 ∷ (text x ++ (short most ++ short of))
form x truths = []
form x numbers = []

abbrev pub declaration : Declaration → List ℕ
declaration d = form d.name d.shape

-- the types that are there without a declaration are not spelled
abbrev pub declared : Table → List Declaration
declared types = drop 2 types

-- ---- code

-- an operator's instruction
abbrev pub operator : Op → List ℕ
operator Neg = 16 ∷ []
operator Add = 17 ∷ []
operator Sub = 18 ∷ []
operator Mul = 19 ∷ []
operator Div = 20 ∷ []
operator Mod = 21 ∷ []
operator Lt = 22 ∷ []
operator Le = 23 ∷ []
operator Gt = 24 ∷ []
operator Ge = 25 ∷ []
operator Not = 26 ∷ []
operator Eq = 27 ∷ []
operator Ne = 28 ∷ []
operator Len = 29 ∷ []
operator Head = 30 ∷ []
operator Tail = 31 ∷ []
operator Last = 32 ∷ []
operator Init = 33 ∷ []
operator Append = 34 ∷ []
operator At = 35 ∷ []
operator Member = 36 ∷ []
operator Without = 37 ∷ []
operator (Make ty) = 38 ∷ short ty.0
operator (Field j) = 39 ∷ short j

-- an instruction: its byte and, where it has one, its operand
abbrev pub instruction : Instr → List ℕ
instruction (Const k) = 1 ∷ short k
instruction (Slot i) = 2 ∷ short i
instruction (Arg i) = 3 ∷ short i
instruction (Store i) = 4 ∷ short i
instruction (Jump t) = 5 ∷ short t
instruction (JumpIfFalse t) = 6 ∷ short t
instruction Any = 7 ∷ []
instruction (Pick ty) = 8 ∷ short ty.0
instruction (Apply op) = operator op
instruction (Each e) = 40 ∷ short e
instruction (Again t) = 41 ∷ short t
instruction (Local d) = 42 ∷ short d

-- a part: its instructions
abbrev pub code : Part → List ℕ
code part = list_of instruction part.code.instrs

-- a part that an input has not
abbrev pub local_code : Option Part → List ℕ
local_code (Some part) = code part
local_code None = []

-- ---- components

abbrev pub kind_byte : Kind → ℕ
kind_byte Input = 0
kind_byte Output = 1
kind_byte Internal = 2

-- a position: any value of a type, or a single value
abbrev pub position : Domain → List ℕ
position (every ty) = 0 ∷ short ty
position (single v) = 1 ∷ value v

-- an entry: its kind, its name, its positions, the constants of its code, and the code of its precondition, its proposals and its effect
abbrev pub entry : EntryCode → List ℕ
entry e =
    kind_byte e.kind ∷ (text e.name ++ (list_of position e.positions ++ (list_of value e.effect.code.consts
    ++ (local_code e.pre ++ (local_code e.propose ++ code e.effect)))))

-- a component: its name, the start values of its variables, and its entries
abbrev pub component : MemberCode → List ℕ
component m = text m.name ++ (list_of value m.start.values ++ list_of entry m.entries)

-- ---- programs

-- a program's tables: the declared types, the composition's name, its components, and the hidden names
abbrev pub tables : Prog → List ℕ
tables p = list_of declaration (declared p.types) ++ (text p.name ++ (list_of component p.members ++ list_of text p.hidden))

-- the four bytes with which an object begins: 127, and then `IOA`
abbrev pub mark : List ℕ
mark = 127 ∷ codes "IOA"

-- the mark, the byte of the version with loops or of the one without, and the tables
abbrev pub under : Bool → Prog → List ℕ
under loops p = mark ++ (version_byte loops ∷ tables p)

-- an object: under the version with loops exactly where the program has some
abbrev pub object : Prog → List ℕ
object p = under (loops_in p) p
