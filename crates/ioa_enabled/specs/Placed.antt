-- Values of the variables of a program's components.
use Rattle.std.specs.Prelude.{◌≡◌, ℕ, List, Some, slice_get}
use Rattle.ioa_value.specs.Plain.{Val}
use Rattle.ioa_value.specs.Typing.{HaveTypes}
use Rattle.ioa_compile.specs.Programs.{MemberCode}

-- they are of the types of the component's variables
abbrev pub AreOfMember : MemberCode → List Val → Type 0
AreOfMember m vs = HaveTypes m.start.table vs m.start.types

-- so of each component that is there
abbrev pub AreOfMembers : List MemberCode → List (List Val) → Type 0
AreOfMembers ms vss = (i : ℕ) (m : MemberCode) (vs : List Val) → slice_get ms i ≡ Some m → slice_get vss i ≡ Some vs → AreOfMember m vs
