-- Objects: the bytes of programs.
use Rattle.std.specs.Prelude.{◌≡◌, Bool, List, [], ◌++◌, ℕ}
use Rattle.ioa_compile.specs.Programs.{Prog}
use Rattle.ioa_compile.specs.Tables.{IsProgram}
use Rattle.ioa_object.specs.Spelling.{under, object}
use Rattle.ioa_object.specs.Versions.{MayStand, loops_in}

-- the bytes are the object of the program
pub record IsObject (bytes : List ℕ) (p : Prog) : Type 0 where
  pub program : IsProgram p
  pub spelled : bytes ≡ object p

-- the bytes spell the program under this version, under which its code may stand. Where it has no loops there are two such spellings,
-- and one is its object
pub record IsUnder (loops : Bool) (bytes : List ℕ) (p : Prog) : Type 0 where
  pub program : IsProgram p
  pub stand : MayStand loops (loops_in p)
  pub spelled : bytes ≡ under loops p

-- a program has one object
abbrev pub OneObject : Type 0
OneObject = (p : Prog) (a b : List ℕ) → IsObject a p → IsObject b p → a ≡ b

-- an object is of one program
abbrev pub OneProgram : Type 0
OneProgram = (bytes : List ℕ) (p q : Prog) → IsObject bytes p → IsObject bytes q → p ≡ q

-- no object begins another
abbrev pub NoneBeginsAnother : Type 0
NoneBeginsAnother = (front more : List ℕ) (p q : Prog) → IsObject front p → IsObject (front ++ more) q → more ≡ []
