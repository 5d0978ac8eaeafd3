-- The codes by which the program tells why something was not done, and how each is spelled.
use Rattle.std.specs.Prelude.{ℕ, List, [], ◌∷◌, codes}
use Rattle.ioa_request.specs.declared.code.Code.{Code}

-- each code, once, in the order in which they are listed
abbrev pub all_codes : List Code
all_codes =
    Code.E1 ∷ Code.E2 ∷ Code.E3 ∷ Code.E4 ∷ Code.E5 ∷ Code.E6 ∷ Code.E7 ∷ Code.E8 ∷ Code.E9 ∷ Code.E10 ∷
    Code.E11 ∷ Code.E12 ∷ Code.E13 ∷ Code.E14 ∷ Code.E15 ∷ Code.E16 ∷ Code.E17 ∷ Code.O1 ∷ Code.O2 ∷ Code.O3 ∷
    Code.O4 ∷ Code.O5 ∷ Code.O6 ∷ Code.O7 ∷ Code.L1 ∷ Code.L2 ∷ Code.L3 ∷ Code.L4 ∷ Code.L5 ∷ Code.L6 ∷
    Code.L7 ∷ Code.L8 ∷ Code.N1 ∷ Code.N2 ∷ Code.N3 ∷ Code.N4 ∷ Code.N5 ∷ Code.Words ∷ Code.Object ∷ Code.Memory ∷
    Code.Io ∷ []

abbrev pub spelling : Code → List ℕ
spelling Code.E1 = codes "E1"
spelling Code.E2 = codes "E2"
spelling Code.E3 = codes "E3"
spelling Code.E4 = codes "E4"
spelling Code.E5 = codes "E5"
spelling Code.E6 = codes "E6"
spelling Code.E7 = codes "E7"
spelling Code.E8 = codes "E8"
spelling Code.E9 = codes "E9"
spelling Code.E10 = codes "E10"
spelling Code.E11 = codes "E11"
spelling Code.E12 = codes "E12"
spelling Code.E13 = codes "E13"
spelling Code.E14 = codes "E14"
spelling Code.E15 = codes "E15"
spelling Code.E16 = codes "E16"
spelling Code.E17 = codes "E17"
spelling Code.O1 = codes "O1"
spelling Code.O2 = codes "O2"
spelling Code.O3 = codes "O3"
spelling Code.O4 = codes "O4"
spelling Code.O5 = codes "O5"
spelling Code.O6 = codes "O6"
spelling Code.O7 = codes "O7"
spelling Code.L1 = codes "L1"
spelling Code.L2 = codes "L2"
spelling Code.L3 = codes "L3"
spelling Code.L4 = codes "L4"
spelling Code.L5 = codes "L5"
spelling Code.L6 = codes "L6"
spelling Code.L7 = codes "L7"
spelling Code.L8 = codes "L8"
spelling Code.N1 = codes "N1"
spelling Code.N2 = codes "N2"
spelling Code.N3 = codes "N3"
spelling Code.N4 = codes "N4"
spelling Code.N5 = codes "N5"
spelling Code.Words = codes "words"
spelling Code.Object = codes "object"
spelling Code.Memory = codes "memory"
spelling Code.Io = codes "io"
