-- The codes by which a refusal tells a rule of sources that is broken.
use Rattle.std.specs.Prelude.{ℕ, ◌==◌, Bool, false, Option, Some, None}
use Rattle.std.specs.Option.{option_map_or}
use Rattle.ioa_lex.specs.declared.refusal.Refusal.{Refusal}
use Rattle.ioa_lex.specs.declared.refusal.Refusal.TheVariants.{TextTooLong, BadByte, Syntax, TooDeep, DuplicateName, UnknownName, TypeMismatch, BadSignature, NoProposal, TooMany, TooWide, ArgMismatch, CrashName, Clash, HiddenUnknown, StartFault, NoComposition, OutOfMemory}

pub data Code : Type 0 where
  duplicate_name : Code
  unknown_name : Code
  type_mismatch : Code
  bad_signature : Code
  no_proposal : Code
  too_many : Code
  too_wide : Code

-- the number behind the E that is printed
abbrev pub number : Code → ℕ
number duplicate_name = 5
number unknown_name = 6
number type_mismatch = 7
number bad_signature = 8
number no_proposal = 9
number too_many = 10
number too_wide = 11

-- the refusal's code, where it is one of these
abbrev pub code_of : Refusal → Option Code
code_of TextTooLong = None
code_of (BadByte line) = None
code_of (Syntax line) = None
code_of (TooDeep line) = None
code_of (DuplicateName line) = Some duplicate_name
code_of (UnknownName line) = Some unknown_name
code_of (TypeMismatch line) = Some type_mismatch
code_of (BadSignature line) = Some bad_signature
code_of (NoProposal line) = Some no_proposal
code_of (TooMany line) = Some too_many
code_of (TooWide line) = Some too_wide
code_of (ArgMismatch i) = None
code_of (CrashName i) = None
code_of (Clash i j name) = None
code_of (HiddenUnknown name) = None
code_of (StartFault i fault) = None
code_of NoComposition = None
code_of OutOfMemory = None

-- the refusal has this code
abbrev pub tells : Code → Refusal → Bool
tells k r = option_map_or (λ own. number own == number k) (code_of r) false
