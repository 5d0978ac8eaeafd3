-- What may stand at a place of some bytes, read from the left: numbers, names, lists and values. What stands there with the place after it,
-- or the first thing that is wrong. A number, a name or a payload that may not stand is told by its first byte.
use Rattle.std.specs.Prelude.{◌≡◌, ℕ, zero, suc, ◌+◌, ◌==◌, Bool, not, ◌&&◌, nat_lt, nat_le, if◌then◌else◌, List, [], ◌∷◌, ◌++◌, length, take, drop, Option, Some, None, Result, Ok, Err}
use Rattle.std.specs.Int.{w16, w64, from_le_bytes, cast_signed}
use Rattle.ioa_value.specs.Actions.{Name}
use Rattle.ioa_value.specs.Names.{is_name}
use Rattle.ioa_value.specs.Plain.{Val, truth, num, name, tuple, items, vals}
use Rattle.ioa_value.specs.Table.{Table, Shape, truths, numbers, names, fields, sequence, shape_at, types_of}
use Rattle.ioa_value.specs.declared.limits.TheConstants.{LIMITS}
use Rattle.ioa_bytes.specs.Spots.{Spot}
use Rattle.ioa_bytes.specs.declared.failure.ObjErr.{ObjErr}
use Rattle.ioa_bytes.specs.declared.failure.ObjErr.TheVariants as errors

abbrev pub Outcome : Type 0 → Type 0
Outcome A = Result (A × Spot) ObjErr

abbrev pub Reader : Type 0 → Type 0
Reader A = Spot → Outcome A

-- What a function returned, seen by view, with the place after it is the outcome, unless memory ran out.
abbrev pub Fails : {Y : Type 0} → ObjErr → Result Y ObjErr → Type 0
Fails errors.Magic read = read ≡ Err errors.Magic
Fails errors.Version read = read ≡ Err errors.Version
Fails errors.Truncated read = read ≡ Err errors.Truncated
Fails errors.Trailing read = read ≡ Err errors.Trailing
Fails (errors.BadTable at) read = read ≡ Err (errors.BadTable at)
Fails (errors.BadCode part at) read = read ≡ Err (errors.BadCode part at)
Fails errors.Clash read = read ≡ Err errors.Clash
Fails errors.OutOfMemory read = Unit {0}

abbrev pub ReadsItem : {X Y : Type 0} → (X → Y) → Outcome Y → Result X ObjErr → Spot → Type 0
ReadsItem view read (Ok x) c = read ≡ Ok (view x, c)
ReadsItem view read (Err e) c = Fails e read

infixl 10 ◌>>=◌
abbrev pub ◌>>=◌ : {A B : Type 0} → Result A ObjErr → (A → Result B ObjErr) → Result B ObjErr
(Ok x) >>= f = f x
(Err e) >>= f = Err e

infixl 10 ◌>>◌
abbrev pub ◌>>◌ : {B : Type 0} → Result (Unit {0}) ObjErr → Result B ObjErr → Result B ObjErr
(Ok u) >> next = next
(Err e) >> next = Err e

abbrev pub built : {A B : Type 0} → (A → B) → Outcome A → Outcome B
built f read = read >>= λ x. Ok (f x.0, x.1)

-- what stands at the place may stand there
abbrev pub right : Bool → ℕ → Result (Unit {0}) ObjErr
right ok place = if ok then Ok tt else Err (errors.BadTable place)

-- ---- bytes and numbers

abbrev pub passed : ℕ → Spot → Spot
passed n c = record { place = c.place + n; rest = drop n c.rest; parts = c.parts }

-- one more part came before
abbrev pub counted : Spot → Spot
counted c = record { place = c.place; rest = c.rest; parts = c.parts + 1 }

-- so many bytes
unfoldable pub bytes_at : ℕ → Reader (List ℕ)
bytes_at n c = if nat_lt (length c.rest) n then Err errors.Truncated else Ok (take n c.rest, passed n c)

abbrev pub byte_of : List ℕ → Reader ℕ
byte_of [] c = Err errors.Truncated
byte_of (b ∷ bs) c = Ok (b, passed 1 c)

unfoldable pub byte_at : Reader ℕ
byte_at c = byte_of c.rest c

-- a number of 16 bits
unfoldable pub short_at : Reader ℕ
short_at c = built (from_le_bytes w16) (bytes_at 2 c)

-- a whole number of 64 bits
unfoldable pub long_at : Reader Val
long_at c = built (λ bytes. num (cast_signed w64 (from_le_bytes w64 bytes))) (bytes_at 8 c)

-- a number from this one to that one
unfoldable pub count_at : ℕ → ℕ → Reader ℕ
count_at least most c = do
  n ← short_at c
  right (nat_le least n.0 && nat_le n.0 most) c.place
  Ok n

-- a type's number, of so many types
unfoldable pub type_at : ℕ → Reader ℕ
type_at count c = do
  ty ← short_at c
  right (nat_lt ty.0 count) c.place
  Ok ty

-- ---- texts and lists

-- a legal name, with the place of its first letter
unfoldable pub named_at : Reader (Name × ℕ)
named_at c = do
  n ← byte_at c
  right (nat_le 1 n.0 && nat_le n.0 LIMITS.name) c.place
  x ← bytes_at n.0 n.1
  right (is_name x.0) n.1.place
  Ok ((x.0, n.1.place), x.1)

-- a legal name that is not taken
unfoldable pub name_at : (Name → Bool) → Reader Name
name_at taken c = do
  x ← named_at c
  right (not (taken x.0.0)) x.0.1
  Ok (x.0.0, x.1)

-- so many items more, each of which may depend on those before it
unfoldable pub items_at : {A : Type 0} → (List A → Reader A) → List A → ℕ → Reader (List A)
items_at item before zero c = Ok (before, c)
items_at item before (suc n) c = item before c >>= λ x. items_at item (before ++ x.0 ∷ []) n x.1

-- a list of so many items at least, and at most so many
unfoldable pub list_at : {A : Type 0} → ℕ → ℕ → (List A → Reader A) → Reader (List A)
list_at least most item c = do
  n ← count_at least most c
  items_at item [] n.0 n.1

-- ---- values

unfoldable pub truth_at : Reader Val
truth_at c = do
  b ← byte_at c
  right (nat_le b.0 1) c.place
  Ok (truth (b.0 == 1), b.1)

-- a name of an enumeration that has so many
unfoldable pub constant_at : ℕ → ℕ → Reader Val
constant_at ty count c = do
  n ← byte_at c
  right (nat_lt n.0 count) c.place
  Ok (name ty n.0, n.1)

-- values more, one of each of these types
unfoldable pub parts_at : (ℕ → Reader Val) → List Val → List ℕ → Reader (List Val)
parts_at inner before [] c = Ok (before, c)
parts_at inner before (ty ∷ tys) c = inner ty c >>= λ v. parts_at inner (before ++ v.0 ∷ []) tys v.1

-- what is spelled of a value of a type of this shape
abbrev pub payload_shaped : (ℕ → Reader Val) → ℕ → Option Shape → Reader Val
payload_shaped inner ty (Some truths) c = truth_at c
payload_shaped inner ty (Some numbers) c = long_at c
payload_shaped inner ty (Some (names ns)) c = constant_at ty (length ns) c
payload_shaped inner ty (Some (fields fs)) c = built (λ vs. tuple ty (vals vs)) (parts_at inner [] (types_of fs) c)
payload_shaped inner ty (Some (sequence most of)) c = built (λ vs. items ty (vals vs)) (list_at 0 most (λ _. inner of) c)
payload_shaped inner ty None c = Err (errors.BadTable c.place)

-- of a value of this type, in whose parts there are at most so many types within each other: none has more than its number tells
unfoldable pub payload_in : ℕ → Table → ℕ → Reader Val
payload_in zero types ty c = Err (errors.BadTable c.place)
payload_in (suc n) types ty c = payload_shaped (λ t. payload_in n types t) ty (shape_at types ty) c

abbrev pub payload_at : Table → ℕ → Reader Val
payload_at types ty = payload_in (suc ty) types ty

unfoldable pub value_at : Table → Reader Val
value_at types c = do
  ty ← type_at (length types) c
  payload_at types ty.0 ty.1
