-- Instructions, read and spelled: a byte and, where it has one, an operand.
use Rattle.std.proofs.Common.{◌≡◌, ℕ, ◌^◌, ◌<◌, Bool, true, false, not, ◌&&◌, ◌==◌, List, [], ◌∷◌, ◌++◌, length, Option, Some, None, IfSome, if◌then◌else◌, refl, sym, ap, ◌∙◌, subst, Ok, Err}
use Rattle.std.proofs.lemmas.Bool.{false≢true}
use Rattle.ioa_value.specs.declared.operator.Op.{Op}
use Rattle.ioa_value.specs.declared.operator.Op.TheVariants.{Neg, Add, Sub, Mul, Div, Mod, Lt, Le, Gt, Ge, Not, Eq, Ne, Len, Head, Tail, Last, Init, Append, At, Member, Without, Make, Field}
use Rattle.ioa_value.proofs.SameLemmas.{equal_numbers}
use Rattle.ioa_code.specs.declared.instr.Instr.{Instr}
use Rattle.ioa_code.specs.declared.instr.Instr.TheVariants.{Const, Slot, Arg, Store, Jump, JumpIfFalse, Any, Pick, Apply, Each, Again, Local}
use Rattle.ioa_code.specs.Loops.{of_loops}
use Rattle.ioa_bytes.specs.Items.{Outcome, built, short_at}
use Rattle.ioa_object.specs.Reading.{operator_at, type_operand, applied, instr_of, is_of_loops, instr_at}
use Rattle.ioa_object.specs.Spelling.{short, operator, instruction}
use Rattle.ioa_bytes.specs.Spots.{Spot}
use Rattle.ioa_object.specs.Versions.{MayStand}
use Rattle.ioa_bytes.specs.declared.failure.ObjErr.TheVariants as errors
use Rattle.ioa_object.proofs.Formats.{AreBytes, Finds, finds_ok, finds_on, finds_built, Yields, yields_ok, yields_none, yields_on, yields_if, yields_weaker, Taken, IsFormat}
use Rattle.ioa_object.proofs.Numbers.{byte_format, short_format}

-- the operator's operand, if it has one, fits 16 bits
abbrev pub IsShortOp : Op → Type 0
IsShortOp Neg = Unit {0}
IsShortOp Add = Unit {0}
IsShortOp Sub = Unit {0}
IsShortOp Mul = Unit {0}
IsShortOp Div = Unit {0}
IsShortOp Mod = Unit {0}
IsShortOp Lt = Unit {0}
IsShortOp Le = Unit {0}
IsShortOp Gt = Unit {0}
IsShortOp Ge = Unit {0}
IsShortOp Not = Unit {0}
IsShortOp Eq = Unit {0}
IsShortOp Ne = Unit {0}
IsShortOp Len = Unit {0}
IsShortOp Head = Unit {0}
IsShortOp Tail = Unit {0}
IsShortOp Last = Unit {0}
IsShortOp Init = Unit {0}
IsShortOp Append = Unit {0}
IsShortOp At = Unit {0}
IsShortOp Member = Unit {0}
IsShortOp Without = Unit {0}
IsShortOp (Make ty) = ty.0 < 2 ^ 16
IsShortOp (Field j) = j < 2 ^ 16

-- the instruction's operand, if it has one, fits 16 bits
abbrev pub IsShort : Instr → Type 0
IsShort (Const k) = k < 2 ^ 16
IsShort (Slot i) = i < 2 ^ 16
IsShort (Arg i) = i < 2 ^ 16
IsShort (Store i) = i < 2 ^ 16
IsShort (Jump t) = t < 2 ^ 16
IsShort (JumpIfFalse t) = t < 2 ^ 16
IsShort Any = Unit {0}
IsShort (Pick ty) = ty.0 < 2 ^ 16
IsShort (Apply op) = IsShortOp op
IsShort (Each e) = e < 2 ^ 16
IsShort (Again t) = t < 2 ^ 16
IsShort (Local d) = d < 2 ^ 16

-- ---- operators' bytes

-- the byte is the operator's
record IsByteOf (b : ℕ) (op : Op) : Type 0 where
  is : operator op ≡ b ∷ []
  short : IsShortOp op

told : (b k : ℕ) (o : Op) (rest : Option Op) → operator o ≡ k ∷ [] → IsShortOp o → IfSome rest (IsByteOf b) → IfSome (if b == k then Some o else rest) (IsByteOf b)
told b k o rest e h others = go (b == k) refl
  where
    go : (t : Bool) → (b == k) ≡ t → IfSome (if t then Some o else rest) (IsByteOf b)
    go true t = record { is = e ∙ ap (λ n. n ∷ []) (sym (equal_numbers b k t)); short = h }
    go false t = others

operator_of : (b : ℕ) → IfSome (operator_at b) (IsByteOf b)
unfolding operator_at
operator_of b =
    told b 16 Neg _ refl tt (told b 17 Add _ refl tt (told b 18 Sub _ refl tt (told b 19 Mul _ refl tt (told b 20 Div _ refl tt (told b 21 Mod _ refl tt (told b 22 Lt _ refl tt (told b 23 Le _ refl tt (told b 24 Gt _ refl tt (told b 25 Ge _ refl tt (told b 26 Not _ refl tt (told b 27 Eq _ refl tt (told b 28 Ne _ refl tt (told b 29 Len _ refl tt (told b 30 Head _ refl tt (told b 31 Tail _ refl tt (told b 32 Last _ refl tt (told b 33 Init _ refl tt (told b 34 Append _ refl tt (told b 35 At _ refl tt (told b 36 Member _ refl tt (told b 37 Without _ refl tt (tt))))))))))))))))))))))

-- ---- what is found

module _ (part at : ℕ) where
  with_operand : (b : ℕ) (f : ℕ → Instr) → ((d : Spot) → instr_of part at b d ≡ built f (short_at d)) → (k : ℕ) → k < 2 ^ 16 → (d : Spot) (more : List ℕ) → d.rest ≡ short k ++ more → Finds (instr_of part at b d) (f k) more
  with_operand b f is k fit d more e = subst (λ (o : Outcome Instr). Finds o (f k) more) (sym (is d)) (finds_built f _ _ _ (short_format.finds k fit d more e))

  alone : (b : ℕ) (i : Instr) → ((d : Spot) → instr_of part at b d ≡ Ok (i, d)) → (d : Spot) (more : List ℕ) → d.rest ≡ more → Finds (instr_of part at b d) i more
  alone b i is d more e = subst (λ (o : Outcome Instr). Finds o i more) (sym (is d)) (finds_ok i d more e)

  -- what stands behind an instruction's byte
  abbrev operand : Instr → List ℕ
  operand (Const k) = short k
  operand (Slot i) = short i
  operand (Arg i) = short i
  operand (Store i) = short i
  operand (Jump t) = short t
  operand (JumpIfFalse t) = short t
  operand Any = []
  operand (Pick ty) = short ty.0
  operand (Apply Neg) = []
  operand (Apply Add) = []
  operand (Apply Sub) = []
  operand (Apply Mul) = []
  operand (Apply Div) = []
  operand (Apply Mod) = []
  operand (Apply Lt) = []
  operand (Apply Le) = []
  operand (Apply Gt) = []
  operand (Apply Ge) = []
  operand (Apply Not) = []
  operand (Apply Eq) = []
  operand (Apply Ne) = []
  operand (Apply Len) = []
  operand (Apply Head) = []
  operand (Apply Tail) = []
  operand (Apply Last) = []
  operand (Apply Init) = []
  operand (Apply Append) = []
  operand (Apply At) = []
  operand (Apply Member) = []
  operand (Apply Without) = []
  operand (Apply (Make ty)) = short ty.0
  operand (Apply (Field j)) = short j
  operand (Each e) = short e
  operand (Again t) = short t
  operand (Local d) = short d

  abbrev byte : Instr → ℕ
  byte (Const k) = 1
  byte (Slot i) = 2
  byte (Arg i) = 3
  byte (Store i) = 4
  byte (Jump t) = 5
  byte (JumpIfFalse t) = 6
  byte Any = 7
  byte (Pick ty) = 8
  byte (Apply Neg) = 16
  byte (Apply Add) = 17
  byte (Apply Sub) = 18
  byte (Apply Mul) = 19
  byte (Apply Div) = 20
  byte (Apply Mod) = 21
  byte (Apply Lt) = 22
  byte (Apply Le) = 23
  byte (Apply Gt) = 24
  byte (Apply Ge) = 25
  byte (Apply Not) = 26
  byte (Apply Eq) = 27
  byte (Apply Ne) = 28
  byte (Apply Len) = 29
  byte (Apply Head) = 30
  byte (Apply Tail) = 31
  byte (Apply Last) = 32
  byte (Apply Init) = 33
  byte (Apply Append) = 34
  byte (Apply At) = 35
  byte (Apply Member) = 36
  byte (Apply Without) = 37
  byte (Apply (Make ty)) = 38
  byte (Apply (Field j)) = 39
  byte (Each e) = 40
  byte (Again t) = 41
  byte (Local d) = 42

  byte_first : (i : Instr) → instruction i ≡ byte i ∷ operand i
  byte_first (Const k) = refl
  byte_first (Slot i) = refl
  byte_first (Arg i) = refl
  byte_first (Store i) = refl
  byte_first (Jump t) = refl
  byte_first (JumpIfFalse t) = refl
  byte_first Any = refl
  byte_first (Pick ty) = refl
  byte_first (Apply Neg) = refl
  byte_first (Apply Add) = refl
  byte_first (Apply Sub) = refl
  byte_first (Apply Mul) = refl
  byte_first (Apply Div) = refl
  byte_first (Apply Mod) = refl
  byte_first (Apply Lt) = refl
  byte_first (Apply Le) = refl
  byte_first (Apply Gt) = refl
  byte_first (Apply Ge) = refl
  byte_first (Apply Not) = refl
  byte_first (Apply Eq) = refl
  byte_first (Apply Ne) = refl
  byte_first (Apply Len) = refl
  byte_first (Apply Head) = refl
  byte_first (Apply Tail) = refl
  byte_first (Apply Last) = refl
  byte_first (Apply Init) = refl
  byte_first (Apply Append) = refl
  byte_first (Apply At) = refl
  byte_first (Apply Member) = refl
  byte_first (Apply Without) = refl
  byte_first (Apply (Make ty)) = refl
  byte_first (Apply (Field j)) = refl
  byte_first (Each e) = refl
  byte_first (Again t) = refl
  byte_first (Local d) = refl

  of_finds : (i : Instr) → IsShort i → (d : Spot) (more : List ℕ) → d.rest ≡ operand i ++ more → Finds (instr_of part at (byte i) d) i more
  unfolding instr_of operator_at
  of_finds (Const k) h d more e = with_operand 1 Const (λ d. refl) k h d more e
  of_finds (Slot i) h d more e = with_operand 2 Slot (λ d. refl) i h d more e
  of_finds (Arg i) h d more e = with_operand 3 Arg (λ d. refl) i h d more e
  of_finds (Store i) h d more e = with_operand 4 Store (λ d. refl) i h d more e
  of_finds (Jump t) h d more e = with_operand 5 Jump (λ d. refl) t h d more e
  of_finds (JumpIfFalse t) h d more e = with_operand 6 JumpIfFalse (λ d. refl) t h d more e
  of_finds Any h d more e = alone 7 Any (λ d. refl) d more e
  of_finds (Pick ty) h d more e = with_operand 8 (λ n. Pick (type_operand n)) (λ d. refl) (ty.0) h d more e
  of_finds (Apply Neg) h d more e = alone 16 (Apply Neg) (λ d. refl) d more e
  of_finds (Apply Add) h d more e = alone 17 (Apply Add) (λ d. refl) d more e
  of_finds (Apply Sub) h d more e = alone 18 (Apply Sub) (λ d. refl) d more e
  of_finds (Apply Mul) h d more e = alone 19 (Apply Mul) (λ d. refl) d more e
  of_finds (Apply Div) h d more e = alone 20 (Apply Div) (λ d. refl) d more e
  of_finds (Apply Mod) h d more e = alone 21 (Apply Mod) (λ d. refl) d more e
  of_finds (Apply Lt) h d more e = alone 22 (Apply Lt) (λ d. refl) d more e
  of_finds (Apply Le) h d more e = alone 23 (Apply Le) (λ d. refl) d more e
  of_finds (Apply Gt) h d more e = alone 24 (Apply Gt) (λ d. refl) d more e
  of_finds (Apply Ge) h d more e = alone 25 (Apply Ge) (λ d. refl) d more e
  of_finds (Apply Not) h d more e = alone 26 (Apply Not) (λ d. refl) d more e
  of_finds (Apply Eq) h d more e = alone 27 (Apply Eq) (λ d. refl) d more e
  of_finds (Apply Ne) h d more e = alone 28 (Apply Ne) (λ d. refl) d more e
  of_finds (Apply Len) h d more e = alone 29 (Apply Len) (λ d. refl) d more e
  of_finds (Apply Head) h d more e = alone 30 (Apply Head) (λ d. refl) d more e
  of_finds (Apply Tail) h d more e = alone 31 (Apply Tail) (λ d. refl) d more e
  of_finds (Apply Last) h d more e = alone 32 (Apply Last) (λ d. refl) d more e
  of_finds (Apply Init) h d more e = alone 33 (Apply Init) (λ d. refl) d more e
  of_finds (Apply Append) h d more e = alone 34 (Apply Append) (λ d. refl) d more e
  of_finds (Apply At) h d more e = alone 35 (Apply At) (λ d. refl) d more e
  of_finds (Apply Member) h d more e = alone 36 (Apply Member) (λ d. refl) d more e
  of_finds (Apply Without) h d more e = alone 37 (Apply Without) (λ d. refl) d more e
  of_finds (Apply (Make ty)) h d more e = with_operand 38 (λ n. Apply (Make (type_operand n))) (λ d. refl) (ty.0) h d more e
  of_finds (Apply (Field j)) h d more e = with_operand 39 (λ n. Apply (Field n)) (λ d. refl) j h d more e
  of_finds (Each t) h d more e = with_operand 40 Each (λ d. refl) t h d more e
  of_finds (Again t) h d more e = with_operand 41 Again (λ d. refl) t h d more e
  of_finds (Local k) h d more e = with_operand 42 Local (λ d. refl) k h d more e

  -- ---- what it was

  abbrev Was : ℕ → List ℕ → Instr → List ℕ → Type 0
  Was b = λ bytes i rest. IsShort i × (b ∷ bytes ≡ instruction i ++ rest) × AreBytes rest

  operand_yields : (b : ℕ) (f : ℕ → Instr) (k : ℕ) → ((n : ℕ) → instruction (f n) ≡ k ∷ short n) → ((n : ℕ) → n < 2 ^ 16 → IsShort (f n)) → (b == k) ≡ true
      → (d : Spot) → AreBytes d.rest → Yields (built f (short_at d)) (Was b d.rest)
  operand_yields b f k is fine t d bytes = yields_on _ _ _ _ (short_format.yields d bytes) (λ n e h. yields_ok _ e _
      (fine n h.fine, ap (λ m. m ∷ d.rest) (equal_numbers b k t) ∙ ap (λ l. k ∷ l) h.front ∙ ap (λ l. l ++ e.rest) (sym (is n)), h.after))

  applied_yields : (b : ℕ) (o : Option Op) → IfSome o (IsByteOf b) → (d : Spot) → AreBytes d.rest → Yields (applied part at o d) (Was b d.rest)
  applied_yields b (Some op) h d bytes = yields_ok (Apply op) d _ (h.short, ap (λ l. l ++ d.rest) (sym h.is), bytes)
  applied_yields b None h d bytes = yields_none _ _

  of_yields : (b : ℕ) (d : Spot) → AreBytes d.rest → Yields (instr_of part at b d) (Was b d.rest)
  unfolding instr_of
  of_yields b d bytes =
      yields_if (b == 1) _ _ _ (λ t. operand_yields b Const 1 (λ n. refl) (λ n h. h) t d bytes) (λ f.
      yields_if (b == 2) _ _ _ (λ t. operand_yields b Slot 2 (λ n. refl) (λ n h. h) t d bytes) (λ f.
      yields_if (b == 3) _ _ _ (λ t. operand_yields b Arg 3 (λ n. refl) (λ n h. h) t d bytes) (λ f.
      yields_if (b == 4) _ _ _ (λ t. operand_yields b Store 4 (λ n. refl) (λ n h. h) t d bytes) (λ f.
      yields_if (b == 5) _ _ _ (λ t. operand_yields b Jump 5 (λ n. refl) (λ n h. h) t d bytes) (λ f.
      yields_if (b == 6) _ _ _ (λ t. operand_yields b JumpIfFalse 6 (λ n. refl) (λ n h. h) t d bytes) (λ f.
      yields_if (b == 7) _ _ _ (λ t. yields_ok Any d _ (tt, ap (λ m. m ∷ d.rest) (equal_numbers b 7 t), bytes)) (λ f.
      yields_if (b == 8) _ _ _ (λ t. operand_yields b (λ n. Pick (type_operand n)) 8 (λ n. refl) (λ n h. h) t d bytes) (λ f.
      yields_if (b == 38) _ _ _ (λ t. operand_yields b (λ n. Apply (Make (type_operand n))) 38 (λ n. refl) (λ n h. h) t d bytes) (λ f.
      yields_if (b == 39) _ _ _ (λ t. operand_yields b (λ n. Apply (Field n)) 39 (λ n. refl) (λ n h. h) t d bytes) (λ f.
      yields_if (b == 40) _ _ _ (λ t. operand_yields b Each 40 (λ n. refl) (λ n h. h) t d bytes) (λ f.
      yields_if (b == 41) _ _ _ (λ t. operand_yields b Again 41 (λ n. refl) (λ n h. h) t d bytes) (λ f.
      yields_if (b == 42) _ _ _ (λ t. operand_yields b Local 42 (λ n. refl) (λ n h. h) t d bytes) (λ f.
      applied_yields b (operator_at b) (operator_of b) d bytes)))))))))))))

  -- ---- instructions of loops

  byte_loops : (i : Instr) → is_of_loops (byte i) ≡ of_loops i
  byte_loops (Const k) = refl
  byte_loops (Slot i) = refl
  byte_loops (Arg i) = refl
  byte_loops (Store i) = refl
  byte_loops (Jump t) = refl
  byte_loops (JumpIfFalse t) = refl
  byte_loops Any = refl
  byte_loops (Pick ty) = refl
  byte_loops (Apply Neg) = refl
  byte_loops (Apply Add) = refl
  byte_loops (Apply Sub) = refl
  byte_loops (Apply Mul) = refl
  byte_loops (Apply Div) = refl
  byte_loops (Apply Mod) = refl
  byte_loops (Apply Lt) = refl
  byte_loops (Apply Le) = refl
  byte_loops (Apply Gt) = refl
  byte_loops (Apply Ge) = refl
  byte_loops (Apply Not) = refl
  byte_loops (Apply Eq) = refl
  byte_loops (Apply Ne) = refl
  byte_loops (Apply Len) = refl
  byte_loops (Apply Head) = refl
  byte_loops (Apply Tail) = refl
  byte_loops (Apply Last) = refl
  byte_loops (Apply Init) = refl
  byte_loops (Apply Append) = refl
  byte_loops (Apply At) = refl
  byte_loops (Apply Member) = refl
  byte_loops (Apply Without) = refl
  byte_loops (Apply (Make ty)) = refl
  byte_loops (Apply (Field j)) = refl
  byte_loops (Each e) = refl
  byte_loops (Again t) = refl
  byte_loops (Local d) = refl

  -- the byte of an instruction that is spelled there
  byte_of_spelled : (b : ℕ) (bytes rest : List ℕ) (i : Instr) → b ∷ bytes ≡ instruction i ++ rest → is_of_loops b ≡ of_loops i
  byte_of_spelled b bytes rest i e =
      let both : b ∷ bytes ≡ byte i ∷ (operand i ++ rest) = e ∙ ap (λ l. l ++ rest) (byte_first i) in
      let same : b ≡ byte i = cc in
      ap is_of_loops same ∙ byte_loops i

-- its operand fits 16 bits, and it may stand where loops may, or may not
abbrev pub IsAllowed : Bool → Instr → Type 0
IsAllowed loops i = IsShort i × MayStand loops (of_loops i)

stands_known : (loops has : Bool) → MayStand loops has → (not loops && has) ≡ false
stands_known true has h = refl
stands_known false true h = sym (h refl)
stands_known false false h = refl

known_stands : (loops has : Bool) → (not loops && has) ≡ false → MayStand loops has
known_stands true has h e = refl
known_stands false has h e = sym h ∙ e

pub instr_format : (loops : Bool) (part : ℕ) (before : List Instr) → IsFormat (instr_at loops part before) instruction (IsAllowed loops)
unfolding instr_at
instr_format loops part before = record { finds = finds; yields = yields }
  where
    at : ℕ
    at = length before

    found : (i : Instr) → IsAllowed loops i → (b : Bool) → (not loops && is_of_loops (byte part at i)) ≡ b → (d : Spot) (more : List ℕ) → d.rest ≡ operand part at i ++ more
        → Finds (if b then Err (errors.BadCode part at) else instr_of part at (byte part at i) d) i more
    found i h true is d more e = absurd (false≢true (sym (stands_known loops (of_loops i) h.1) ∙ ap (λ b. not loops && b) (sym (byte_loops part at i)) ∙ is))
    found i h false is d more e = of_finds part at i h.0 d more e

    finds : (i : Instr) → IsAllowed loops i → (c : Spot) (more : List ℕ) → c.rest ≡ instruction i ++ more → Finds (instr_at loops part before c) i more
    finds i h c more e =
        finds_on _ _ _ _ _ _ (byte_format.finds (byte part at i) tt c (operand part at i ++ more) (e ∙ ap (λ l. l ++ more) (byte_first part at i)))
        (λ d there. found i h (not loops && is_of_loops (byte part at i)) refl d more there)

    yields : (c : Spot) → AreBytes c.rest → Yields (instr_at loops part before c) (Taken instruction (IsAllowed loops) c.rest)
    yields c bytes = yields_on _ _ _ _ (byte_format.yields c bytes) (λ b d h.
        yields_if (not loops && is_of_loops b) _ _ _ (λ unknown. yields_none _ _) (λ known.
        yields_weaker _ _ _ (of_yields part at b d h.after) (λ i rest k. record {
          fine = (k.0, known_stands loops (of_loops i) (ap (λ b. not loops && b) (sym (byte_of_spelled part at b d.rest rest i k.1)) ∙ known));
          front = h.front ∙ k.1;
          after = k.2;
        })))
