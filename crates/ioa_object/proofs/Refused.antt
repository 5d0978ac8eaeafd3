-- Bytes that are refused, and why: for each of the refusals what the bytes are, and that no other answer is given for bytes of that kind.
use Rattle.std.proofs.Common.{◌≡◌, ℕ, zero, suc, ◌<◌, ◌≤◌, ◌⊎◌, ◌≢◌, inl, inr, Bool, true, false, ◌==◌, List, [], ◌∷◌, ◌++◌, length, drop, refl, sym, ap, ◌∙◌, subst, Ok, Err, arith, if◌then◌else◌}
use Rattle.std.proofs.lemmas.Bool.{and_parts, false≢true}
use Rattle.std.proofs.lemmas.List.{append-nil}
use Rattle.ioa_value.proofs.SameLemmas.{equal_numbers}
use Rattle.ioa_compile.specs.Programs.{Prog}
use Rattle.ioa_compile.specs.Tables.{IsProgram, tabled}
use Rattle.ioa_tree.specs.Components.{Compatible}
use Rattle.ioa_object.specs.Objects.{IsObject, IsUnder}
use Rattle.ioa_bytes.specs.Items.{Outcome, byte_at}
use Rattle.ioa_object.specs.Reading.{begins, versioned_at, tables_at, read}
use Rattle.ioa_object.specs.Refusals.{HasNoMark, HasUnknownVersion, HasNeedlessVersion, GoesOn, IsCut, Clashes, IsRefused}
use Rattle.ioa_object.specs.Spelling.{mark, tables, under}
use Rattle.ioa_bytes.specs.Spots.{Spot}
use Rattle.ioa_object.specs.Versions.{MayStand, loops_in, version_byte}
use Rattle.ioa_bytes.specs.declared.failure.ObjErr.{ObjErr}
use Rattle.ioa_bytes.specs.declared.failure.ObjErr.TheVariants as errors
use Rattle.ioa_object.proofs.Outcomes.{IsWrong, ended_or_wrong, cut_inside}
use Rattle.ioa_object.proofs.Local.{tables_local}
use Rattle.ioa_object.proofs.Formats.{AreBytes, yielded, bytes_behind}
use Rattle.ioa_object.proofs.Tables.{AreUnder, tables_format}
use Rattle.ioa_object.proofs.ObjectLaws.{begun, read_begun, are_right, is_program, tables_found, spelling_found, whole}
use Rattle.ioa_object.proofs.Standing.{one_version}

-- ---- the mark and the version

begins_is : (front bytes : List ℕ) → begins front bytes ≡ true → (rest : List ℕ) × (bytes ≡ front ++ rest)
begins_is [] bytes h = (bytes, refl)
begins_is (b ∷ bs) [] h = absurd (cc)
begins_is (b ∷ bs) (c ∷ cs) h =
    let p = and_parts (b == c) (begins bs cs) h in
    let r = begins_is bs cs p.1 in
    (r.0, ap (λ l. c ∷ l) r.1 ∙ ap (λ n. n ∷ (bs ++ r.0)) (sym (equal_numbers b c p.0)))

-- a byte that is no version's
none_before : (loops : Bool) → 0 ≢ version_byte loops
none_before true e = absurd (omega arith)
none_before false e = absurd (omega arith)

none_behind : (n : ℕ) (loops : Bool) → suc (suc (suc n)) ≢ version_byte loops
none_behind n true e = absurd (omega arith)
none_behind n false e = absurd (omega arith)

-- bytes without the mark, or what stands behind it
pub data Beginning (bytes : List ℕ) : Type 0 where
  unmarked : HasNoMark bytes → read bytes ≡ Err errors.Magic → Beginning bytes
  marked : bytes ≡ mark → read bytes ≡ Err errors.Truncated → Beginning bytes
  other : (v : ℕ) (rest : List ℕ) → bytes ≡ mark ++ (v ∷ rest) → ((loops : Bool) → v ≢ version_byte loops) → read bytes ≡ Err errors.Version → Beginning bytes
  versioned : (loops : Bool) (rest : List ℕ) → bytes ≡ mark ++ (version_byte loops ∷ rest) → read bytes ≡ tables_at loops (begun rest) → Beginning bytes

pub beginning : (bytes : List ℕ) → Beginning bytes
unfolding read versioned_at byte_at
beginning bytes = go (begins mark bytes) refl
  where
    behind : (rest : List ℕ) → bytes ≡ mark ++ rest → Beginning bytes
    behind [] e = marked (e ∙ append-nil mark) (ap read e)
    behind (zero ∷ rest) e = other zero rest e none_before (ap read e)
    behind (suc zero ∷ rest) e = versioned false rest e (ap read e ∙ read_begun false rest)
    behind (suc (suc zero) ∷ rest) e = versioned true rest e (ap read e ∙ read_begun true rest)
    behind (suc (suc (suc n)) ∷ rest) e = other (suc (suc (suc n))) rest e (none_behind n) (ap read e)

    go : (b : Bool) → begins mark bytes ≡ b → Beginning bytes
    go true h = let r = begins_is mark bytes h in behind r.0 r.1
    go false h =
        unmarked (λ rest e. false≢true (sym h ∙ ap (begins mark) e))
        (ap (λ b. if b then versioned_at (record { place = 4; rest = drop 4 bytes; parts = 0 }) else Err errors.Magic) h)

is_under : (loops : Bool) (bytes : List ℕ) (p : Prog) → IsUnder loops bytes p → AreUnder loops p
is_under loops bytes p h = record { right = are_right p h.program; stand = h.stand }

-- ---- why bytes are refused

wrong_refused : (bytes : List ℕ) (e : ObjErr) → IsWrong e → read bytes ≡ Err e → IsRefused bytes e
wrong_refused bytes errors.Magic w h = absurd w
wrong_refused bytes errors.Version w h = absurd w
wrong_refused bytes errors.Truncated w h = absurd w
wrong_refused bytes errors.Trailing w h = absurd w
wrong_refused bytes (errors.BadTable at) w h = h
wrong_refused bytes (errors.BadCode part at) w h = h
wrong_refused bytes errors.Clash w h = absurd w
wrong_refused bytes errors.OutOfMemory w h = absurd w

-- tables are refused where the bytes end inside an item, or something is wrong
pub tables_wrong : (loops : Bool) (c : Spot) (e : ObjErr) → tables_at loops c ≡ Err e → (e ≡ errors.Truncated) ⊎ IsWrong e
tables_wrong loops c e h = ended_or_wrong [] _ _ e ((tables_local loops).stays c []) h

pub refused : (bytes : List ℕ) (e : ObjErr) → read bytes ≡ Err e → IsRefused bytes e
refused bytes e h = go (beginning bytes)
  where
    same_error : (f : ObjErr) → read bytes ≡ Err f → f ≡ e
    same_error f k = let both : ◌≡◌ {A = Outcome Prog} (Err f) (Err e) = sym k ∙ h in cc

    go : Beginning bytes → IsRefused bytes e
    go (unmarked none k) = subst (IsRefused bytes) (same_error errors.Magic k) none
    go (marked is k) = subst (IsRefused bytes) (same_error errors.Truncated k) k
    go (other v rest is differs k) = subst (IsRefused bytes) (same_error errors.Version k) (inl (v, rest, differs, is))
    go (versioned loops rest is k) =
        elim (tables_wrong loops (begun rest) e (sym k ∙ h)) [
          | inl t ↦ subst (IsRefused bytes) (sym t) (h ∙ ap Err t)
          | inr w ↦ wrong_refused bytes e w h
        ]

-- ---- bytes of each kind are answered so

pub no_mark : (bytes : List ℕ) → HasNoMark bytes → read bytes ≡ Err errors.Magic
no_mark bytes none = go (beginning bytes)
  where
    go : Beginning bytes → read bytes ≡ Err errors.Magic
    go (unmarked none' k) = k
    go (marked is k) = absurd (none [] (is ∙ sym (append-nil mark)))
    go (other v rest is differs k) = absurd (none (v ∷ rest) is)
    go (versioned loops rest is k) = absurd (none (version_byte loops ∷ rest) is)

pub unknown_version : (bytes : List ℕ) → HasUnknownVersion bytes → read bytes ≡ Err errors.Version
unknown_version bytes (v, rest, differs, is) = go (beginning bytes)
  where
    go : Beginning bytes → read bytes ≡ Err errors.Version
    go (unmarked none k) = absurd (none (v ∷ rest) is)
    go (marked is' k) = let both : mark ++ (v ∷ rest) ≡ mark = sym is ∙ is' in absurd (cc)
    go (other v' rest' is' differs' k) = k
    go (versioned loops rest' is' k) = let both : mark ++ (v ∷ rest) ≡ mark ++ (version_byte loops ∷ rest') = sym is ∙ is' in absurd (differs loops cc)

-- lists that are alike, where the first has its front in the second
split_front : (a b x y : List ℕ) → a ++ b ≡ x ++ y → length x ≤ length a → (r : List ℕ) × (a ≡ x ++ r) × (r ++ b ≡ y)
split_front a b [] y e le = (a, refl, e)
split_front [] b (c ∷ x) y e le = absurd (omega arith)
split_front (d ∷ a) b (c ∷ x) y e le =
    let first : d ≡ c = cc in
    let rest : a ++ b ≡ x ++ y = cc in
    let (r, is, left) = split_front a b x y rest (omega arith) in
    (r, ap (λ l. d ∷ l) is ∙ ap (λ n. n ∷ (x ++ r)) first, left)

not_empty : (xs : List ℕ) → xs ≢ [] → 0 < length xs
not_empty [] h = absurd (h refl)
not_empty (x ∷ xs) h = omega arith

pub cut : (bytes : List ℕ) → IsCut bytes → read bytes ≡ Err errors.Truncated
cut bytes (loops, more, p, h, some, long) = go (beginning bytes)
  where
    after : (r : List ℕ) × (bytes ≡ mark ++ r) × (r ++ more ≡ version_byte loops ∷ tables p)
    after = split_front bytes more mark (version_byte loops ∷ tables p) h.spelled long

    go : Beginning bytes → read bytes ≡ Err errors.Truncated
    go (unmarked none k) = absurd (none after.0 after.1)
    go (marked is k) = k
    go (other v rest is differs k) =
        let both : mark ++ (v ∷ (rest ++ more)) ≡ mark ++ (version_byte loops ∷ tables p) = sym (ap (λ l. l ++ more) is) ∙ h.spelled in absurd (differs loops cc)
    go (versioned l rest is k) =
        let both : mark ++ (version_byte l ∷ (rest ++ more)) ≡ mark ++ (version_byte loops ∷ tables p) = sym (ap (λ l. l ++ more) is) ∙ h.spelled in
        let same : l ≡ loops = one_version l loops cc in
        let all : rest ++ more ≡ tables p = cc in
        let found = tables_found loops p [] (is_under loops _ p h) in
        let at : tables_at loops (begun (rest ++ more)) ≡ Ok (p, found.behind) = ap (λ l. tables_at loops (begun l)) (all ∙ sym (append-nil (tables p))) ∙ found.is in
        k ∙ ap (λ l. tables_at l (begun rest)) same
        ∙ cut_inside more _ _ p found.behind ((tables_local loops).stays (begun rest) more) at (omega (arith, ap length found.left, not_empty more some))

pub goes_on : (bytes : List ℕ) → GoesOn bytes → (p : Prog) × (d : Spot) × (read bytes ≡ Ok (p, d)) × (d.rest ≢ []) × IsProgram p
goes_on bytes (loops, front, more, p, h, some, is) =
    let found = spelling_found loops bytes p more (is_under loops front p h) (is ∙ ap (λ l. l ++ more) h.spelled) in
    (p, found.behind, found.is, (λ e. some (sym found.left ∙ e)), h.program)

-- it is read, too, where its version is needless
pub needless_read : (bytes : List ℕ) (h : HasNeedlessVersion bytes) → (d : Spot) × (read bytes ≡ Ok (h.0, d)) × (d.rest ≡ [])
needless_read bytes (p, h, none) =
    let found = spelling_found true bytes p [] (is_under true bytes p h) (h.spelled ∙ sym (append-nil (under true p))) in
    (found.behind, found.is, found.left)

pub is_read : (bytes : List ℕ) (p : Prog) → IsObject bytes p → (d : Spot) × (read bytes ≡ Ok (p, d)) × (d.rest ≡ [])
is_read bytes p h = let found = whole bytes p h in (found.behind, found.is, found.left)

-- ---- what was read

-- tables that are read are right, and the bytes begin with them, under a version under which they may stand
pub record WasRead (bytes : List ℕ) (p : Prog) (rest : List ℕ) : Type 0 where
  pub loops : Bool
  pub under_it : AreUnder loops p
  pub spelled : bytes ≡ under loops p ++ rest

pub was_read : (bytes : List ℕ) (p : Prog) (d : Spot) → AreBytes bytes → read bytes ≡ Ok (p, d) → WasRead bytes p d.rest
was_read bytes p d are h = go (beginning bytes)
  where
    no_error : (e : ObjErr) → read bytes ≡ Err e → ⊥
    no_error e k = let both : ◌≡◌ {A = Outcome Prog} (Err e) (Ok (p, d)) = sym k ∙ h in cc

    go : Beginning bytes → WasRead bytes p d.rest
    go (unmarked none k) = absurd (no_error _ k)
    go (marked is k) = absurd (no_error _ k)
    go (other v rest is differs k) = absurd (no_error _ k)
    go (versioned loops rest is k) =
        let these : AreBytes rest = bytes_behind (mark ++ (version_byte loops ∷ [])) rest bytes are is in
        let t = yielded _ _ p d ((tables_format loops).yields (begun rest) these) (sym k ∙ h) in
        record { loops = loops; under_it = t.fine; spelled = is ∙ ap (λ l. mark ++ (version_byte loops ∷ l)) t.front }

module _ (bytes : List ℕ) (p : Prog) (d : Spot) (are : AreBytes bytes) (h : read bytes ≡ Ok (p, d)) where
  -- the whole is the program's under the version that the bytes have
  pub is_whole : (loops : Bool) (rest : List ℕ) → bytes ≡ mark ++ (version_byte loops ∷ rest) → d.rest ≡ [] → Compatible (tabled p) → IsUnder loops bytes p
  is_whole loops rest is e k =
      let w = was_read bytes p d are h in
      let both : mark ++ (version_byte w.loops ∷ (tables p ++ d.rest)) ≡ mark ++ (version_byte loops ∷ rest) = sym w.spelled ∙ is in
      let same : w.loops ≡ loops = one_version w.loops loops cc in
      record {
        program = is_program p w.under_it.right k;
        stand = subst (λ (l : Bool). MayStand l (loops_in p)) same w.under_it.stand;
        spelled = w.spelled ∙ ap (λ l. under w.loops p ++ l) e ∙ append-nil (under w.loops p) ∙ ap (λ l. under l p) same;
      }

  pub is_longer : (d.rest ≢ []) → Compatible (tabled p) → GoesOn bytes
  is_longer some k =
      let w = was_read bytes p d are h in
      (w.loops, under w.loops p, d.rest, p, record { program = is_program p w.under_it.right k; stand = w.under_it.stand; spelled = refl }, some, w.spelled)

  pub clashes : (Compatible (tabled p) → ⊥) → Clashes bytes
  clashes apart = let w = was_read bytes p d are h in (w.loops, p, d.rest, w.under_it.right, w.under_it.stand, w.spelled, apart)
