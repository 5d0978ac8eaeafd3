-- What a reader of objects has to answer, by what is read of the bytes: each of its exits.
use Rattle.std.proofs.Common.{◌<◌, get_or, w8, Fits, ◌≡◌, ℕ, zero, suc, ◌↔◌, ◌≢◌, inl, inr, Bool, true, false, List, [], ◌∷◌, ◌++◌, drop, Some, None, refl, sym, ap, ◌∙◌, subst, Result, Ok, Err}
use Rattle.std.specs.Prelude.{IfOk, IfErr, IsErrOf}
use Rattle.std.specs.Result.{IsErrAnd}
use Rattle.std.proofs.lemmas.List.{get_or_default}
use Rattle.std.proofs.lemmas.Bool.{false≢true}
use Rattle.ioa_tree.specs.Components.{Compatible}
use Rattle.ioa_compile.specs.Programs.{Prog}
use Rattle.ioa_compile.specs.Tables.{IsProgram, tabled}
use Rattle.ioa_object.specs.Objects.{IsObject, IsUnder}
use Rattle.ioa_bytes.specs.Items.{Outcome, Fails, ◌>>=◌, byte_at}
use Rattle.ioa_object.specs.Reading.{under_version, versioned_at, tables_at, read}
use Rattle.ioa_object.specs.Refusals.{HasNoMark, HasUnknownVersion, HasNeedlessVersion, HasOtherVersion, GoesOn, IsCut, IsRefused, IsRefusal}
use Rattle.ioa_object.specs.Spelling.{mark, tables, under}
use Rattle.ioa_bytes.specs.Spots.{Spot}
use Rattle.ioa_object.specs.Versions.{loops_in, is_needless, version_byte, version_of}
use Rattle.ioa_bytes.specs.declared.failure.ObjErr.{ObjErr}
use Rattle.ioa_bytes.specs.declared.failure.ObjErr.TheVariants as errors
use Rattle.ioa_object.proofs.Formats.{AreBytes}
use Rattle.ioa_object.proofs.Outcomes.{IsWrong}
use Rattle.ioa_object.proofs.Refused.{tables_wrong, refused, no_mark, unknown_version, needless_read, cut, goes_on, is_read, is_whole, is_longer, clashes}
use Rattle.ioa_object.proofs.Standing.{needed, needless, one_version}

-- all that is promised of an answer
abbrev pub Answers : List ℕ → Result Prog ObjErr → Type 0
Answers bytes result = record {
  found : IfOk result (IsObject bytes);
  only : (p : Prog) → IsObject bytes p → IfErr result (λ e. e ≡ errors.OutOfMemory);
  magic : IsErrOf result errors.Magic ↔ HasNoMark bytes;
  unknown : HasUnknownVersion bytes → IsErrOf result errors.Version;
  version : (IsErrOf result errors.Version → HasOtherVersion bytes) × (HasOtherVersion bytes → IsRefusal result errors.Version);
  cut : IsCut bytes → IsRefusal result errors.Truncated;
  trailing : GoesOn bytes → IsRefusal result errors.Trailing;
  refused : IfErr result (IsRefused bytes);
}

-- the answer that passes an error on
pub passed_on : (bytes : List ℕ) (result : Result Prog ObjErr) (e : ObjErr) → IsErrAnd result (λ f. f ≡ e) → Answers bytes (Err e) → Answers bytes result
passed_on bytes (Ok p) e h a = absurd h
passed_on bytes (Err f) e h a = subst (λ (g : ObjErr). Answers bytes (Err g)) (sym h) a

-- numbers that each fit a byte
pub are_bytes : (bytes : List ℕ) → ((i : ℕ) → Fits w8 (get_or bytes i 0)) → AreBytes bytes
are_bytes bytes h = λ k d less. subst (λ (n : ℕ). n < 256) (get_or_default bytes k 0 d less) (h k).fits

same_error : {A : Type 0} (o : Outcome A) (e f : ObjErr) → o ≡ Err e → o ≡ Err f → e ≡ f
same_error {A} o e f h k = let both : ◌≡◌ {A = Outcome A} (Err e) (Err f) = sym h ∙ k in cc

not_both : {A : Type 0} (o : Outcome A) (e : ObjErr) (x : A × Spot) → o ≡ Err e → o ≡ Ok x → ⊥
not_both {A} o e x h k = let both : ◌≡◌ {A = Outcome A} (Err e) (Ok x) = sym h ∙ k in cc

-- the byte of a version
is_byte : (v : ℕ) (loops : Bool) → version_of v ≡ Some loops → v ≡ version_byte loops
is_byte zero loops e = absurd (cc)
is_byte (suc zero) loops e = let same : false ≡ loops = cc in ap version_byte same
is_byte (suc (suc zero)) loops e = let same : true ≡ loops = cc in ap version_byte same
is_byte (suc (suc (suc n))) loops e = absurd (cc)

-- ---- behind the mark

abbrev pub marked_spot : List ℕ → Spot
marked_spot bytes = record { place = 4; rest = drop 4 bytes; parts = 0 }

module _ (bytes rest : List ℕ) (is : bytes ≡ mark ++ rest) where
  pub behind_mark : read bytes ≡ versioned_at (marked_spot bytes)
  unfolding read
  behind_mark = ap read is ∙ ap (λ l. versioned_at (marked_spot l)) (sym is)

  -- no version's byte is there
  pub no_version : (e : ObjErr) → byte_at (marked_spot bytes) ≡ Err e → read bytes ≡ Err e
  unfolding versioned_at
  no_version e h = behind_mark ∙ ap (λ o. o >>= λ v. under_version (version_of v.0) v.1) h

  module _ (v : ℕ) (d : Spot) (h : byte_at (marked_spot bytes) ≡ Ok (v, d)) where
    behind_byte : read bytes ≡ under_version (version_of v) d
    unfolding versioned_at
    behind_byte = behind_mark ∙ ap (λ o. o >>= λ v. under_version (version_of v.0) v.1) h

    -- a byte is that is no version's
    pub wrong_version : version_of v ≡ None → read bytes ≡ Err errors.Version
    wrong_version none = behind_byte ∙ ap (λ o. under_version o d) none

    -- a version's is, and the tables are read behind it
    pub behind_version : (loops : Bool) → version_of v ≡ Some loops → read bytes ≡ tables_at loops d
    behind_version loops some = behind_byte ∙ ap (λ o. under_version o d) some

    pub version_there : (loops : Bool) → version_of v ≡ Some loops → (more : List ℕ) × (bytes ≡ mark ++ (version_byte loops ∷ more))
    unfolding byte_at
    version_there loops some = go rest is (ap (λ l. byte_at (marked_spot l)) (sym is) ∙ h)
      where
        go : (rest : List ℕ) → bytes ≡ mark ++ rest → byte_at (marked_spot (mark ++ rest)) ≡ Ok (v, d) → (more : List ℕ) × (bytes ≡ mark ++ (version_byte loops ∷ more))
        go [] is e = absurd (cc)
        go (w ∷ more) is e =
            let pair : ◌≡◌ {A = ℕ × Spot} (w, record { place = 5; rest = more; parts = 0 }) (v, d) = cc in
            (more, is ∙ ap (λ n. mark ++ (n ∷ more)) (ap (λ x. x.0) pair ∙ is_byte v loops some))

-- ---- the exits

-- what is read is refused
pub answers_error : (bytes : List ℕ) (e : ObjErr) → read bytes ≡ Err e → Answers bytes (Err e)
answers_error bytes e h = record {
  found = tt;
  only = λ p k. let r = is_read bytes p k in absurd (not_both (read bytes) e (p, r.0) h r.1);
  magic = (λ is. refused bytes errors.Magic (h ∙ ap Err (error_is errors.Magic is)), λ none. ap Err (same_error (read bytes) e errors.Magic h (no_mark bytes none)));
  unknown = λ u. ap Err (same_error (read bytes) e errors.Version h (unknown_version bytes u));
  version = (λ is. refused bytes errors.Version (h ∙ ap Err (error_is errors.Version is)), other);
  cut = λ k. inl (ap Err (same_error (read bytes) e errors.Truncated h (cut bytes k)));
  trailing = λ k. let r = goes_on bytes k in absurd (not_both (read bytes) e (r.0, r.1) h r.2);
  refused = refused bytes e h;
}
  where
    error_is : (f : ObjErr) → ◌≡◌ {A = Result Prog ObjErr} (Err e) (Err f) → e ≡ f
    error_is f is = cc

    other : HasOtherVersion bytes → IsRefusal {A = Prog} (Err e) errors.Version
    other (inl u) = inl (ap Err (same_error (read bytes) e errors.Version h (unknown_version bytes u)))
    other (inr n) = let r = needless_read bytes n in absurd (not_both (read bytes) e (n.0, r.0) h r.1)

-- memory ran out behind the version
pub answers_memory : (bytes : List ℕ) (loops : Bool) (d : Spot) → read bytes ≡ tables_at loops d → Answers bytes (Err errors.OutOfMemory)
answers_memory bytes loops d h = record {
  found = tt;
  only = λ p k. refl;
  magic = (λ is. absurd (cc), λ none. absurd (not_wrong errors.Magic (no_mark bytes none) (λ e. absurd (cc)) (λ w. w)));
  unknown = λ u. absurd (not_wrong errors.Version (unknown_version bytes u) (λ e. absurd (cc)) (λ w. w));
  version = (λ is. absurd (cc), λ differs. inr refl);
  cut = λ k. inr refl;
  trailing = λ k. inr refl;
  refused = tt;
}
  where
    not_wrong : (e : ObjErr) → read bytes ≡ Err e → (e ≡ errors.Truncated → ⊥) → (IsWrong e → ⊥) → ⊥
    not_wrong e k cut wrong = elim (tables_wrong loops d e (sym h ∙ k)) [ inl t ↦ cut t | inr w ↦ wrong w ]

-- the tables were not read
pub answers_failed : (bytes : List ℕ) (loops : Bool) (d : Spot) (e : ObjErr) → read bytes ≡ tables_at loops d → Fails e (tables_at loops d) → Answers bytes (Err e)
answers_failed bytes loops d errors.Magic h f = answers_error bytes errors.Magic (h ∙ f)
answers_failed bytes loops d errors.Version h f = answers_error bytes errors.Version (h ∙ f)
answers_failed bytes loops d errors.Truncated h f = answers_error bytes errors.Truncated (h ∙ f)
answers_failed bytes loops d errors.Trailing h f = answers_error bytes errors.Trailing (h ∙ f)
answers_failed bytes loops d (errors.BadTable at) h f = answers_error bytes (errors.BadTable at) (h ∙ f)
answers_failed bytes loops d (errors.BadCode part at) h f = answers_error bytes (errors.BadCode part at) (h ∙ f)
answers_failed bytes loops d errors.Clash h f = answers_error bytes errors.Clash (h ∙ f)
answers_failed bytes loops d errors.OutOfMemory h f = answers_memory bytes loops d h

module _ (bytes : List ℕ) (p : Prog) (d : Spot) (are : AreBytes bytes) (h : read bytes ≡ Ok (p, d)) where
  no_magic : HasNoMark bytes → ⊥
  no_magic none = not_both (read bytes) errors.Magic (p, d) (no_mark bytes none) h

  no_unknown : HasUnknownVersion bytes → ⊥
  no_unknown u = not_both (read bytes) errors.Version (p, d) (unknown_version bytes u) h

  no_cut : IsCut bytes → ⊥
  no_cut k = not_both (read bytes) errors.Truncated (p, d) (cut bytes k) h

  -- what is read again is the same
  again : (q : Prog) (e : Spot) → read bytes ≡ Ok (q, e) → (p ≡ q) × (d ≡ e)
  again q e k =
      let both : ◌≡◌ {A = Outcome Prog} (Ok (p, d)) (Ok (q, e)) = sym h ∙ k in
      let pair : ◌≡◌ {A = Prog × Spot} (p, d) (q, e) = cc in
      (ap (λ x. x.0) pair, ap (λ x. x.1) pair)

  -- where its version is needless, it is the whole of this program, which has no loops
  of_needless : (n : HasNeedlessVersion bytes) → (d.rest ≡ []) × IsProgram p × (loops_in p ≡ false)
  of_needless n =
      let r = needless_read bytes n in
      let same : n.0 ≡ p = sym (again n.0 r.0 r.1).0 in
      (ap (λ c. c.rest) (again n.0 r.0 r.1).1 ∙ r.2, subst IsProgram same n.1.program, subst (λ (q : Prog). loops_in q ≡ false) same n.2)

  no_longer : d.rest ≡ [] → GoesOn bytes → ⊥
  no_longer e t = let r = goes_on bytes t in r.3 (ap (λ c. c.rest) (sym (again r.0 r.1 r.2).1) ∙ e)

  -- the whole is of a program, under a version
  module _ (loops : Bool) (rest : List ℕ) (is : bytes ≡ mark ++ (version_byte loops ∷ rest)) (e : d.rest ≡ []) (k : Compatible (tabled p)) where
    -- its own
    pub answers_ok : is_needless loops (loops_in p) ≡ false → Answers bytes (Ok p)
    answers_ok is_needed = record {
      found = let w = is_whole bytes p d are h loops rest is e k in record { program = w.program; spelled = w.spelled ∙ ap (λ l. under l p) own };
      only = λ q o. tt;
      magic = (λ is. absurd (cc), λ none. absurd (no_magic none));
      unknown = λ u. absurd (no_unknown u);
      version = (λ is. absurd (cc), other);
      cut = λ c. absurd (no_cut c);
      trailing = λ t. absurd (no_longer e t);
      refused = tt;
    }
      where
        own : loops ≡ loops_in p
        own = needed loops (loops_in p) (is_whole bytes p d are h loops rest is e k).stand is_needed

        other : HasOtherVersion bytes → IsRefusal (Ok p) errors.Version
        other (inl u) = absurd (no_unknown u)
        other (inr n) =
            let both : mark ++ (version_byte true ∷ tables n.0) ≡ mark ++ (version_byte loops ∷ rest) = sym n.1.spelled ∙ is in
            let with_loops : true ≡ loops = one_version true loops cc in
            absurd (false≢true (sym (of_needless n).2 ∙ sym own ∙ sym with_loops))

    -- the one with loops, where the program has none
    pub answers_needless : is_needless loops (loops_in p) ≡ true → Answers bytes (Err errors.Version)
    answers_needless both = record {
      found = tt;
      only = λ q o. absurd (no_object q o);
      magic = (λ is. absurd (cc), λ none. absurd (no_magic none));
      unknown = λ u. refl;
      version = (λ is. inr has_needless, λ differs. inl refl);
      cut = λ c. absurd (no_cut c);
      trailing = λ t. absurd (no_longer e t);
      refused = inr has_needless;
    }
      where
        with_loops : loops ≡ true
        with_loops = (needless loops (loops_in p) both).0

        none : loops_in p ≡ false
        none = (needless loops (loops_in p) both).1

        has_needless : HasNeedlessVersion bytes
        has_needless = (p, subst (λ (l : Bool). IsUnder l bytes p) with_loops (is_whole bytes p d are h loops rest is e k), none)

        no_object : (q : Prog) → IsObject bytes q → ⊥
        no_object q o =
            let r = is_read bytes q o in
            let no_loops : loops_in q ≡ false = subst (λ (x : Prog). loops_in x ≡ false) (again q r.0 r.1).0 none in
            let both : mark ++ (version_byte (loops_in q) ∷ tables q) ≡ mark ++ (version_byte loops ∷ rest) = sym o.spelled ∙ is in
            let same : loops_in q ≡ loops = one_version (loops_in q) loops cc in
            false≢true (sym no_loops ∙ same ∙ with_loops)

  -- more bytes follow an object
  pub answers_trailing : d.rest ≢ [] → Compatible (tabled p) → Answers bytes (Err errors.Trailing)
  answers_trailing some k = record {
    found = tt;
    only = λ q o. let r = is_read bytes q o in absurd (some (ap (λ c. c.rest) (again q r.0 r.1).1 ∙ r.2));
    magic = (λ is. absurd (cc), λ none. absurd (no_magic none));
    unknown = λ u. absurd (no_unknown u);
    version = (λ is. absurd (cc), λ differs. elim differs [ inl u ↦ absurd (no_unknown u) | inr n ↦ absurd (some (of_needless n).0) ]);
    cut = λ c. absurd (no_cut c);
    trailing = λ t. inl refl;
    refused = is_longer bytes p d are h some k;
  }

  -- two components clash
  pub answers_clash : (Compatible (tabled p) → ⊥) → Answers bytes (Err errors.Clash)
  answers_clash clash = record {
    found = tt;
    only = λ q o. let r = is_read bytes q o in absurd (clash (subst (λ (x : Prog). Compatible (tabled x)) (sym (again q r.0 r.1).0) o.program.compatible));
    magic = (λ is. absurd (cc), λ none. absurd (no_magic none));
    unknown = λ u. absurd (no_unknown u);
    version = (λ is. absurd (cc), λ differs. elim differs [ inl u ↦ absurd (no_unknown u) | inr n ↦ absurd (clash (of_needless n).1.compatible) ]);
    cut = λ c. absurd (no_cut c);
    trailing = λ t. let r = goes_on bytes t in absurd (clash (subst (λ (x : Prog). Compatible (tabled x)) (sym (again r.0 r.1 r.2).0) r.4.compatible));
    refused = clashes bytes p d are h clash;
  }
