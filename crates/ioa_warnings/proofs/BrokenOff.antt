-- The lines whose comment begins within a statement are those that break one off.
use Rattle.std.proofs.Common.{◌≡◌, ◌≢◌, ℕ, ◌==◌, Bool, true, false, not, cond, ◌&&◌, ◌||◌, List, [], ◌∷◌, ◌++◌, Option, Some, None, refl, sym, ap, ap₂, subst, ◌∙◌}
use Rattle.std.specs.List.{list_all}
use Rattle.std.specs.Option.{option_map, option_map_or, option_or}
use Rattle.std.proofs.lemmas.Bool.{and_parts, eq-eqb, eqb-true, false≢true, or_parts}
use Rattle.ioa_value.specs.Reads.{is_blank}
use Rattle.ioa_warnings.specs.Comments.{assigns, before_comment, begins_equal, behind_comment, goes_on, is_cut, is_operand, is_within_statement, last_byte}
use Rattle.ioa_warnings.specs.Statements.{Assigns, CutIsBrokenOff, EndsWith, IsBrokenOff, IsParted}

abbrev NoMark : List ℕ → Bool
NoMark text = list_all (λ b. not (b == 37)) text

not_true : (b : Bool) → not b ≡ true → b ≡ false
not_true true e = sym e
not_true false e = refl

-- ---- where the comment begins

module _ (b : ℕ) (bs front : List ℕ) (later : (rest : List ℕ) → before_comment bs ≡ Some rest → IsParted rest (behind_comment bs) bs) where
  parted_further : (b == 37) ≡ false → (o : Option (List ℕ)) → before_comment bs ≡ o → option_map (λ rest. b ∷ rest) o ≡ Some front → IsParted front (behind_comment bs) (b ∷ bs)
  parted_further e None at is = absurd (cc)
  parted_further e (Some rest) at is =
      let w = later rest at in
      let same : b ∷ rest ≡ front = cc in
      let plain : NoMark (b ∷ rest) ≡ true = rw e w.0 in
      subst (λ f. IsParted f (behind_comment bs) (b ∷ bs)) same (plain, ap (λ l. b ∷ l) w.1)

  parted_at : (t : Bool) → (b == 37) ≡ t → cond t (Some []) (option_map (λ rest. b ∷ rest) (before_comment bs)) ≡ Some front
      → IsParted front (cond t bs (behind_comment bs)) (b ∷ bs)
  parted_at true e is = let none : [] ≡ front = cc in subst (λ f. IsParted f bs (b ∷ bs)) none (refl, ap (λ m. m ∷ bs) (eqb-true b 37 e))
  parted_at false e is = parted_further e (before_comment bs) refl is

parted : (line front : List ℕ) → before_comment line ≡ Some front → IsParted front (behind_comment line) line
parted [] front e = absurd (cc)
parted (b ∷ bs) front e = parted_at b bs front (λ rest at. parted bs rest at) (b == 37) refl e

begins_there : (front comment : List ℕ) → NoMark front ≡ true → before_comment (front ++ 37 ∷ comment) ≡ Some front
begins_there [] comment h = refl
begins_there (b ∷ bs) comment h =
    let k = and_parts (not (b == 37)) (NoMark bs) h in
    rw (not_true (b == 37) k.0, begins_there bs comment k.1) refl

behind_there : (front comment : List ℕ) → NoMark front ≡ true → behind_comment (front ++ 37 ∷ comment) ≡ comment
behind_there [] comment h = refl
behind_there (b ∷ bs) comment h =
    let k = and_parts (not (b == 37)) (NoMark bs) h in
    rw (not_true (b == 37) k.0) (behind_there bs comment k.1)

-- ---- what it stands behind

equal_first : (bs : List ℕ) → begins_equal bs ≡ true → (value : List ℕ) × (bs ≡ 61 ∷ value)
equal_first [] h = absurd (false≢true h)
equal_first (b ∷ bs) h = (bs, ap (λ m. m ∷ bs) (eqb-true b 61 h))

assigned_at : (b : ℕ) (bs : List ℕ) (t : Bool) → (b == 58 && begins_equal bs) ≡ t → (assigns bs ≡ true → Assigns bs) → (t || assigns bs) ≡ true → Assigns (b ∷ bs)
assigned_at b bs true e later h =
    let k = and_parts (b == 58) (begins_equal bs) e in
    let w = equal_first bs k.1 in
    ([], w.0, ap (λ m. m ∷ bs) (eqb-true b 58 k.0) ∙ ap (λ l. 58 ∷ l) w.1)
assigned_at b bs false e later h = let w = later h in (b ∷ w.0, w.1, ap (λ l. b ∷ l) w.2)

assigned : (text : List ℕ) → assigns text ≡ true → Assigns text
assigned [] h = absurd (false≢true h)
assigned (b ∷ bs) h = assigned_at b bs (b == 58 && begins_equal bs) refl (λ k. assigned bs k) h

or_second : (x y : Bool) → y ≡ true → (x || y) ≡ true
or_second true y h = refl
or_second false y h = h

assigns_there : (target value : List ℕ) → assigns (target ++ 58 ∷ 61 ∷ value) ≡ true
assigns_there [] value = refl
assigns_there (b ∷ bs) value = or_second (b == 58 && begins_equal (bs ++ 58 ∷ 61 ∷ value)) (assigns (bs ++ 58 ∷ 61 ∷ value)) (assigns_there bs value)

-- ---- its last byte

abbrev unless_blank : Bool → ℕ → Option ℕ
unless_blank t b = cond t None (Some b)

blank_at : (o : Option ℕ) (b : ℕ) (t : Bool) → option_or o (unless_blank t b) ≡ None → (o ≡ None) × (t ≡ true)
blank_at None b true h = (refl, refl)
blank_at None b false h = absurd (cc)
blank_at (Some c) b t h = absurd (cc)

blank_alone : (text : List ℕ) → last_byte text ≡ None → list_all is_blank text ≡ true
blank_alone [] h = refl
blank_alone (b ∷ bs) h = let k = blank_at (last_byte bs) b (is_blank b) h in rw (k.1, blank_alone bs k.0) refl

no_last : (text : List ℕ) → list_all is_blank text ≡ true → last_byte text ≡ None
no_last [] h = refl
no_last (b ∷ bs) h = let k = and_parts (is_blank b) (list_all is_blank bs) h in rw (no_last bs k.1, k.0) refl

ended_at : (b : ℕ) (bs : List ℕ) (last : ℕ) (o : Option ℕ) (t : Bool) → last_byte bs ≡ o → is_blank b ≡ t → ((c : ℕ) → last_byte bs ≡ Some c → EndsWith bs c)
    → option_or o (unless_blank t b) ≡ Some last → EndsWith (b ∷ bs) last
ended_at b bs last (Some c) t at e later h =
    let w = later c at in
    let same : c ≡ last = cc in
    subst (EndsWith (b ∷ bs)) same (b ∷ w.0, w.1, ap (λ l. b ∷ l) w.2, w.3, w.4)
ended_at b bs last None true at e later h = absurd (cc)
ended_at b bs last None false at e later h = let same : b ≡ last = cc in subst (EndsWith (b ∷ bs)) same ([], bs, refl, e, blank_alone bs at)

ended : (text : List ℕ) (last : ℕ) → last_byte text ≡ Some last → EndsWith text last
ended [] last h = absurd (cc)
ended (b ∷ bs) last h = ended_at b bs last (last_byte bs) (is_blank b) refl refl (λ c at. ended bs c at) h

ends_there : (before blanks : List ℕ) (last : ℕ) → is_blank last ≡ false → list_all is_blank blanks ≡ true → last_byte (before ++ last ∷ blanks) ≡ Some last
ends_there [] blanks last e h = rw (no_last blanks h, e) refl
ends_there (b ∷ bs) blanks last e h = rw (ends_there bs blanks last e h) refl

-- ---- the whole

differs : (a b : ℕ) → (a == b) ≡ false → a ≢ b
differs a b e same = false≢true (sym e ∙ eq-eqb a b same)

equals_none : (a b : ℕ) (t : Bool) → (a == b) ≡ t → a ≢ b → (a == b) ≡ false
equals_none a b true e differ = absurd (differ (eqb-true a b e))
equals_none a b false e differ = e

goes_on_so : (last : ℕ) → last ≢ 59 → last ≢ 61 → goes_on (Some last) ≡ true
goes_on_so last one other = rw (equals_none last 59 (last == 59) refl one, equals_none last 61 (last == 61) refl other) refl

broken_at : (line front : List ℕ) → IsParted front (behind_comment line) line → Assigns front → is_operand (behind_comment line) ≡ true
    → (o : Option ℕ) → last_byte front ≡ o → goes_on o ≡ true → IsBrokenOff line
broken_at line front parted assigns reads None at h = absurd (false≢true h)
broken_at line front parted assigns reads (Some last) at h =
    let k = or_parts (last == 59) (last == 61) (not_true (last == 59 || last == 61) h) in
    record {
      front = front;
      comment = behind_comment line;
      parted = parted;
      assigns = assigns;
      last = last;
      ends = ended front last at;
      not_ended = differs last 59 k.0;
      has_value = differs last 61 k.1;
      reads = reads;
    }

broken : (line : List ℕ) (o : Option (List ℕ)) → before_comment line ≡ o → (option_map_or is_within_statement o false && is_operand (behind_comment line)) ≡ true
    → IsBrokenOff line
broken line None at h = absurd (false≢true h)
broken line (Some front) at h =
    let both = and_parts (is_within_statement front) (is_operand (behind_comment line)) h in
    let k = and_parts (assigns front) (goes_on (last_byte front)) both.0 in
    broken_at line front (parted line front at) (assigned front k.0) both.1 (last_byte front) refl k.1

cut : (line : List ℕ) → IsBrokenOff line → is_cut line ≡ true
cut line w =
    let begins : before_comment line ≡ Some w.front = ap before_comment w.parted.1 ∙ begins_there w.front w.comment w.parted.0 in
    let behind : behind_comment line ≡ w.comment = ap behind_comment w.parted.1 ∙ behind_there w.front w.comment w.parted.0 in
    let assigning : assigns w.front ≡ true = ap assigns w.assigns.2 ∙ assigns_there w.assigns.0 w.assigns.1 in
    let ending : last_byte w.front ≡ Some w.last = ap last_byte w.ends.2 ∙ ends_there w.ends.0 w.ends.1 w.last w.ends.3 w.ends.4 in
    let within : option_map_or is_within_statement (before_comment line) false ≡ true = rw (begins, assigning, ending) (goes_on_so w.last w.not_ended w.has_value) in
    ap₂ (λ (x y : Bool). x && y) within (ap is_operand behind ∙ w.reads)

pub cut_is_broken_off : CutIsBrokenOff
cut_is_broken_off line = (broken line (before_comment line) refl, cut line)
