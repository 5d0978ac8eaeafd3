-- Each spelling of a value at the front of a text is read, and no other value.
use Rattle.std.proofs.Common.{◌≡◌, ℕ, zero, suc, ◌+◌, ◌<◌, Bool, true, false, cond, ◌&&◌, ◌||◌, ◌==◌, nat_lt, nat_le, ℤ, List, [], ◌∷◌, ◌++◌, length, get_or, codes, Option, Some, None, All, refl, sym, ap, subst, ◌∙◌, append_assoc, arith}
use Rattle.std.specs.Prelude.{slice_get}
use Rattle.std.specs.Option.{option_map, option_map_or, option_or}
use Rattle.std.specs.Str.{bytes_eq}
use Rattle.std.proofs.lemmas.Bool.{and_parts, false≢true}
use Rattle.std.proofs.lemmas.Bool.Decides.{nat_tests}
use Rattle.std.proofs.lemmas.List.Elements.{All-head, All-tail, All-cons, All-nil}
use Rattle.std.proofs.lemmas.List.{length-map}
use Rattle.std.proofs.lemmas.Slice.Eq.{bytes_eq-Decides}
use Rattle.std.proofs.lemmas.Option.{get_or_from_slice_get}
use Rattle.ioa_value.specs.declared.terminal.Terminal.TheVariants as terminals
use Rattle.ioa_arithmetic.specs.Arithmetic.{fits}
use Rattle.ioa_value.specs.Actions.{Name}
use Rattle.ioa_value.specs.Plain.{Val, Vals, truth, num, name, tuple, items, none, more, count}
use Rattle.ioa_value.specs.Table.{Table, Shape, Declaration, TupleField, truths, numbers, names, fields, sequence, bool, int, shape_at, types_of, type_name, constant_named, constant_name, type_named, names_in, AreTypes, MayStand}
use Rattle.ioa_value.specs.Typing.{HasType, is_of, parts_are, items_are, of_fields, of_sequence, is_name_of}
use Rattle.ioa_value.specs.Names.{IsName, is_name, begins_with_letter}
use Rattle.ioa_value.specs.Reads.{IsBlank, Padded, Spells, SpellsRow, SpellsAfter, SpellsNumber, IsTyped}
use Rattle.ioa_value.specs.Tokens.{after_blanks, word, first_word, after_first}
use Rattle.ioa_value.specs.Scanning.{truth_in, number_in, constant_in, at_word, after_mark, opening, closing, repeated, row_types, may_be_shorter, made, ending, early_ending, scan_after, scan_first, scan_row, scan_made, scan_shaped, scan_in, scan_of, leading_type, scan_value}
use Rattle.ioa_value.proofs.SameLemmas.{equal, equal_numbers}
use Rattle.ioa_value.proofs.TableLemmas.{stands}
use Rattle.ioa_value.proofs.TokenLemmas.{IsWord, IsEnd, finds_word, finds_rest, skip}
use Rattle.ioa_value.proofs.SpellLemmas.{name_is_word, number_is_word, begins_name}
use Rattle.ioa_value.proofs.NumeralLemmas.{number_so, number_first}
use Rattle.ioa_value.proofs.NamedLemmas.{constant_there, no_constant, type_there, type_name_legal, constant_legal, unnamed}
use Rattle.ioa_value.proofs.ScanLemmas.{row_are, parts_row, items_row, mark_there, no_comma, at_closing, at_opening, after_ends}
use Rattle.ioa_value.proofs.Spellings.{no_name}
use Rattle.ioa_value.proofs.ItemLemmas.{item_there}

-- ---- what begins a value

is_word : (w : List ℕ) → IsWord w → 0 < length w
is_word w h = h.long

true_word : IsWord (codes "true")
true_word = record { long = omega arith; inside = refl }

false_word : IsWord (codes "false")
false_word = record { long = omega arith; inside = refl }

no_truth_letter : (w : List ℕ) → begins_with_letter w ≡ false → (bytes_eq w (codes "true") || bytes_eq w (codes "false")) ≡ false
no_truth_letter w h = go (bytes_eq w (codes "true")) refl (bytes_eq w (codes "false")) refl
  where
    go : (a : Bool) → bytes_eq w (codes "true") ≡ a → (b : Bool) → bytes_eq w (codes "false") ≡ b → (a || b) ≡ false
    go true t b f = absurd (false≢true (sym h ∙ ap begins_with_letter ((bytes_eq-Decides w (codes "true")).0 t)))
    go false t true f = absurd (false≢true (sym h ∙ ap begins_with_letter ((bytes_eq-Decides w (codes "false")).0 f)))
    go false t false f = refl

no_truth_name : (w : List ℕ) → IsName w → (bytes_eq w (codes "true") || bytes_eq w (codes "false")) ≡ false
no_truth_name w h = go (bytes_eq w (codes "true")) refl (bytes_eq w (codes "false")) refl
  where
    go : (a : Bool) → bytes_eq w (codes "true") ≡ a → (b : Bool) → bytes_eq w (codes "false") ≡ b → (a || b) ≡ false
    go true t b f = absurd (false≢true (sym (no_name terminals.True) ∙ ap is_name (sym ((bytes_eq-Decides w (codes "true")).0 t)) ∙ h))
    go false t true f = absurd (false≢true (sym (no_name terminals.False) ∙ ap is_name (sym ((bytes_eq-Decides w (codes "false")).0 f)) ∙ h))
    go false t false f = refl

-- ---- cases of types

pub record OfFields (o : Option Shape) (test : List ℕ → Bool) : Type 0 where
  pub fs : List TupleField
  pub is : o ≡ Some (fields fs)
  pub passes : test (types_of fs) ≡ true

pub fields_of : (o : Option Shape) (test : List ℕ → Bool) → of_fields o test ≡ true → OfFields o test
fields_of (Some (fields fs)) test h = record { fs = fs; is = refl; passes = h }
fields_of (Some truths) test h = absurd (false≢true h)
fields_of (Some numbers) test h = absurd (false≢true h)
fields_of (Some (names ns)) test h = absurd (false≢true h)
fields_of (Some (sequence most of)) test h = absurd (false≢true h)
fields_of None test h = absurd (false≢true h)

pub record OfSequence (o : Option Shape) (test : ℕ → ℕ → Bool) : Type 0 where
  pub most : ℕ
  pub of : ℕ
  pub is : o ≡ Some (sequence most of)
  pub passes : test most of ≡ true

pub sequence_of : (o : Option Shape) (test : ℕ → ℕ → Bool) → of_sequence o test ≡ true → OfSequence o test
sequence_of (Some (sequence most of)) test h = record { most = most; of = of; is = refl; passes = h }
sequence_of (Some truths) test h = absurd (false≢true h)
sequence_of (Some numbers) test h = absurd (false≢true h)
sequence_of (Some (names ns)) test h = absurd (false≢true h)
sequence_of (Some (fields fs)) test h = absurd (false≢true h)
sequence_of None test h = absurd (false≢true h)

record OfNames (o : Option Shape) (n : ℕ) : Type 0 where
  ns : List Name
  is : o ≡ Some (names ns)
  within : n < length ns

pub lt_of : (n m : ℕ) → nat_lt n m ≡ true → n < m
lt_of n m e = grind (arith, nat_tests)

names_of : (o : Option Shape) (n : ℕ) → is_name_of o n ≡ true → OfNames o n
names_of (Some (names ns)) n h = record { ns = ns; is = refl; within = lt_of n (length ns) h }
names_of (Some truths) n h = absurd (false≢true h)
names_of (Some numbers) n h = absurd (false≢true h)
names_of (Some (fields fs)) n h = absurd (false≢true h)
names_of (Some (sequence most of)) n h = absurd (false≢true h)
names_of None n h = absurd (false≢true h)

-- the declaration whose shape this is
record Declares (types : Table) (ty : ℕ) (s : Shape) : Type 0 where
  d : Declaration
  there : slice_get types ty ≡ Some d
  shape : d.shape ≡ s

declares : (types : Table) (ty : ℕ) (s : Shape) → shape_at types ty ≡ Some s → Declares types ty s
declares types ty s e = go (slice_get types ty) refl e
  where
    go : (o : Option Declaration) → slice_get types ty ≡ o → option_map (λ d. d.shape) o ≡ Some s → Declares types ty s
    go (Some d) at e = let same : d.shape ≡ s = cc in record { d = d; there = at; shape = same }
    go None at e = absurd (cc)

pub each_below : (most of ty : ℕ) → of < ty → All (λ k. k < ty) (repeated most of)
each_below zero of ty lt = All-nil (λ k. k < ty)
each_below (suc most) of ty lt = All-cons (λ k. k < ty) of (repeated most of) lt (each_below most of ty lt)

-- no closing mark where a word begins
no_ending : (s : Shape) (text : List ℕ) → 0 < length (word text) → ending s text ≡ None
no_ending s [] h = absurd (omega arith)
no_ending s (b ∷ bs) h = go (b == closing s) refl
  where
    go : (t : Bool) → (b == closing s) ≡ t → option_map {U = Vals × List ℕ} (λ rest. (none, after_blanks rest)) (cond t (Some bs) None) ≡ None
    go true t =
        let same : b ≡ closing s = equal_numbers b (closing s) t in
        let empty : word (closing s ∷ bs) ≡ [] = (at_closing s bs).no_word in
        let bare : word (b ∷ bs) ≡ [] = ap (λ x. word (x ∷ bs)) same ∙ empty in
        absurd (omega (arith, h, ap length bare))
    go false t = refl

module _ (types : Table) (declared : AreTypes types) where
  -- ---- names

  -- a name of an enumeration
  record Constant (own n : ℕ) : Type 0 where
    ns : List Name
    at : shape_at types own ≡ Some (names ns)
    legal : IsName (constant_name types own n)
    found : constant_named types (constant_name types own n) ≡ Some (own, n)

  constant : (own n : ℕ) → is_name_of (shape_at types own) n ≡ true → Constant own n
  constant own n h =
      let o = names_of (shape_at types own) n h in
      let d = declares types own (names o.ns) o.is in
      let x = item_there o.ns n o.within in
      let text : constant_name types own n ≡ x.0 = ap (λ s. get_or (option_map_or names_in s []) n []) o.is ∙ get_or_from_slice_get o.ns n x.0 [] x.1 in
      let item : slice_get (names_in d.d.shape) n ≡ Some x.0 = ap (λ s. slice_get (names_in s) n) d.shape ∙ x.1 in
      let number : 0 + own ≡ own = omega arith in
      let found : constant_named types x.0 ≡ Some (own, n) = constant_there types 0 own d.d n x.0 declared.different d.there item ∙ ap (λ k. Some (k, n)) number in
      record {
        ns = o.ns;
        at = o.is;
        legal = subst IsName (sym text) (constant_legal types declared x.0 (own, n) found);
        found = ap (constant_named types) text ∙ found;
      }

  -- a type's name
  record Named (own : ℕ) : Type 0 where
    legal : IsName (type_name types own)
    found : type_named types (type_name types own) ≡ Some own
    alone : constant_named types (type_name types own) ≡ None

  type_called : (own : ℕ) (s : Shape) → shape_at types own ≡ Some s → Named own
  type_called own s e =
      let d = declares types own s e in
      let text : type_name types own ≡ d.d.name = ap (λ o. option_map_or (λ x. x.name) o []) d.there in
      record {
        legal = subst IsName (sym text) (type_name_legal types declared own d.d d.there);
        found = ap (type_named types) text ∙ type_there types own d.d declared.different d.there;
        alone = ap (constant_named types) text ∙ no_constant types 0 own d.d declared.different d.there;
      }

  -- ---- the first word tells the type

  record Leads (text : List ℕ) (ty : ℕ) : Type 0 where
    long : 0 < length (first_word text)
    type : leading_type types (first_word text) ≡ ty

  leads_by : (text w : List ℕ) (ty : ℕ) → IsWord w → first_word text ≡ w → leading_type types w ≡ ty → Leads text ty
  leads_by text w ty h e t = record { long = subst (λ x. 0 < length x) (sym e) h.long; type = ap (leading_type types) e ∙ t }

  -- of what begins with no letter the type is Int
  pub letterless : (w : List ℕ) → begins_with_letter w ≡ false → leading_type types w ≡ 1
  letterless w letter =
      let absent = unnamed types declared w (λ h. false≢true (sym letter ∙ begins_name w h)) in
      rw (no_truth_letter w letter) (rw absent.0 (rw absent.1 refl))

  number_type : (w : List ℕ) (z : ℤ) → SpellsNumber w z → leading_type types w ≡ 1
  number_type w z s = letterless w (number_first w z s)

  equal_types : (a b : ℕ) (c : Bool) → ((a == b) && c) ≡ true → (a ≡ b) × (c ≡ true)
  equal_types a b c h = let p = and_parts (a == b) c h in (equal_numbers a b p.0, p.1)

  leads : (v : Val) (ty : ℕ) (first rest : List ℕ) → Spells types first v → HasType types v ty → IsEnd rest → Leads (first ++ rest) ty
  leads (truth true) ty first rest s t end =
      leads_by (first ++ rest) (codes "true") ty true_word (finds_word (codes "true") first rest true_word s end) (sym (equal_numbers ty 0 t))
  leads (truth false) ty first rest s t end =
      leads_by (first ++ rest) (codes "false") ty false_word (finds_word (codes "false") first rest false_word s end) (sym (equal_numbers ty 0 t))
  leads (num z) ty first rest (w, n, p) t end =
      let h = number_is_word w z n in
      leads_by (first ++ rest) w ty h (finds_word w first rest h p end) (number_type w z n ∙ sym (equal_types ty 1 (fits z) t).0)
  leads (name own n) ty first rest p t end =
      let q = equal_types ty own (is_name_of (shape_at types own) n) t in
      let c = constant own n q.1 in
      let w = constant_name types own n in
      let h = name_is_word w c.legal in
      leads_by (first ++ rest) w ty h (finds_word w first rest h p end) (rw (no_truth_name w c.legal) (rw c.found (sym q.0)))
  leads (tuple own vs) ty first rest (head, row, p, m, e) t end =
      let q = equal_types ty own (of_fields (shape_at types own) (λ tys. parts_are types vs tys)) t in
      let o = fields_of (shape_at types own) (λ tys. parts_are types vs tys) q.1 in
      let c = type_called own (fields o.fs) o.is in
      let w = type_name types own in
      let h = name_is_word w c.legal in
      let text : first ++ rest ≡ head ++ (40 ∷ (row ++ rest)) = ap (λ l. l ++ rest) e ∙ append_assoc head (40 ∷ row) rest in
      leads_by (first ++ rest) w ty h (ap first_word text ∙ finds_word w head (40 ∷ (row ++ rest)) h p (at_opening (fields o.fs) (row ++ rest)))
      (rw (no_truth_name w c.legal) (rw c.alone (rw c.found (sym q.0))))
  leads (items own vs) ty first rest (head, row, p, m, e) t end =
      let q = equal_types ty own (of_sequence (shape_at types own) (λ most of. nat_le (count vs) most && items_are types vs of)) t in
      let o = sequence_of (shape_at types own) (λ most of. nat_le (count vs) most && items_are types vs of) q.1 in
      let c = type_called own (sequence o.most o.of) o.is in
      let w = type_name types own in
      let h = name_is_word w c.legal in
      let text : first ++ rest ≡ head ++ (91 ∷ (row ++ rest)) = ap (λ l. l ++ rest) e ∙ append_assoc head (91 ∷ row) rest in
      leads_by (first ++ rest) w ty h (ap first_word text ∙ finds_word w head (91 ∷ (row ++ rest)) h p (at_opening (sequence o.most o.of) (row ++ rest)))
      (rw (no_truth_name w c.legal) (rw c.alone (rw c.found (sym q.0))))

  -- ---- values are read

  at_first : (read : List ℕ → Option Val) (text w : List ℕ) (v : Val) (rest : List ℕ) → first_word text ≡ w → read w ≡ Some v → after_first text ≡ rest → at_word text (read (first_word text)) ≡ Some (v, rest)
  at_first read text w v rest e g r = ap (λ x. at_word text (read x)) e ∙ ap (at_word text) g ∙ ap (λ x. Some (v, x)) r

  -- what is read of a type is read by its shape
  shaped : (n ty : ℕ) (s : Shape) (text : List ℕ) (o : Option (Val × List ℕ)) → shape_at types ty ≡ Some s → scan_shaped (λ t r. scan_in n types t r) types ty (Some s) text ≡ o → scan_in (suc n) types ty text ≡ o
  shaped n ty s text o at e = ap (λ x. scan_shaped (λ t r. scan_in n types t r) types ty x text) at ∙ e

  shape_there : (ty : ℕ) (d : Declaration) → slice_get types ty ≡ Some d → shape_at types ty ≡ Some d.shape
  shape_there ty d e = ap (option_map (λ x. x.shape)) e

  ended_so : (s : Shape) (after rest : List ℕ) → IsBlank after → IsEnd rest → ending s (closing s ∷ (after ++ rest)) ≡ Some (none, rest)
  ended_so s after rest b end = rw (mark_there (closing s) (after ++ rest)) (ap (λ l. Some (none, l)) (skip after rest b ∙ end.no_blank))

  made_so : (n : ℕ) (s : Shape) (own : ℕ) (vs : Vals) (head row rest : List ℕ) → Named own → Padded (type_name types own) head → scan_row (λ t r. scan_in n types t r) s (row ++ rest) ≡ Some (vs, rest) → scan_made (λ t r. scan_in n types t r) types own s ((head ++ opening s ∷ row) ++ rest) ≡ Some (made own s vs, rest)
  made_so n s own vs head row rest c p r =
      let h = name_is_word (type_name types own) c.legal in
      let end = at_opening s (row ++ rest) in
      let word : first_word (head ++ (opening s ∷ (row ++ rest))) ≡ type_name types own = finds_word (type_name types own) head (opening s ∷ (row ++ rest)) h p end in
      let behind : after_first (head ++ (opening s ∷ (row ++ rest))) ≡ opening s ∷ (row ++ rest) = finds_rest (type_name types own) head (opening s ∷ (row ++ rest)) h p end in
      ap (scan_made (λ t r. scan_in n types t r) types own s) (append_assoc head (opening s ∷ row) rest)
      ∙ rw (ap (λ w. bytes_eq w (type_name types own)) word ∙ (bytes_eq-Decides (type_name types own) (type_name types own)).1 refl)
      (rw (ap (after_mark (opening s)) behind ∙ mark_there (opening s) (row ++ rest)) (rw r refl))

  mutual
    pub complete : (v : Val) (n ty : ℕ) (first rest : List ℕ) → Spells types first v → HasType types v ty → IsEnd rest → ty < n → scan_in n types ty (first ++ rest) ≡ Some (v, rest)
    complete (truth true) (suc n) ty first rest s t end lt =
        let k : ty ≡ 0 = equal_numbers ty 0 t in
        let at : shape_at types ty ≡ Some truths = ap (shape_at types) k ∙ shape_there 0 bool declared.first in
        shaped n ty truths (first ++ rest) (Some (truth true, rest)) at
        (at_first truth_in (first ++ rest) (codes "true") (truth true) rest (finds_word (codes "true") first rest true_word s end) refl (finds_rest (codes "true") first rest true_word s end))
    complete (truth false) (suc n) ty first rest s t end lt =
        let k : ty ≡ 0 = equal_numbers ty 0 t in
        let at : shape_at types ty ≡ Some truths = ap (shape_at types) k ∙ shape_there 0 bool declared.first in
        shaped n ty truths (first ++ rest) (Some (truth false, rest)) at
        (at_first truth_in (first ++ rest) (codes "false") (truth false) rest (finds_word (codes "false") first rest false_word s end) refl (finds_rest (codes "false") first rest false_word s end))
    complete (num z) (suc n) ty first rest (w, s, p) t end lt =
        let q = equal_types ty 1 (fits z) t in
        let at : shape_at types ty ≡ Some numbers = ap (shape_at types) q.0 ∙ shape_there 1 int declared.second in
        let h = number_is_word w z s in
        shaped n ty numbers (first ++ rest) (Some (num z, rest)) at
        (at_first (λ x. option_map num (number_in x)) (first ++ rest) w (num z) rest (finds_word w first rest h p end) (ap (option_map num) (number_so w z s q.1)) (finds_rest w first rest h p end))
    complete (name own k) (suc n) ty first rest p t end lt =
        let q = equal_types ty own (is_name_of (shape_at types own) k) t in
        let c = constant own k q.1 in
        let w = constant_name types own k in
        let h = name_is_word w c.legal in
        let read : constant_in types own w ≡ Some (name own k) = rw c.found (rw (equal own own refl) refl) in
        let whole = shaped n own (names c.ns) (first ++ rest) (Some (name own k, rest)) c.at
        (at_first (constant_in types own) (first ++ rest) w (name own k) rest (finds_word w first rest h p end) read (finds_rest w first rest h p end)) in
        subst (λ x. scan_in (suc n) types x (first ++ rest) ≡ Some (name own k, rest)) (sym q.0) whole
    complete (tuple own vs) (suc n) ty first rest (head, row, p, m, e) t end lt =
        let q = equal_types ty own (of_fields (shape_at types own) (λ tys. parts_are types vs tys)) t in
        let o = fields_of (shape_at types own) (λ tys. parts_are types vs tys) q.1 in
        let s : Shape = fields o.fs in
        let stand : MayStand own s = stands types own s declared o.is in
        let some : 0 < length (types_of o.fs) = (let l : length (types_of o.fs) ≡ length o.fs = simp length-map in omega (arith, stand.0, l)) in
        let r = row_so vs n own s row rest m (parts_row types vs (types_of o.fs) ∙ o.passes) end some stand.2 (omega (arith, lt, q.0)) in
        let whole = shaped n own s (first ++ rest) (Some (tuple own vs, rest)) o.is
        (ap (λ l. scan_made (λ t r. scan_in n types t r) types own s (l ++ rest)) e ∙ made_so n s own vs head row rest (type_called own s o.is) p r) in
        subst (λ x. scan_in (suc n) types x (first ++ rest) ≡ Some (tuple own vs, rest)) (sym q.0) whole
    complete (items own vs) (suc n) ty first rest (head, row, p, m, e) t end lt =
        let q = equal_types ty own (of_sequence (shape_at types own) (λ most of. nat_le (count vs) most && items_are types vs of)) t in
        let o = sequence_of (shape_at types own) (λ most of. nat_le (count vs) most && items_are types vs of) q.1 in
        let s : Shape = sequence o.most o.of in
        let stand : MayStand own s = stands types own s declared o.is in
        let some : 0 < length (repeated o.most o.of) = long o.most o.of stand.0 in
        let r = row_so vs n own s row rest m (items_row types vs o.most o.of ∙ o.passes) end some (each_below o.most o.of own stand.2) (omega (arith, lt, q.0)) in
        let whole = shaped n own s (first ++ rest) (Some (items own vs, rest)) o.is
        (ap (λ l. scan_made (λ t r. scan_in n types t r) types own s (l ++ rest)) e ∙ made_so n s own vs head row rest (type_called own s o.is) p r) in
        subst (λ x. scan_in (suc n) types x (first ++ rest) ≡ Some (items own vs, rest)) (sym q.0) whole
      where
        long : (most of : ℕ) → 0 < most → 0 < length (repeated most of)
        long zero of lt = absurd (omega arith)
        long (suc most) of lt = omega arith
    complete v zero ty first rest s t end lt = absurd (omega arith)

    row_so : (vs : Vals) (n own : ℕ) (s : Shape) (row rest : List ℕ) → SpellsRow types (closing s) row vs → row_are (may_be_shorter s) types vs (row_types s) ≡ true → IsEnd rest → 0 < length (row_types s) → All (λ k. k < own) (row_types s) → own < suc n → scan_row (λ t r. scan_in n types t r) s (row ++ rest) ≡ Some (vs, rest)
    row_so none n own s row rest (before, after, b, a, e) t end some h lt =
        let text : row ++ rest ≡ before ++ (closing s ∷ (after ++ rest)) = ap (λ l. l ++ rest) e ∙ append_assoc before (closing s ∷ after) rest in
        let bare : after_blanks (row ++ rest) ≡ closing s ∷ (after ++ rest) = ap after_blanks text ∙ skip before (closing s ∷ (after ++ rest)) b ∙ (at_closing s (after ++ rest)).no_blank in
        let early : early_ending s (after_blanks (row ++ rest)) ≡ Some (none, rest) = ap (early_ending s) bare ∙ rw (short (row_types s) t some) (ended_so s after rest a end) in
        ap (λ o. option_or o (scan_first (λ t r. scan_in n types t r) s (row_types s) (row ++ rest))) early
      where
        short : (tys : List ℕ) → row_are (may_be_shorter s) types none tys ≡ true → 0 < length tys → may_be_shorter s ≡ true
        short [] t lt = absurd (omega arith)
        short (ty ∷ tys) t lt = t
    row_so (more v vs) n own s row rest (first, later, p, m, e) t end some h lt =
        go (row_types s) refl t h (λ k u l. complete v n k first (later ++ rest) p u (after_ends types s vs later rest m) l)
        (λ tys u l. after_so vs n own s tys later rest m u end l lt)
      where
        text : row ++ rest ≡ first ++ (later ++ rest)
        text = ap (λ l. l ++ rest) e ∙ append_assoc first later rest

        unclosed : (b : Bool) → ending s (after_blanks (row ++ rest)) ≡ None → cond b (ending s (after_blanks (row ++ rest))) None ≡ None
        unclosed true e = e
        unclosed false e = refl

        go : (tys : List ℕ) → row_types s ≡ tys → row_are (may_be_shorter s) types (more v vs) tys ≡ true → All (λ k. k < own) tys
            → ((k : ℕ) → HasType types v k → k < n → scan_in n types k (first ++ (later ++ rest)) ≡ Some (v, later ++ rest))
            → ((ks : List ℕ) → row_are (may_be_shorter s) types vs ks ≡ true → All (λ k. k < own) ks → scan_after (λ t r. scan_in n types t r) s ks (later ++ rest) ≡ Some (vs, rest))
            → scan_row (λ t r. scan_in n types t r) s (row ++ rest) ≡ Some (more v vs, rest)
        go [] is t h value others = absurd (false≢true t)
        go (ty ∷ tys) is t h value others =
            let q = and_parts (is_of types v ty) (row_are (may_be_shorter s) types vs tys) t in
            let begun = leads v ty first (later ++ rest) p q.0 (after_ends types s vs later rest m) in
            let one = value ty q.0 (let l = All-head (λ k. k < own) ty tys h in omega (arith, l, lt)) in
            let further = others tys q.1 (All-tail (λ k. k < own) ty tys h) in
            let first_so : scan_first (λ t r. scan_in n types t r) s (row_types s) (row ++ rest) ≡ Some (more v vs, rest) =
            ap (λ l. scan_first (λ t r. scan_in n types t r) s l (row ++ rest)) is ∙ ap (λ l. scan_first (λ t r. scan_in n types t r) s (ty ∷ tys) l) text ∙ rw one (rw further refl) in
            let closed : ending s (after_blanks (row ++ rest)) ≡ None = ap (λ l. ending s (after_blanks l)) text ∙ no_ending s (after_blanks (first ++ (later ++ rest))) begun.long in
            let none_yet : early_ending s (after_blanks (row ++ rest)) ≡ None = unclosed (may_be_shorter s) closed in
            ap (λ o. option_or o (scan_first (λ t r. scan_in n types t r) s (row_types s) (row ++ rest))) none_yet ∙ first_so

    after_so : (vs : Vals) (n own : ℕ) (s : Shape) (tys : List ℕ) (text rest : List ℕ) → SpellsAfter types (closing s) text vs → row_are (may_be_shorter s) types vs tys ≡ true → IsEnd rest → All (λ k. k < own) tys → own < suc n → scan_after (λ t r. scan_in n types t r) s tys (text ++ rest) ≡ Some (vs, rest)
    after_so none n own s [] text rest (after, b, e) t end h lt =
        ap (λ l. scan_after (λ t r. scan_in n types t r) s [] (l ++ rest)) e ∙ rw (no_comma s (after ++ rest)) (ended_so s after rest b end)
    after_so none n own s (ty ∷ tys) text rest (after, b, e) t end h lt =
        ap (λ l. scan_after (λ t r. scan_in n types t r) s (ty ∷ tys) (l ++ rest)) e ∙ rw (no_comma s (after ++ rest)) (rw t (ended_so s after rest b end))
    after_so (more v vs) n own s [] text rest (first, later, p, m, e) t end h lt = absurd (false≢true t)
    after_so (more v vs) n own s (ty ∷ tys) text rest (first, later, p, m, e) t end h lt =
        let q = and_parts (is_of types v ty) (row_are (may_be_shorter s) types vs tys) t in
        let end' = after_ends types s vs later rest m in
        let one = complete v n ty first (later ++ rest) p q.0 end' (let l = All-head (λ k. k < own) ty tys h in omega (arith, l, lt)) in
        let others = after_so vs n own s tys later rest m q.1 end (All-tail (λ k. k < own) ty tys h) lt in
        let whole : text ++ rest ≡ 44 ∷ (first ++ (later ++ rest)) = ap (λ l. l ++ rest) e ∙ ap (λ l. 44 ∷ l) (append_assoc first later rest) in
        ap (scan_after (λ t r. scan_in n types t r) s (ty ∷ tys)) whole ∙ rw one (rw others refl)

  -- a value of some type
  pub value_complete : (v : Val) (first rest : List ℕ) → Spells types first v → IsTyped types v → IsEnd rest → scan_value types (first ++ rest) ≡ Some (v, rest)
  value_complete v first rest s (ty, t) end =
      let l = leads v ty first rest s t end in
      ap (λ k. scan_of types k (first ++ rest)) l.type ∙ complete v (suc ty) ty first rest s t end (omega arith)
