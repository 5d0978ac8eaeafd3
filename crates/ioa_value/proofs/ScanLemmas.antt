-- What is read at the front of a text is a spelling of the value, and each spelling of a value is read.
use Rattle.std.proofs.Common.{◌≡◌, ℕ, zero, suc, Bool, true, false, cond, ◌&&◌, ◌==◌, nat_lt, nat_le, ℤ, List, [], ◌∷◌, ◌++◌, length, get_or, codes, Option, Some, None, refl, sym, ap, ap₂, subst, ◌∙◌, append_assoc, arith}
use Rattle.std.specs.Prelude.{slice_get}
use Rattle.std.specs.Option.{option_map, option_map_or, option_or}
use Rattle.std.specs.Str.{bytes_eq}
use Rattle.std.proofs.lemmas.Bool.Decides.{nat_tests}
use Rattle.std.proofs.lemmas.Slice.Eq.{bytes_eq-Decides}
use Rattle.std.proofs.lemmas.Option.{slice_get_within, get_or_from_slice_get}
use Rattle.ioa_value.specs.Actions.{Name}
use Rattle.ioa_value.specs.Plain.{Val, Vals, truth, num, name, tuple, items, none, more, count}
use Rattle.ioa_value.specs.Table.{Table, Shape, truths, numbers, names, fields, sequence, shape_at, types_of, type_name, constant_named, constant_name, names_in, AreTypes}
use Rattle.ioa_value.specs.Typing.{HasType, is_of, parts_are, items_are, of_fields, of_sequence, is_name_of}
use Rattle.ioa_value.specs.Reads.{IsBlank, Padded, Spells, SpellsRow, SpellsAfter, IsTyped}
use Rattle.ioa_value.specs.Tokens.{after_blanks, first_word, after_first}
use Rattle.ioa_value.specs.Scanning.{truth_in, number_in, constant_in, at_word, after_mark, opening, closing, repeated, row_types, may_be_shorter, made, ending, early_ending, followed, scan_after, scan_first, scan_row, scan_made, scan_shaped, scan_in, leading_type, scan_value}
use Rattle.ioa_value.proofs.SameLemmas.{equal, equal_numbers}
use Rattle.ioa_value.proofs.TokenLemmas.{IsEnd, front, blanks}
use Rattle.ioa_value.proofs.TableLemmas.{stands}
use Rattle.ioa_value.proofs.NumeralLemmas.{number_is}
use Rattle.ioa_value.proofs.NamedLemmas.{constant_at}

-- the text is a spelling of the value, and then the rest
pub record Front (types : Table) (text : List ℕ) (v : Val) (rest : List ℕ) : Type 0 where
  pub first : List ℕ
  pub spells : Spells types first v
  pub whole : text ≡ first ++ rest

-- values of a row: each of the type in its place, perhaps fewer than there are types
abbrev pub row_are : Bool → Table → Vals → List ℕ → Bool
row_are short types none [] = true
row_are short types none (ty ∷ tys) = short
row_are short types (more v vs) [] = false
row_are short types (more v vs) (ty ∷ tys) = is_of types v ty && row_are short types vs tys

row_none : (types : Table) (tys : List ℕ) → row_are true types none tys ≡ true
row_none types [] = refl
row_none types (ty ∷ tys) = refl

pub parts_row : (types : Table) (vs : Vals) (tys : List ℕ) → row_are false types vs tys ≡ parts_are types vs tys
parts_row types none [] = refl
parts_row types none (ty ∷ tys) = refl
parts_row types (more v vs) [] = refl
parts_row types (more v vs) (ty ∷ tys) = ap (λ b. is_of types v ty && b) (parts_row types vs tys)

pub items_row : (types : Table) (vs : Vals) (most of : ℕ) → row_are true types vs (repeated most of) ≡ (nat_le (count vs) most && items_are types vs of)
items_row types none most of = row_none types (repeated most of) ∙ sym (least most)
  where
    none_at_most : (n : ℕ) → nat_le 0 n ≡ true
    none_at_most n = grind (arith, nat_tests)

    least : (n : ℕ) → (nat_le 0 n && true) ≡ true
    least n = rw (none_at_most n) refl
items_row types (more v vs) zero of = rw (none_fits (count vs)) refl
  where
    none_fits : (n : ℕ) → nat_le (suc n) 0 ≡ false
    none_fits n = grind (arith, nat_tests)
items_row types (more v vs) (suc most) of =
    ap (λ b. is_of types v of && b) (items_row types vs most of) ∙ turned (is_of types v of) (nat_le (count vs) most) (items_are types vs of)
    ∙ ap (λ b. b && (is_of types v of && items_are types vs of)) (one_less (count vs) most)
  where
    one_less : (a b : ℕ) → nat_le a b ≡ nat_le (suc a) (suc b)
    one_less a b = grind (arith, nat_tests)

    turned : (a b c : Bool) → (a && (b && c)) ≡ (b && (a && c))
    turned true b c = refl
    turned false true c = refl
    turned false false c = refl

-- ---- marks

pub mark_is : (m : ℕ) (text rest : List ℕ) → after_mark m text ≡ Some rest → text ≡ m ∷ rest
mark_is m [] rest e = absurd (cc)
mark_is m (b ∷ bs) rest e = go (b == m) refl e
  where
    go : (t : Bool) → (b == m) ≡ t → cond t (Some bs) None ≡ Some rest → b ∷ bs ≡ m ∷ rest
    go true s e = let same : bs ≡ rest = cc in ap₂ (λ x xs. x ∷ xs) (equal_numbers b m s) same
    go false s e = absurd (cc)

pub mark_there : (m : ℕ) (rest : List ℕ) → after_mark m (m ∷ rest) ≡ Some rest
mark_there m rest = rw (equal m m refl) refl

pub no_comma : (s : Shape) (rest : List ℕ) → after_mark 44 (closing s ∷ rest) ≡ None
no_comma truths rest = refl
no_comma numbers rest = refl
no_comma (names ns) rest = refl
no_comma (fields fs) rest = refl
no_comma (sequence most of) rest = refl

pub at_closing : (s : Shape) (rest : List ℕ) → IsEnd (closing s ∷ rest)
at_closing truths rest = record { no_blank = refl; no_word = refl; stays = refl }
at_closing numbers rest = record { no_blank = refl; no_word = refl; stays = refl }
at_closing (names ns) rest = record { no_blank = refl; no_word = refl; stays = refl }
at_closing (fields fs) rest = record { no_blank = refl; no_word = refl; stays = refl }
at_closing (sequence most of) rest = record { no_blank = refl; no_word = refl; stays = refl }

pub at_opening : (s : Shape) (rest : List ℕ) → IsEnd (opening s ∷ rest)
at_opening truths rest = record { no_blank = refl; no_word = refl; stays = refl }
at_opening numbers rest = record { no_blank = refl; no_word = refl; stays = refl }
at_opening (names ns) rest = record { no_blank = refl; no_word = refl; stays = refl }
at_opening (fields fs) rest = record { no_blank = refl; no_word = refl; stays = refl }
at_opening (sequence most of) rest = record { no_blank = refl; no_word = refl; stays = refl }

at_comma : (rest : List ℕ) → IsEnd (44 ∷ rest)
at_comma rest = record { no_blank = refl; no_word = refl; stays = refl }

-- before what follows a value there is no word
pub after_ends : (types : Table) (s : Shape) (vs : Vals) (text rest : List ℕ) → SpellsAfter types (closing s) text vs → IsEnd (text ++ rest)
after_ends types s none text rest (after, b, e) = subst IsEnd (sym (ap (λ l. l ++ rest) e)) (at_closing s (after ++ rest))
after_ends types s (more v vs) text rest (first, later, p, m, e) =
    subst IsEnd (sym (ap (λ l. l ++ rest) e)) (at_comma ((first ++ later) ++ rest))

-- ---- what is read is a spelling

module _ (types : Table) (scan : ℕ → List ℕ → Option (Val × List ℕ)) (sound : (ty : ℕ) (text : List ℕ) (v : Val) (rest : List ℕ) → scan ty text ≡ Some (v, rest) → Front types text v rest × HasType types v ty) where
  -- of a row that is read: the text before the rest, and that the values are of the types
  record Rows (Spelled : List ℕ → Vals → Type 0) (s : Shape) (tys : List ℕ) (text : List ℕ) (q : Vals × List ℕ) : Type 0 where
    front : List ℕ
    spells : Spelled front q.0
    whole : text ≡ front ++ q.1
    typed : row_are (may_be_shorter s) types q.0 tys ≡ true

  record Ends (s : Shape) (text : List ℕ) (q : Vals × List ℕ) : Type 0 where
    nothing : q.0 ≡ none
    blank : List ℕ
    is_blank : IsBlank blank
    whole : text ≡ closing s ∷ (blank ++ q.1)

  ending_is : (s : Shape) (text : List ℕ) (q : Vals × List ℕ) → ending s text ≡ Some q → Ends s text q
  ending_is s text q e = go (after_mark (closing s) text) refl e
    where
      go : (o : Option (List ℕ)) → after_mark (closing s) text ≡ o → option_map {U = Vals × List ℕ} (λ rest. (none, after_blanks rest)) o ≡ Some q → Ends s text q
      go (Some rest) m e =
          let same : (none, after_blanks rest) ≡ q = cc in
          let b = blanks rest in
          record {
            nothing = sym (ap (λ p. p.0) same);
            blank = b.0;
            is_blank = b.1;
            whole = mark_is (closing s) text rest m ∙ ap (λ l. closing s ∷ l) (b.2 ∙ ap (λ (p : Vals × List ℕ). b.0 ++ p.1) same);
          }
      go None m e = absurd (cc)

  abbrev After : Shape → List ℕ → List ℕ → Vals × List ℕ → Type 0
  After s tys text q = Rows (λ t vs. SpellsAfter types (closing s) t vs) s tys text q

  ended_is : (s : Shape) (tys : List ℕ) (text : List ℕ) (q : Vals × List ℕ) → row_are (may_be_shorter s) types none tys ≡ true → ending s text ≡ Some q → After s tys text q
  ended_is s tys text q typed e =
      let n = ending_is s text q e in
      record {
        front = closing s ∷ n.blank;
        spells = subst (λ vs. SpellsAfter types (closing s) (closing s ∷ n.blank) vs) (sym n.nothing) (n.blank, n.is_blank, refl);
        whole = n.whole;
        typed = ap (λ vs. row_are (may_be_shorter s) types vs tys) n.nothing ∙ typed;
      }

  early_is : (s : Shape) (text : List ℕ) (q : Vals × List ℕ) → early_ending s text ≡ Some q → (may_be_shorter s ≡ true) × (ending s text ≡ Some q)
  early_is s text q e = go (may_be_shorter s) refl e
    where
      go : (b : Bool) → may_be_shorter s ≡ b → cond b (ending s text) None ≡ Some q → (may_be_shorter s ≡ true) × (ending s text ≡ Some q)
      go true m e = (m, e)
      go false m e = absurd (cc)

  -- a value and its followers
  record Follows (s : Shape) (ty : ℕ) (tys : List ℕ) (text : List ℕ) (q : Vals × List ℕ) : Type 0 where
    v : Val
    vs : Vals
    rest : List ℕ
    is : q.0 ≡ more v vs
    value : Front types text v rest
    of_type : is_of types v ty ≡ true
    others : After s tys rest (vs, q.1)

  followed_is : (s : Shape) (ty : ℕ) (tys : List ℕ) (text : List ℕ) (q : Vals × List ℕ) → ((t : List ℕ) (p : Vals × List ℕ) → scan_after scan s tys t ≡ Some p → After s tys t p) → followed (λ t. scan_after scan s tys t) (scan ty text) ≡ Some q → Follows s ty tys text q
  followed_is s ty tys text q later e = go (scan ty text) refl e
    where
      behind : (v : Val) (rest : List ℕ) → scan ty text ≡ Some (v, rest) → (o : Option (Vals × List ℕ)) → scan_after scan s tys rest ≡ o → option_map {U = Vals × List ℕ} (λ p. (more v p.0, p.1)) o ≡ Some q → Follows s ty tys text q
      behind v rest f (Some p) a e =
          let same : (more v p.0, p.1) ≡ q = cc in
          let one = sound ty text v rest f in
          let r = later rest p a in
          let tail : p.1 ≡ q.1 = ap (λ (x : Vals × List ℕ). x.1) same in
          record {
            v = v;
            vs = p.0;
            rest = rest;
            is = sym (ap (λ (x : Vals × List ℕ). x.0) same);
            value = one.0;
            of_type = one.1;
            others = subst (λ t. After s tys rest (p.0, t)) tail r;
          }
      behind v rest f None a e = absurd (cc)

      go : (o : Option (Val × List ℕ)) → scan ty text ≡ o → followed (λ t. scan_after scan s tys t) o ≡ Some q → Follows s ty tys text q
      go (Some p) f e = behind p.0 p.1 f (scan_after scan s tys p.1) refl e
      go None f e = absurd (cc)

  after_is : (s : Shape) (tys : List ℕ) (text : List ℕ) (q : Vals × List ℕ) → scan_after scan s tys text ≡ Some q → After s tys text q
  after_is s [] text q e = go (after_mark 44 text) refl e
    where
      go : (o : Option (List ℕ)) → after_mark 44 text ≡ o → option_map_or (λ rest. None) o (ending s text) ≡ Some q → After s [] text q
      go (Some rest) m e = absurd (cc)
      go None m e = ended_is s [] text q refl e
  after_is s (ty ∷ tys) text q e = go (after_mark 44 text) refl e (λ t p f. after_is s tys t p f)
    where
      go : (o : Option (List ℕ)) → after_mark 44 text ≡ o → option_map_or (λ rest. followed (λ t. scan_after scan s tys t) (scan ty rest)) o (early_ending s text) ≡ Some q → ((t : List ℕ) (p : Vals × List ℕ) → scan_after scan s tys t ≡ Some p → After s tys t p) → After s (ty ∷ tys) text q
      go (Some rest) m e later =
          let f = followed_is s ty tys rest q later e in
          let n = f.others in
          record {
            front = 44 ∷ (f.value.first ++ n.front);
            spells = subst (λ vs. SpellsAfter types (closing s) (44 ∷ (f.value.first ++ n.front)) vs) (sym f.is) (f.value.first, n.front, f.value.spells, n.spells, refl);
            whole = mark_is 44 text rest m ∙ ap (λ l. 44 ∷ l) (f.value.whole ∙ ap (λ l. f.value.first ++ l) n.whole ∙ sym (append_assoc f.value.first n.front q.1));
            typed = ap (λ vs. row_are (may_be_shorter s) types vs (ty ∷ tys)) f.is ∙ rw f.of_type n.typed;
          }
      go None m e later =
          let p = early_is s text q e in
          ended_is s (ty ∷ tys) text q p.0 p.1

  row_is : (s : Shape) (text : List ℕ) (q : Vals × List ℕ) → scan_row scan s text ≡ Some q → Rows (λ t vs. SpellsRow types (closing s) t vs) s (row_types s) text q
  row_is s text q e = go (early_ending s (after_blanks text)) refl e
    where
      one : (tys : List ℕ) → scan_first scan s tys text ≡ Some q → Rows (λ t vs. SpellsRow types (closing s) t vs) s tys text q
      one [] e = absurd (cc)
      one (ty ∷ tys) e =
          let f = followed_is s ty tys text q (λ t p g. after_is s tys t p g) e in
          let n = f.others in
          record {
            front = f.value.first ++ n.front;
            spells = subst (λ vs. SpellsRow types (closing s) (f.value.first ++ n.front) vs) (sym f.is) (f.value.first, n.front, f.value.spells, n.spells, refl);
            whole = f.value.whole ∙ ap (λ l. f.value.first ++ l) n.whole ∙ sym (append_assoc f.value.first n.front q.1);
            typed = ap (λ vs. row_are (may_be_shorter s) types vs (ty ∷ tys)) f.is ∙ rw f.of_type n.typed;
          }

      go : (o : Option (Vals × List ℕ)) → early_ending s (after_blanks text) ≡ o → option_or o (scan_first scan s (row_types s) text) ≡ Some q → Rows (λ t vs. SpellsRow types (closing s) t vs) s (row_types s) text q
      go (Some p) m e =
          let same : p ≡ q = cc in
          let k = early_is s (after_blanks text) q (m ∙ ap Some same) in
          let n = ending_is s (after_blanks text) q k.1 in
          let b = blanks text in
          record {
            front = b.0 ++ closing s ∷ n.blank;
            spells = subst (λ vs. SpellsRow types (closing s) (b.0 ++ closing s ∷ n.blank) vs) (sym n.nothing) (b.0, n.blank, b.1, n.is_blank, refl);
            whole = b.2 ∙ ap (λ l. b.0 ++ l) n.whole ∙ sym (append_assoc b.0 (closing s ∷ n.blank) q.1);
            typed = ap (λ vs. row_are (may_be_shorter s) types vs (row_types s)) n.nothing ∙ ap (λ b. row_are b types none (row_types s)) k.0 ∙ row_none types (row_types s);
          }
      go None m e = one (row_types s) e

  -- a tuple or a sequence
  record Made (s : Shape) (ty : ℕ) (text : List ℕ) (v : Val) (rest : List ℕ) : Type 0 where
    vs : Vals
    is : v ≡ made ty s vs
    head : List ℕ
    row : List ℕ
    named : Padded (type_name types ty) head
    spells : SpellsRow types (closing s) row vs
    whole : text ≡ (head ++ opening s ∷ row) ++ rest
    typed : row_are (may_be_shorter s) types vs (row_types s) ≡ true

  made_is : (s : Shape) (ty : ℕ) (text : List ℕ) (v : Val) (rest : List ℕ) → scan_made scan types ty s text ≡ Some (v, rest) → Made s ty text v rest
  made_is s ty text v rest e = by_name (bytes_eq (first_word text) (type_name types ty)) refl e
    where
      by_row : (inner : List ℕ) → first_word text ≡ type_name types ty → after_mark (opening s) (after_first text) ≡ Some inner → (o : Option (Vals × List ℕ)) → scan_row scan s inner ≡ o → option_map {U = Val × List ℕ} (λ q. (made ty s q.0, q.1)) o ≡ Some (v, rest) → Made s ty text v rest
      by_row inner n m (Some q) r e =
          let same : (made ty s q.0, q.1) ≡ (v, rest) = cc in
          let row = row_is s inner q r in
          let f = front text in
          let tail : q.1 ≡ rest = ap (λ (p : Val × List ℕ). p.1) same in
          let behind : after_first text ≡ opening s ∷ (row.front ++ rest) = mark_is (opening s) (after_first text) inner m ∙ ap (λ l. opening s ∷ l) (row.whole ∙ ap (λ l. row.front ++ l) tail) in
          record {
            vs = q.0;
            is = sym (ap (λ (p : Val × List ℕ). p.0) same);
            head = f.0;
            row = row.front;
            named = subst (λ w. Padded w f.0) n f.1;
            spells = row.spells;
            whole = f.2 ∙ ap (λ l. f.0 ++ l) behind ∙ sym (append_assoc f.0 (opening s ∷ row.front) rest);
            typed = row.typed;
          }
      by_row inner n m None r e = absurd (cc)

      by_mark : (o : Option (List ℕ)) → first_word text ≡ type_name types ty → after_mark (opening s) (after_first text) ≡ o → option_map_or (λ inner. option_map {U = Val × List ℕ} (λ q. (made ty s q.0, q.1)) (scan_row scan s inner)) o None ≡ Some (v, rest) → Made s ty text v rest
      by_mark (Some inner) n m e = by_row inner n m (scan_row scan s inner) refl e
      by_mark None n m e = absurd (cc)

      by_name : (b : Bool) → bytes_eq (first_word text) (type_name types ty) ≡ b → cond b (option_map_or (λ inner. option_map {U = Val × List ℕ} (λ q. (made ty s q.0, q.1)) (scan_row scan s inner)) (after_mark (opening s) (after_first text)) None) None ≡ Some (v, rest) → Made s ty text v rest
      by_name true t e = by_mark (after_mark (opening s) (after_first text)) ((bytes_eq-Decides (first_word text) (type_name types ty)).0 t) refl e
      by_name false t e = absurd (cc)

-- ---- in tables of types

-- the first word is read, and with it what follows
record Word (text : List ℕ) (o : Option Val) (v : Val) (rest : List ℕ) : Type 0 where
  value : o ≡ Some v
  behind : after_first text ≡ rest

word_is : (text : List ℕ) (o : Option Val) (v : Val) (rest : List ℕ) → at_word text o ≡ Some (v, rest) → Word text o v rest
word_is text (Some u) v rest e =
    let same : (u, after_first text) ≡ (v, rest) = cc in
    record { value = ap Some (ap (λ (p : Val × List ℕ). p.0) same); behind = ap (λ (p : Val × List ℕ). p.1) same }
word_is text None v rest e = absurd (cc)

word_front : (types : Table) (text : List ℕ) (v : Val) (rest : List ℕ) → after_first text ≡ rest → ((first : List ℕ) → Padded (first_word text) first → Spells types first v) → Front types text v rest
word_front types text v rest r spells =
    let f = front text in
    record { first = f.0; spells = spells f.0 f.1; whole = f.2 ∙ ap (λ l. f.0 ++ l) r }

truth_is : (types : Table) (w : List ℕ) (v : Val) → truth_in w ≡ Some v → ((first : List ℕ) → Padded w first → Spells types first v) × (is_of types v 0 ≡ true)
truth_is types w v e = go (bytes_eq w (codes "true")) refl (bytes_eq w (codes "false")) refl e
  where
    go : (a : Bool) → bytes_eq w (codes "true") ≡ a → (b : Bool) → bytes_eq w (codes "false") ≡ b → cond a (Some (truth true)) (cond b (Some (truth false)) None) ≡ Some v → ((first : List ℕ) → Padded w first → Spells types first v) × (is_of types v 0 ≡ true)
    go true t b f e =
        let same : truth true ≡ v = cc in
        let word = (bytes_eq-Decides w (codes "true")).0 t in
        (λ first p. subst (Spells types first) same (subst (λ x. Padded x first) word p), subst (λ x. is_of types x 0 ≡ true) same refl)
    go false t true f e =
        let same : truth false ≡ v = cc in
        let word = (bytes_eq-Decides w (codes "false")).0 f in
        (λ first p. subst (Spells types first) same (subst (λ x. Padded x first) word p), subst (λ x. is_of types x 0 ≡ true) same refl)
    go false t false f e = absurd (cc)

module _ (types : Table) (declared : AreTypes types) where
  number_value : (w : List ℕ) (v : Val) → option_map num (number_in w) ≡ Some v → ((first : List ℕ) → Padded w first → Spells types first v) × (is_of types v 1 ≡ true)
  number_value w v e = go (number_in w) refl e
    where
      go : (o : Option ℤ) → number_in w ≡ o → option_map num o ≡ Some v → ((first : List ℕ) → Padded w first → Spells types first v) × (is_of types v 1 ≡ true)
      go (Some z) n e =
          let same : num z ≡ v = cc in
          let k = number_is w z n in
          (λ first p. subst (Spells types first) same (w, k.0, p), subst (λ x. is_of types x 1 ≡ true) same (rw k.1 refl))
      go None n e = absurd (cc)

  constant_value : (w : List ℕ) (ty : ℕ) (ns : List Name) (v : Val) → shape_at types ty ≡ Some (names ns) → constant_in types ty w ≡ Some v → ((first : List ℕ) → Padded w first → Spells types first v) × (is_of types v ty ≡ true)
  constant_value w ty ns v at e = go (constant_named types w) refl e
    where
      here : (p : ℕ × ℕ) → constant_named types w ≡ Some p → (b : Bool) → (p.0 == ty) ≡ b → cond b (Some (name ty p.1)) None ≡ Some v → ((first : List ℕ) → Padded w first → Spells types first v) × (is_of types v ty ≡ true)
      here p n true t e =
          let same : name ty p.1 ≡ v = cc in
          let c = constant_at types declared w p n in
          let k : p.0 ≡ ty = equal_numbers p.0 ty t in
          let shape : Some c.d.shape ≡ Some (names ns) = sym (ap (option_map (λ d. d.shape)) (sym (ap (slice_get types) k) ∙ c.there)) ∙ at in
          let shape' : c.d.shape ≡ names ns = cc in
          let item : slice_get ns p.1 ≡ Some w = ap (λ s. slice_get (names_in s) p.1) (sym shape') ∙ c.item in
          let text : constant_name types ty p.1 ≡ w = ap (λ o. get_or (option_map_or names_in o []) p.1 []) at ∙ get_or_from_slice_get ns p.1 w [] item in
          let few : nat_lt p.1 (length ns) ≡ true = (let lt = slice_get_within ns p.1 w item in grind (arith, nat_tests)) in
          let typed : is_of types (name ty p.1) ty ≡ true = rw (equal ty ty refl) (ap (λ o. is_name_of o p.1) at ∙ few) in
          (λ first q. subst (Spells types first) same (subst (λ x. Padded x first) (sym text) q), subst (λ x. is_of types x ty ≡ true) same typed)
      here p n false t e = absurd (cc)

      go : (o : Option (ℕ × ℕ)) → constant_named types w ≡ o → option_map_or (λ p. cond (p.0 == ty) (Some (name ty p.1)) None) o None ≡ Some v → ((first : List ℕ) → Padded w first → Spells types first v) × (is_of types v ty ≡ true)
      go (Some p) n e = here p n (p.0 == ty) refl e
      go None n e = absurd (cc)

  pub scanned : (n ty : ℕ) (text : List ℕ) (v : Val) (rest : List ℕ) → scan_in n types ty text ≡ Some (v, rest) → Front types text v rest × HasType types v ty
  scanned zero ty text v rest e = absurd (cc)
  scanned (suc n) ty text v rest e = go (shape_at types ty) refl e (λ t r u s f. scanned n t r u s f)
    where
      go : (o : Option Shape) → shape_at types ty ≡ o → scan_shaped (λ t r. scan_in n types t r) types ty o text ≡ Some (v, rest)
          → ((t : ℕ) (r : List ℕ) (u : Val) (s : List ℕ) → scan_in n types t r ≡ Some (u, s) → Front types r u s × HasType types u t) → Front types text v rest × HasType types v ty
      go (Some truths) at e sound =
          let w = word_is text (truth_in (first_word text)) v rest e in
          let t = truth_is types (first_word text) v w.value in
          let k : ty ≡ 0 = stands types ty truths declared at in
          (word_front types text v rest w.behind t.0, subst (λ x. is_of types v x ≡ true) (sym k) t.1)
      go (Some numbers) at e sound =
          let w = word_is text (option_map num (number_in (first_word text))) v rest e in
          let t = number_value (first_word text) v w.value in
          let k : ty ≡ 1 = stands types ty numbers declared at in
          (word_front types text v rest w.behind t.0, subst (λ x. is_of types v x ≡ true) (sym k) t.1)
      go (Some (names ns)) at e sound =
          let w = word_is text (constant_in types ty (first_word text)) v rest e in
          let t = constant_value (first_word text) ty ns v at w.value in
          (word_front types text v rest w.behind t.0, t.1)
      go (Some (fields fs)) at e sound =
          let m = made_is types (λ t r. scan_in n types t r) sound (fields fs) ty text v rest e in
          let typed : is_of types (tuple ty m.vs) ty ≡ true =
          rw (equal ty ty refl) (ap (λ o. of_fields o (λ tys. parts_are types m.vs tys)) at ∙ sym (parts_row types m.vs (types_of fs)) ∙ m.typed) in (
            record { first = m.head ++ 40 ∷ m.row; spells = subst (Spells types (m.head ++ 40 ∷ m.row)) (sym m.is) (m.head, m.row, m.named, m.spells, refl); whole = m.whole },
            subst (λ x. is_of types x ty ≡ true) (sym m.is) typed,
          )
      go (Some (sequence most of)) at e sound =
          let m = made_is types (λ t r. scan_in n types t r) sound (sequence most of) ty text v rest e in
          let typed : is_of types (items ty m.vs) ty ≡ true =
          rw (equal ty ty refl) (ap (λ o. of_sequence o (λ k t. nat_le (count m.vs) k && items_are types m.vs t)) at ∙ sym (items_row types m.vs most of) ∙ m.typed) in (
            record { first = m.head ++ 91 ∷ m.row; spells = subst (Spells types (m.head ++ 91 ∷ m.row)) (sym m.is) (m.head, m.row, m.named, m.spells, refl); whole = m.whole },
            subst (λ x. is_of types x ty ≡ true) (sym m.is) typed,
          )
      go None at e sound = absurd (cc)

  -- of a value at the front of a text, whatever its type
  pub value_scanned : (text : List ℕ) (v : Val) (rest : List ℕ) → scan_value types text ≡ Some (v, rest) → Front types text v rest × IsTyped types v
  value_scanned text v rest e =
      let ty = leading_type types (first_word text) in
      let s = scanned (suc ty) ty text v rest e in
      (s.0, (ty, s.1))
