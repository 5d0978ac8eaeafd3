-- A row of values is read one value after the other, and with enough steps in one way.
use Rattle.std.proofs.Common.{◌≡◌, ℕ, zero, suc, ◌+◌, ◌<◌, ◌≤◌, Bool, true, false, cond, List, [], ◌∷◌, length, drop, Option, Some, None, All, refl, sym, ap, subst, ◌∙◌, arith}
use Rattle.std.specs.Prelude.{slice_get}
use Rattle.std.specs.Option.{option_map, option_map_or, option_or}
use Rattle.std.specs.Str.{bytes_eq}
use Rattle.std.proofs.lemmas.List.Elements.{All-head, All-tail, All-nil}
use Rattle.ioa_value.specs.Plain.{Val, Vals, none, more}
use Rattle.ioa_value.specs.Table.{Table, Shape, truths, numbers, names, fields, sequence, shape_at, type_name, bool, int, MayStand, AreTypes}
use Rattle.ioa_value.specs.Tokens.{after_blanks, first_word, after_first}
use Rattle.ioa_value.specs.Scanning.{after_mark, opening, closing, may_be_shorter, row_types, made, ending, early_ending, ended, followed, scan_after, scan_first, scan_row, scan_made, scan_shaped, scan_in, scan_of}
use Rattle.ioa_value.proofs.TableLemmas.{stands}
use Rattle.ioa_value.proofs.PlainLemmas.{put_last}
use Rattle.std.proofs.lemmas.List.{drop_all}
use Rattle.std.proofs.lemmas.Option.{slice_get_within, get_or_from_slice_get}
use Rattle.ioa_value.proofs.ItemLemmas.{drop_item}
use Rattle.ioa_value.proofs.ScanLemmas.{mark_is, mark_there}
use Rattle.ioa_value.proofs.CompleteLemmas.{each_below}

-- ---- values before those that are still to be read

abbrev pub joined_vals : Vals → Vals → Vals
joined_vals none ws = ws
joined_vals (more v vs) ws = more v (joined_vals vs ws)

abbrev pub joined : Vals → Option (Vals × List ℕ) → Option (Vals × List ℕ)
joined vs o = option_map (λ q. (joined_vals vs q.0, q.1)) o

joined_none : (o : Option (Vals × List ℕ)) → joined none o ≡ o
joined_none (Some q) = refl
joined_none None = refl

joined_more : (vs : Vals) (v : Val) (ws : Vals) → joined_vals vs (more v ws) ≡ joined_vals (put_last vs v) ws
joined_more none v ws = refl
joined_more (more u vs) v ws = ap (more u) (joined_more vs v ws)

joined_last : (vs : Vals) (v : Val) (o : Option (Vals × List ℕ)) → joined vs (option_map {U = Vals × List ℕ} (λ q. (more v q.0, q.1)) o) ≡ joined (put_last vs v) o
joined_last vs v (Some q) = ap (λ ws. Some (ws, q.1)) (joined_more vs v q.0)
joined_last vs v None = refl

joined_end : (vs : Vals) → joined_vals vs none ≡ vs
joined_end none = refl
joined_end (more v vs) = ap (more v) (joined_end vs)

pub drop_there : {X : Type 0} (xs : List X) (n : ℕ) (x : X) → slice_get xs n ≡ Some x → drop n xs ≡ x ∷ drop (n + 1) xs
drop_there xs n x e = drop_item xs n x (slice_get_within xs n x e) (sym (get_or_from_slice_get xs n x x e))

drop_past : {X : Type 0} (xs : List X) (n : ℕ) → slice_get xs n ≡ None → drop n xs ≡ []
drop_past xs n e = drop_all n xs (past xs n e)
  where
    past : {Y : Type 0} (ys : List Y) (k : ℕ) → slice_get ys k ≡ None → length ys ≤ k
    past [] k e = omega arith
    past (y ∷ ys) zero e = absurd (cc)
    past (y ∷ ys) (suc k) e = let l = past ys k e in omega (arith, l)

module _ (scan : ℕ → List ℕ → Option (Val × List ℕ)) (s : Shape) where
  pub row_start : (text : List ℕ) → early_ending s (after_blanks text) ≡ None → joined none (scan_first scan s (row_types s) text) ≡ scan_row scan s text
  row_start text e = joined_none (scan_first scan s (row_types s) text) ∙ sym (ap (λ o. option_or o (scan_first scan s (row_types s) text)) e)

  pub no_type : (vs : Vals) (tys : List ℕ) (n : ℕ) (text : List ℕ) → slice_get tys n ≡ None → joined vs (scan_first scan s (drop n tys) text) ≡ None
  no_type vs tys n text e = ap (λ l. joined vs (scan_first scan s l text)) (drop_past tys n e)

  -- the value that comes next, and what follows it
  one_value : (vs : Vals) (tys : List ℕ) (n ty : ℕ) (text : List ℕ) (o : Option (Val × List ℕ)) → slice_get tys n ≡ Some ty → scan ty text ≡ o → joined vs (scan_first scan s (drop n tys) text) ≡ joined vs (followed (λ t. scan_after scan s (drop (n + 1) tys) t) o)
  one_value vs tys n ty text o e f =
      ap (λ l. joined vs (scan_first scan s l text)) (drop_there tys n ty e) ∙ ap (λ x. joined vs (followed (λ t. scan_after scan s (drop (n + 1) tys) t) x)) f

  pub no_value : (vs : Vals) (tys : List ℕ) (n ty : ℕ) (text : List ℕ) → slice_get tys n ≡ Some ty → scan ty text ≡ None → joined vs (scan_first scan s (drop n tys) text) ≡ None
  no_value vs tys n ty text e f = one_value vs tys n ty text None e f

  at_comma : (tys : List ℕ) (text after : List ℕ) → after_mark 44 text ≡ Some after → scan_after scan s tys text ≡ scan_first scan s tys after
  at_comma [] text after m = rw m refl
  at_comma (ty ∷ tys) text after m = rw m refl

  at_end : (tys : List ℕ) (text : List ℕ) → after_mark 44 text ≡ None → scan_after scan s tys text ≡ ended s tys text
  at_end [] text m = rw m refl
  at_end (ty ∷ tys) text m = rw m refl

  pub row_next : (vs : Vals) (tys : List ℕ) (n ty : ℕ) (text : List ℕ) (v : Val) (rest after : List ℕ) → slice_get tys n ≡ Some ty → scan ty text ≡ Some (v, rest) → after_mark 44 rest ≡ Some after
      → joined (put_last vs v) (scan_first scan s (drop (n + 1) tys) after) ≡ joined vs (scan_first scan s (drop n tys) text)
  row_next vs tys n ty text v rest after e f m =
      sym (one_value vs tys n ty text (Some (v, rest)) e f ∙ joined_last vs v (scan_after scan s (drop (n + 1) tys) rest) ∙ ap (joined (put_last vs v)) (at_comma (drop (n + 1) tys) rest after m))

  end_alone : (vs : Vals) (tys : List ℕ) (text : List ℕ) → joined vs (ended s tys text) ≡ option_map {U = Vals × List ℕ} (λ q. (vs, q.1)) (ended s tys text)
  end_alone vs [] text = closed (after_mark (closing s) text)
    where
      closed : (o : Option (List ℕ)) → joined vs (option_map {U = Vals × List ℕ} (λ rest. (none, after_blanks rest)) o) ≡ option_map {U = Vals × List ℕ} (λ q. (vs, q.1)) (option_map {U = Vals × List ℕ} (λ rest. (none, after_blanks rest)) o)
      closed (Some rest) = ap (λ ws. Some (ws, after_blanks rest)) (joined_end vs)
      closed None = refl
  end_alone vs (ty ∷ tys) text = by_shape (may_be_shorter s) (closed (after_mark (closing s) text))
    where
      closed : (o : Option (List ℕ)) → joined vs (option_map {U = Vals × List ℕ} (λ rest. (none, after_blanks rest)) o) ≡ option_map {U = Vals × List ℕ} (λ q. (vs, q.1)) (option_map {U = Vals × List ℕ} (λ rest. (none, after_blanks rest)) o)
      closed (Some rest) = ap (λ ws. Some (ws, after_blanks rest)) (joined_end vs)
      closed None = refl

      by_shape : (b : Bool) → joined vs (ending s text) ≡ option_map {U = Vals × List ℕ} (λ q. (vs, q.1)) (ending s text) → joined vs (cond b (ending s text) None) ≡ option_map {U = Vals × List ℕ} (λ q. (vs, q.1)) (cond b (ending s text) None)
      by_shape true e = e
      by_shape false e = refl

  pub row_end : (vs : Vals) (tys : List ℕ) (n ty : ℕ) (text : List ℕ) (v : Val) (rest : List ℕ) → slice_get tys n ≡ Some ty → scan ty text ≡ Some (v, rest) → after_mark 44 rest ≡ None
      → option_map {U = Vals × List ℕ} (λ q. (put_last vs v, q.1)) (ended s (drop (n + 1) tys) rest) ≡ joined vs (scan_first scan s (drop n tys) text)
  row_end vs tys n ty text v rest e f m =
      sym (one_value vs tys n ty text (Some (v, rest)) e f ∙ joined_last vs v (scan_after scan s (drop (n + 1) tys) rest) ∙ ap (joined (put_last vs v)) (at_end (drop (n + 1) tys) rest m) ∙ end_alone (put_last vs v) (drop (n + 1) tys) rest)

-- ---- readers that agree on earlier types agree

module _ (f g : ℕ → List ℕ → Option (Val × List ℕ)) (s : Shape) (ty : ℕ) (same : (t : ℕ) (text : List ℕ) → t < ty → f t text ≡ g t text) where
  followed_agree : (a b : List ℕ → Option (Vals × List ℕ)) → ((t : List ℕ) → a t ≡ b t) → (o : Option (Val × List ℕ)) → followed a o ≡ followed b o
  followed_agree a b e (Some p) = ap (option_map {U = Vals × List ℕ} (λ q. (more p.0 q.0, q.1))) (e p.1)
  followed_agree a b e None = refl

  after_agree : (tys : List ℕ) (text : List ℕ) → All (λ t. t < ty) tys → scan_after f s tys text ≡ scan_after g s tys text
  after_agree [] text h = refl
  after_agree (t ∷ tys) text h = go (after_mark 44 text) (λ r. after_agree tys r (All-tail (λ t. t < ty) t tys h))
    where
      go : (o : Option (List ℕ)) → ((r : List ℕ) → scan_after f s tys r ≡ scan_after g s tys r) → option_map_or (λ rest. followed (λ r. scan_after f s tys r) (f t rest)) o (early_ending s text) ≡ option_map_or (λ rest. followed (λ r. scan_after g s tys r) (g t rest)) o (early_ending s text)
      go (Some rest) later =
          ap (followed (λ r. scan_after f s tys r)) (same t rest (All-head (λ t. t < ty) t tys h)) ∙ followed_agree (λ r. scan_after f s tys r) (λ r. scan_after g s tys r) later (g t rest)
      go None later = refl

  first_agree : (tys : List ℕ) (text : List ℕ) → All (λ t. t < ty) tys → scan_first f s tys text ≡ scan_first g s tys text
  first_agree [] text h = refl
  first_agree (t ∷ tys) text h =
      ap (followed (λ r. scan_after f s tys r)) (same t text (All-head (λ t. t < ty) t tys h))
      ∙ followed_agree (λ r. scan_after f s tys r) (λ r. scan_after g s tys r) (λ r. after_agree tys r (All-tail (λ t. t < ty) t tys h)) (g t text)

  pub row_agree : (text : List ℕ) → All (λ t. t < ty) (row_types s) → scan_row f s text ≡ scan_row g s text
  row_agree text h = ap (option_or (early_ending s (after_blanks text))) (first_agree (row_types s) text h)

  pub made_agree : (types : Table) (own : ℕ) (text : List ℕ) → All (λ t. t < ty) (row_types s) → scan_made f types own s text ≡ scan_made g types own s text
  made_agree types own text h = by_name (bytes_eq (first_word text) (type_name types own)) (after_mark (opening s) (after_first text))
    where
      by_name : (b : Bool) (o : Option (List ℕ)) → cond b (option_map_or (λ rest. option_map {U = Val × List ℕ} (λ q. (made own s q.0, q.1)) (scan_row f s rest)) o None) None ≡ cond b (option_map_or (λ rest. option_map {U = Val × List ℕ} (λ q. (made own s q.0, q.1)) (scan_row g s rest)) o None) None
      by_name true (Some rest) = ap (option_map {U = Val × List ℕ} (λ q. (made own s q.0, q.1))) (row_agree rest h)
      by_name true None = refl
      by_name false o = refl

module _ (types : Table) (declared : AreTypes types) where
  -- readers that agree on earlier types agree on the type
  shaped_agree : (f g : ℕ → List ℕ → Option (Val × List ℕ)) (ty : ℕ) (text : List ℕ) → ((t : ℕ) (r : List ℕ) → t < ty → f t r ≡ g t r) → scan_shaped f types ty (shape_at types ty) text ≡ scan_shaped g types ty (shape_at types ty) text
  shaped_agree f g ty text same = go (shape_at types ty) refl
    where
      go : (o : Option Shape) → shape_at types ty ≡ o → scan_shaped f types ty o text ≡ scan_shaped g types ty o text
      go (Some truths) at = refl
      go (Some numbers) at = refl
      go (Some (names ns)) at = refl
      go (Some (fields fs)) at = made_agree f g (fields fs) ty same types ty text (stands types ty (fields fs) declared at).2
      go (Some (sequence most of)) at =
          made_agree f g (sequence most of) ty same types ty text (each_below most of ty (stands types ty (sequence most of) declared at).2)
      go None at = refl

  -- enough steps read one value
  enough : (n m t : ℕ) (text : List ℕ) → t < n → t < m → scan_in n types t text ≡ scan_in m types t text
  enough zero m t text a b = absurd (omega arith)
  enough (suc n) zero t text a b = absurd (omega arith)
  enough (suc n) (suc m) t text a b =
      shaped_agree (λ k r. scan_in n types k r) (λ k r. scan_in m types k r) t text (λ k r lt. enough n m k r (omega arith) (omega arith))

  -- what is read of a type, by what is read of earlier ones
  pub unfolded : (ty : ℕ) (text : List ℕ) → scan_of types ty text ≡ scan_shaped (scan_of types) types ty (shape_at types ty) text
  unfolded ty text =
      shaped_agree (λ k r. scan_in ty types k r) (scan_of types) ty text (λ k r lt. enough ty (suc k) k r lt (omega arith))

-- ---- what a text and a row say of one another

pub mark_none : (m : ℕ) (text : List ℕ) → ((rest : List ℕ) → text ≡ m ∷ rest → ⊥) → after_mark m text ≡ None
mark_none m text missing = go (after_mark m text) refl
  where
    go : (o : Option (List ℕ)) → after_mark m text ≡ o → o ≡ None
    go (Some rest) e = absurd (missing rest (mark_is m text rest e))
    go None e = refl

pub mark_some : (m : ℕ) (text rest : List ℕ) → text ≡ m ∷ rest → after_mark m text ≡ Some rest
mark_some m text rest e = ap (after_mark m) e ∙ mark_there m rest

pub one_at : (P : ℕ → Type 0) (xs : List ℕ) (n x : ℕ) → All P xs → slice_get xs n ≡ Some x → P x
one_at P [] n x h e = absurd (cc)
one_at P (y ∷ ys) zero x h e = let same : y ≡ x = cc in subst P same (All-head P y ys h)
one_at P (y ∷ ys) (suc n) x h e = one_at P ys n x (All-tail P y ys h) e

pub row_earlier : (ty : ℕ) (s : Shape) → MayStand ty s → All (λ t. t < ty) (row_types s)
row_earlier ty truths h = All-nil (λ t. t < ty)
row_earlier ty numbers h = All-nil (λ t. t < ty)
row_earlier ty (names ns) h = All-nil (λ t. t < ty)
row_earlier ty (fields fs) h = h.2
row_earlier ty (sequence most of) h = each_below most of ty h.2

pub ended_past : (s : Shape) (tys : List ℕ) (n : ℕ) (text : List ℕ) → slice_get tys n ≡ None → ending s text ≡ ended s (drop n tys) text
ended_past s tys n text e = sym (ap (λ l. ended s l text) (drop_past tys n e))

pub ended_early : (s : Shape) (tys : List ℕ) (n ty : ℕ) (text : List ℕ) → slice_get tys n ≡ Some ty → early_ending s text ≡ ended s (drop n tys) text
ended_early s tys n ty text e = sym (ap (λ l. ended s l text) (drop_there tys n ty e))

pub paired : {R : Type 0} (vs : Vals) (now : R → List ℕ) (o : Option R) → option_map {U = Vals × List ℕ} (λ r. (vs, now r)) o ≡ option_map {U = Vals × List ℕ} (λ q. (vs, q.1)) (option_map {U = Vals × List ℕ} (λ r. (none, now r)) o)
paired vs now (Some r) = refl
paired vs now None = refl

-- of a tuple or a sequence, by what follows its opening mark
pub made_by : (scan : ℕ → List ℕ → Option (Val × List ℕ)) (types : Table) (ty : ℕ) (s : Shape) (text : List ℕ) (o : Option (List ℕ))
    → o ≡ cond (bytes_eq (first_word text) (type_name types ty)) (after_mark (opening s) (after_first text)) None
    → option_map_or (λ rest. option_map {U = Val × List ℕ} (λ q. (made ty s q.0, q.1)) (scan_row scan s rest)) o None ≡ scan_made scan types ty s text
made_by scan types ty s text o e =
    ap (λ x. option_map_or (λ rest. option_map {U = Val × List ℕ} (λ q. (made ty s q.0, q.1)) (scan_row scan s rest)) x None) e ∙ go (bytes_eq (first_word text) (type_name types ty))
  where
    go : (b : Bool) → option_map_or (λ rest. option_map {U = Val × List ℕ} (λ q. (made ty s q.0, q.1)) (scan_row scan s rest)) (cond b (after_mark (opening s) (after_first text)) None) None
        ≡ cond b (option_map_or (λ rest. option_map {U = Val × List ℕ} (λ q. (made ty s q.0, q.1)) (scan_row scan s rest)) (after_mark (opening s) (after_first text)) None) None
    go true = refl
    go false = refl

pub has_bool : (types : Table) → AreTypes types → 0 < length types
has_bool types d = slice_get_within types 0 bool d.first

pub has_int : (types : Table) → AreTypes types → 1 < length types
has_int types d = slice_get_within types 1 int d.second
