-- What a type is, read and spelled: names, fields or a sequence.
use Rattle.std.proofs.Common.{◌≡◌, ℕ, zero, suc, ◌^◌, ◌<◌, ◌≤◌, true, false, List, [], ◌∷◌, ◌++◌, map, refl, sym, ap, ◌∙◌, All, arith}
use Rattle.std.proofs.lemmas.List.{append_assoc, append-nil}
use Rattle.std.proofs.lemmas.List.Elements.{All-nil, All-head, All-tail, All-map}
use Rattle.ioa_value.specs.Actions.{Name}
use Rattle.ioa_value.specs.Names.{IsName}
use Rattle.ioa_value.specs.Table.{TupleField, Shape, truths, numbers, names, fields, sequence, contains, distinct, names_in, field_names, MayStand}
use Rattle.ioa_value.specs.declared.limits.TheConstants.{LIMITS}
use Rattle.ioa_bytes.specs.Items.{list_at, name_at}
use Rattle.ioa_object.specs.Reading.{field_at, sequence_at, form_at}
use Rattle.ioa_object.specs.Spelling.{short, text, list_of, field}
use Rattle.ioa_bytes.specs.Spots.{Spot}
use Rattle.ioa_object.proofs.Formats.{Finds, finds_ok, finds_on, finds_built, yields_ok, yields_on, IsFormat, taken, chained}
use Rattle.ioa_object.proofs.Numbers.{count_format, type_format}
use Rattle.ioa_object.proofs.Texts.{IsFree, name_format}
use Rattle.ioa_object.proofs.Lists.{AreFine, IsListed, Anywhere, all_fine, list_format}
use Rattle.ioa_object.proofs.Fresh.{fine_weaker, fine_both, IsNew, distinct_push, new_name, distinct_new, new_distinct}

-- ---- fields

pub record IsField (count : ℕ) (before : List TupleField) (f : TupleField) : Type 0 where
  pub legal : IsName f.name
  pub new : contains (field_names before) f.name ≡ false
  pub earlier : f.ty < count

pub field_format : (count : ℕ) → count ≤ 2 ^ 16 → (before : List TupleField) → IsFormat (field_at count before) field (IsField count before)
unfolding field_at
field_format count fit before = record {
  finds = λ f h c more e. finds_on _ _ _ _ _ _ ((name_format _).finds f.name (record { legal = h.legal; free = h.new }) c (short f.ty ++ more) (e ∙ append_assoc (text f.name) (short f.ty) more))
      (λ d at. finds_on _ _ _ _ _ _ ((type_format count fit).finds f.ty h.earlier d more at) (λ d at. finds_ok f d more at));
  yields = λ c bytes. yields_on _ _ _ _ ((name_format _).yields c bytes) (λ x d h. yields_on _ _ _ _ ((type_format count fit).yields d h.after) (λ ty e k.
      yields_ok _ e _ (record {
        fine = record { legal = h.fine.legal; new = h.fine.free; earlier = k.fine };
        front = chained c.rest (text x) d.rest (short ty) e.rest h.front k.front;
        after = k.after;
      })));
}

fields_stand : (count : ℕ) (fs : List TupleField) → IsListed 1 LIMITS.fields (IsField count) fs → MayStand count (fields fs)
fields_stand count fs h =
    let legal = all_fine (λ f. IsName f.name) [] fs (fine_weaker (IsField count) (Anywhere (λ f. IsName f.name)) (λ before f k. k.legal) [] fs h.fine) in
    let early = all_fine (λ f. f.ty < count) [] fs (fine_weaker (IsField count) (Anywhere (λ f. f.ty < count)) (λ before f k. k.earlier) [] fs h.fine) in (
      omega (arith, h.some),
      h.few,
      All-map (λ t. t < count) (λ f. f.ty) fs early,
      All-map IsName (λ f. f.name) fs legal,
      new_distinct (λ f. f.name) [] fs refl (fine_weaker (IsField count) (IsNew (λ f. f.name)) (λ before f k. k.new) [] fs h.fine),
    )

mapped_fine : {A B : Type 0} (P : B → Type 0) (f : A → B) (before xs : List A) → All P (map f xs) → AreFine (Anywhere (λ x. P (f x))) before xs
mapped_fine P f before [] h = tt
mapped_fine P f before (x ∷ xs) h = (All-head P (f x) (map f xs) h, mapped_fine P f (before ++ x ∷ []) xs (All-tail P (f x) (map f xs) h))

stand_fields : (count : ℕ) (fs : List TupleField) → MayStand count (fields fs) → IsListed 1 LIMITS.fields (IsField count) fs
stand_fields count fs (some, few, early, legal, new) =
    let Two : List TupleField → TupleField → Type 0 = λ before f. IsName f.name × (f.ty < count) in
    record {
      some = omega arith;
      few = few;
      fine = fine_both Two (IsNew (λ f. f.name)) (IsField count) (λ before f k n. record { legal = k.0; new = n; earlier = k.1 }) [] fs
          (fine_both (Anywhere (λ f. IsName f.name)) (Anywhere (λ f. f.ty < count)) Two (λ before f k l. (k, l)) [] fs (mapped_fine IsName (λ f. f.name) [] fs legal) (mapped_fine (λ t. t < count) (λ f. f.ty) [] fs early))
          (distinct_new (λ f. f.name) [] fs new);
    }

-- ---- what a type is

-- its tag, which Bool and Int have not
abbrev pub tag_of : Shape → ℕ
tag_of truths = 0
tag_of numbers = 0
tag_of (names ns) = 1
tag_of (fields fs) = 2
tag_of (sequence most of) = 3

-- what is spelled of it behind its name
abbrev pub body : Shape → List ℕ
body truths = []
body numbers = []
body (names ns) = list_of text ns
body (fields fs) = list_of field fs
body (sequence most of) = short most ++ short of

-- behind so many types, where these names are taken
pub record IsForm (tag : ℕ) (taken : List Name) (count : ℕ) (s : Shape) : Type 0 where
  pub tagged : tag_of s ≡ tag
  pub stands : MayStand count s
  pub legal : All IsName (names_in s)
  pub new : distinct (taken ++ names_in s) ≡ true

-- a name of an enumeration
abbrev IsConstant : List Name → List Name → Name → Type 0
IsConstant taken before x = IsFree (contains (taken ++ before)) x

constants_new : (taken before ns : List Name) → AreFine (IsConstant taken) before ns → distinct (taken ++ before) ≡ true → distinct (taken ++ (before ++ ns)) ≡ true
constants_new taken before [] h d = ap (λ l. distinct (taken ++ l)) (append-nil before) ∙ d
constants_new taken before (n ∷ ns) h d =
    ap (λ l. distinct (taken ++ l)) (sym (append_assoc before (n ∷ []) ns))
    ∙ constants_new taken (before ++ n ∷ []) ns h.1 (ap distinct (sym (append_assoc taken before (n ∷ []))) ∙ distinct_push (taken ++ before) n d h.0.free)

new_constants : (taken before ns : List Name) → All IsName ns → distinct (taken ++ (before ++ ns)) ≡ true → AreFine (IsConstant taken) before ns
new_constants taken before [] legal d = tt
new_constants taken before (n ∷ ns) legal d = (
  record { legal = All-head IsName n ns legal; free = new_name (taken ++ before) n ns (ap distinct (append_assoc taken before (n ∷ ns)) ∙ d) },
  new_constants taken (before ++ n ∷ []) ns (All-tail IsName n ns legal) (ap (λ l. distinct (taken ++ l)) (append_assoc before (n ∷ []) ns) ∙ d),
)

module _ (taken : List Name) (count : ℕ) (fit : count ≤ 2 ^ 16) (different : distinct taken ≡ true) where
  constants_format : IsFormat (list_at 1 LIMITS.names (λ before. name_at (contains (taken ++ before)))) (list_of text) (IsListed 1 LIMITS.names (IsConstant taken))
  constants_format = list_format _ text (IsConstant taken) (λ n before. Unit {0}) (λ n before h. name_format _) (λ n before x h k. tt) 1 LIMITS.names (omega arith) (λ n less. tt)

  no_more : distinct (taken ++ []) ≡ true
  no_more = ap distinct (append-nil taken) ∙ different

  names_format : IsFormat (form_at 1 taken count) body (IsForm 1 taken count)
  unfolding form_at
  names_format = record {
    finds = finds;
    yields = λ c bytes. yields_on _ _ _ _ (constants_format.yields c bytes) (λ ns d h. yields_ok _ d _ (record {
      fine = record {
        tagged = refl;
        stands = (omega (arith, h.fine.some), h.fine.few);
        legal = all_fine IsName [] ns (fine_weaker (IsConstant taken) (Anywhere IsName) (λ before x k. k.legal) [] ns h.fine.fine);
        new = constants_new taken [] ns h.fine.fine no_more;
      };
      front = h.front;
      after = h.after;
    }));
  }
    where
      finds : (s : Shape) → IsForm 1 taken count s → (c : Spot) (more : List ℕ) → c.rest ≡ body s ++ more → Finds (form_at 1 taken count c) s more
      finds truths h c more e = absurd (omega (arith, h.tagged))
      finds numbers h c more e = absurd (omega (arith, h.tagged))
      finds (names ns) h c more e = finds_built names _ _ _ (constants_format.finds ns (record { some = omega (arith, h.stands.0); few = h.stands.1; fine = new_constants taken [] ns h.legal h.new }) c more e)
      finds (fields fs) h c more e = absurd (omega (arith, h.tagged))
      finds (sequence most of) h c more e = absurd (omega (arith, h.tagged))

  all_fields : IsFormat (list_at 1 LIMITS.fields (field_at count)) (list_of field) (IsListed 1 LIMITS.fields (IsField count))
  all_fields = list_format _ field (IsField count) (λ n before. Unit {0}) (λ n before h. field_format count fit before) (λ n before x h k. tt) 1 LIMITS.fields (omega arith) (λ n less. tt)

  fields_format : IsFormat (form_at 2 taken count) body (IsForm 2 taken count)
  unfolding form_at
  fields_format = record {
    finds = finds;
    yields = λ c bytes. yields_on _ _ _ _ (all_fields.yields c bytes) (λ fs d h. yields_ok _ d _ (record {
      fine = record { tagged = refl; stands = fields_stand count fs h.fine; legal = All-nil IsName; new = no_more };
      front = h.front;
      after = h.after;
    }));
  }
    where
      finds : (s : Shape) → IsForm 2 taken count s → (c : Spot) (more : List ℕ) → c.rest ≡ body s ++ more → Finds (form_at 2 taken count c) s more
      finds truths h c more e = absurd (omega (arith, h.tagged))
      finds numbers h c more e = absurd (omega (arith, h.tagged))
      finds (names ns) h c more e = absurd (omega (arith, h.tagged))
      finds (fields fs) h c more e = finds_built fields _ _ _ (all_fields.finds fs (stand_fields count fs h.stands) c more e)
      finds (sequence most of) h c more e = absurd (omega (arith, h.tagged))

  sequence_format : IsFormat (form_at 3 taken count) body (IsForm 3 taken count)
  unfolding form_at sequence_at
  sequence_format = record {
    finds = finds;
    yields = λ c bytes. yields_on _ _ _ _ ((count_format 1 LIMITS.capacity (omega arith)).yields c bytes) (λ most d h. yields_on _ _ _ _ ((type_format count fit).yields d h.after) (λ of e k.
        yields_ok _ e _ (record {
          fine = record { tagged = refl; stands = (omega (arith, h.fine.low), h.fine.high, k.fine); legal = All-nil IsName; new = no_more };
          front = chained c.rest (short most) d.rest (short of) e.rest h.front k.front;
          after = k.after;
        })));
  }
    where
      finds : (s : Shape) → IsForm 3 taken count s → (c : Spot) (more : List ℕ) → c.rest ≡ body s ++ more → Finds (form_at 3 taken count c) s more
      finds truths h c more e = absurd (omega (arith, h.tagged))
      finds numbers h c more e = absurd (omega (arith, h.tagged))
      finds (names ns) h c more e = absurd (omega (arith, h.tagged))
      finds (fields fs) h c more e = absurd (omega (arith, h.tagged))
      finds (sequence most of) h c more e =
          finds_on _ _ _ _ _ _ ((count_format 1 LIMITS.capacity (omega arith)).finds most (record { low = omega (arith, h.stands.0); high = h.stands.1 }) c (short of ++ more) (e ∙ append_assoc (short most) (short of) more))
          (λ d at. finds_on _ _ _ _ _ _ ((type_format count fit).finds of h.stands.2 d more at) (λ d at. finds_ok _ d more at))

  pub form_format : (tag : ℕ) → 1 ≤ tag → tag ≤ 3 → IsFormat (form_at tag taken count) body (IsForm tag taken count)
  form_format zero low high = absurd (omega arith)
  form_format (suc zero) low high = names_format
  form_format (suc (suc zero)) low high = fields_format
  form_format (suc (suc (suc zero))) low high = sequence_format
  form_format (suc (suc (suc (suc n)))) low high = absurd (omega arith)
