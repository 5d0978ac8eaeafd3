-- Types, read and spelled, one behind the other.
use Rattle.std.proofs.Common.{◌≡◌, ℕ, suc, ◌+◌, ◌<◌, ◌≤◌, Bool, true, false, ◌&&◌, nat_le, IsTrue, List, [], ◌∷◌, ◌++◌, length, Some, refl, sym, ap, ◌∙◌, subst, All, arith}
use Rattle.std.specs.Prelude.{slice_get}
use Rattle.std.specs.List.{list_all, flat_map}
use Rattle.std.proofs.lemmas.Bool.{le-leb, leb-true, and_parts, and_from}
use Rattle.std.proofs.lemmas.List.{append_assoc, append-nil, length-append}
use Rattle.std.proofs.lemmas.List.Elements.{All-nil, All-cons, All-head, All-tail}
use Rattle.std.proofs.lemmas.Grind.{flat_map-append}
use Rattle.ioa_value.specs.Actions.{Name}
use Rattle.ioa_value.specs.Names.{IsName}
use Rattle.ioa_value.specs.Table.{Table, Shape, truths, numbers, names, fields, sequence, Declaration, basic, contains, distinct, apart, names_in, given_names, all_names, MayStand, MayFollow, AreTypes}
use Rattle.ioa_value.specs.Widths.{shape_width, widths}
use Rattle.ioa_value.specs.declared.limits.TheConstants.{LIMITS}
use Rattle.ioa_value.proofs.NameLemmas.{distinct-append}
use Rattle.ioa_value.proofs.TableLemmas.{pushed, basic_types}
use Rattle.ioa_tree.proofs.WidthLemmas.{narrow_there}
use Rattle.ioa_object.specs.Reading.{form_at, declaration_at, types_at}
use Rattle.ioa_object.specs.Spelling.{short, text, list_of, form, declaration, declared}
use Rattle.ioa_bytes.specs.Spots.{Spot}
use Rattle.ioa_object.proofs.Formats.{AreBytes, Finds, finds_ok, finds_on, finds_right, Yields, yields_ok, yields_on, yields_right, yields_weaker, Taken, IsFormat, chained}
use Rattle.ioa_object.proofs.Numbers.{byte_format, count_format}
use Rattle.ioa_object.proofs.Texts.{name_format}
use Rattle.ioa_object.proofs.Lists.{AreFine, items_find, items_yield}
use Rattle.ioa_object.proofs.Fresh.{distinct_push, new_name}
use Rattle.ioa_object.proofs.Forms.{tag_of, body, IsForm, form_format}

-- a declaration is a tag, a name and what the type is
declaration_is : (x : Name) (s : Shape) → 1 ≤ tag_of s → form x s ≡ tag_of s ∷ (text x ++ body s)
declaration_is x truths h = absurd (omega arith)
declaration_is x numbers h = absurd (omega arith)
declaration_is x (names ns) h = refl
declaration_is x (fields fs) h = refl
declaration_is x (sequence most of) h = refl

-- what stands behind Bool and Int has a tag
tagged : (count : ℕ) (s : Shape) → 2 ≤ count → MayStand count s → (1 ≤ tag_of s) × (tag_of s ≤ 3)
tagged count truths h k = absurd (omega arith)
tagged count numbers h k = absurd (omega arith)
tagged count (names ns) h k = (omega arith, omega arith)
tagged count (fields fs) h k = (omega arith, omega arith)
tagged count (sequence most of) h k = (omega arith, omega arith)

pub two_types : (types : Table) → AreTypes types → 2 ≤ length types
two_types [] h = let e = h.first in absurd (cc)
two_types (d ∷ []) h = let e = h.second in absurd (cc)
two_types (d ∷ e ∷ ds) h = omega arith

-- the names of a declaration, behind those of others, are the type's and those of an enumeration
names_behind : (types : Table) (d : Declaration) → all_names types ++ given_names d ≡ (all_names types ++ d.name ∷ []) ++ names_in d.shape
names_behind types d = sym (append_assoc (all_names types) (d.name ∷ []) (names_in d.shape))

given_new : (types : Table) (d : Declaration) → distinct (all_names types) ≡ true → IsTrue (distinct (given_names d) && apart (given_names d) (all_names types))
    → distinct (all_names types ++ given_names d) ≡ true
given_new types d different new = distinct-append (all_names types) (given_names d) ∙ rw (different, new) refl

new_given : (types : Table) (d : Declaration) → distinct (all_names types ++ given_names d) ≡ true → IsTrue (distinct (given_names d) && apart (given_names d) (all_names types))
new_given types d h = (and_parts (distinct (all_names types)) (distinct (given_names d) && apart (given_names d) (all_names types)) (sym (distinct-append (all_names types) (given_names d)) ∙ h)).1

first_new : (ns : List Name) (n : Name) (ms : List Name) → distinct (ns ++ n ∷ ms) ≡ true → contains ns n ≡ false
first_new ns n ms d = new_name ns n ms d

module _ (types : Table) (are : AreTypes types) (room : length types < 2 + LIMITS.types) where
  taken_names : Name → List Name
  taken_names x = all_names types ++ x ∷ []

  pub declaration_format : IsFormat (declaration_at types) declaration (MayFollow types)
  unfolding declaration_at taken_names
  declaration_format = record { finds = finds; yields = yields }
    where
      formed : (x : Name) → contains (all_names types) x ≡ false → (tag : ℕ) → 1 ≤ tag → tag ≤ 3 → IsFormat (form_at tag (taken_names x) (length types)) body (IsForm tag (taken_names x) (length types))
      formed x free = form_format (taken_names x) (length types) (omega (arith, are.few)) (distinct_push (all_names types) x are.different free)

      finds : (d : Declaration) → MayFollow types d → (c : Spot) (more : List ℕ) → c.rest ≡ declaration d ++ more → Finds (declaration_at types c) d more
      finds d h c more e =
          let x = d.name in
          let s = d.shape in
          let tag = tagged (length types) s (two_types types are) h.stands in
          let all : distinct (all_names types ++ given_names d) ≡ true = given_new types d are.different h.new in
          let free : contains (all_names types) x ≡ false = first_new (all_names types) x (names_in s) all in
          finds_on _ _ _ _ _ _ (byte_format.finds (tag_of s) tt c ((text x ++ body s) ++ more) (e ∙ ap (λ l. l ++ more) (declaration_is x s tag.0)))
          (λ d1 at. finds_right _ _ _ _ _ (and_from _ _ (le-leb 1 (tag_of s) tag.0) (le-leb (tag_of s) 3 tag.1))
          (finds_on _ _ _ _ _ _ ((name_format _).finds x (record { legal = All-head IsName x (names_in s) h.legal; free = free }) d1 (body s ++ more) (at ∙ append_assoc (text x) (body s) more))
          (λ d2 at. finds_on _ _ _ _ _ _ ((formed x free (tag_of s) tag.0 tag.1).finds s (record {
            tagged = refl;
            stands = h.stands;
            legal = All-tail IsName x (names_in s) h.legal;
            new = ap distinct (sym (names_behind types d)) ∙ all;
          }) d2 more at)
          (λ d3 at. finds_right _ _ _ _ _ (le-leb _ _ h.narrow) (finds_ok d d3 more at)))))

      yields : (c : Spot) → AreBytes c.rest → Yields (declaration_at types c) (Taken declaration (MayFollow types) c.rest)
      yields c bytes =
          yields_on _ _ _ _ (byte_format.yields c bytes) (λ tag d1 h. yields_right (nat_le 1 tag && nat_le tag 3) _ _ _ (λ range.
          let low = leb-true 1 tag (and_parts (nat_le 1 tag) (nat_le tag 3) range).0 in
          let high = leb-true tag 3 (and_parts (nat_le 1 tag) (nat_le tag 3) range).1 in
          yields_on _ _ _ _ ((name_format _).yields d1 h.after) (λ x d2 k.
          yields_on _ _ _ _ ((formed x k.fine.free tag low high).yields d2 k.after) (λ s d3 l. yields_right (nat_le (shape_width (widths types) s) LIMITS.words) _ _ _ (λ narrow.
          let d : Declaration = record { name = x; shape = s } in
          let all : distinct (all_names types ++ given_names d) ≡ true = ap distinct (names_behind types d) ∙ l.fine.new in
          yields_ok d d3 _ (record {
            fine = record {
              room = room;
              stands = l.fine.stands;
              legal = All-cons IsName x (names_in s) k.fine.legal l.fine.legal;
              new = new_given types d all;
              narrow = leb-true _ _ narrow;
            };
            front = chained c.rest (tag ∷ []) d1.rest (text x ++ body s) d3.rest h.front (chained d1.rest (text x) d2.rest (body s) d3.rest k.front l.front)
                ∙ ap (λ t. t ∷ ((text x ++ body s) ++ d3.rest)) (sym l.fine.tagged)
                ∙ ap (λ b. b ++ d3.rest) (sym (declaration_is x s (omega (arith, l.fine.tagged))));
            after = l.after;
          }))))))

-- ---- all types

all_list : {A : Type 0} (P : A → Type 0) (p : A → Bool) → ((x : A) → P x → p x ≡ true) → (xs : List A) → All P xs → list_all p xs ≡ true
all_list P p f [] h = refl
all_list P p f (x ∷ xs) h = and_from (p x) (list_all p xs) (f x (All-head P x xs h)) (all_list P p f xs (All-tail P x xs h))

pub all_behind : {A : Type 0} (P : A → Type 0) (xs ys : List A) → All P (xs ++ ys) → All P ys
all_behind P [] ys h = h
all_behind P (x ∷ xs) ys h = all_behind P xs ys (All-tail P x (xs ++ ys) h)

pub all_before : {A : Type 0} (P : A → Type 0) (xs ys : List A) → All P (xs ++ ys) → All P xs
all_before P [] ys h = All-nil P
all_before P (x ∷ xs) ys h = All-cons P x xs (All-head P x (xs ++ ys) h) (all_before P xs ys (All-tail P x (xs ++ ys) h))

there : {A : Type 0} (xs : List A) (x : A) (ys : List A) → slice_get (xs ++ x ∷ ys) (length xs) ≡ Some x
there [] x ys = refl
there (y ∷ xs) x ys = there xs x ys

-- a type in a table may follow those before it
follows : (types : Table) (d : Declaration) (more : Table) → AreTypes (types ++ d ∷ more) → MayFollow types d
follows types d more are =
    let names : all_names (types ++ d ∷ more) ≡ all_names types ++ (given_names d ++ all_names more) = flat_map-append given_names types (d ∷ more) in
    let all : distinct ((all_names types ++ given_names d) ++ all_names more) ≡ true = ap distinct (append_assoc (all_names types) (given_names d) (all_names more) ∙ sym names) ∙ are.different in
    record {
      room = omega (arith, are.few, length-append types (d ∷ more));
      stands = are.each (length types) d (there types d more);
      legal = all_before IsName (given_names d) (all_names more) (all_behind IsName (all_names types) (given_names d ++ all_names more) (subst (All IsName) names are.legal));
      new = new_given types d (and_parts (distinct (all_names types ++ given_names d)) _ (sym (distinct-append (all_names types ++ given_names d) (all_names more)) ∙ all)).0;
      narrow = leb-true _ _ (narrow_there (λ w. nat_le w LIMITS.words) types d more
          (ap (λ l. list_all (λ w. nat_le w LIMITS.words) (widths l)) (append_assoc types (d ∷ []) more) ∙ all_list (λ w. w ≤ LIMITS.words) (λ w. nat_le w LIMITS.words) (λ w h. le-leb w LIMITS.words h) (widths (types ++ d ∷ more)) are.narrow));
    }

-- each of the types that come may follow those before it
all_follow : (before ds : Table) → AreTypes before → AreTypes (before ++ ds) → AreFine MayFollow before ds
all_follow before [] are all = tt
all_follow before (d ∷ ds) are all =
    let h = follows before d ds all in
    (h, all_follow (before ++ d ∷ []) ds (pushed before d are h) (subst AreTypes (sym (append_assoc before (d ∷ []) ds)) all))

are_pushed : (before ds : Table) → AreTypes before → AreFine MayFollow before ds → AreTypes (before ++ ds)
are_pushed before [] are h = subst AreTypes (sym (append-nil before)) are
are_pushed before (d ∷ ds) are h = subst AreTypes (append_assoc before (d ∷ []) ds) (are_pushed (before ++ d ∷ []) ds (pushed before d are h.0) h.1)

-- there is room for so many types more
pub record HaveRoom (n : ℕ) (types : Table) : Type 0 where
  pub are : AreTypes types
  pub room : length types + n ≤ 2 + LIMITS.types

basic_first : (types : Table) → AreTypes types → types ≡ basic ++ declared types
basic_first [] h = let e = h.first in absurd (cc)
basic_first (d ∷ []) h = let e = h.second in absurd (cc)
basic_first (d ∷ e ∷ ds) h = let one = h.first in let two = h.second in cc

pub types_format : IsFormat types_at (λ types. list_of declaration (declared types)) AreTypes
unfolding types_at
types_format = record { finds = finds; yields = yields }
  where
    each : (n : ℕ) (before : Table) → HaveRoom (suc n) before → IsFormat (declaration_at before) declaration (MayFollow before)
    each n before h = declaration_format before h.are (omega (arith, h.room))

    next : (n : ℕ) (before : Table) (d : Declaration) → HaveRoom (suc n) before → MayFollow before d → HaveRoom n (before ++ d ∷ [])
    next n before d h k = record { are = pushed before d h.are k; room = omega (arith, h.room, length-append before (d ∷ [])) }

    finds : (types : Table) → AreTypes types → (c : Spot) (more : List ℕ) → c.rest ≡ list_of declaration (declared types) ++ more → Finds (types_at c) types more
    finds types are c more e =
        let ds = declared types in
        let is = basic_first types are in
        let counted : length types ≡ length (basic ++ ds) = ap length is in
        let long : length types ≡ 2 + length ds = omega arith in
        let fine : AreFine MayFollow basic ds = all_follow basic ds basic_types (subst AreTypes is are) in
        subst (λ (ts : Table). Finds (types_at c) ts more) (sym is)
        (finds_on _ _ _ _ _ _ ((count_format 0 LIMITS.types (omega arith)).finds (length ds) (record { low = omega arith; high = omega (arith, long, are.few) }) c (flat_map declaration ds ++ more) (e ∙ append_assoc (short (length ds)) (flat_map declaration ds) more))
        (λ d at. items_find declaration_at declaration MayFollow HaveRoom each next (length ds) basic ds refl (record { are = basic_types; room = omega (arith, long, are.few) }) fine d more at))

    yields : (c : Spot) → AreBytes c.rest → Yields (types_at c) (Taken (λ types. list_of declaration (declared types)) AreTypes c.rest)
    yields c bytes =
        yields_on _ _ _ _ ((count_format 0 LIMITS.types (omega arith)).yields c bytes) (λ n d t.
        yields_weaker _ _ _ (items_yield declaration_at declaration MayFollow HaveRoom each next n basic (record { are = basic_types; room = omega (arith, t.fine.high) }) d t.after) (λ all rest b.
        let same : declared all ≡ b.found = ap declared b.is in
        let long : length (declared all) ≡ n = ap length same ∙ b.long in
        record {
          fine = subst AreTypes (sym b.is) (are_pushed basic b.found basic_types b.fine);
          front = chained c.rest (short (length (declared all))) d.rest (flat_map declaration (declared all)) rest (t.front ∙ ap (λ m. short m ++ d.rest) (sym long)) (b.front ∙ ap (λ xs. flat_map declaration xs ++ rest) (sym same));
          after = b.after;
        }))
