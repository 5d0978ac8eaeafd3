-- The tables of a program, read and spelled: what is read is right, and what is right is read.
use Rattle.std.proofs.Common.{All, ◌≡◌, ℕ, zero, suc, Bool, ◌<◌, ◌≤◌, true, false, not, ◌&&◌, ◌||◌, List, [], ◌∷◌, ◌++◌, length, map, Some, refl, sym, ap, ◌∙◌, subst, arith}
use Rattle.std.specs.Prelude.{slice_get}
use Rattle.std.specs.List.{list_any, list_all}
use Rattle.std.specs.Str.{bytes_eq}
use Rattle.std.proofs.lemmas.Bool.{and_parts, and_from, or_parts, or_from, not-true, not-false, not_from_true, not_from_false}
use Rattle.std.proofs.lemmas.List.{append_assoc, map-id}
use Rattle.ioa_value.specs.Actions.{Name}
use Rattle.ioa_value.specs.Names.{IsName}
use Rattle.ioa_value.specs.Table.{Table, AreTypes, contains, distinct, all_names}
use Rattle.ioa_value.specs.declared.limits.TheConstants.{LIMITS}
use Rattle.ioa_value.proofs.ItemLemmas.{some_at}
use Rattle.ioa_value.proofs.NameLemmas.{same_name}
use Rattle.ioa_tree.specs.Components.{is_output}
use Rattle.ioa_compile.specs.Programs.{EntryCode, MemberCode, Prog}
use Rattle.ioa_compile.specs.Tables.{IsEntry, AreEntries, IsMember, AreMembers, have_output, AreRight}
use Rattle.ioa_bytes.specs.Items.{list_at}
use Rattle.ioa_object.specs.Reading.{component_at, hidden_at, tables_at}
use Rattle.ioa_object.specs.Spelling.{text, list_of, declaration, declared, component, tables}
use Rattle.ioa_bytes.specs.Spots.{Spot}
use Rattle.ioa_object.specs.Versions.{MayStand, member_loops, loops_in}
use Rattle.ioa_object.proofs.Formats.{AreBytes, Finds, finds_ok, finds_on, Yields, yields_ok, yields_on, Taken, IsFormat, same_format, chained}
use Rattle.ioa_object.proofs.Texts.{name_format}
use Rattle.ioa_object.proofs.Lists.{AreFine, IsListed, Anywhere, all_fine, list_format}
use Rattle.ioa_object.proofs.Fresh.{fine_weaker, fine_both, IsNew, distinct_new, new_distinct}
use Rattle.ioa_object.proofs.TypeFormats.{types_format}
use Rattle.ioa_object.proofs.ComponentFormats.{IsComponent, component_format}
use Rattle.ioa_object.proofs.Standing.{fine_stand, stand_fine}

-- ---- components

module _ (types : Table) (are : AreTypes types) where
  members_format : (loops : Bool) → IsFormat (list_at 1 LIMITS.components (component_at loops types)) (list_of component) (IsListed 1 LIMITS.components (IsComponent loops types are))
  members_format loops =
      list_format (component_at loops types) component (IsComponent loops types are) (λ n before. Unit {0}) (λ n before h. component_format loops types are before) (λ n before m h k. tt) 1 LIMITS.components (omega arith) (λ n less. tt)

  members_fine : (before ms : List MemberCode) → AreMembers types ms → AreFine (Anywhere (IsMember types)) before ms
  members_fine before [] h = tt
  members_fine before (m ∷ ms) h = (h.0, members_fine (before ++ m ∷ []) ms h.1)

  fine_members : (before ms : List MemberCode) → AreFine (Anywhere (IsMember types)) before ms → AreMembers types ms
  fine_members before [] h = tt
  fine_members before (m ∷ ms) h = (h.0, fine_members (before ++ m ∷ []) ms h.1)

  listed_members : (loops : Bool) (ms : List MemberCode) → 0 < length ms → length ms ≤ LIMITS.components → AreMembers types ms → distinct (map (λ m. m.name) ms) ≡ true
      → MayStand loops (list_any member_loops ms) → IsListed 1 LIMITS.components (IsComponent loops types are) ms
  listed_members loops ms some few h names stand = record {
    some = some;
    few = few;
    fine = fine_both (Anywhere (λ m. IsMember types m × MayStand loops (member_loops m))) (IsNew (λ m. m.name)) (IsComponent loops types are)
        (λ before m k n. record { member = k.0; new = n; stand = k.1 }) [] ms
        (fine_both (Anywhere (IsMember types)) (Anywhere (λ m. MayStand loops (member_loops m))) _ (λ before m k s. (k, s)) [] ms (members_fine [] ms h) (fine_stand loops member_loops [] ms stand))
        (distinct_new (λ m. m.name) [] ms names);
  }

-- ---- hidden names

pub member_at : (types : Table) (ms : List MemberCode) (i : ℕ) (m : MemberCode) → AreMembers types ms → slice_get ms i ≡ Some m → IsMember types m
member_at types [] i m h e = absurd (cc)
member_at types (n ∷ ms) zero m h e = let same : n ≡ m = cc in subst (IsMember types) same h.0
member_at types (n ∷ ms) (suc i) m h e = member_at types ms i m h.1 e

pub entry_in : (m : MemberCode) (es : List EntryCode) (i : ℕ) (e : EntryCode) → AreEntries m es → slice_get es i ≡ Some e → IsEntry m e
entry_in m [] i e h at = absurd (cc)
entry_in m (f ∷ es) zero e h at = let same : f ≡ e = cc in subst (IsEntry m) same h.0
entry_in m (f ∷ es) (suc i) e h at = entry_in m es i e h.1 at

module _ (types : Table) (ms : List MemberCode) (h : AreMembers types ms) where
  -- an output has a legal name
  pub output_legal : (x : Name) → have_output ms x ≡ true → IsName x
  output_legal x out =
      let (m, i, at, has) = some_at (λ m. list_any (λ e. is_output (Some e.kind) && bytes_eq e.name x) m.entries) ms out in
      let (e, j, there, is) = some_at (λ e. is_output (Some e.kind) && bytes_eq e.name x) m.entries has in
      let same : e.name ≡ x = same_name e.name x (and_parts (is_output (Some e.kind)) (bytes_eq e.name x) is).1 in
      subst IsName same (entry_in m m.entries j e (member_at types ms i m h at).entries there).legal

  -- an output's name that is none of those before
  pub record IsHidden (before : List Name) (x : Name) : Type 0 where
    pub output : have_output ms x ≡ true
    pub new : IsNew (λ x. x) before x

  hidden_format : (before : List Name) → IsFormat (hidden_at ms before) text (IsHidden before)
  unfolding hidden_at
  hidden_format before =
      same_format (hidden_at ms before) text text _ (IsHidden before) (name_format (λ x. contains before x || not (have_output ms x)))
      (λ x k. record { legal = output_legal x k.output; free = or_from (contains before x) (not (have_output ms x)) (same_names before x k.new) (not_from_true (have_output ms x) k.output) })
      (λ x k. let p = or_parts (contains before x) (not (have_output ms x)) k.free in record { output = not-false (have_output ms x) p.1; new = names_same before x p.0 })
      (λ x k. refl)
    where
      same_names : (before : List Name) (x : Name) → IsNew (λ x. x) before x → contains before x ≡ false
      same_names before x k = ap (λ l. contains l x) (sym (map-id before)) ∙ k

      names_same : (before : List Name) (x : Name) → contains before x ≡ false → IsNew (λ x. x) before x
      names_same before x k = ap (λ l. contains l x) (map-id before) ∙ k

  hiddens_format : IsFormat (list_at 0 LIMITS.hidden (hidden_at ms)) (list_of text) (IsListed 0 LIMITS.hidden IsHidden)
  hiddens_format = list_format (hidden_at ms) text IsHidden (λ n before. Unit {0}) (λ n before k. hidden_format before) (λ n before x k l. tt) 0 LIMITS.hidden (omega arith) (λ n less. tt)

  outputs_fine : (before xs : List Name) → list_all (have_output ms) xs ≡ true → AreFine (Anywhere (λ x. have_output ms x ≡ true)) before xs
  outputs_fine before [] k = tt
  outputs_fine before (x ∷ xs) k = let p = and_parts (have_output ms x) (list_all (have_output ms) xs) k in (p.0, outputs_fine (before ++ x ∷ []) xs p.1)

  fine_outputs : (before xs : List Name) → AreFine (Anywhere (λ x. have_output ms x ≡ true)) before xs → list_all (have_output ms) xs ≡ true
  fine_outputs before [] k = refl
  fine_outputs before (x ∷ xs) k = and_from (have_output ms x) (list_all (have_output ms) xs) k.0 (fine_outputs (before ++ x ∷ []) xs k.1)

  listed_hidden : (xs : List Name) → length xs ≤ LIMITS.hidden → distinct xs ≡ true → list_all (have_output ms) xs ≡ true → IsListed 0 LIMITS.hidden IsHidden xs
  listed_hidden xs few names outputs = record {
    some = omega arith;
    few = few;
    fine = fine_both (Anywhere (λ x. have_output ms x ≡ true)) (IsNew (λ x. x)) IsHidden (λ before x k n. record { output = k; new = n }) [] xs (outputs_fine [] xs outputs) (distinct_new (λ x. x) [] xs (ap distinct (map-id xs) ∙ names));
  }

-- hidden names are legal
pub hidden_legal : (p : Prog) → AreRight p → All IsName p.hidden
hidden_legal p h = all_fine IsName [] p.hidden (fine_weaker _ _ (λ before x k. output_legal p.types p.members h.members x k) [] p.hidden (outputs_fine p.types p.members h.members [] p.hidden h.outputs))

-- ---- all tables

-- the tables are right, and have loops only where they may stand
pub record AreUnder (loops : Bool) (p : Prog) : Type 0 where
  pub right : AreRight p
  pub stand : MayStand loops (loops_in p)

pub tables_format : (loops : Bool) → IsFormat (tables_at loops) tables (AreUnder loops)
unfolding tables_at
tables_format loops = record { finds = λ p h. found p h.right h.stand; yields = yields }
  where
    found : (p : Prog) → AreRight p → MayStand loops (loops_in p) → (c : Spot) (more : List ℕ) → c.rest ≡ tables p ++ more → Finds (tables_at loops c) p more
    found p h stand c more e =
        let last = list_of component p.members ++ list_of text p.hidden in
        let tail = text p.name ++ last in
        finds_on _ _ _ _ _ _ (types_format.finds p.types h.types c (tail ++ more) (e ∙ append_assoc (list_of declaration (declared p.types)) tail more))
        (λ d1 at1. finds_on _ _ _ _ _ _ ((name_format _).finds p.name (record { legal = h.legal; free = not-true (contains (all_names p.types) p.name) h.apart }) d1 (last ++ more) (at1 ∙ append_assoc (text p.name) last more))
        (λ d2 at2. finds_on _ _ _ _ _ _ ((members_format p.types h.types loops).finds p.members (listed_members p.types h.types loops p.members h.some_members h.few_members h.members h.names stand) d2 (list_of text p.hidden ++ more) (at2 ∙ append_assoc (list_of component p.members) (list_of text p.hidden) more))
        (λ d3 at3. finds_on _ _ _ _ _ _ ((hiddens_format p.types p.members h.members).finds p.hidden (listed_hidden p.types p.members h.members p.hidden h.few_hidden h.hidden h.outputs) d3 more at3)
        (λ d4 at4. finds_ok _ d4 more at4))))

    yields : (c : Spot) → AreBytes c.rest → Yields (tables_at loops c) (Taken tables (AreUnder loops) c.rest)
    yields c bytes =
        yields_on _ _ _ _ (types_format.yields c bytes) (λ types d1 h1.
        yields_on _ _ _ _ ((name_format _).yields d1 h1.after) (λ x d2 h2.
        yields_on _ _ _ _ ((members_format types h1.fine loops).yields d2 h2.after) (λ ms d3 h3.
        let members : AreMembers types ms = fine_members types h1.fine [] ms (fine_weaker _ _ (λ before m k. k.member) [] ms h3.fine.fine) in
        yields_on _ _ _ _ ((hiddens_format types ms members).yields d3 h3.after) (λ hidden d4 h4.
        yields_ok _ d4 _ (record {
          fine = record {
            right = record {
              types = h1.fine;
              legal = h2.fine.legal;
              apart = not_from_false (contains (all_names types) x) h2.fine.free;
              some_members = h3.fine.some;
              few_members = h3.fine.few;
              names = new_distinct (λ m. m.name) [] ms refl (fine_weaker _ _ (λ before m k. k.new) [] ms h3.fine.fine);
              members = members;
              compatible = tt;
              few_hidden = h4.fine.few;
              hidden = ap distinct (sym (map-id hidden)) ∙ new_distinct (λ x. x) [] hidden refl (fine_weaker _ _ (λ before y k. k.new) [] hidden h4.fine.fine);
              outputs = fine_outputs types ms members [] hidden (fine_weaker _ _ (λ before y k. k.output) [] hidden h4.fine.fine);
            };
            stand = stand_fine loops member_loops [] ms (fine_weaker _ _ (λ before m k. k.stand) [] ms h3.fine.fine);
          };
          front = chained c.rest (list_of declaration (declared types)) d1.rest (text x ++ (list_of component ms ++ list_of text hidden)) d4.rest h1.front
              (chained d1.rest (text x) d2.rest (list_of component ms ++ list_of text hidden) d4.rest h2.front (chained d2.rest (list_of component ms) d3.rest (list_of text hidden) d4.rest h3.front h4.front));
          after = h4.after;
        })))))
