-- Objects: what is read of them, and what follows for all.
use Rattle.std.proofs.Common.{◌≡◌, ℕ, Bool, true, false, List, [], ◌∷◌, ◌++◌, refl, sym, ap, ◌∙◌, subst, Ok}
use Rattle.std.proofs.lemmas.List.{append-nil}
use Rattle.ioa_compile.specs.Programs.{Prog}
use Rattle.ioa_compile.specs.Tables.{AreTables, AreRight, IsProgram, tabled}
use Rattle.ioa_tree.specs.Components.{Compatible}
use Rattle.ioa_object.specs.Objects.{IsObject, OneObject, OneProgram, NoneBeginsAnother}
use Rattle.ioa_bytes.specs.Items.{Outcome, byte_at}
use Rattle.ioa_object.specs.Reading.{versioned_at, tables_at, read}
use Rattle.ioa_object.specs.Spelling.{mark, tables, under, object}
use Rattle.ioa_bytes.specs.Spots.{Spot}
use Rattle.ioa_object.specs.Versions.{loops_in, version_byte}
use Rattle.ioa_object.proofs.Formats.{Finds}
use Rattle.ioa_object.proofs.Tables.{AreUnder, tables_format}

-- the place behind the mark and the version, with these bytes to come
abbrev pub begun : List ℕ → Spot
begun rest = record { place = 5; rest = rest; parts = 0 }

-- behind the mark and a version the tables are read
pub read_begun : (loops : Bool) (rest : List ℕ) → read (mark ++ (version_byte loops ∷ rest)) ≡ tables_at loops (begun rest)
unfolding read versioned_at byte_at
read_begun true rest = refl
read_begun false rest = refl

-- tables of whose components something else is so together
retold : {S T : Type 0} (p : Prog) → AreTables S p → T → AreTables T p
retold p h together = record {
  types = h.types;
  legal = h.legal;
  apart = h.apart;
  some_members = h.some_members;
  few_members = h.few_members;
  names = h.names;
  members = h.members;
  compatible = together;
  few_hidden = h.few_hidden;
  hidden = h.hidden;
  outputs = h.outputs;
}

pub are_right : {T : Type 0} (p : Prog) → AreTables T p → AreRight p
are_right p h = retold p h tt

pub is_program : (p : Prog) → AreRight p → Compatible (tabled p) → IsProgram p
is_program p h k = retold p h k

-- ---- objects are read

-- what is spelled of tables that are right is found, whatever follows
pub tables_found : (loops : Bool) (p : Prog) (more : List ℕ) → AreUnder loops p → Finds (tables_at loops (begun (tables p ++ more))) p more
tables_found loops p more h = (tables_format loops).finds p h (begun (tables p ++ more)) more refl

pub spelling_found : (loops : Bool) (bytes : List ℕ) (p : Prog) (more : List ℕ) → AreUnder loops p → bytes ≡ under loops p ++ more → Finds (read bytes) p more
spelling_found loops bytes p more h e =
    subst (λ (o : Outcome Prog). Finds o p more) (sym (ap read e ∙ read_begun loops (tables p ++ more))) (tables_found loops p more h)

-- a program may stand under its own version
pub own_version : {T : Type 0} (p : Prog) → AreTables T p → AreUnder (loops_in p) p
own_version p h = record { right = are_right p h; stand = λ e. e }

-- an outcome finds one thing
found_once : (o : Outcome Prog) (p q : Prog) (m n : List ℕ) → Finds o p m → Finds o q n → (p ≡ q) × (m ≡ n)
found_once o p q m n h k =
    let same : ◌≡◌ {A = Prog × Spot} (p, h.behind) (q, k.behind) = let both : Ok (p, h.behind) ≡ Ok (q, k.behind) = sym h.is ∙ k.is in cc in
    (ap (λ x. x.0) same, sym h.left ∙ ap (λ x. x.1.rest) same ∙ k.left)

pub whole : (bytes : List ℕ) (p : Prog) → IsObject bytes p → Finds (read bytes) p []
whole bytes p h = spelling_found (loops_in p) bytes p [] (own_version p h.program) (h.spelled ∙ sym (append-nil (object p)))

pub one_object : OneObject
one_object p a b h k = h.spelled ∙ sym k.spelled

pub one_program : OneProgram
one_program bytes p q h k = (found_once (read bytes) p q [] [] (whole bytes p h) (whole bytes q k)).0

pub none_begins_another : NoneBeginsAnother
none_begins_another front more p q h k =
    (found_once (read (front ++ more)) p q more [] (spelling_found (loops_in p) (front ++ more) p more (own_version p h.program) (ap (λ l. l ++ more) h.spelled)) (whole (front ++ more) q k)).1
