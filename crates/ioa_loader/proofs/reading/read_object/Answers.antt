use Rattle.std.proofs.Common.{◌≡◌, ℕ, ◌≢◌, List, [], ◌∷◌, ◌++◌, length, map, Some, Ok, Err, ap, subst, sym, ◌∙◌, arith}
use Rattle.std.specs.List.{list_any}
use Rattle.std.proofs.lemmas.Bool.{false≢true}
use Rattle.std.proofs.lemmas.List.{nil_from_length}
use Rattle.ioa_tree.specs.Components.{Compatible}
use Rattle.ioa_clash.proofs.CompatibleLemmas.{first-incompatible}
use Rattle.ioa_compile.specs.Given.{prog_of, IsNoProgram}
use Rattle.ioa_compile.specs.Shown.{member_code}
use Rattle.ioa_compile.specs.declared.tables.TableErr.TheVariants.{Table, Clash}
use Rattle.ioa_compile.specs.Tables.{tabled}
use Rattle.ioa_bytes.specs.Items.{Fails, byte_at}
use Rattle.ioa_object.specs.Reading.{tables_at, read}
use Rattle.ioa_object.specs.Spelling.{mark}
use Rattle.ioa_object.specs.Versions.{member_loops, is_needless, version_byte, version_of}
use Rattle.ioa_bytes.specs.declared.failure.ObjErr.TheVariants as errors
use Rattle.ioa_object.proofs.Refused.{no_mark, was_read}
use Rattle.ioa_loader.proofs.Exits.{Answers, marked_spot, are_bytes, passed_on, no_version, wrong_version, behind_version, version_there, answers_error, answers_failed, answers_memory, answers_ok, answers_needless, answers_trailing, answers_clash}
use Rattle.ioa_loader.proofs.reading.read_object.Goals.{In-Some, In_ok-tables}
use Rattle.ioa_loader.proofs.reading.read_object.Goals as goal

pub returns-then-not-is_marked : goal.returns-then-not-is_marked
returns-then-not-is_marked c =
    let bytes = c.args.bytes.now in
    answers_error bytes errors.Magic (no_mark bytes (λ rest is. false≢true (sym c.if-not-is_marked.true ∙ c.is_marked.ensures.1 (rest, is))))

pub returns-in_err-byte : goal.returns-in_err-byte
returns-in_err-byte c =
    let bytes = c.args.bytes.now in
    let (rest, is) = c.is_marked.ensures.0 c.if-not-is_marked.false in
    let cut = c.in_err-byte.ensures.cut in
    let fails : byte_at c.new-cursor.result ≡ Err errors.Truncated = subst (λ e. Fails e (byte_at c.new-cursor.result)) cut c.in_err-byte.ensures.read in
    let short = no_version bytes rest is errors.Truncated (ap byte_at (sym c.new-cursor.ensures) ∙ fails) in
    passed_on bytes c.from_residual.result c.in_err-byte.field-0.0 c.from_residual.ensures.1 (answers_error bytes c.in_err-byte.field-0.0 (short ∙ ap Err (sym cut)))

pub returns-in-None : goal.returns-in-None
returns-in-None c =
    let bytes = c.args.bytes.now in
    let (rest, is) = c.is_marked.ensures.0 c.if-not-is_marked.false in
    answers_error bytes errors.Version
    (wrong_version bytes rest is c.in_ok-byte.field-0 c.byte.new.self (ap byte_at (sym c.new-cursor.ensures) ∙ c.in_ok-byte.ensures.read) (sym c.version_of.ensures ∙ c.in-None.is))

-- where the tables are read, and which version's byte is before them
module _ (c : In-Some) where
  begun_at : byte_at (marked_spot c.args.bytes.now) ≡ Ok (c.in_ok-byte.field-0, c.byte.new.self)
  begun_at = ap byte_at (sym c.new-cursor.ensures) ∙ c.in_ok-byte.ensures.read

  known : version_of c.in_ok-byte.field-0 ≡ Some c.in-Some.loops
  known = sym c.version_of.ensures ∙ c.in-Some.is

  read_there : read c.args.bytes.now ≡ tables_at c.in-Some.loops c.byte.new.self
  read_there =
      let (rest, is) = c.is_marked.ensures.0 c.if-not-is_marked.false in
      behind_version c.args.bytes.now rest is c.in_ok-byte.field-0 c.byte.new.self begun_at c.in-Some.loops known

  version_is : (more : List ℕ) × (c.args.bytes.now ≡ mark ++ (version_byte c.in-Some.loops ∷ more))
  version_is =
      let (rest, is) = c.is_marked.ensures.0 c.if-not-is_marked.false in
      version_there c.args.bytes.now rest is c.in_ok-byte.field-0 c.byte.new.self begun_at c.in-Some.loops known

pub returns-in_err-tables : goal.returns-in_err-tables
returns-in_err-tables c =
    let bytes = c.args.bytes.now in
    passed_on bytes c.from_residual-in_err-tables.result c.in_err-tables.field-0.0 c.from_residual-in_err-tables.ensures.1
    (answers_failed bytes c.in-Some.loops c.byte.new.self c.in_err-tables.field-0.0 (read_there (goal.at.returns-in_err-tables c).In-Some) c.in_err-tables.ensures)

-- what was read, and where it ended
read_all : (c : In_ok-tables) → read c.args.bytes.now ≡ Ok (prog_of c.in_ok-tables.tables, c.read_tables.new.cursor)
read_all c = read_there (goal.at.In_ok-tables c).In-Some ∙ c.in_ok-tables.ensures

pub from_right-requires : goal.from_right-requires
from_right-requires c =
    (was_read c.args.bytes.now (prog_of c.in_ok-tables.tables) c.read_tables.new.cursor (are_bytes c.args.bytes.now c.type_inv.bytes) (read_all (goal.at.from_right-requires c).In_ok-tables)).under_it.right

pub returns-in-Err-Clash : goal.returns-in-Err-Clash
returns-in-Err-Clash c =
    let p = prog_of c.in_ok-tables.tables in
    let no : IsNoProgram p (Clash c.in-Err-Clash.field-0-0 c.in-Err-Clash.field-0-1) = subst (IsNoProgram p) c.in-Err-Clash.field-0-is c.in-Err-Clash.ensures.clash in
    answers_clash c.args.bytes.now p c.read_tables.new.cursor (are_bytes c.args.bytes.now c.type_inv.bytes) (read_all (goal.at.returns-in-Err-Clash c).In_ok-tables)
    (first-incompatible (tabled p) c.in-Err-Clash.field-0-0 c.in-Err-Clash.field-0-1 no.1.0 no.1.1)

pub returns-in-Err-OutOfMemory : goal.returns-in-Err-OutOfMemory
returns-in-Err-OutOfMemory c =
    answers_memory c.args.bytes.now c.in-Some.loops c.byte.new.self (read_there (goal.at.returns-in-Err-OutOfMemory c).In-Some)

pub unreachable-requires : goal.unreachable-requires
unreachable-requires c =
    let p = prog_of c.in_ok-tables.tables in
    let wrong : IsNoProgram p Table = subst (IsNoProgram p) c.in-Err-Table.field-0-is c.in-Err-Table.ensures.clash in
    wrong (was_read c.args.bytes.now p c.read_tables.new.cursor (are_bytes c.args.bytes.now c.type_inv.bytes) (read_all (goal.at.unreachable-requires c).In_ok-tables)).under_it.right

pub returns-then-left-gt0 : goal.returns-then-left-gt0
returns-then-left-gt0 c =
    let p = prog_of c.in_ok-tables.tables in
    let d = c.read_tables.new.cursor in
    let some : d.rest ≢ [] = λ e. absurd (omega (arith, c.left.ensures, ap length e, c.if-left-gt0.true)) in
    answers_trailing c.args.bytes.now p d (are_bytes c.args.bytes.now c.type_inv.bytes) (read_all (goal.at.returns-then-left-gt0 c).In_ok-tables) some
    (subst (λ x. Compatible (tabled x)) c.in-Ok.ensures.program c.members-members.ensures.sound.compatible)

pub returns-then-is_needless : goal.returns-then-is_needless
returns-then-is_needless c =
    let p = prog_of c.in_ok-tables.tables in
    let bytes = c.args.bytes.now in
    let d = c.read_tables.new.cursor in
    let none : d.rest ≡ [] = nil_from_length d.rest (omega (arith, c.left.ensures, c.if-left-gt0.false)) in
    let (more, is) = version_is (goal.at.returns-then-is_needless c).In-Some in
    let same : map member_code c.members-members.result.now ≡ p.members = c.members-members.ensures.value ∙ ap (λ q. q.members) c.in-Ok.ensures.program in
    answers_needless bytes p d (are_bytes bytes c.type_inv.bytes) (read_all (goal.at.returns-then-is_needless c).In_ok-tables) c.in-Some.loops more is none
    (subst (λ x. Compatible (tabled x)) c.in-Ok.ensures.program c.members-members.ensures.sound.compatible)
    (ap (λ ms. is_needless c.in-Some.loops (list_any member_loops ms)) (sym same) ∙ sym c.is_needless.ensures ∙ c.if-is_needless.true)

pub returns : goal.returns
returns c =
    let p = prog_of c.in_ok-tables.tables in
    let bytes = c.args.bytes.now in
    let d = c.read_tables.new.cursor in
    let none : d.rest ≡ [] = nil_from_length d.rest (omega (arith, c.left.ensures, c.if-left-gt0.false)) in
    let (more, is) = version_is (goal.at.returns c).In-Some in
    let same : map member_code c.members-members.result.now ≡ p.members = c.members-members.ensures.value ∙ ap (λ q. q.members) c.in-Ok.ensures.program in
    subst (λ x. Answers bytes (Ok x)) (sym c.in-Ok.ensures.program)
    (answers_ok bytes p d (are_bytes bytes c.type_inv.bytes) (read_all (goal.at.returns c).In_ok-tables) c.in-Some.loops more is none
    (subst (λ x. Compatible (tabled x)) c.in-Ok.ensures.program c.members-members.ensures.sound.compatible)
    (ap (λ ms. is_needless c.in-Some.loops (list_any member_loops ms)) (sym same) ∙ sym c.is_needless.ensures ∙ c.if-is_needless.false))
