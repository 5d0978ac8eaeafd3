use Rattle.std.proofs.Common.{◌≡◌, Bool, List, map, Ok, refl, ap, subst, sym, ◌∙◌, string_bytes}
use Rattle.ioa_value.specs.Actions.{Name}
use Rattle.ioa_value.specs.Table.{Table, all_names, contains}
use Rattle.ioa_value.specs.declared.limits.TheConstants.{LIMITS}
use Rattle.ioa_compile.specs.Given.{prog_of}
use Rattle.ioa_compile.specs.Programs.{MemberCode, Prog}
use Rattle.ioa_compile.specs.Shown.{member_code}
use Rattle.ioa_bytes.specs.Items.{Outcome, ◌>>=◌, Fails, name_at, list_at}
use Rattle.ioa_object.specs.Reading.{types_at, component_at, hidden_at, program_of, tables_at}
use Rattle.ioa_bytes.specs.Spots.{Spot}
use Rattle.ioa_bytes.proofs.Readers.{reads_err, then_err, then_ok}
use Rattle.ioa_object.proofs.programs.read_tables.Goals as goal

-- ---- what is read behind the types, behind the name, and behind the components

abbrev after_members : Table → Name → List MemberCode → Spot → Outcome Prog
after_members types x ms d = list_at 0 LIMITS.hidden (hidden_at ms) d >>= λ h. Ok (program_of types x ms h.0, h.1)

abbrev after_name : Bool → Table → Name → Spot → Outcome Prog
after_name loops types x d = list_at 1 LIMITS.components (component_at loops types) d >>= λ ms. after_members types x ms.0 ms.1

abbrev after_types : Bool → Table → Spot → Outcome Prog
after_types loops types d = name_at (contains (all_names types)) d >>= λ x. after_name loops types x.0 x.1

all_of : (loops : Bool) (c : Spot) → tables_at loops c ≡ (types_at c >>= λ t. after_types loops t.0 t.1)
unfolding tables_at
all_of loops c = refl

module _ (loops : Bool) (c d1 : Spot) (types : Table) (h1 : types_at c ≡ Ok (types, d1)) where
  behind_types : tables_at loops c ≡ after_types loops types d1
  behind_types = all_of loops c ∙ then_ok (types_at c) (λ t. after_types loops t.0 t.1) (types, d1) h1

  module _ (d2 : Spot) (x : Name) (h2 : name_at (contains (all_names types)) d1 ≡ Ok (x, d2)) where
    behind_name : tables_at loops c ≡ after_name loops types x d2
    behind_name = behind_types ∙ then_ok (name_at (contains (all_names types)) d1) (λ x. after_name loops types x.0 x.1) (x, d2) h2

    module _ (d3 : Spot) (ms : List MemberCode) (h3 : list_at 1 LIMITS.components (component_at loops types) d2 ≡ Ok (ms, d3)) where
      behind_members : tables_at loops c ≡ after_members types x ms d3
      behind_members = behind_name ∙ then_ok (list_at 1 LIMITS.components (component_at loops types) d2) (λ ms. after_members types x ms.0 ms.1) (ms, d3) h3

pub components-requires : goal.components-requires
components-requires c = c.in_ok-types.ensures.table

pub returns-in_err-types : goal.returns-in_err-types
returns-in_err-types c =
    let at = c.args.cursor.now in
    reads_err prog_of c.from_residual.result c.in_err-types.field-0.0 (types_at at) (tables_at c.args.loops at) c.types.new.cursor c.from_residual.ensures.1
    (λ f q. all_of c.args.loops at ∙ then_err (types_at at) (λ t. after_types c.args.loops t.0 t.1) f q) c.in_err-types.ensures.read

pub returns-in_err-name : goal.returns-in_err-name
returns-in_err-name c =
    let at = c.args.cursor.now in
    let types = c.in_ok-types.types in
    let d1 = c.types.new.cursor in
    let step = name_at (contains (all_names types)) d1 in
    reads_err prog_of c.from_residual-in_err-name.result c.in_err-name.field-0.0 step (tables_at c.args.loops at) c.name.new.cursor c.from_residual-in_err-name.ensures.1
    (λ f q. behind_types c.args.loops at d1 types c.in_ok-types.ensures.read ∙ then_err step (λ x. after_name c.args.loops types x.0 x.1) f q) c.in_err-name.ensures

pub returns-in_err-members : goal.returns-in_err-members
returns-in_err-members c =
    let at = c.args.cursor.now in
    let types = c.in_ok-types.types in
    let x = string_bytes c.in_ok-name.name in
    let step = list_at 1 LIMITS.components (component_at c.args.loops types) c.name.new.cursor in
    reads_err prog_of c.from_residual-in_err-members.result c.in_err-members.field-0.0 step (tables_at c.args.loops at) c.components.new.cursor c.from_residual-in_err-members.ensures.1
    (λ f q. behind_name c.args.loops at c.types.new.cursor types c.in_ok-types.ensures.read c.name.new.cursor x c.in_ok-name.ensures ∙ then_err step (λ ms. after_members types x ms.0 ms.1) f q) c.in_err-members.ensures

pub returns-in_err-hidden : goal.returns-in_err-hidden
returns-in_err-hidden c =
    let at = c.args.cursor.now in
    let types = c.in_ok-types.types in
    let x = string_bytes c.in_ok-name.name in
    let ms = map member_code c.in_ok-members.members.items in
    let d3 = c.components.new.cursor in
    let step = list_at 0 LIMITS.hidden (hidden_at ms) d3 in
    let e = c.in_err-hidden.field-0.0 in
    let fails : Fails e step = subst (λ l. Fails e (list_at 0 LIMITS.hidden (hidden_at (map member_code l)) d3)) c.deref.ensures.value c.in_err-hidden.ensures in
    reads_err prog_of c.from_residual-in_err-hidden.result e step (tables_at c.args.loops at) c.hidden_names.new.cursor c.from_residual-in_err-hidden.ensures.1
    (λ f q. behind_members c.args.loops at c.types.new.cursor types c.in_ok-types.ensures.read c.name.new.cursor x c.in_ok-name.ensures d3 ms c.in_ok-members.ensures
    ∙ then_err step (λ h. Ok (program_of types x ms h.0, h.1)) f q) fails

pub returns : goal.returns
returns c =
    let at = c.args.cursor.now in
    let types = c.in_ok-types.types in
    let x = string_bytes c.in_ok-name.name in
    let ms = map member_code c.in_ok-members.members.items in
    let hs = map string_bytes c.in_ok-hidden.hidden.items in
    let d3 = c.components.new.cursor in
    let d4 = c.hidden_names.new.cursor in
    let step = list_at 0 LIMITS.hidden (hidden_at ms) d3 in
    let h4 : step ≡ Ok (hs, d4) = ap (λ l. list_at 0 LIMITS.hidden (hidden_at (map member_code l)) d3) (sym c.deref.ensures.value) ∙ c.in_ok-hidden.ensures in
    behind_members c.args.loops at c.types.new.cursor types c.in_ok-types.ensures.read c.name.new.cursor x c.in_ok-name.ensures d3 ms c.in_ok-members.ensures
    ∙ then_ok step (λ h. Ok (program_of types x ms h.0, h.1)) (hs, d4) h4
