-- More bytes behind what a reader reads change nothing.
use Rattle.std.proofs.Common.{◌≡◌, ℕ, zero, suc, ◌+◌, inl, Bool, true, false, List, [], ◌∷◌, ◌++◌, length, take, nat_lt, ◌==◌, refl, Option, Some, None, Ok, Err, if◌then◌else◌, arith}
use Rattle.std.proofs.lemmas.List.{length-append, take-append-le, drop-append-le}
use Rattle.std.proofs.lemmas.Bool.{le-ltb, ltb-false}
use Rattle.ioa_value.specs.Plain.{Val}
use Rattle.ioa_value.specs.Actions.{Name}
use Rattle.ioa_value.specs.Table.{Table, TupleField, Shape, truths, numbers, names, fields, sequence, shape_at, types_of, basic}
use Rattle.ioa_value.specs.declared.operator.Op.{Op}
use Rattle.ioa_value.specs.declared.operator.Op.TheVariants.{Make, Field}
use Rattle.ioa_code.specs.declared.instr.PartKind.{PartKind}
use Rattle.ioa_code.specs.declared.instr.Instr.{Instr}
use Rattle.ioa_code.specs.declared.instr.Instr.TheVariants.{Const, Slot, Arg, Store, Jump, JumpIfFalse, Any, Pick, Apply, Each, Again, Local}
use Rattle.ioa_code.specs.Scan.{Verdict, good, bad, scan}
use Rattle.ioa_code.specs.Valid.{Part}
use Rattle.ioa_tree.specs.declared.tree.Kind.{Kind}
use Rattle.ioa_tree.specs.declared.tree.Kind.TheVariants.{Input, Output, Internal}
use Rattle.ioa_compile.specs.Programs.{EntryCode, MemberCode}
use Rattle.ioa_bytes.specs.Items.{Reader, built, passed, bytes_at, byte_of, byte_at, short_at, long_at, count_at, type_at, named_at, name_at, items_at, list_at, truth_at, constant_at, parts_at, payload_shaped, payload_in, value_at, counted}
use Rattle.ioa_object.specs.Reading.{field_at, sequence_at, form_at, declaration_at, types_at, type_operand, applied, instr_of, instr_at, operator_at, verified, instrs_at, part_at, part_of, local_at, kind_of, kind_from, kind_at, position_at, opening_at, coded_at, Opening, entry_at, component_at, hidden_at, tables_at}
use Rattle.ioa_bytes.specs.Spots.{Spot}
use Rattle.ioa_bytes.specs.declared.failure.ObjErr.TheVariants as errors
use Rattle.ioa_object.proofs.Outcomes.{longer, Stays, IsLocal, stays_ok, stays_wrong, stays_on, stays_right, stays_if, stays_built}

-- ---- bytes and numbers

pub bytes_local : (n : ℕ) → IsLocal (bytes_at n)
unfolding bytes_at
bytes_local n = record { stays = λ c more. go c more (nat_lt (length c.rest) n) refl }
  where
    go : (c : Spot) (more : List ℕ) (b : Bool) → nat_lt (length c.rest) n ≡ b → Stays more (if b then Err errors.Truncated else Ok (take n c.rest, passed n c)) (bytes_at n (longer more c))
    go c more true e = record { same = inl refl }
    go c more false e =
        let few = ltb-false (length c.rest) n e in
        let some : nat_lt (length (c.rest ++ more)) n ≡ false = le-ltb (length (c.rest ++ more)) n (omega (arith, length-append c.rest more)) in
        rw (some, take-append-le n c.rest more few, drop-append-le n c.rest more few) (stays_ok more (take n c.rest) (passed n c))

pub byte_local : IsLocal byte_at
unfolding byte_at
byte_local = record { stays = λ c more. go c.place c.parts c.rest more }
  where
    go : (place parts : ℕ) (bs more : List ℕ) → let c : Spot = record { place = place; rest = bs; parts = parts } in Stays more (byte_of bs c) (byte_of (bs ++ more) (longer more c))
    go place parts [] more = record { same = inl refl }
    go place parts (b ∷ bs) more = stays_ok more b (record { place = place + 1; rest = bs; parts = parts })

pub short_local : IsLocal short_at
unfolding short_at
short_local = record { stays = λ c more. stays_built more _ _ _ ((bytes_local 2).stays c more) }

pub long_local : IsLocal long_at
unfolding long_at
long_local = record { stays = λ c more. stays_built more _ _ _ ((bytes_local 8).stays c more) }

pub count_local : (least most : ℕ) → IsLocal (count_at least most)
unfolding count_at
count_local least most = record { stays = λ c more. stays_on more _ _ _ _ (short_local.stays c more) (λ x d. stays_right more _ _ _ _ (stays_ok more x d)) }

pub type_local : (count : ℕ) → IsLocal (type_at count)
unfolding type_at
type_local count = record { stays = λ c more. stays_on more _ _ _ _ (short_local.stays c more) (λ x d. stays_right more _ _ _ _ (stays_ok more x d)) }

-- ---- texts and lists

pub named_local : IsLocal named_at
unfolding named_at
named_local = record {
  stays = λ c more. stays_on more _ _ _ _ (byte_local.stays c more) (λ n d. stays_right more _ _ _ _
      (stays_on more _ _ _ _ ((bytes_local n).stays d more) (λ x e. stays_right more _ _ _ _ (stays_ok more (x, d.place) e))));
}

pub name_local : (taken : Name → Bool) → IsLocal (name_at taken)
unfolding name_at
name_local taken = record { stays = λ c more. stays_on more _ _ _ _ (named_local.stays c more) (λ x d. stays_right more _ _ _ _ (stays_ok more x.0 d)) }

pub items_local : {A : Type 0} (item : List A → Reader A) → ((before : List A) → IsLocal (item before)) → (before : List A) (n : ℕ) → IsLocal (items_at item before n)
unfolding items_at
items_local item each before zero = record { stays = λ c more. stays_ok more before c }
items_local item each before (suc n) = record {
  stays = λ c more. stays_on more _ _ _ _ ((each before).stays c more) (λ x d. (items_local item each (before ++ x ∷ []) n).stays d more);
}

pub list_local : {A : Type 0} (least most : ℕ) (item : List A → Reader A) → ((before : List A) → IsLocal (item before)) → IsLocal (list_at least most item)
unfolding list_at
list_local least most item each = record {
  stays = λ c more. stays_on more _ _ _ _ ((count_local least most).stays c more) (λ n d. (items_local item each [] n).stays d more);
}

-- ---- types

pub field_local : (count : ℕ) (before : List TupleField) → IsLocal (field_at count before)
unfolding field_at
field_local count before = record {
  stays = λ c more. stays_on more _ _ _ _ ((name_local _).stays c more)
      (λ x d. stays_on more _ _ _ _ ((type_local count).stays d more) (λ ty e. stays_ok more _ e));
}

pub sequence_local : (count : ℕ) → IsLocal (sequence_at count)
unfolding sequence_at
sequence_local count = record {
  stays = λ c more. stays_on more _ _ _ _ ((count_local 1 _).stays c more)
      (λ x d. stays_on more _ _ _ _ ((type_local count).stays d more) (λ ty e. stays_ok more _ e));
}

pub form_local : (tag : ℕ) (taken : List Name) (count : ℕ) → IsLocal (form_at tag taken count)
unfolding form_at
form_local tag taken count = record {
  stays = λ c more. stays_if more _ _ _ _ _ (stays_built more _ _ _ ((list_local 1 _ _ (λ before. name_local _)).stays c more))
      (stays_if more _ _ _ _ _ (stays_built more _ _ _ ((list_local 1 _ _ (field_local count)).stays c more)) ((sequence_local count).stays c more));
}

pub declaration_local : (types : Table) → IsLocal (declaration_at types)
unfolding declaration_at
declaration_local types = record {
  stays = λ c more. stays_on more _ _ _ _ (byte_local.stays c more) (λ tag d. stays_right more _ _ _ _
      (stays_on more _ _ _ _ ((name_local _).stays d more) (λ x e.
      stays_on more _ _ _ _ ((form_local tag _ _).stays e more) (λ form f. stays_right more _ _ _ _ (stays_ok more _ f)))));
}

pub types_local : IsLocal types_at
unfolding types_at
types_local = record {
  stays = λ c more. stays_on more _ _ _ _ ((count_local 0 _).stays c more) (λ n d. (items_local declaration_at declaration_local basic n).stays d more);
}

-- ---- values

pub truth_local : IsLocal truth_at
unfolding truth_at
truth_local = record { stays = λ c more. stays_on more _ _ _ _ (byte_local.stays c more) (λ b d. stays_right more _ _ _ _ (stays_ok more _ d)) }

pub constant_local : (ty count : ℕ) → IsLocal (constant_at ty count)
unfolding constant_at
constant_local ty count = record { stays = λ c more. stays_on more _ _ _ _ (byte_local.stays c more) (λ b d. stays_right more _ _ _ _ (stays_ok more _ d)) }

pub parts_local : (inner : ℕ → Reader Val) → ((ty : ℕ) → IsLocal (inner ty)) → (before : List Val) (tys : List ℕ) → IsLocal (parts_at inner before tys)
unfolding parts_at
parts_local inner each before [] = record { stays = λ c more. stays_ok more before c }
parts_local inner each before (ty ∷ tys) = record {
  stays = λ c more. stays_on more _ _ _ _ ((each ty).stays c more) (λ v d. (parts_local inner each (before ++ v ∷ []) tys).stays d more);
}

shaped_local : (inner : ℕ → Reader Val) → ((ty : ℕ) → IsLocal (inner ty)) → (ty : ℕ) (shape : Option Shape) → IsLocal (payload_shaped inner ty shape)
shaped_local inner each ty (Some truths) = record { stays = truth_local.stays }
shaped_local inner each ty (Some numbers) = record { stays = long_local.stays }
shaped_local inner each ty (Some (names ns)) = record { stays = (constant_local ty (length ns)).stays }
shaped_local inner each ty (Some (fields fs)) = record { stays = λ c more. stays_built more _ _ _ ((parts_local inner each [] (types_of fs)).stays c more) }
shaped_local inner each ty (Some (sequence most of)) = record { stays = λ c more. stays_built more _ _ _ ((list_local 0 most _ (λ before. each of)).stays c more) }
shaped_local inner each ty None = record { stays = λ c more. stays_wrong more _ tt }

pub payload_local : (n : ℕ) (types : Table) (ty : ℕ) → IsLocal (payload_in n types ty)
unfolding payload_in
payload_local zero types ty = record { stays = λ c more. stays_wrong more _ tt }
payload_local (suc n) types ty = record { stays = (shaped_local (λ t. payload_in n types t) (payload_local n types) ty (shape_at types ty)).stays }

pub value_local : (types : Table) → IsLocal (value_at types)
unfolding value_at
value_local types = record { stays = λ c more. stays_on more _ _ _ _ ((type_local (length types)).stays c more) (λ ty d. (payload_local (suc ty) types ty).stays d more) }

-- ---- code

applied_local : (part at : ℕ) (o : Option Op) → IsLocal (applied part at o)
applied_local part at (Some op) = record { stays = λ c more. stays_ok more _ c }
applied_local part at None = record { stays = λ c more. stays_wrong more _ tt }

operand_local : {A : Type 0} (f : ℕ → A) (c : Spot) (more : List ℕ) → Stays more (built f (short_at c)) (built f (short_at (longer more c)))
operand_local f c more = stays_built more f _ _ (short_local.stays c more)

instr_of_local : (part at b : ℕ) → IsLocal (instr_of part at b)
unfolding instr_of
instr_of_local part at b = record {
  stays = λ c more.
      stays_if more (b == 1) _ _ _ _ (operand_local Const c more) (
      stays_if more (b == 2) _ _ _ _ (operand_local Slot c more) (
      stays_if more (b == 3) _ _ _ _ (operand_local Arg c more) (
      stays_if more (b == 4) _ _ _ _ (operand_local Store c more) (
      stays_if more (b == 5) _ _ _ _ (operand_local Jump c more) (
      stays_if more (b == 6) _ _ _ _ (operand_local JumpIfFalse c more) (
      stays_if more (b == 7) _ _ _ _ (stays_ok more Any c) (
      stays_if more (b == 8) _ _ _ _ (operand_local (λ n. Pick (type_operand n)) c more) (
      stays_if more (b == 38) _ _ _ _ (operand_local (λ n. Apply (Make (type_operand n))) c more) (
      stays_if more (b == 39) _ _ _ _ (operand_local (λ n. Apply (Field n)) c more) (
      stays_if more (b == 40) _ _ _ _ (operand_local Each c more) (
      stays_if more (b == 41) _ _ _ _ (operand_local Again c more) (
      stays_if more (b == 42) _ _ _ _ (operand_local Local c more) ((applied_local part at (operator_at b)).stays c more)))))))))))));
}

pub instr_local : (loops : Bool) (part : ℕ) (before : List Instr) → IsLocal (instr_at loops part before)
unfolding instr_at
instr_local loops part before = record {
  stays = λ c more. stays_on more _ _ _ _ (byte_local.stays c more)
      (λ b d. stays_if more _ _ _ _ _ (stays_wrong more _ tt) ((instr_of_local part (length before) b).stays d more));
}

pub instrs_local : (loops : Bool) → IsLocal (instrs_at loops)
unfolding instrs_at
instrs_local loops = record {
  stays = λ c more. stays_on more _ _ _ _ (short_local.stays c more) (λ n d. (items_local (instr_at loops c.parts) (instr_local loops c.parts) [] n).stays d more);
}

verified_local : (verdict : Verdict) (part : Part) → IsLocal (verified verdict part)
verified_local good part = record { stays = λ c more. stays_ok more part (counted c) }
verified_local (bad at why) part = record { stays = λ c more. stays_wrong more _ tt }

module _ (loops : Bool) (types : Table) (slots : List ℕ) where
  pub part_local : (consts : List Val) (kind : PartKind) (args end : List ℕ) → IsLocal (part_at loops types slots consts kind args end)
  unfolding part_at
  part_local consts kind args end = record {
    stays = λ c more. stays_on more _ _ _ _ ((instrs_local loops).stays c more)
        (λ is d. (verified_local (scan (part_of types slots consts kind args end is)) (part_of types slots consts kind args end is)).stays d more);
  }

  local_local : (k : Kind) (part : Reader Part) → IsLocal part → IsLocal (local_at k part)
  unfolding local_at
  local_local Input part l = record { stays = λ c more. stays_ok more None c }
  local_local Output part l = record { stays = λ c more. stays_built more _ _ _ (l.stays c more) }
  local_local Internal part l = record { stays = λ c more. stays_built more _ _ _ (l.stays c more) }

  pub coded_local : (o : Opening) → IsLocal (coded_at loops types slots o)
  unfolding coded_at
  coded_local o = record {
    stays = λ c more. stays_on more _ _ _ _ ((local_local o.kind _ (part_local _ _ _ _)).stays c more) (λ pre d.
        stays_on more _ _ _ _ ((local_local o.kind _ (part_local _ _ _ _)).stays d more) (λ propose e.
        stays_on more _ _ _ _ ((part_local _ _ _ _).stays e more) (λ effect f. stays_ok more _ f)));
  }

-- ---- components

kind_from_local : (place : ℕ) (k : Option Kind) → IsLocal (kind_from place k)
kind_from_local place (Some k) = record { stays = λ c more. stays_ok more k c }
kind_from_local place None = record { stays = λ c more. stays_wrong more _ tt }

pub kind_local : IsLocal kind_at
unfolding kind_at
kind_local = record { stays = λ c more. stays_on more _ _ _ _ (byte_local.stays c more) (λ b d. (kind_from_local c.place (kind_of b)).stays d more) }

pub position_local : (types : Table) → IsLocal (position_at types)
unfolding position_at
position_local types = record {
  stays = λ c more. stays_on more _ _ _ _ (byte_local.stays c more) (λ tag d. stays_right more _ _ _ _
      (stays_if more _ _ _ _ _ (stays_built more _ _ _ ((type_local (length types)).stays d more)) (stays_built more _ _ _ ((value_local types).stays d more))));
}

pub opening_local : (types : Table) (before : List EntryCode) → IsLocal (opening_at types before)
unfolding opening_at
opening_local types before = record {
  stays = λ c more. stays_on more _ _ _ _ (kind_local.stays c more) (λ kind d. stays_on more _ _ _ _ ((name_local _).stays d more) (λ x e.
      stays_on more _ _ _ _ ((list_local 0 _ _ (λ _. position_local types)).stays e more) (λ ds f.
      stays_on more _ _ _ _ ((list_local 0 _ _ (λ _. value_local types)).stays f more) (λ consts g. stays_ok more _ g))));
}

pub entry_local : (loops : Bool) (types : Table) (slots : List ℕ) (before : List EntryCode) → IsLocal (entry_at loops types slots before)
unfolding entry_at
entry_local loops types slots before = record {
  stays = λ c more. stays_on more _ _ _ _ ((opening_local types before).stays c more) (λ o d. (coded_local loops types slots o).stays d more);
}

pub component_local : (loops : Bool) (types : Table) (before : List MemberCode) → IsLocal (component_at loops types before)
unfolding component_at
component_local loops types before = record {
  stays = λ c more. stays_on more _ _ _ _ ((name_local _).stays c more) (λ x d.
      stays_on more _ _ _ _ ((list_local 0 _ _ (λ _. value_local types)).stays d more) (λ vs e.
      stays_on more _ _ _ _ ((list_local 1 _ _ (entry_local loops types _)).stays e more) (λ es f. stays_ok more _ f)));
}

-- ---- programs

pub hidden_local : (ms : List MemberCode) (before : List Name) → IsLocal (hidden_at ms before)
unfolding hidden_at
hidden_local ms before = record { stays = (name_local _).stays }

pub tables_local : (loops : Bool) → IsLocal (tables_at loops)
unfolding tables_at
tables_local loops = record {
  stays = λ c more. stays_on more _ _ _ _ (types_local.stays c more) (λ types d. stays_on more _ _ _ _ ((name_local _).stays d more) (λ x e.
      stays_on more _ _ _ _ ((list_local 1 _ _ (component_local loops types)).stays e more) (λ ms f.
      stays_on more _ _ _ _ ((list_local 0 _ _ (hidden_local ms)).stays f more) (λ hidden g. stays_ok more _ g))));
}
