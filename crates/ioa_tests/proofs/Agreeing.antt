-- Operators on words beside those on values.
use Rattle.std.proofs.Common.{◌≡◌, ℕ, List, Option, Some, sym, ap, subst, ◌∙◌}
use Rattle.std.specs.Option.{option_map}
use Rattle.ioa_value.specs.Plain.{Val, number}
use Rattle.ioa_value.specs.Table.{Table, AreTypes}
use Rattle.ioa_value.specs.Typing.{HaveTypes}
use Rattle.ioa_value.specs.Operators.{Takes, op_type}
use Rattle.ioa_value.specs.declared.operator.Op.{Op}
use Rattle.ioa_value.specs.declared.value.Ty.{Ty}
use Rattle.ioa_value.proofs.OperatorTyping.{op_takes}
use Rattle.ioa_words.specs.Decoding.{decoded, Does}
use Rattle.ioa_words.proofs.OperatorLemmas.{agrees}

-- what an operator takes on values, and what does the same on their words, where it gives a type
pub found : (t types : Table) (op : Op) (tys : List ℕ) (vs : List Val) (o : Option Ty) (ty : Ty) → t ≡ types → AreTypes types → HaveTypes t vs tys → option_map number o ≡ op_type t op tys → o ≡ Some ty
    → Takes t op vs × Does types op vs (decoded types op tys)
found t types op tys vs o ty is declared have e some =
    let typed : op_type types op tys ≡ Some (number ty) = subst (λ u. op_type u op tys ≡ Some (number ty)) is (sym e ∙ ap (option_map number) some) in
    let own : HaveTypes types vs tys = subst (λ u. HaveTypes u vs tys) is have in (
      subst (λ u. Takes u op vs) (sym is) (op_takes types declared op vs tys (number ty) own typed),
      agrees types declared op tys vs (number ty) own typed,
    )
