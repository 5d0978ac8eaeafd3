use Rattle.std.proofs.Common.{◌≡◌, [], ◌∷◌, ◌++◌, map, Some, None, Ok, sym, ap, ◌∙◌, arith}
use Rattle.std.specs.Option.{option_map}
use Rattle.std.proofs.lemmas.Result.{IfOk-weaker}
use Rattle.ioa_value.specs.Operators.{arity, op_type}
use Rattle.ioa_value.specs.Plain.{number}
use Rattle.ioa_code.specs.declared.reason.Reason.TheVariants.{Mistyped}
use Rattle.ioa_code.specs.Valid.{wanted}
use Rattle.ioa_code.specs.Stacks.{topmost, taken, Passes}
use Rattle.ioa_code.proofs.Passing.{operator, apply_passes, apply_held, apply_short}
use Rattle.ioa_code.proofs.verifier.applied.Goals as goal
use Rattle.ioa_code.proofs.verifier.applied.Goals.{In-Some}

-- what was taken
found : (c : In-Some) → topmost c.args.stacks.now.nodes c.args.stack (arity c.args.types.now c.args.op) ≡ Some (c.in-Some.below, map number c.in-Some.operands.items)
found c =
    ap (topmost c.args.stacks.now.nodes c.args.stack) (sym c.arity.ensures) ∙ sym c.in_ok-below.ensures.taken ∙ ap taken c.in-Some.is

pub returns-then-height-fast : goal.returns-then-height-fast
returns-then-height-fast c =
    apply_held c.args.types.now c.args.stacks.now c.args.fast c.args.op c.args.stack (c.in-Some.below, map number c.in-Some.operands.items) (found (goal.at.returns-then-height-fast c).In-Some) (λ below s. let n = c.height.ensures below s in let lt = c.if-height-fast.true in omega arith)

pub returns-in-Some : goal.returns-in-Some
returns-in-Some c =
    let old = c.args.stacks.now in
    let new = c.pushed.new.stacks in
    let operands = map number c.in-Some.operands.items in
    let same : option_map number c.op_type.result ≡ op_type c.args.types.now c.args.op operands =
    c.op_type.ensures ∙ ap (λ l. op_type c.args.types.now c.args.op (map number l)) c.deref.ensures.value in
    IfOk-weaker c.pushed.result
    (λ r. Passes old new c.in-Some.below r (λ ts. wanted Mistyped (option_map number c.op_type.result) (λ ty. Ok (ts ++ ty ∷ []))))
    (λ r. Passes old new c.args.stack r (operator c.args.types.now c.args.fast c.args.op))
    (λ r h. apply_passes c.args.types.now old new c.args.fast c.args.op c.args.stack (c.in-Some.below, operands) (option_map number c.op_type.result) r (found (goal.at.returns-in-Some c).In-Some) same (λ below s. let n = c.height.ensures below s in let le = c.if-height-fast.false in omega arith) h)
    c.pushed.ensures

pub returns : goal.returns
returns c =
    let old = c.args.stacks.now in
    let found : topmost old.nodes c.args.stack (arity c.args.types.now c.args.op) ≡ None =
    ap (topmost old.nodes c.args.stack) (sym c.arity.ensures) ∙ sym c.in_ok-below.ensures.taken ∙ ap taken c.in-None.is in
    apply_short c.args.types.now old c.args.fast c.args.op c.args.stack found
