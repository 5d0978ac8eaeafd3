use Rattle.std.proofs.Common.{◌≡◌, ◌+◌, Some, None, Ok, Err, sym, ap, ◌∙◌, subst, arith}
use Rattle.std.specs.Option.{option_map}
use Rattle.ioa_value.specs.Plain.{number}
use Rattle.ioa_value.specs.Table.{item_type}
use Rattle.ioa_code.specs.declared.exits.Exits.TheVariants.{Two}
use Rattle.ioa_code.specs.declared.reason.Reason.TheVariants.{TooShort, Mistyped}
use Rattle.ioa_code.specs.Stacks.{exit, LeadsOn}
use Rattle.ioa_code.specs.Valid.{allowed, may_loop}
use Rattle.ioa_code.proofs.Items.{each_ways, each_missing, each_held, each_mistyped, each_leads}
use Rattle.ioa_code.proofs.verifier.each.Goals as goal

pub returns-in_default : goal.returns-in_default
returns-in_default c =
    let types = c.args.env.now.types.now in
    subst (λ k. LeadsOn c.args.stacks.now c.args.stacks.now c.args.stack (Err TooShort) (λ ts. allowed (may_loop k) (each_ways types c.args.fast c.args.end c.args.place ts))) (sym c.in-Eff.is)
    (each_missing types c.args.fast c.args.end c.args.place c.args.stack c.args.stacks.now (sym c.top.ensures.node ∙ c.in_default.is))

pub returns-then-height-fast : goal.returns-then-height-fast
returns-then-height-fast c =
    let types = c.args.env.now.types.now in
    subst (λ k. LeadsOn c.args.stacks.now c.args.stacks.now c.args.stack (Err TooShort) (λ ts. allowed (may_loop k) (each_ways types c.args.fast c.args.end c.args.place ts))) (sym c.in-Eff.is)
    (each_held types c.args.fast c.args.end c.args.place c.args.stack (c.in-Some.below, c.in-Some.found) c.args.stacks.now (sym c.top.ensures.node ∙ c.in-Some.is) (λ below s. let n = c.height.ensures below s in let lt = c.if-height-fast.true in omega arith))

pub returns-in-None : goal.returns-in-None
returns-in-None c =
    let types = c.args.env.now.types.now in
    let none : item_type types c.in-Some.found ≡ None = sym c.item_type.ensures ∙ ap (option_map number) c.in-None.is in
    subst (λ k. LeadsOn c.args.stacks.now c.args.stacks.now c.args.stack (Err Mistyped) (λ ts. allowed (may_loop k) (each_ways types c.args.fast c.args.end c.args.place ts))) (sym c.in-Eff.is)
    (each_mistyped types c.args.fast c.args.end c.args.place c.args.stack (c.in-Some.below, c.in-Some.found) c.args.stacks.now (sym c.top.ensures.node ∙ c.in-Some.is) none (λ below s. let n = c.height.ensures below s in let le = c.if-height-fast.false in omega arith))

pub returns-in_ok-start-in-Some-item_type : goal.returns-in_ok-start-in-Some-item_type
returns-in_ok-start-in-Some-item_type c =
    let types = c.args.env.now.types.now in
    let some : item_type types c.in-Some.found ≡ Some (number c.in-Some-item_type.item) = sym c.item_type.ensures ∙ ap (option_map number) c.in-Some-item_type.is in
    subst (λ k. LeadsOn c.args.stacks.now c.push.new.stacks c.args.stack (Ok (Two (exit c.args.end c.in-Some.below) (exit (c.args.place + 1) c.in_ok-start-in-Some-item_type.start))) (λ ts. allowed (may_loop k) (each_ways types c.args.fast c.args.end c.args.place ts))) (sym c.in-Eff.is)
    (each_leads types c.args.fast c.args.end c.args.place c.args.stack (c.in-Some.below, c.in-Some.found) c.args.stacks.now c.push.new.stacks c.in_ok-start-in-Some-item_type.start (number c.in-Some-item_type.item) c.in_ok-start-in-Some-item_type.ensures.grows (sym c.top.ensures.node ∙ c.in-Some.is) some c.in_ok-start-in-Some-item_type.ensures.node (λ below s. let n = c.height.ensures below s in let le = c.if-height-fast.false in omega arith))
