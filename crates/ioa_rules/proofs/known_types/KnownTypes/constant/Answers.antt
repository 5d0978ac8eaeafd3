use Rattle.ioa_rules.proofs.KnownLemmas.{constant-early, constant-late, constant-none}
use Rattle.ioa_rules.proofs.known_types.KnownTypes.constant.Goals as goal

pub returns-in-Some : goal.returns-in-Some
returns-in-Some c =
    constant-early c.args.self.now.count c.args.self.now.types.now _ _ c.constant.result (c.in-Some.ty, c.in-Some.field-0-1) c.in-Some.is
    c.constant.ensures.place c.as_str.ensures.value c.if-ty-self.true

pub returns-in_default : goal.returns-in_default
returns-in_default c =
    constant-late c.args.self.now.count c.args.self.now.types.now _ _ c.constant.result (c.in-Some.ty, c.in-Some.field-0-1) c.in-Some.is
    c.constant.ensures.place c.as_str.ensures.value c.if-ty-self.false

pub returns-in_default-2 : goal.returns-in_default-2
returns-in_default-2 c = constant-none c.args.self.now.count c.args.self.now.types.now _ _ c.constant.result c.in_default.is c.constant.ensures.place
    c.as_str.ensures.value
