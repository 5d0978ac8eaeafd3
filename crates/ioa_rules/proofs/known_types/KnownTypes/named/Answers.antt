use Rattle.ioa_rules.proofs.KnownLemmas.{named-early, named-late, named-none}
use Rattle.ioa_rules.proofs.known_types.KnownTypes.named.Goals as goal

pub returns-in-Some : goal.returns-in-Some
returns-in-Some c = named-early c.args.self.now.count c.args.self.now.types.now _ _ c.named.result c.in-Some.ty c.in-Some.is c.named.ensures.place
    c.as_str.ensures.value c.if-ty-self.true

pub returns-in_default : goal.returns-in_default
returns-in_default c = named-late c.args.self.now.count c.args.self.now.types.now _ _ c.named.result c.in-Some.ty c.in-Some.is c.named.ensures.place
    c.as_str.ensures.value c.if-ty-self.false

pub returns-in_default-2 : goal.returns-in_default-2
returns-in_default-2 c = named-none c.args.self.now.count c.args.self.now.types.now _ _ c.named.result c.in_default.is c.named.ensures.place
    c.as_str.ensures.value
