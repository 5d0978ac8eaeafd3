use Rattle.std.proofs.Common.{◌++◌, ◌∷◌, [], ap, ◌∙◌}
use Rattle.ioa_rules.proofs.NameSetLemmas.{has_more}
use Rattle.ioa_rules.proofs.name_set.NameSet.insert.Goals as goal

pub invariant_of-self-in-Continue-branch-3 : goal.invariant_of-self-in-Continue-branch-3
invariant_of-self-in-Continue-branch-3 c =
    has_more c.self.inside.sorted c.insert.new.self c.args.name c.self.inside.names.items c.push.new.self.items c.in_ok-added.ensures.updates
    (c.in_ok-push.ensures.items ∙ ap (λ l. l ++ c.args.name ∷ []) c.in_ok-reserve.ensures.items) c.self.invariant
