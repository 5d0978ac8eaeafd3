use Rattle.std.proofs.Common.{sym, ap, ◌∙◌}
use Rattle.ioa_value.specs.Plain.{plain, items}
use Rattle.ioa_value.proofs.PlainLemmas.{plain-Items}
use Rattle.ioa_value.proofs.SequenceLemmas.{placed_given, absent_given}
use Rattle.ioa_value.proofs.sequences.without.Goals as goal

pub returns-in-Some : goal.returns-in-Some
returns-in-Some c =
    plain-Items c.args.ty c.remove.new.self
    ∙ ap (items c.args.ty.0) (placed_given (plain c.args.item.now) c.args.items.items c.deref.result.now c.remove.new.self.items c.in-Some.place c.deref.ensures.value (sym c.in-Some.ensures.place) c.remove.ensures.items)

pub returns-in-None : goal.returns-in-None
returns-in-None c =
    plain-Items c.args.ty c.args.items
    ∙ ap (items c.args.ty.0) (absent_given (plain c.args.item.now) c.args.items.items c.deref.result.now c.deref.ensures.value (sym c.in-None.ensures.place))
