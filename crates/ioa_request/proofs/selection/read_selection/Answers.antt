use Rattle.std.proofs.Common.{Some, ap, sym, ◌∙◌, codes}
use Rattle.std.specs.Option.{option_copied}
use Rattle.clap.specs.Words.{found_of, rows_of}
use Rattle.clap.proofs.WalkLemmas.{raw_values-rows}
use Rattle.ioa_request.specs.Selections.{names_in}
use Rattle.ioa_request.proofs.Asked.{SelectsNothing, bound_read, none_so, unbounded_from, unbounded_to, unordered}
use Rattle.ioa_request.proofs.selection.read_selection.Goals as goal

pub returns-in_err-from-clause-none : goal.returns-in_err-from-clause-none
returns-in_err-from-clause-none c =
    none_so _ (SelectsNothing (rows_of (found_of c.args.found.now))) c.from_residual.ensures
    (unbounded_from c.args.found.now (option_copied c.get_str-first.result) c.get_str-first.ensures c.in_err-from.ensures)

pub returns-in_err-to-clause-none : goal.returns-in_err-to-clause-none
returns-in_err-to-clause-none c =
    none_so _ (SelectsNothing (rows_of (found_of c.args.found.now))) c.from_residual-in_err-to.ensures
    (unbounded_to c.args.found.now (option_copied c.get_str-last.result) c.get_str-last.ensures c.in_err-to.ensures)

pub returns-then-are_in_order-clause-some : goal.returns-then-are_in_order-clause-some
returns-then-are_in_order-clause-some c =
    let found = c.args.found.now in
    record {
      from = bound_read found (codes "from") (option_copied c.get_str-first.result) (Some c.in_ok-from.from) c.get_str-first.ensures c.in_ok-from.ensures;
      to = bound_read found (codes "to") (option_copied c.get_str-last.result) (Some c.in_ok-to.to) c.get_str-last.ensures c.in_ok-to.ensures;
      order = sym c.if-are_in_order.ensures;
      without = c.names_in-without.ensures ∙ ap names_in (c.get_strs-names.ensures ∙ raw_values-rows (found_of found) (codes "without"));
    }

pub returns-else-are_in_order-clause-none : goal.returns-else-are_in_order-clause-none
returns-else-are_in_order-clause-none c =
    unordered c.args.found.now (option_copied c.get_str-first.result) (option_copied c.get_str-last.result) c.in_ok-from.from c.in_ok-to.to c.get_str-first.ensures
    c.in_ok-from.ensures c.get_str-last.ensures c.in_ok-to.ensures c.if-are_in_order.ensures
