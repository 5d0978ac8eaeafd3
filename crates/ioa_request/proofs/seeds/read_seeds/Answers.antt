use Rattle.std.proofs.Common.{codes, sym}
use Rattle.std.specs.Option.{option_copied}
use Rattle.ioa_request.proofs.Asked.{given, range_read, unasked_seeds, unranged}
use Rattle.ioa_request.proofs.seeds.read_seeds.Goals as goal

pub returns-in_err-word-clause-none : goal.returns-in_err-word-clause-none
returns-in_err-word-clause-none c = unasked_seeds c.args.found.now _ c.in_err-word.ensures c.from_residual.ensures

pub returns-in_err-first-clause-none : goal.returns-in_err-first-clause-none
returns-in_err-first-clause-none c = unranged c.args.found.now c.in_ok-word.word.now _ c.in_ok-word.ensures c.in_err-first.ensures c.from_residual-in_err-first.ensures

pub returns-then-admits_seeds-clause-some : goal.returns-then-admits_seeds-clause-some
returns-then-admits_seeds-clause-some c = record {
  run = c.in_ok-run.ensures.some;
  admitted = sym c.if-admits_seeds.ensures;
  monitors = sym c.all_given-monitors.ensures;
  invariants = sym c.is_set-invariants.ensures;
  json = sym c.asks_json-json.ensures;
  keep = given c.args.found.now (codes "keep") (option_copied c.get_str-keep.result) c.get_str-keep.ensures;
  range = range_read c.args.found.now c.in_ok-word.word.now (c.in_ok-first.first, c.in_ok-first.last) c.in_ok-word.ensures c.in_ok-first.ensures;
}
