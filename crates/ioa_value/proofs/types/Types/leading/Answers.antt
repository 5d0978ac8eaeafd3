use Rattle.std.proofs.Common.{rules, sym, ◌∙◌}
use Rattle.ioa_value.specs.Table.{AreTypes}
use Rattle.ioa_value.proofs.CompleteLemmas.{letterless}
use Rattle.ioa_value.proofs.RowLemmas.{has_bool, has_int}
use Rattle.ioa_value.proofs.types.Types.leading.Goals as goal

pub returns-then-not-begins_with_letter-clause-value : goal.returns-then-not-begins_with_letter-clause-value
returns-then-not-begins_with_letter-clause-value c =
    let t : AreTypes c.args.self.now = search rules in
    sym (letterless c.args.self.now t c.args.word.now (sym c.begins_with_letter.ensures ∙ c.if-not-begins_with_letter.true))

pub returns-then-not-begins_with_letter-clause-within : goal.returns-then-not-begins_with_letter-clause-within
returns-then-not-begins_with_letter-clause-within c =
    let t : AreTypes c.args.self.now = search rules in
    has_int c.args.self.now t

pub returns-then-eq-clause-within : goal.returns-then-eq-clause-within
returns-then-eq-clause-within c = has_bool c.args.self.now c.spelled_constant-constant.ensures.types

pub returns-in-None-clause-within : goal.returns-in-None-clause-within
returns-in-None-clause-within c = has_int c.args.self.now c.spelled_constant-constant.ensures.types
