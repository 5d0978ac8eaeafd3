use Rattle.std.proofs.Common.{map, sym, ap, subst, ◌∙◌}
use Rattle.std.proofs.lemmas.Bool.{false≢true, MatchBool-at_true, MatchBool-at_false}
use Rattle.ioa_value.specs.Plain.{plain}
use Rattle.ioa_value.specs.Actions.{act_of}
use Rattle.ioa_value.specs.Names.{is_name}
use Rattle.ioa_value.specs.Reads.{ReadsArguments}
use Rattle.ioa_value.proofs.ActionLemmas.{named, renamed, only_renamed}
use Rattle.ioa_value.proofs.action.Action.read.Goals as goal

pub returns-then-not-is_name-clause-found : goal.returns-then-not-is_name-clause-found
returns-then-not-is_name-clause-found c = λ a r.
    let n = named c.args.types.now c.args.text.now a r in
    false≢true (sym c.if-not-is_name.true ∙ c.is_name.ensures ∙ ap is_name (c.first_word-front.ensures.word ∙ n.name) ∙ n.legal)

pub returns-then-not-is_name-clause-only : goal.returns-then-not-is_name-clause-only
returns-then-not-is_name-clause-only c = λ a r. absurd (returns-then-not-is_name-clause-found c a r)

pub returns-then-not-branch-clause-found : goal.returns-then-not-branch-clause-found
returns-then-not-branch-clause-found c = λ a r.
    let n = named c.args.types.now c.args.text.now a r in
    let none = MatchBool-at_false _ _ c.if-not-branch.true c.in_ok-read_arguments.ensures.read in
    none a.vals (subst (λ x. ReadsArguments c.args.types.now x a.vals) (sym c.first_word-front.ensures.rest) n.arguments)

pub returns-then-not-branch-clause-only : goal.returns-then-not-branch-clause-only
returns-then-not-branch-clause-only c = λ a r. absurd (returns-then-not-branch-clause-found c a r)

pub returns-clause-found : goal.returns-clause-found
returns-clause-found c =
    let args = MatchBool-at_true _ _ c.if-not-branch.false c.in_ok-read_arguments.ensures.read in
    renamed c.args.types.now c.args.text.now c.first_word-front.result.word.now (act_of (record { name = c.rename.new.name; vals = c.read_arguments.new.vals })) c.rename.result
    (sym c.is_name.ensures ∙ c.if-not-is_name.false)
    (sym c.first_word-front.ensures.word)
    (subst (λ x. ReadsArguments c.args.types.now x (map plain c.read_arguments.new.vals.items)) c.first_word-front.ensures.rest args)
    c.rename.ensures

pub returns-clause-only : goal.returns-clause-only
returns-clause-only c = λ a r.
    let n = named c.args.types.now c.args.text.now a r in
    let args = c.in_ok-read_arguments.ensures.only a.vals (subst (λ x. ReadsArguments c.args.types.now x a.vals) (sym c.first_word-front.ensures.rest) n.arguments) in
    only_renamed c.first_word-front.result.word.now a (act_of (record { name = c.rename.new.name; vals = c.read_arguments.new.vals })) c.rename.result
    (sym c.is_name.ensures ∙ c.if-not-is_name.false)
    (c.first_word-front.ensures.word ∙ n.name) args.1 c.rename.ensures
