use Rattle.std.proofs.Common.{◌≡◌, ◌∙◌, ◌≤◌, true, false, length, map, sym, rules, arith}
use Rattle.std.proofs.lemmas.List.{length-map}
use Rattle.ioa_value.specs.Actions.{act_of}
use Rattle.ioa_value.proofs.ItemLemmas.{at_map}
use Rattle.ioa_compile.specs.Tables.{tabled}
use Rattle.ioa_board.specs.ProgramRooms.{IsInput}
use Rattle.ioa_run.proofs.Ending.{all_before, before_more, first_other}
use Rattle.ioa_run.proofs.beginning.check.Goals as goal

pub returns-then-not-branch : goal.returns-then-not-branch
returns-then-not-branch c = (
  c.if-turns-gt-MOST_TURNS.false,
  first_other (tabled c.args.program.now) (map act_of c.args.inputs.now) c.loop-i.i (act_of c.index-inputs-i.result) c.loop-i.invariant
      (at_map act_of c.args.inputs.now c.loop-i.i c.index-inputs-i.result (search rules) c.index-inputs-i.is)
      (λ p. (let t = c.in_ok-is_input.ensures.1 p in let f = c.if-not-branch.true in let q : false ≡ true = sym f ∙ t in cc)),
)

pub loop-i-preserved : goal.loop-i-preserved
loop-i-preserved c =
    before_more (IsInput (tabled c.args.program.now)) (map act_of c.args.inputs.now) c.loop-i.i (act_of c.index-inputs-i.result) c.loop-i.invariant
    (at_map act_of c.args.inputs.now c.loop-i.i c.index-inputs-i.result (search rules) c.index-inputs-i.is) (c.in_ok-is_input.ensures.0 c.if-not-branch.false)

pub returns : goal.returns
returns c =
    let most : length c.args.inputs.now ≤ c.loop-i.i = search rules in
    (c.if-turns-gt-MOST_TURNS.false, all_before (IsInput (tabled c.args.program.now)) (map act_of c.args.inputs.now) c.loop-i.i c.loop-i.invariant (omega (arith, most, length-map c.args.inputs.now act_of)))
