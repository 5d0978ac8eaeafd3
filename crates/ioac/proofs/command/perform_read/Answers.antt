use Rattle.std.proofs.Common.{ap, inl, inr, subst, ◌∙◌}
use Rattle.clap.specs.Words.{subcommand_of, subcommand_rows_of}
use Rattle.ioa_device.specs.Devices.{change}
use Rattle.ioa_request.specs.declared.request.Request.{Request}
use Rattle.ioa_request.specs.CommandLine.{IsAskedBy, ioac_app, is_explained}
use Rattle.ioa_request.specs.Cuts.{cut_of}
use Rattle.ioa_serving.specs.Worlds.{files, world}
use Rattle.ioa_serving.proofs.Kept.{keeps_same}
use Rattle.ioac.specs.Commands.{IsAnsweredOf}
use Rattle.ioac.proofs.Taken.{uncut}
use Rattle.ioac.proofs.Unasked.{is_unasked}
use Rattle.ioac.proofs.command.perform_read.Goals as goal

pub returns-in-Some-clause-performs : goal.returns-in-Some-clause-performs
returns-in-Some-clause-performs g c = λ words found faults.
    (let asked : Request = c.in-Some.asked in
    let w =
    world (files g.F.Store.holds g.F.Store.lacks g.F.Store.begins g.F.Store.bars g.F.Store.saves c.args.store.now c.answer_of.new.store)
    (change g.R.Read.remaining g.R.Device.failure_count c.args.input.now.inner c.answer_of.new.input.inner)
    (change g.W.Write.contents g.W.Device.failure_count c.args.output.now c.answer_of.new.output)
    (change g.E.Write.contents g.E.Device.failure_count c.args.errors.now c.answer_of.new.errors) in
    inr (
      asked,
      (faults, subst (λ o. IsAskedBy o asked) found c.in-Some.ensures.some),
      subst (λ k. IsAnsweredOf k (is_explained (subcommand_of ioac_app words)) w asked c.answer_of.result) (c.read_cut-cut.ensures ∙ ap cut_of found)
          (subst (λ b. IsAnsweredOf c.read_cut-cut.result b w asked c.answer_of.result) (c.is_explained-explains.ensures ∙ ap is_explained found) c.answer_of.ensures.answers),
    ))

pub returns-in-Some-clause-kept : goal.returns-in-Some-clause-kept
returns-in-Some-clause-kept g c = λ none.
    let asked : Request = c.in-Some.asked in
    c.answer_of.ensures.kept (none asked c.in-Some.ensures.some)

pub returns-in-Some-clause-unread : goal.returns-in-Some-clause-unread
returns-in-Some-clause-unread g c = λ none.
    let asked : Request = c.in-Some.asked in
    let quiet = none asked c.in-Some.ensures.some in
    c.answer_of.ensures.unread (uncut (subcommand_rows_of c.args.matches.now) c.read_cut-cut.result asked c.read_cut-cut.ensures c.in-Some.ensures.some quiet) quiet

pub returns-in-None-clause-performs : goal.returns-in-None-clause-performs
returns-in-None-clause-performs g c = λ words found faults.
    inl (is_unasked words (subcommand_rows_of c.args.matches.now)
    (change g.W.Write.contents g.W.Device.failure_count c.args.output.now c.args.output.now)
    (change g.E.Write.contents g.E.Device.failure_count c.args.errors.now c.told_unasked.new.errors) c.told_unasked.result
    found faults c.in-None.ensures.none (keeps_same (g.W.Write.contents c.args.output.now)) c.told_unasked.ensures.tells)
