use Rattle.ioa_serving.proofs.Wanting.{cut_behind, cut_name, line_there}
use Rattle.ioa_serving.proofs.reports.send_line.Goals as goal

pub returns-in_err-send_all-in-Memory-clause-begun : goal.returns-in_err-send_all-in-Memory-clause-begun
returns-in_err-send_all-in-Memory-clause-begun g c =
    cut_name c.from_residual.result c.args.name.now c.as_bytes.result.now c.args.why c.in-Memory.is c.as_bytes.ensures.value (g.W.Write.contents c.args.output.now)
    (g.W.Write.contents c.send_all.new.output) c.in_err-send_all-in-Memory.ensures.begun

pub returns-in_ok-send_all-in-Memory-clause-begun : goal.returns-in_ok-send_all-in-Memory-clause-begun
returns-in_ok-send_all-in-Memory-clause-begun g c =
    cut_behind c.send_all-in-Memory.result c.args.name.now c.as_bytes.result.now c.args.why c.in-Memory.is c.as_bytes.ensures.value (g.W.Write.contents c.args.output.now)
    (g.W.Write.contents c.send_all.new.output) (g.W.Write.contents c.send_all-in-Memory.new.output) c.in_ok-send_all-in-Memory.ensures.ok c.send_all-in-Memory.ensures.begun

pub returns-in_ok-send_all-in-Memory-clause-quiet : goal.returns-in_ok-send_all-in-Memory-clause-quiet
returns-in_ok-send_all-in-Memory-clause-quiet g c = λ none. absurd (line_there c.args.name.now c.args.why c.in-Memory.is none)
