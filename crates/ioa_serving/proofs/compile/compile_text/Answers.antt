use Rattle.ioa_compose.specs.Held.{composed_of}
use Rattle.ioa_serving.proofs.compile.compile_text.Goals as goal

pub returns-clause-compiles : goal.returns-clause-compiles
returns-clause-compiles c =
    let of = c.in_ok-composed.ensures.composes in
    (of.0, of.1, (composed_of c.in_ok-composed.composed, of.2, c.in_ok-program.ensures))
