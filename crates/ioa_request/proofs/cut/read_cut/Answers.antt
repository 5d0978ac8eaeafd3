use Rattle.std.proofs.Common.{None, Bool, if◌then◌else◌, ap, refl, sym, ◌∙◌}
use Rattle.clap.specs.Words.{found_of, rows_of}
use Rattle.ioa_request.specs.Cuts.{cut_in, cut_of}
use Rattle.ioa_request.proofs.Asked.{lent}
use Rattle.ioa_request.proofs.Cutting.{cut_none}
use Rattle.ioa_request.proofs.cut.read_cut.Goals as goal

pub returns-in_err-name : goal.returns-in_err-name
returns-in_err-name c = c.from_residual.ensures ∙ cut_none c.args.matches.now c.in_err-name.ensures.rows

pub returns-then-is_performed : goal.returns-then-is_performed
returns-then-is_performed c =
    let found = c.in_ok-name.found.now in
    let name = c.in_ok-name.name.now in
    let rows = rows_of (found_of found) in
    c.cut_in.ensures ∙ sym (ap (λ (b : Bool). if b then cut_in rows else None) (sym c.is_performed.ensures ∙ c.if-is_performed.true))
    ∙ sym (ap cut_of (lent c.args.matches.now found name name c.in_ok-name.ensures.name c.in_ok-name.ensures.rows refl))

pub returns-else-is_performed : goal.returns-else-is_performed
returns-else-is_performed c =
    let found = c.in_ok-name.found.now in
    let name = c.in_ok-name.name.now in
    let rows = rows_of (found_of found) in
    sym (ap (λ (b : Bool). if b then cut_in rows else None) (sym c.is_performed.ensures ∙ c.if-is_performed.false))
    ∙ sym (ap cut_of (lent c.args.matches.now found name name c.in_ok-name.ensures.name c.in_ok-name.ensures.rows refl))
