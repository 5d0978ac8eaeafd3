use Rattle.std.proofs.Common.{◌++◌, ◌∷◌, string_bytes}
use Rattle.ioa_account.proofs.Remarking.{on_ok}
use Rattle.ioa_request.specs.Explained.{explanation_text}
use Rattle.ioac.proofs.remarks.refused.put.Goals as goal

pub returns-clause-differs : goal.returns-clause-differs
returns-clause-differs g c = λ n e.
    on_ok c.put_meaning.result
    (λ h. (string_bytes c.put_found.new.text, c.as_str.result.now ++ (10 ∷ explanation_text h.0), c.in_ok-put_found.ensures.differs n e, h.2)) c.put_meaning.ensures
