use Rattle.std.proofs.Common.{inl, inr, string_bytes}
use Rattle.ioa_causes.proofs.Found.{if_found}
use Rattle.ioac.specs.Composed.{IsMissingFrom, IsMissingIn, IsOtherIn}
use Rattle.ioac.proofs.remarks.composed.missing_in.Goals as goal

pub returns-then-is_object : goal.returns-then-is_object
returns-then-is_object c =
    if_found (λ words. IsOtherIn c.args.bytes.now (string_bytes words)) (λ words. IsMissingFrom c.args.asked.now c.args.bytes.now (string_bytes words)) c.object_words.result
    (λ words tells. inr tells)
    c.object_words.ensures

pub returns : goal.returns
returns c =
    if_found (λ words. IsMissingIn c.args.asked.now c.args.bytes.now (string_bytes words)) (λ words. IsMissingFrom c.args.asked.now c.args.bytes.now (string_bytes words)) c.source_words.result
    (λ words tells. inl tells)
    c.source_words.ensures
