use Rattle.std.specs.Option.{option_copied}
use Rattle.std.proofs.Common.{inl, refl}
use Rattle.ioa_request.proofs.ToldWords.{phrased, unnamed}
use Rattle.ioa_request.proofs.pasted.named.Goals as goal

pub returns-in-Some-clause-some : goal.returns-in-Some-clause-some
returns-in-Some-clause-some c = inl (c.in-Some.code, refl, c.in-Some.ensures.some)

pub returns-in-None-clause-some : goal.returns-in-None-clause-some
returns-in-None-clause-some c = phrased c.args.word.now (option_copied c.args.second) c.phrase.result c.phrase.ensures

pub returns-in-None-clause-none : goal.returns-in-None-clause-none
returns-in-None-clause-none c = unnamed c.args.word.now (option_copied c.args.second) c.phrase.result c.phrase.ensures c.in-None.ensures.none
