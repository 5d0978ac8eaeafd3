use Rattle.ioa_device.proofs.LineReading.{has_byte}
use Rattle.ioa_device.proofs.line_reader.LineReader.advance.Goals as goal

pub returns-in_err-some-clause-asked : goal.returns-in_err-some-clause-asked
returns-in_err-some-clause-asked g c = λ h. (c.has_more.ensures.asked (has_byte c.args.self.now h)).0
