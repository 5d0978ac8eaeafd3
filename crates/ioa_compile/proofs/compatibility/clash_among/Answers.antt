use Rattle.std.proofs.Common.{map, ap, ◌∙◌}
use Rattle.ioa_clash.specs.Clashes.{signature_of}
use Rattle.ioa_compile.specs.Shown.{member_code}
use Rattle.ioa_compile.proofs.Clashing.{all_signatures, exact_by, first_told}
use Rattle.ioa_compile.proofs.compatibility.clash_among.Goals as goal

pub first_clash-requires-clause-signed : goal.first_clash-requires-clause-signed
first_clash-requires-clause-signed c =
    all_signatures c.args.types.now (map member_code c.args.members.now) c.requires.members (map signature_of c.deref.result.now)
    (ap (map signature_of) c.deref.ensures.value ∙ c.in_ok-signatures.ensures)

pub returns-clause-exact : goal.returns-clause-exact
returns-clause-exact c =
    exact_by c.args.types.now (map member_code c.args.members.now) c.requires.members (map signature_of c.deref.result.now)
    (ap (map signature_of) c.deref.ensures.value ∙ c.in_ok-signatures.ensures) c.first_clash.result c.first_clash.ensures.exact

pub returns-clause-first : goal.returns-clause-first
returns-clause-first c =
    first_told c.args.types.now (map member_code c.args.members.now) c.requires.members (map signature_of c.deref.result.now)
    (ap (map signature_of) c.deref.ensures.value ∙ c.in_ok-signatures.ensures) c.first_clash.result c.first_clash.ensures.first
