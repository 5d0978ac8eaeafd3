use Rattle.ioa_object.proofs.ObjectLaws.{one_object, one_program, none_begins_another}
use Rattle.ioa_object.proofs.laws.objects_are_their_programs.Goals as goal

pub returns-clause-object : goal.returns-clause-object
returns-clause-object c = one_object

pub returns-clause-program : goal.returns-clause-program
returns-clause-program c = one_program

pub returns-clause-apart : goal.returns-clause-apart
returns-clause-apart c = none_begins_another
