use Rattle.std.proofs.Common.{◌≡◌, map, take}
use Rattle.ioa_compile.specs.Shown.{member_code}
use Rattle.ioa_run.specs.Locals.{known_in, locals_of}
use Rattle.ioa_run.proofs.locals.Locals.of.Given as goal

-- those of the components so far
abbrev pub invariant-loop-member : goal.invariant-loop-member
invariant-loop-member l = map known_in l.all.items ≡ map (locals_of l.program) (map member_code (take l.member-index l.member-items))
