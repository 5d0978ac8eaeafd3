use Rattle.ioa_compile.specs.Programs.{Prog}
use Rattle.ioa_compile.proofs.Outlined.{outlines_alike, programs_told}
use Rattle.ioa_compile.proofs.program.Program.same.Goals as goal

pub returns-then-is_named_like : goal.returns-then-is_named_like
returns-then-is_named_like c =
    let p : Prog = c.args.self.now in
    let q : Prog = c.args.other.now in
    let named = c.is_named_like.ensures.0 c.if-is_named_like.true in (
      λ t. programs_told p q c.members.result.now c.members-then-is_named_like.result.now c.members.ensures.sound c.members-then-is_named_like.ensures.sound c.members.ensures.value
          c.members-then-is_named_like.ensures.value named.0 named.1 (c.are_alike.ensures.0 t) named.2,
      λ e. c.are_alike.ensures.1 (outlines_alike p q c.members.result.now c.members-then-is_named_like.result.now c.members.ensures.value c.members-then-is_named_like.ensures.value e),
    )
