use Rattle.std.proofs.Common.{inl, inr, refl}
use Rattle.std.proofs.lemmas.Option.{slice_get_past, slice_get_read}
use Rattle.ioa_causes.proofs.misfits.stuck_words.Goals as goal

-- the token that is told has the index
pub returns-in-Some : goal.returns-in-Some
returns-in-Some c =
    let found = c.in-Some.ensures.lookup in
    inl (
      c.in-Some.token.now,
      c.as_str.result.now,
      slice_get_read c.args.tokens.now _ c.args.at c.in-Some.token.now refl found.3.0 found.1,
      c.in_ok-misfit_words-in-Some.ensures,
    )

-- or none has it
pub returns : goal.returns
returns c = inr (
  c.as_str-in-None.result.now,
  slice_get_past c.args.tokens.now c.args.at c.in-None.ensures.lookup.3,
  c.in_ok-end_words-in-None.ensures,
)
