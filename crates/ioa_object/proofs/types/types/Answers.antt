use Rattle.std.proofs.Common.{Ok, ◌++◌, ◌∷◌, [], sym, ap, ◌∙◌, arith, length}
use Rattle.std.proofs.lemmas.List.{length-append}
use Rattle.ioa_object.specs.Reading.{declaration_at}
use Rattle.ioa_object.proofs.Formats.{yielded}
use Rattle.ioa_object.proofs.TypeFormats.{types_format}
use Rattle.ioa_bytes.proofs.Readers.{fails_on, built_failed, built_was, amid_fails, amid_more, amid_done}
use Rattle.ioa_object.proofs.types.types.Goals as goal

pub returns-in_err-declarations-2-clause-read : goal.returns-in_err-declarations-2-clause-read
returns-in_err-declarations-2-clause-read c =
    amid_fails declaration_at _ c.from_residual-in_err-declarations-2.result c.in_err-declarations-2.field-0.0 _ c.in_ok-count.count c.loop.counter c.loop.declarations c.loop.cursor _
    c.from_residual-in_err-declarations-2.ensures.1 c.loop-test.true c.loop.invariant.read
    (fails_on c.in_err-declarations-2.field-0.0 _ (declaration_at c.loop.declarations c.loop.cursor) (built_failed (λ d. c.loop.declarations ++ d ∷ []) _) c.in_err-declarations-2.ensures.read)

pub loop-preserved : goal.loop-preserved
loop-preserved c =
    let was = built_was (λ d. c.loop.declarations ++ d ∷ []) _ _ _ c.in_ok-declarations-2.ensures.read in
    record {
      read = amid_more declaration_at _ c.in_ok-count.count c.loop.counter c.loop.declarations c.in_ok-declarations-2.declarations c.loop.cursor c.one_more.new.cursor was.0 c.loop-test.true
          c.loop.invariant.read was.1 was.2;
      taken = c.in_ok-declarations-2.ensures.names;
      long = let grown = ap length was.2 ∙ length-append c.loop.declarations (was.0 ∷ []) in let long = c.loop.invariant.long in omega arith;
    }

pub returns : goal.returns
returns c =
    let read = amid_done declaration_at _ c.in_ok-count.count c.loop.counter c.loop.declarations c.loop.cursor c.loop-test.false c.loop.invariant.read
    ∙ ap (λ t. Ok (t, c.loop.cursor)) (sym c.in_ok-finish.ensures) in
    record {
      read = read;
      table = (yielded _ _ c.in_ok-finish.field-0 c.loop.cursor (types_format.yields c.args.cursor.now c.alloc-alloc.ensures.bytes) read).fine;
    }
