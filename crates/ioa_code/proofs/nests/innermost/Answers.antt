use Rattle.std.proofs.Common.{◌∷◌, [], length, sym, ap, ◌∙◌, subst, arith}
use Rattle.std.proofs.lemmas.List.{length-append}
use Rattle.ioa_code.specs.Loops.{bodies, first_of, AreInnermost}
use Rattle.ioa_code.proofs.Innermost.{innermost_more}
use Rattle.ioa_code.proofs.nests.innermost.Goals as goal

pub search-found-requires-clause-long : goal.search-found-requires-clause-long
search-found-requires-clause-long c = ap length c.deref.ensures.value ∙ c.loop-place.invariant.long

pub search-found-requires-clause-known : goal.search-found-requires-clause-known
search-found-requires-clause-known c = subst (AreInnermost c.args.instrs.now) (sym c.deref.ensures.value) c.loop-place.invariant.known

pub loop-place-preserved : goal.loop-place-preserved
loop-place-preserved c =
    let long = c.loop-place.invariant.long in
    let items = c.in_ok-push.ensures.items in
    record {
      long = omega (arith, ap length items, length-append c.loop-place.inner.items (c.search-found.result ∷ []));
      known = subst (AreInnermost c.args.instrs.now) (sym items)
          (innermost_more c.args.instrs.now c.loop-place.inner.items c.search-found.result c.loop-place.invariant.known (c.search-found.ensures ∙ ap (λ n. first_of (bodies c.args.instrs.now n)) (sym long)));
    }
