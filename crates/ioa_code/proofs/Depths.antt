-- How deep a new stack is.
use Rattle.std.proofs.Common.{ℕ, ◌+◌, [], ◌++◌, append-nil, sym, ap, ◌∙◌, arith}
use Rattle.std.proofs.lemmas.List.{append_assoc}
use Rattle.ioa_code.specs.declared.stacks.Depth.{Depth}
use Rattle.ioa_code.specs.Stacks.{Numbering, IsDepth, Deepens}

-- one type more than on the stack below, and this earlier stack
abbrev pub deeper : Depth → ℕ → Depth
deeper here under = record { height = here.height + 1; under = under }

module _ (s : Numbering) (below : ℕ) (here : Depth) (d : IsDepth s.nodes below here) where
  -- the step leads to the stack below
  pub deepens_below : Deepens s below (deeper here below)
  deepens_below = record {
    height = λ ts x. let h = d.height ts x in omega arith;
    low = let l = d.low in omega arith;
    earlier = omega arith;
    beneath = λ ts x. (ts, x, ([], sym (append-nil ts)));
  }

  -- the step leads on to where the step from beneath leads
  pub deepens_under : (next : Depth) → IsDepth s.nodes here.under next → Deepens s below (deeper here next.under)
  deepens_under next n = record {
    height = λ ts x. let h = d.height ts x in omega arith;
    low = let l = d.low in omega arith;
    earlier = let a = d.earlier in let b = n.earlier in omega arith;
    beneath = λ ts x.
        let y = d.beneath ts x in
        let z = n.beneath y.0 y.1 in
        (z.0, z.1, (z.2.0 ++ y.2.0, y.2.1 ∙ ap (λ l. l ++ y.2.0) z.2.1 ∙ append_assoc z.0 z.2.0 y.2.0));
  }
