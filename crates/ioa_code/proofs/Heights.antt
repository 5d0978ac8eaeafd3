-- How high the stacks of valid code are: no higher than their places.
use Rattle.std.proofs.Common.{◌≡◌, ℕ, zero, suc, ◌+◌, ◌-◌, ◌<◌, ◌≤◌, ◌==◌, nat_le, if◌then◌else◌, Bool, true, false, List, [], ◌∷◌, ◌++◌, length, map, take, drop, Option, Some, None, Result, refl, sym, ap, ◌∙◌, subst, Ok, Err, arith, inl, inr}
use Rattle.std.specs.Prelude.{slice_get}
use Rattle.std.proofs.lemmas.List.{length-append}
use Rattle.ioa_value.specs.Typing.{own}
use Rattle.ioa_value.specs.Operators.{op_type, arity}
use Rattle.ioa_code.specs.declared.instr.Instr.{Instr}
use Rattle.ioa_code.specs.declared.instr.Instr.TheVariants.{Const, Slot, Arg, Store, Jump, JumpIfFalse, Any, Pick, Apply, Each, Again, Local}
use Rattle.ioa_code.specs.declared.reason.Reason.{Reason}
use Rattle.ioa_code.specs.declared.reason.Reason.TheVariants.{NoConstant, NoVariable, NotAllowed, TooShort, Mistyped}
use Rattle.ioa_code.specs.Machine.{on_top}
use Rattle.ioa_code.specs.Picks.{counted}
use Rattle.ioa_code.specs.Valid.{Part, Way, way, reads_arguments, writes_slots, takes_words, may_loop, wanted, allowed, unheld, popped, exchanged, item_on, to_next, to_either, after, Leads, IsTable}
use Rattle.ioa_code.proofs.Sound.{wanted_is, allowed_is, unheld_is}

take_short : (n : ℕ) (ts : List ℕ) → length (take n ts) ≤ length ts
take_short zero ts = omega arith
take_short (suc n) [] = omega arith
take_short (suc n) (t ∷ ts) = omega (arith, take_short n ts)

longer : (below us : List ℕ) (ty n : ℕ) → length below ≤ n → ◌≡◌ {A = Result (List ℕ) Reason} (Ok (below ++ ty ∷ [])) (Ok us) → length us ≤ n + 1
longer below us ty n short e =
    let same : below ++ ty ∷ [] ≡ us = cc in
    let long : length us ≡ length below + 1 = ap length (sym same) ∙ length-append below (ty ∷ []) in
    omega arith

below_is : {B : Type 0} (n : ℕ) (ts : List ℕ) (why : Reason) (f : List ℕ → List ℕ → Result B Reason) (b : B) → on_top n ts (Err why) f ≡ Ok b
    → f (take (length ts - n) ts) (drop (length ts - n) ts) ≡ Ok b
below_is {B} n ts why f b e = go (nat_le n (length ts)) e
  where
    go : (t : Bool) → (if t then f (take (length ts - n) ts) (drop (length ts - n) ts) else Err why) ≡ Ok b → f (take (length ts - n) ts) (drop (length ts - n) ts) ≡ Ok b
    go true e = e
    go false e = absurd (cc)

popped_short : (ty n : ℕ) (below top us : List ℕ) → length below ≤ n → popped ty below top ≡ Ok us → length us ≤ n + 1
popped_short ty n below [] us short e = absurd (cc)
popped_short ty n below (t ∷ u ∷ more) us short e = absurd (cc)
popped_short ty n below (t ∷ []) us short e = go (t == ty) e
  where
    go : (b : Bool) → (if b then Ok below else Err Mistyped) ≡ Ok us → length us ≤ n + 1
    go true e = let same : below ≡ us = cc in let long = ap length same in omega arith
    go false e = absurd (cc)

exchanged_short : (ty n : ℕ) (below top us : List ℕ) → length below ≤ n → exchanged ty below top ≡ Ok us → length us ≤ n + 1
exchanged_short ty n below [] us short e = absurd (cc)
exchanged_short ty n below (t ∷ u ∷ more) us short e = absurd (cc)
exchanged_short ty n below (t ∷ []) us short e = go (t == ty) e
  where
    go : (b : Bool) → (if b then Ok (below ++ ty ∷ []) else Err Mistyped) ≡ Ok us → length us ≤ n + 1
    go true e = longer below us ty n short e
    go false e = absurd (cc)

to_one : (p : ℕ) (r : Result (List ℕ) Reason) (ways : List Way) (q : ℕ) (us : List ℕ) → to_next p r ≡ Ok ways → Leads ways q us → r ≡ Ok us
to_one p (Ok ts) ways q us e l =
    let same : ways ≡ way (p + 1) ts ∷ [] = cc in
    elim (subst (λ (ws : List Way). Leads ws q us) same l) [
      | inl h ↦ ap Ok (sym h.1)
      | inr none ↦ absurd none
    ]
to_one p (Err why) ways q us e l = absurd (cc)

to_two : (t p : ℕ) (r : Result (List ℕ) Reason) (ways : List Way) (q : ℕ) (us : List ℕ) → to_either t p r ≡ Ok ways → Leads ways q us → r ≡ Ok us
to_two t p (Ok ts) ways q us e l =
    let same : ways ≡ way t ts ∷ way (p + 1) ts ∷ [] = cc in
    elim (subst (λ (ws : List Way). Leads ws q us) same l) [
      | inl h ↦ ap Ok (sym h.1)
      | inr (inl h) ↦ ap Ok (sym h.1)
      | inr (inr none) ↦ absurd none
    ]
to_two t p (Err why) ways q us e l = absurd (cc)

-- an instruction brings one item more at most
grown : (part : Part) (fast p : ℕ) (i : Instr) (ts : List ℕ) (ways : List Way) (q : ℕ) (us : List ℕ) → after part fast p i ts ≡ Ok ways → Leads ways q us → length us ≤ length ts + 1
grown part fast p (Const k) ts ways q us e l = let w = wanted_is NoConstant (slice_get (map own part.code.consts) k) (λ ty. Ok (ts ++ ty ∷ [])) us (to_one p _ ways q us e l) in longer ts us w.0 (length ts) (omega arith) w.2
grown part fast p (Slot i) ts ways q us e l = let w = wanted_is NoVariable (slice_get part.slots i) (λ ty. Ok (ts ++ ty ∷ [])) us (to_one p _ ways q us e l) in longer ts us w.0 (length ts) (omega arith) w.2
grown part fast p (Arg i) ts ways q us e l = let w = wanted_is NotAllowed (slice_get part.args i) (λ ty. Ok (ts ++ ty ∷ [])) us (allowed_is (reads_arguments part.kind) _ us (to_one p _ ways q us e l)).1 in longer ts us w.0 (length ts) (omega arith) w.2
grown part fast p (Store i) ts ways q us e l =
    let w = wanted_is NoVariable (slice_get part.slots i) (λ ty. allowed (writes_slots part.kind) (on_top 1 ts (Err TooShort) (λ below top. unheld fast below (popped ty below top)))) us (to_one p _ ways q us e l) in
    let b = below_is 1 ts TooShort (λ below top. unheld fast below (popped w.0 below top)) us (allowed_is (writes_slots part.kind) _ us w.2).1 in
    popped_short w.0 (length ts) (take (length ts - 1) ts) (drop (length ts - 1) ts) us (take_short (length ts - 1) ts) (unheld_is fast _ _ _ b).1
grown part fast p (Jump t) ts ways q us e l =
    let same : ways ≡ way t ts ∷ [] = cc in
    elim (subst (λ (ws : List Way). Leads ws q us) same l) [
      | inl h ↦ let long = ap length h.1 in omega arith
      | inr none ↦ absurd none
    ]
grown part fast p (JumpIfFalse t) ts ways q us e l =
    let b = below_is 1 ts TooShort (λ below top. unheld fast below (popped 0 below top)) us (to_two t p _ ways q us e l) in
    popped_short 0 (length ts) (take (length ts - 1) ts) (drop (length ts - 1) ts) us (take_short (length ts - 1) ts) (unheld_is fast _ _ _ b).1
grown part fast p Any ts ways q us e l =
    let b = below_is 1 ts TooShort (λ below top. unheld fast below (exchanged 1 below top)) us (allowed_is (takes_words part.kind) _ us (to_one p _ ways q us e l)).1 in
    exchanged_short 1 (length ts) (take (length ts - 1) ts) (drop (length ts - 1) ts) us (take_short (length ts - 1) ts) (unheld_is fast _ _ _ b).1
grown part fast p (Pick ty) ts ways q us e l = let w = wanted_is Mistyped (counted part.code.types ty.0) (λ t. Ok (ts ++ t ∷ [])) us (allowed_is (takes_words part.kind) _ us (to_one p _ ways q us e l)).1 in longer ts us w.0 (length ts) (omega arith) w.2
grown part fast p (Apply op) ts ways q us e l =
    let n = arity part.code.types op in
    let below = take (length ts - n) ts in
    let b = below_is n ts TooShort (λ below operands. unheld fast below (wanted Mistyped (op_type part.code.types op operands) (λ ty. Ok (below ++ ty ∷ [])))) us (to_one p _ ways q us e l) in
    let w = wanted_is Mistyped (op_type part.code.types op (drop (length ts - n) ts)) (λ ty. Ok (below ++ ty ∷ [])) us (unheld_is fast below _ us b).1 in
    longer below us w.0 (length ts) (take_short (length ts - n) ts) w.2
grown part fast p (Each t) ts ways q us e l =
    let below = take (length ts - 1) ts in
    let b = below_is 1 ts TooShort (λ below top. unheld fast below (wanted Mistyped (item_on part.code.types top) (λ item. Ok (way t below ∷ way (p + 1) (ts ++ item ∷ []) ∷ [])))) ways (allowed_is (may_loop part.kind) _ ways e).1 in
    let w = wanted_is Mistyped (item_on part.code.types (drop (length ts - 1) ts)) (λ item. Ok (way t below ∷ way (p + 1) (ts ++ item ∷ []) ∷ [])) ways (unheld_is fast below _ ways b).1 in
    let same : ways ≡ way t below ∷ way (p + 1) (ts ++ w.0 ∷ []) ∷ [] = let k = w.2 in cc in
    elim (subst (λ (ws : List Way). Leads ws q us) same l) [
      | inl h ↦ let long = ap length h.1 in let short = take_short (length ts - 1) ts in omega arith
      | inr (inl h) ↦ longer ts us w.0 (length ts) (omega arith) (ap Ok (sym h.1))
      | inr (inr none) ↦ absurd none
    ]
grown part fast p (Again t) ts ways q us e l =
    let b = below_is 1 ts TooShort (λ below top. Ok []) ways (allowed_is (may_loop part.kind) _ ways e).1 in
    let same : ways ≡ [] = cc in
    absurd (subst (λ (ws : List Way). Leads ws q us) same l)
grown part fast p (Local d) ts ways q us e l = let w = wanted_is TooShort (slice_get ts d) (λ ty. Ok (ts ++ ty ∷ [])) us (allowed_is (may_loop part.kind) _ us (to_one p _ ways q us e l)).1 in longer ts us w.0 (length ts) (omega arith) w.2

module _ (part : Part) (table : List (List ℕ)) (valid : IsTable part table) where
  up_to : (n q : ℕ) → q ≤ n → q ≤ length part.code.instrs → (ts : List ℕ) → slice_get table q ≡ Some ts → length ts ≤ q
  up_to n zero le within ts at =
      let both : Some [] ≡ Some ts = sym valid.start ∙ at in
      let same : [] ≡ ts = cc in
      let long = ap length same in
      omega arith
  up_to zero (suc q) le within ts at = absurd (omega arith)
  up_to (suc n) (suc q) le within ts at =
      let r = valid.reached (suc q) (omega arith) within in
      let a = r.1 in
      let passes = valid.each a.from a.instr a.had a.there a.types in
      let both : ◌≡◌ {A = Result (List Way) Reason} (Ok passes.ways) (Ok a.ways) = sym passes.finds ∙ a.finds in
      let ways : a.ways ≡ passes.ways = cc in
      let brought = passes.brings (suc q) r.0 (subst (λ (ws : List Way). Leads ws (suc q) r.0) ways a.leads) in
      let there : Some r.0 ≡ Some ts = sym brought ∙ at in
      let same : r.0 ≡ ts = cc in
      let had = let before = a.before in up_to n a.from (omega arith) (omega arith) a.had a.types in
      let more = grown part _ a.from a.instr a.had a.ways (suc q) r.0 a.finds a.leads in
      let long = ap length same in
      let before = a.before in
      omega arith

  -- a place has at most as many types on the stack as there are places before it
  pub no_higher : (q : ℕ) → q ≤ length part.code.instrs → (ts : List ℕ) → slice_get table q ≡ Some ts → length ts ≤ q
  no_higher q = up_to q q (omega arith)
