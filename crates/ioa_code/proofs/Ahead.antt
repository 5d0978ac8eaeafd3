-- An instruction whose ways lead forward jumps ahead.
use Rattle.std.proofs.Common.{◌≡◌, ℕ, ◌+◌, inl, List, [], ◌∷◌, ◌++◌, length, Ok, refl, sym, subst}
use Rattle.ioa_code.specs.declared.instr.Instr.{Instr}
use Rattle.ioa_code.specs.declared.instr.Instr.TheVariants.{Const, Slot, Arg, Store, Jump, JumpIfFalse, Any, Pick, Apply, Each, Again, Local}
use Rattle.ioa_code.specs.declared.reason.Reason.TheVariants.{TooShort, Mistyped}
use Rattle.ioa_code.specs.Valid.{Part, Way, way, may_loop, wanted, unheld, item_on, after, IsAhead, Leads, GoForward}
use Rattle.ioa_code.proofs.Sound.{either_is, allowed_is, unheld_is, wanted_is}
use Rattle.ioa_code.proofs.Turning.{top_of}

pub ahead : (part : Part) (fast p : ℕ) (i : Instr) (ts : List ℕ) (ways : List Way) → after part fast p i ts ≡ Ok ways → GoForward (length part.code.instrs) p ways → IsAhead (length part.code.instrs) p i
ahead part fast p (Const k) ts ways h on = tt
ahead part fast p (Slot k) ts ways h on = tt
ahead part fast p (Arg k) ts ways h on = tt
ahead part fast p (Store k) ts ways h on = tt
ahead part fast p (Jump t) ts ways h on =
    let same : ways ≡ way t ts ∷ [] = cc in on t ts (subst (λ l. Leads l t ts) (sym same) (inl (refl, refl)))
ahead part fast p (JumpIfFalse t) ts ways h on =
    let e = either_is t p _ ways h in on t e.0 (subst (λ l. Leads l t e.0) (sym e.2) (inl (refl, refl)))
ahead part fast p Any ts ways h on = tt
ahead part fast p (Pick ty) ts ways h on = tt
ahead part fast p (Apply op) ts ways h on = tt
ahead part fast p (Each e) ts ways h on =
    let a = allowed_is (may_loop part.kind) _ ways h in
    let o = top_of 1 ts TooShort (λ below top. unheld fast below (wanted Mistyped (item_on part.code.types top) (λ item. Ok (way e below ∷ way (p + 1) (ts ++ item ∷ []) ∷ [])))) ways a.1 in
    let u = unheld_is fast o.0 _ ways o.3 in
    let w = wanted_is Mistyped (item_on part.code.types o.1) _ ways u.1 in
    let q = w.2 in
    let same : ways ≡ way e o.0 ∷ way (p + 1) (ts ++ w.0 ∷ []) ∷ [] = cc in
    on e o.0 (subst (λ l. Leads l e o.0) (sym same) (inl (refl, refl)))
ahead part fast p (Again t) ts ways h on = tt
ahead part fast p (Local d) ts ways h on = tt
