-- The machine follows proposals, and takes the words that they take.
use Rattle.std.proofs.Common.{◌≡◌, ℕ, zero, suc, ◌+◌, ◌%◌, ◌==◌, ◌≤◌, ◌⊎◌, inl, inr, IsTrue, ℤ, pos, negsuc, List, [], ◌∷◌, ◌++◌, length, Option, Some, None, refl, sym, ap, ◌∙◌, subst, append_assoc, append-nil}
use Rattle.std.specs.Option.{option_map_or}
use Rattle.ioa_arithmetic.specs.declared.arithmetic.Fault.{Fault}
use Rattle.ioa_value.specs.Operators.{Answer, gives, faults, nothing, IsTypedAnswer}
use Rattle.ioa_value.specs.Plain.{Val, truth, num, name}
use Rattle.ioa_value.specs.Table.{Table, AreTypes, Shape, truths, numbers, names, fields, sequence, shape_at, type_named}
use Rattle.ioa_value.proofs.TypingLemmas.{is_number}
use Rattle.ioa_code.specs.declared.instr.Instr.TheVariants.{Any, Pick}
use Rattle.ioa_code.specs.Machine.{Listing, State, state, End, done, fault, idle, Move, over, stuck, drawn_below, any_popped, picked, move, After, Ends}
use Rattle.ioa_code.specs.Picks.{number_picked, value_of}
use Rattle.ioa_code.specs.Bound.{bound}
use Rattle.ioa_code.specs.Valid.{Part}
use Rattle.ioa_code.proofs.Lists.{on_top-append}
use Rattle.ioa_parts.specs.Proposals.{proposing}
use Rattle.ioa_tree.specs.Tree.{FieldTree, PositionTree, typed, only, ChoiceTree, exactly, any_below, ProposalTree}
use Rattle.ioa_tree.specs.Answers.{Suits}
use Rattle.ioa_tree.specs.Meaning.{Env, val}
use Rattle.ioa_tree.specs.Proposing as meaning
use Rattle.ioa_tree.specs.Proposing.{Words, Tried, tries, then_try, exact, below, numbered, choice, parameter, parameters}
use Rattle.ioa_tree.specs.WellFormed.{Context, is_numbered}
use Rattle.ioa_tree.proofs.ValTyped.{val_typed}
use Rattle.ioa_compile.specs.CodeEnds.{ProposalEnds}
use Rattle.ioa_emit.specs.Placed.{At, HasChoice, HasProposal, HasProposals}
use Rattle.ioa_emit.specs.Scopes.{Scope, proposal_for}
use Rattle.ioa_compile.proofs.Proposed.{ChoiceTyped, ProposalTyped, ProposalsTyped}
use Rattle.ioa_compile.proofs.Running as running
use Rattle.ioa_compile.proofs.Running.{Comes, comes_on, step, moves, Reaches, Agrees, expr_runs}
use Rattle.ioa_compile.proofs.Standing.{lies_on_none}

module _ (code : Listing) (s : Scope) (words : Words) (slots : List Val) where
  abbrev pub at : ℕ → ℕ → List Val → State
  at taken p stack = state p stack slots [] words taken

  -- the machine ends idle, or by a fault
  pub record Quits (x : State) (taken : ℕ) : Type 0 where
    pub end : End
    pub quits : (end ≡ idle taken) ⊎ ((f : Fault) × (end ≡ fault f taken))
    pub count : ℕ
    pub ends : Ends code count x end

  quits_on : (x y : State) (taken : ℕ) → Comes code x y → Quits y taken → Quits x taken
  quits_on x y taken c q =
      let r = c.by q.end q.count q.ends in
      record { end = q.end; quits = q.quits; count = r.0; ends = r.1 }

  quits_here : (x : State) (taken : ℕ) → move code x ≡ over (idle taken) → Quits x taken
  quits_here x taken e =
      let P : Move → Type 0 = λ m. After m (λ z. Ends code 0 z (idle taken)) (λ g. (◌≡◌ {A = ℕ} 0 0) × (idle taken ≡ g)) in
      record { end = idle taken; quits = inl refl; count = 1; ends = subst P (sym e) (refl, refl) }

  -- the machine comes to q with what is tried on the stack, or quits
  abbrev pub Tries : State → ℕ → List Val → Tried Val → Type 0
  Tries x q stack (tries v n) = Comes code x (at n q (stack ++ v ∷ []))
  Tries x q stack (meaning.idle n) = Quits x n

  abbrev pub TriesAll : State → ℕ → List Val → Tried (List Val) → Type 0
  TriesAll x q stack (tries vs n) = Comes code x (at n q (stack ++ vs))
  TriesAll x q stack (meaning.idle n) = Quits x n

  tries_on : (x y : State) (q : ℕ) (stack : List Val) (t : Tried Val) → Comes code x y → Tries y q stack t → Tries x q stack t
  tries_on x y q stack (tries v n) c r = comes_on code x y (at n q (stack ++ v ∷ [])) c r
  tries_on x y q stack (meaning.idle n) c r = quits_on x y n c r

  exact_tries : (taken q : ℕ) (x : State) (stack : List Val) (ty : ℕ) (types : Table) (a : Answer) → IsTypedAnswer types ty a → Reaches code s [] words taken x q stack slots a → Tries x q stack (exact a taken)
  exact_tries taken q x stack ty types (gives v) t r = r
  exact_tries taken q x stack ty types (faults f) t r =
      record { end = fault f taken; quits = inr (f, refl); count = r.0; ends = r.1 }
  exact_tries taken q x stack ty types nothing t r = absurd t

  -- any number below the one on the stack
  popped : (taken m : ℕ) (stack : List Val) (z : ℤ) → At code m Any → move code (at taken m (stack ++ num z ∷ [])) ≡ drawn_below (at taken m (stack ++ num z ∷ [])) stack (number_picked z (words taken))
  popped taken m stack z h =
      let full = stack ++ num z ∷ [] in
      moves code s [] words taken m full slots Any _ h (on_top-append 1 stack (num z ∷ []) stuck (λ under top. any_popped (at taken m full) under top) refl)

  any_tries : (taken m : ℕ) (stack : List Val) (z : ℤ) → At code m Any → Tries (at taken m (stack ++ num z ∷ [])) (m + 1) stack (below words (num z) taken)
  any_tries taken m stack (pos zero) h =
      quits_here (at taken m (stack ++ num (pos zero) ∷ [])) taken (popped taken m stack (pos zero) h)
  any_tries taken m stack (negsuc n) h =
      quits_here (at taken m (stack ++ num (negsuc n) ∷ [])) taken (popped taken m stack (negsuc n) h)
  any_tries taken m stack (pos (suc n)) h =
      step code (at taken m (stack ++ num (pos (suc n)) ∷ [])) (at (taken + 1) (m + 1) (stack ++ num (pos (words taken % suc n)) ∷ [])) (popped taken m stack (pos (suc n)) h)

  -- a value of a type, by its number
  pick_tries : (taken p ty : ℕ) (stack : List Val) (o : Option Shape) → shape_at code.types ty ≡ o → IsTrue (is_numbered o) → At code p (Pick (record { 0 = ty })) → Tries (at taken p stack) (p + 1) stack (numbered words ty o taken)
  pick_tries taken p ty stack (Some truths) e n h =
      step code (at taken p stack) (at (taken + 1) (p + 1) (stack ++ truth (words taken % 2 == 1) ∷ []))
      (moves code s [] words taken p stack slots (Pick (record { 0 = ty })) _ h (ap (λ o. picked (at taken p stack) (value_of ty o (words taken))) e))
  pick_tries taken p ty stack (Some (names ns)) e n h =
      step code (at taken p stack) (at (taken + 1) (p + 1) (stack ++ name ty (words taken % length ns) ∷ []))
      (moves code s [] words taken p stack slots (Pick (record { 0 = ty })) _ h (ap (λ o. picked (at taken p stack) (value_of ty o (words taken))) e))
  pick_tries taken p ty stack (Some numbers) e n h = absurd (cc)
  pick_tries taken p ty stack (Some (fields fs)) e n h = absurd (cc)
  pick_tries taken p ty stack (Some (sequence most of)) e n h = absurd (cc)
  pick_tries taken p ty stack None e n h = absurd (cc)

  module _ (types : Table) (same_types : code.types ≡ types) (own_types : s.types ≡ types) (declared : AreTypes types) (c : Context) (own_context : (s.loops ++ s.context) ≡ c) (env : Env) (suits : Suits types c env) (agrees : Agrees code s [] words 0 types env [] slots) where
    choice_tries : (k : ChoiceTree) (ty taken p q : ℕ) (stack : List Val) → ChoiceTyped types c k ty → HasChoice code s k p q → Tries (at taken p stack) q stack (choice words types env k taken)
    choice_tries (exactly e) ty taken p q stack t h =
        exact_tries taken q (at taken p stack) stack ty types (val types e env) (val_typed types declared c env e ty suits t) (expr_runs code s [] words taken types same_types own_types declared c own_context env suits [] slots agrees e ty p q stack (lies_on_none stack) t h)
    choice_tries (any_below e) ty taken p q stack t h =
        let m = h.0 in
        let answer = val types e env in
        let known = val_typed types declared c env e 1 suits t.1 in
        let run = exact_tries taken m (at taken p stack) stack 1 types answer known (expr_runs code s [] words taken types same_types own_types declared c own_context env suits [] slots agrees e 1 p m stack (lies_on_none stack) t.1 h.1) in
        subst (λ k. Tries (at taken p stack) k stack (then_try (exact answer taken) (below words))) (sym h.3) (go answer known run)
      where
        go : (a : Answer) → IsTypedAnswer types 1 a → Tries (at taken p stack) h.0 stack (exact a taken) → Tries (at taken p stack) (h.0 + 1) stack (then_try (exact a taken) (below words))
        go (gives v) known r =
            let z = is_number types declared v known in
            tries_on (at taken p stack) (at taken h.0 (stack ++ v ∷ [])) (h.0 + 1) stack (below words v taken) r
            (subst (λ w. Tries (at taken h.0 (stack ++ w ∷ [])) (h.0 + 1) stack (below words w taken)) (sym z.1) (any_tries taken h.0 stack z.0 h.2))
        go (faults f) known r = r
        go nothing known r = absurd known

    parameter_tries : (rs : List ProposalTree) (f : FieldTree) (ty taken p q : ℕ) (stack : List Val) → type_named types f.ty ≡ Some ty → ProposalTyped types c (proposal_for rs f) ty → HasProposal code s f (proposal_for rs f) p q → Tries (at taken p stack) q stack (parameter words types env rs f taken)
    parameter_tries rs f ty taken p q stack is_named t h = go (proposal_for rs f) t h
      where
        picks : Option ℕ → Tried Val
        picks o = option_map_or (λ n. numbered words n (shape_at types n) taken) o (meaning.idle taken)

        go : (o : Option ProposalTree) → ProposalTyped types c o ty → HasProposal code s f o p q → Tries (at taken p stack) q stack (option_map_or (λ r. choice words types env r.choice taken) o (picks (type_named types f.ty)))
        go (Some r) t h = choice_tries r.choice ty taken p q stack t h
        go None t h =
            let both : Some ty ≡ Some h.0 = sym is_named ∙ ap (λ l. type_named l f.ty) (sym own_types) ∙ h.1 in
            let same : ty ≡ h.0 = cc in
            let shape = ap (λ l. shape_at l ty) same_types in
            let here = subst (λ n. At code p (Pick (record { 0 = n }))) (sym same) h.2 in
            subst (λ n. Tries (at taken p stack) n stack (picks (type_named types f.ty))) (sym h.3)
            (subst (λ o. Tries (at taken p stack) (p + 1) stack (picks o)) (sym is_named) (pick_tries taken p ty stack (shape_at types ty) shape t here))

    pub proposals_try : (rs : List ProposalTree) (ps : List PositionTree) (taken p q : ℕ) (stack : List Val) → ProposalsTyped types c rs ps → HasProposals code s rs ps p q → TriesAll (at taken p stack) q stack (parameters words types env rs ps taken)
    proposals_try rs [] taken p q stack t h =
        subst (λ n. Comes code (at taken p stack) (at taken n (stack ++ []))) (sym h)
        (subst (λ l. Comes code (at taken p stack) (at taken p l)) (sym (append-nil stack)) (running.stays code (at taken p stack)))
    proposals_try rs (only k ∷ ps) taken p q stack t h = proposals_try rs ps taken p q stack t h
    proposals_try rs (typed f ∷ ps) taken p q stack t h =
        go (parameter words types env rs f taken) (parameter_tries rs f t.0.0 taken p h.0 stack t.0.1 t.0.2 h.1) (λ after v. proposals_try rs ps after h.0 q (stack ++ v ∷ []) t.1 h.2)
      where
        go : (u : Tried Val) → Tries (at taken p stack) h.0 stack u → ((after : ℕ) (v : Val) → TriesAll (at after h.0 (stack ++ v ∷ [])) q (stack ++ v ∷ []) (parameters words types env rs ps after)) → TriesAll (at taken p stack) q stack (then_try u (λ v after. then_try (parameters words types env rs ps after) (λ vs. tries (v ∷ vs))))
        go (meaning.idle n) r more = r
        go (tries v after) r more = rest (parameters words types env rs ps after) (more after v)
          where
            rest : (u : Tried (List Val)) → TriesAll (at after h.0 (stack ++ v ∷ [])) q (stack ++ v ∷ []) u → TriesAll (at taken p stack) q stack (then_try u (λ vs. tries (v ∷ vs)))
            rest (tries vs n) k =
                comes_on code (at taken p stack) (at after h.0 (stack ++ v ∷ [])) (at n q (stack ++ v ∷ vs)) r
                (subst (λ l. Comes code (at after h.0 (stack ++ v ∷ [])) (at n q l)) (append_assoc stack (v ∷ []) vs) k)
            rest (meaning.idle n) k = quits_on (at taken p stack) (at after h.0 (stack ++ v ∷ [])) n r k

-- the whole part, whose runs come to their ends within its bound
pub tried_ends : (part : Part) (s : Scope) (slots : List Val) (words : Words) → ((n : ℕ) (r : End) → Ends part.code n (proposing slots words) r → n ≤ bound part) → (u : Tried (List Val)) → TriesAll part.code s words slots (at part.code s words slots 0 0 []) (length part.code.instrs) [] u → ProposalEnds part slots words u
tried_ends part s slots words within (tries vs n) c =
    let r = c.by (done vs slots n) 0 (refl, refl) in (r.0, within r.0 (done vs slots n) r.1, r.1)
tried_ends part s slots words within (meaning.idle n) q = go q.end q.quits q.ends
  where
    go : (e : End) → (e ≡ idle n) ⊎ ((f : Fault) × (e ≡ fault f n)) → Ends part.code q.count (proposing slots words) e → ProposalEnds part slots words (meaning.idle n)
    go e (inl is) k =
        inl (q.count, within q.count e k, subst (Ends part.code q.count (proposing slots words)) is k)
    go e (inr is) k =
        inr (is.0, (q.count, within q.count e k, subst (Ends part.code q.count (proposing slots words)) is.1 k))
