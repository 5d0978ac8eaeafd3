-- The theorem: in every run the delivered messages are a beginning of the sent ones.
use Rattle.std.proofs.Common.{◌≡◌, ℕ, List, [], ◌∷◌, ◌++◌, take, refl, sym, ap, subst, ◌∙◌, append_assoc, append-nil, codes}
use Rattle.ioa_value.specs.Actions.{Name, Act}
use Rattle.ioa_tree.specs.Steps.{next, step}
use Rattle.ioa_tree.specs.Runs.{run}
use Rattle.ioa_links.proofs.Tables.{World, nodes, stenning, start, Node}
use Rattle.ioa_links.specs.Delivery.{values_if, values_under, sent, delivered, Begins}
use Rattle.ioa_links.proofs.Kept.{run_keeps}
use Rattle.ioa_links.proofs.Steps.{step_moves}
use Rattle.ioa_links.proofs.Invariant.{Inv, starts, move_keeps}

one_later : (x : Name) (past : List Act) (a : Act) → values_under x (past ++ a ∷ []) ≡ values_under x past ++ values_if x a
one_later x [] a = append-nil (values_if x a)
one_later x (b ∷ past) a = ap (λ z. values_if x b ++ z) (one_later x past a) ∙ sym (append_assoc (values_if x b) (values_under x past) (values_if x a))

-- a world in which the invariant holds of what was sent and delivered
record Stands (past : List Act) (ss : List Node) : Type 0 where
  pub world : World
  pub states : ss ≡ nodes world
  pub holds : Inv (sent past) (delivered past) world

keeps : (past : List Act) (a : Act) (ss ts : List Node) → Stands past ss → step stenning a ss ≡ next ts → Stands (past ++ a ∷ []) ts
keeps past a ss ts h e =
    let f = step_moves h.world a ts (subst (λ x. step stenning a x ≡ next ts) h.states e) in
    let k = move_keeps (sent past) (delivered past) h.world h.holds a f.world f.moves in
    let v : World = f.world in
    record {
      world = v;
      states = f.all;
      holds = subst (λ x. Inv x (delivered (past ++ a ∷ [])) v) (sym (one_later (codes "send_msg") past a))
          (subst (λ y. Inv (sent past ++ values_if (codes "send_msg") a) y v) (sym (one_later (codes "receive_msg") past a)) k);
    }

begins : (past : List Act) (ss : List Node) → Stands past ss → Begins (delivered past) (sent past)
begins past ss h =
    let g = h.holds.progress in
    let w : World = h.world in
    (w.sink.inner.out ++ g.ahead, sym (append_assoc (delivered past) w.sink.inner.out g.ahead) ∙ sym g.taken)

-- in what is performed of any list of actions, with any number of crashes, delivered is a beginning of sent
pub stenning_begins : (n : ℕ) (acts : List Act)
    → Begins (delivered (take (run stenning acts (nodes (start n))).performed acts)) (sent (take (run stenning acts (nodes (start n))).performed acts))
stenning_begins n acts =
    begins (take (run stenning acts (nodes (start n))).performed acts) (run stenning acts (nodes (start n))).states
    (run_keeps stenning Stands keeps acts (nodes (start n)) (record { world = start n; states = refl; holds = starts n }))
