use Rattle.std.proofs.Common.{◌≡◌, ℕ, List, sym, ap, subst, ◌∙◌}
use Rattle.std.proofs.lemmas.Bool.{MatchBool-at_false, MatchBool-at_true}
use Rattle.ioa_value.specs.Actions.{Act, act_of}
use Rattle.ioa_value.specs.Reads.{Reads}
use Rattle.ioa_watch.specs.Listening.{known}
use Rattle.ioa_watch.proofs.Listened.{stands_for_none, stands_if}
use Rattle.ioa_watch.proofs.lines.Listener.read.Goals as goal

pub returns-then-not-branch-clause-found : goal.returns-then-not-branch-clause-found
returns-then-not-branch-clause-found c =
    let types = c.args.self.now.types.now in
    let first = MatchBool-at_false _ _ c.if-branch.false c.in_ok-read.ensures.found in
    let second = subst (λ (t : List ℕ). (a : Act) → Reads types t a → ⊥) c.before_values-name.ensures (MatchBool-at_false _ _ c.if-not-branch.true c.in_ok-read-2.ensures.found) in
    stands_for_none types (known c.args.watchers.now) c.args.text.now first second

pub returns-clause-found : goal.returns-clause-found
returns-clause-found c =
    let types = c.args.self.now.types.now in
    let ws = c.args.watchers.now in
    let a : Act = act_of c.read-2.new.self in
    let first = MatchBool-at_false _ _ c.if-branch.false c.in_ok-read.ensures.found in
    let name = subst (λ (t : List ℕ). Reads types t a) c.before_values-name.ensures (MatchBool-at_true _ _ c.if-not-branch.false c.in_ok-read-2.ensures.found) in
    let is : known ws a.name ≡ c.is_known.result = ap (known ws) (sym c.as_str.ensures.value) ∙ sym c.is_known.ensures in
    stands_if types (known ws) c.args.text.now a c.is_known.result is first name
    (λ b r. (c.in_ok-read-2.ensures.only b (subst (λ (t : List ℕ). Reads types t b) (sym c.before_values-name.ensures) r)).1)
