use Rattle.std.proofs.Common.{◌≡◌, ℕ, List, Some, is_some, codes, sym, ap, subst, ◌∙◌}
use Rattle.std.specs.Option.{option_map}
use Rattle.std.proofs.lemmas.Bool.{MatchBool-at_false, MatchBool-at_true}
use denote.Ref.{Bor}
use Rattle.ioa_value.specs.Actions.{Act, act_of}
use Rattle.ioa_json.specs.Says.{text_at}
use Rattle.ioa_watch.specs.Listening.{known}
use Rattle.ioa_watch.specs.Streams.{StandsFor}
use Rattle.ioa_watch.proofs.Listened.{act_no_end, no_act, without_act, without_end}
use Rattle.ioa_watch.proofs.lines.Listener.listen_to.Goals as goal

pub returns-then-branch-clause-ok : goal.returns-then-branch-clause-ok
returns-then-branch-clause-ok c = λ d are.
    let types = c.args.self.now.types.now in
    let a : Act = act_of c.read.new.self.action in
    let at : text_at (codes "act") d ≡ Some c.in-Some.act.now = sym are.0 ∙ ap (option_map (λ (s : Bor (List ℕ)). s.now)) c.in-Some.is in
    (c.in-Some.act.now, at, subst (λ (t : List ℕ). StandsFor types (known c.args.watchers.now) t a) c.as_bytes.ensures.value (MatchBool-at_true _ _ c.if-branch.true c.in_ok-read.ensures.found))

pub returns-in-Some-clause-bad : goal.returns-in-Some-clause-bad
returns-in-Some-clause-bad c = λ d are n e.
    let types = c.args.self.now.types.now in
    let k = known c.args.watchers.now in
    let at : text_at (codes "act") d ≡ Some c.in-Some.act.now = sym are.0 ∙ ap (option_map (λ (s : Bor (List ℕ)). s.now)) c.in-Some.is in
    let none = subst (λ (t : List ℕ). (a : Act) → StandsFor types k t a → ⊥) c.as_bytes.ensures.value (MatchBool-at_false _ _ c.if-branch.false c.in_ok-read.ensures.found) in
    ((cc), no_act types k d c.in-Some.act.now at none, act_no_end types k d c.in-Some.act.now at)

pub returns-in-Some-end-clause-ok : goal.returns-in-Some-end-clause-ok
returns-in-Some-end-clause-ok c = λ d are.
    let now = option_map (λ (s : Bor (List ℕ)). s.now) in
    (sym are.0 ∙ ap now c.in_default.is, ap is_some (sym are.1 ∙ ap now c.in-Some-end.is))

pub returns-in-None-clause-bad : goal.returns-in-None-clause-bad
returns-in-None-clause-bad c = λ d are n e.
    let types = c.args.self.now.types.now in
    let k = known c.args.watchers.now in
    let now = option_map (λ (s : Bor (List ℕ)). s.now) in
    ((cc), without_act types k d (sym are.0 ∙ ap now c.in_default.is), without_end types k d (sym are.1 ∙ ap now c.in-None.is))
