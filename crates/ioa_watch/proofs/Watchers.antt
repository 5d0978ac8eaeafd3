-- A watcher that heard one action more.
use Rattle.std.proofs.Common.{◌≡◌, ◌≤◌, List, [], ◌∷◌, ◌++◌, length, option_map, sym, ap, ◌∙◌, arith}
use Rattle.ioa_value.specs.Actions.{Act}
use Rattle.ioa_value.specs.Plain.{Val}
use Rattle.ioa_compile.specs.Programs.{Prog}
use Rattle.ioa_compile.specs.Tables.{start_states, tabled}
use Rattle.ioa_system.specs.Outcomes.{ending_of}
use Rattle.ioa_watch.specs.declared.watcher.Watcher.{Watcher}
use Rattle.ioa_watch.specs.Names.{names_of}
use Rattle.ioa_watch.specs.Watched.{Watching, hearing, starting}
use Rattle.ioa_watch.specs.Watchers.{HasHeard, heard_by, names_in, news, refused_by, watching_of}
use Rattle.ioa_watch.proofs.Counted.{counts_of}
use Rattle.ioa_watch.proofs.Hearing.{hearing_more}
use Rattle.ioa_watch.proofs.EntryNames.{names_apart}

module _ (p : Prog) (acts : List Act) (w : Watcher) (h : HasHeard p acts w) where
  pub heard_next : (a : Act) (new : Watcher) → new.system.program ≡ w.system.program → names_in new ≡ names_in w
      → watching_of new ≡ hearing (names_in w) (tabled w.system.program) a (watching_of w) → HasHeard p (acts ++ a ∷ []) new
  heard_next a new program names next = record {
    program = program ∙ h.program;
    names = names ∙ h.names;
    kept =
        next ∙ ap (λ ns. hearing ns (tabled w.system.program) a (watching_of w)) h.names ∙ ap (λ q. hearing (names_of p.members) (tabled q) a (watching_of w)) h.program
        ∙ ap (hearing (names_of p.members) (tabled p) a) h.kept
        ∙ sym (hearing_more (names_of p.members) (tabled p) acts a (starting (names_of p.members) (start_states p)));
  }

  -- it counts no more than came
  pub heard_few : w.heard ≤ length acts
  heard_few =
      let c = counts_of (names_of p.members) (tabled p) (names_apart p.members) acts (start_states p) in
      let same : w.heard ≡ (heard_by p acts).heard = ap (λ (x : Watching (List Val)). x.heard) h.kept in
      omega (arith, same, c.within)

  pub refusal_is : option_map ending_of w.refusal ≡ refused_by p acts
  refusal_is = ap (λ (x : Watching (List Val)). x.refusal) h.kept

-- what it tells is its news
pub told_is : (p : Prog) (acts : List Act) (w new : Watcher) (a : Act) → HasHeard p acts w → HasHeard p (acts ++ a ∷ []) new
    → news (option_map ending_of w.refusal) (option_map ending_of new.refusal) ≡ news (refused_by p acts) (refused_by p (acts ++ a ∷ []))
told_is p acts w new a h k =
    ap (λ o. news o (option_map ending_of new.refusal)) (refusal_is p acts w h) ∙ ap (news (refused_by p acts)) (refusal_is p (acts ++ a ∷ []) new k)
