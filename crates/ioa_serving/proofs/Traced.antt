-- The texts of a run, line by line.
use Rattle.std.proofs.Common.{◌≡◌, ◌≤◌, ◌+◌, codes, ℕ, zero, suc, Bool, true, false, cond, List, [], ◌∷◌, ◌++◌, append_assoc, append-nil, filter, length, map, take, Some, slice_get, refl, sym, ap, ◌∙◌, arith}
use Rattle.std.proofs.lemmas.List.{take-map}
use Rattle.ioa_value.specs.Actions.{Act, Name, act_of}
use Rattle.ioa_value.specs.Table.{Table}
use Rattle.ioa_value.specs.Written.{written_action}
use Rattle.ioa_system.specs.declared.log.Log.{Log}
use Rattle.ioa_system.specs.declared.log.LogEntry.{LogEntry}
use Rattle.ioa_system.specs.Logs.{actions_of, logged}
use Rattle.ioa_log.specs.Replays.{lines_of}
use Rattle.ioa_board.specs.declared.report.Report.{Report}
use Rattle.ioa_account.proofs.Remarking.{entered_are}
use Rattle.ioa_serving.specs.RunReports.{name_at, report_line, reports_text}

-- one action more, where it is among those that are told
pub traced_more : (types : Table) (f : Act → Bool) (acts : List Act) (a : Act)
    → lines_of types (filter f (acts ++ a ∷ [])) ≡ lines_of types (filter f acts) ++ cond (f a) (written_action types a ++ 10 ∷ []) []
traced_more types f [] a = go (f a)
  where
    go : (t : Bool) → lines_of types (cond t (a ∷ []) []) ≡ [] ++ cond t (written_action types a ++ 10 ∷ []) []
    go true = refl
    go false = refl
traced_more types f (x ∷ xs) a = go (f x) (traced_more types f xs a)
  where
    go : (t : Bool) → lines_of types (filter f (xs ++ a ∷ [])) ≡ lines_of types (filter f xs) ++ cond (f a) (written_action types a ++ 10 ∷ []) []
        → lines_of types (cond t (x ∷ filter f (xs ++ a ∷ [])) (filter f (xs ++ a ∷ []))) ≡ lines_of types (cond t (x ∷ filter f xs) (filter f xs)) ++ cond (f a) (written_action types a ++ 10 ∷ []) []
    go true e = ap (λ ls. written_action types x ++ 10 ∷ ls) e ∙ sym (append_assoc (written_action types x) (10 ∷ lines_of types (filter f xs)) _)
    go false e = e

-- one report more
pub reports_more : (ns : List Name) (rs : List Report) (i : ℕ) (r : Report) → slice_get rs i ≡ Some r
    → reports_text ns (take (suc i) rs) ≡ reports_text ns (take i rs) ++ report_line (name_at ns i) r
reports_more ns [] i r e = absurd (cc)
reports_more [] (x ∷ rs) zero r e = let same : x ≡ r = cc in append-nil (report_line (name_at [] 0) x) ∙ ap (report_line (name_at [] 0)) same
reports_more (n ∷ ns) (x ∷ rs) zero r e = let same : x ≡ r = cc in append-nil (report_line n x) ∙ ap (report_line n) same
reports_more [] (x ∷ rs) (suc i) r e =
    ap (λ t. report_line (name_at [] 0) x ++ t) (reports_more [] rs i r e) ∙ sym (append_assoc (report_line (name_at [] 0) x) (reports_text [] (take i rs)) _)
reports_more (n ∷ ns) (x ∷ rs) (suc i) r e = ap (λ t. report_line n x ++ t) (reports_more ns rs i r e) ∙ sym (append_assoc (report_line n x) (reports_text ns (take i rs)) _)

pub reports_step : (ns : List Name) (rs : List Report) (i : ℕ) (before now : List ℕ) (r : Report) (name : Name) → slice_get rs i ≡ Some r → name ≡ name_at ns i
    → before ≡ reports_text ns (take i rs) → now ≡ before ++ report_line name r → now ≡ reports_text ns (take (i + 1) rs)
reports_step ns rs i before now r name at own so_far more =
    let next : i + 1 ≡ suc i = omega arith in
    more ∙ ap (λ t. t ++ report_line name r) so_far ∙ ap (λ n. reports_text ns (take i rs) ++ report_line n r) own ∙ sym (reports_more ns rs i r at)
    ∙ ap (λ k. reports_text ns (take k rs)) (sym next)

-- a worker's name
pub named_at : (ns : List Name) (i : ℕ) (n : Name) → slice_get ns i ≡ Some n → n ≡ name_at ns i
named_at [] i n e = absurd (cc)
named_at (x ∷ ns) zero n e = let same : x ≡ n = cc in sym same
named_at (x ∷ ns) (suc i) n e = named_at ns i n e

pub named_past : (ns : List Name) (i : ℕ) → length ns ≤ i → codes "environment" ≡ name_at ns i
named_past [] i le = refl
named_past (x ∷ ns) zero le = absurd (omega arith)
named_past (x ∷ ns) (suc i) le = named_past ns i (omega arith)

-- the actions of a log's first entries
pub acts_taken : (l : Log) (n : ℕ) (es : List LogEntry) → es ≡ take n l.entries.items → map (λ e. act_of e.action) es ≡ take n (actions_of (logged l))
acts_taken l n es e =
    ap (map (λ (x : LogEntry). act_of x.action)) e ∙ sym (take-map (λ (x : LogEntry). act_of x.action) n l.entries.items) ∙ ap (take n) (sym (entered_are l))
