-- The lines that tell of workers to which memory was refused.
use Rattle.std.proofs.Common.{◌≡◌, ◌≢◌, ◌+◌, ◌∙◌, codes, ℕ, zero, suc, All, List, Option, Result, Ok, Err, [], ◌∷◌, ◌++◌, append_assoc, append-nil, take, Some, slice_get, refl, sym, ap, subst, arith}
use Rattle.std.proofs.lemmas.Option.{get_or_from_slice_get, slice_get_within}
use Rattle.std.specs.Io.KnownBytes.{Appends}
use Rattle.std.specs.Prelude.{OnErr}
use Rattle.std.proofs.KnownBytes.{Appends-trans}
use Rattle.ioa_value.specs.Actions.{Name}
use Rattle.ioa_value.proofs.ItemLemmas.{item_there}
use Rattle.ioa_tree.specs.Runs.{Ending}
use Rattle.ioa_board.specs.declared.report.Report.{Report}
use Rattle.ioa_board.specs.declared.report.Why.{Why}
use Rattle.ioa_board.specs.Outcomes.{IsFault, IsReason}
use Rattle.ioa_board.specs.Reports.{counted}
use Rattle.ioa_serving.proofs.Pieces.{begun_first, begun_last, begun_next}
use Rattle.ioa_serving.specs.RunReports.{SilenceMeans, name_at, want_line, wants_text}

-- ---- one line after another

-- one worker more
wants_more : (ns : List Name) (rs : List Report) (i : ℕ) (r : Report) → slice_get rs i ≡ Some r
    → wants_text ns (take (suc i) rs) ≡ wants_text ns (take i rs) ++ want_line (name_at ns i) r.why
wants_more ns [] i r e = absurd (cc)
wants_more [] (x ∷ rs) zero r e = let same : x ≡ r = cc in append-nil (want_line (name_at [] 0) x.why) ∙ ap (λ (q : Report). want_line (name_at [] 0) q.why) same
wants_more (n ∷ ns) (x ∷ rs) zero r e = let same : x ≡ r = cc in append-nil (want_line n x.why) ∙ ap (λ (q : Report). want_line n q.why) same
wants_more [] (x ∷ rs) (suc i) r e =
    ap (λ t. want_line (name_at [] 0) x.why ++ t) (wants_more [] rs i r e) ∙ sym (append_assoc (want_line (name_at [] 0) x.why) (wants_text [] (take i rs)) _)
wants_more (n ∷ ns) (x ∷ rs) (suc i) r e = ap (λ t. want_line n x.why ++ t) (wants_more ns rs i r e) ∙ sym (append_assoc (want_line n x.why) (wants_text ns (take i rs)) _)

pub wants_step : (ns : List Name) (rs : List Report) (i : ℕ) (r : Report) (name : Name) → slice_get rs i ≡ Some r → name ≡ name_at ns i
    → wants_text ns (take (i + 1) rs) ≡ wants_text ns (take i rs) ++ want_line name r.why
wants_step ns rs i r name at own =
    let next : i + 1 ≡ suc i = omega arith in
    ap (λ k. wants_text ns (take k rs)) next ∙ wants_more ns rs i r at ∙ ap (λ n. wants_text ns (take i rs) ++ want_line n r.why) (sym own)

-- the lines of the first so many begin those of all
wants_rest : (ns : List Name) (rs : List Report) (i : ℕ) → (rest : List ℕ) × (wants_text ns rs ≡ wants_text ns (take i rs) ++ rest)
wants_rest ns [] zero = ([], refl)
wants_rest ns [] (suc i) = ([], refl)
wants_rest ns (x ∷ rs) zero = (wants_text ns (x ∷ rs), refl)
wants_rest [] (x ∷ rs) (suc i) =
    let k = wants_rest [] rs i in
    (k.0, ap (λ t. want_line (name_at [] 0) x.why ++ t) k.1 ∙ sym (append_assoc (want_line (name_at [] 0) x.why) (wants_text [] (take i rs)) k.0))
wants_rest (n ∷ ns) (x ∷ rs) (suc i) =
    let k = wants_rest ns rs i in (k.0, ap (λ t. want_line n x.why ++ t) k.1 ∙ sym (append_assoc (want_line n x.why) (wants_text ns (take i rs)) k.0))

-- before and behind a worker's line
pub wants_around : (ns : List Name) (rs : List Report) (i : ℕ) (r : Report) (name : Name) → slice_get rs i ≡ Some r → name ≡ name_at ns i
    → (rest : List ℕ) × (wants_text ns rs ≡ wants_text ns (take i rs) ++ (want_line name r.why ++ rest))
wants_around ns rs i r name at own =
    let k = wants_rest ns rs (i + 1) in
    (k.0, k.1 ∙ ap (λ t. t ++ k.0) (wants_step ns rs i r name at own) ∙ append_assoc (wants_text ns (take i rs)) (want_line name r.why) k.0)

-- ---- where there are none

pub front_none : (xs ys : List ℕ) → xs ++ ys ≡ [] → xs ≡ []
front_none [] ys e = refl
front_none (x ∷ xs) ys e = absurd (cc)

pub back_none : (xs ys : List ℕ) → xs ++ ys ≡ [] → ys ≡ []
back_none [] ys e = e
back_none (x ∷ xs) ys e = absurd (cc)

line_none : (n : Name) (y : Why) → want_line n y ≡ [] → y ≢ Why.Memory
line_none n Why.TurnsDone e = λ p. cc
line_none n Why.Faulted e = λ p. cc
line_none n Why.Stopped e = λ p. cc
line_none n Why.Memory e = absurd (let q = back_none n (codes ": memory\n") e in cc)

-- ---- a line that is written in two pieces

pub on_err : {T E : Type 0} (r : Result T E) (P : Type 0) → P → OnErr r P
on_err (Ok x) P p = tt
on_err (Err e) P p = p

err_on : {T E : Type 0} (r : Result T E) (P Q : Type 0) → (P → Q) → OnErr r P → OnErr r Q
err_on (Ok x) P Q f p = tt
err_on (Err e) P Q f p = f p

module _ {T E : Type 0} (r : Result T E) (name text : List ℕ) (y : Why) (is : y ≡ Why.Memory) (same : text ≡ name) (before : Option (List ℕ)) where
  -- the device failed within the name
  pub cut_name : (after : Option (List ℕ)) → (k : ℕ) × Appends before after (take k text) → OnErr r ((n : ℕ) × Appends before after (take n (want_line name y)))
  cut_name after begun =
      on_err r _ (subst (λ z. (n : ℕ) × Appends before after (take n (want_line name z))) (sym is)
      (begun_first before after name (codes ": memory\n") (subst (λ t. (k : ℕ) × Appends before after (take k t)) same begun)))

  -- or behind it
  pub cut_behind : (mid after : Option (List ℕ)) → Appends before mid text → OnErr r ((k : ℕ) × Appends mid after (take k (codes ": memory\n")))
      → OnErr r ((n : ℕ) × Appends before after (take n (want_line name y)))
  cut_behind mid after told begun =
      err_on r _ _ (λ b. subst (λ z. (n : ℕ) × Appends before after (take n (want_line name z))) (sym is)
      (begun_last before mid after name (codes ": memory\n") (subst (Appends before mid) same told) b)) begun

-- there is such a line
pub line_there : (n : Name) (y : Why) → y ≡ Why.Memory → want_line n y ≡ [] → ⊥
line_there n y is none = line_none n y none is

-- ---- lines that are written, one after another

module _ (ns : List Name) (rs : List Report) (i : ℕ) (r : Report) (name : Name) (at : slice_get rs i ≡ Some r) (own : name ≡ name_at ns i) (before mid after : Option (List ℕ))
    (told : Appends before mid (wants_text ns (take i rs))) where
  pub told_step : Appends mid after (want_line name r.why) → Appends before after (wants_text ns (take (i + 1) rs))
  told_step line =
      subst (Appends before after) (sym (wants_step ns rs i r name at own)) (Appends-trans before mid after (wants_text ns (take i rs)) (want_line name r.why) told line)

  -- the device failed within this one
  pub begun_step : (k : ℕ) × Appends mid after (take k (want_line name r.why)) → (n : ℕ) × Appends before after (take n (wants_text ns rs))
  begun_step begun =
      let around = wants_around ns rs i r name at own in
      let b = begun_next before mid after (wants_text ns (take i rs)) (want_line name r.why) around.0 told begun in
      (b.0, subst (λ t. Appends before after (take b.0 t)) (sym around.1) b.1)

-- where there are no lines there is not this one
pub quiet_step : (ns : List Name) (rs : List Report) (i : ℕ) (r : Report) (name : Name) → slice_get rs i ≡ Some r → name ≡ name_at ns i → wants_text ns rs ≡ [] → want_line name r.why ≡ []
quiet_step ns rs i r name at own none =
    let around = wants_around ns rs i r name at own in
    front_none (want_line name r.why) around.0 (back_none (wants_text ns (take i rs)) (want_line name r.why ++ around.0) (sym around.1 ∙ none))

-- ---- what silence tells

none_line : (n : Name) (y : Why) → y ≢ Why.Memory → want_line n y ≡ []
none_line n Why.TurnsDone e = refl
none_line n Why.Faulted e = refl
none_line n Why.Stopped e = refl
none_line n Why.Memory e = absurd (e refl)

silent_at : (ns : List Name) (rs : List Report) (w : ℕ) (r : Report) → slice_get rs w ≡ Some r → wants_text ns rs ≡ [] → r.why ≢ Why.Memory
silent_at ns [] w r e none = absurd (cc)
silent_at [] (x ∷ rs) zero r e none =
    let same : x ≡ r = cc in subst (λ (q : Report). q.why ≢ Why.Memory) same (line_none (name_at [] 0) x.why (front_none (want_line (name_at [] 0) x.why) (wants_text [] rs) none))
silent_at (n ∷ ns) (x ∷ rs) zero r e none = let same : x ≡ r = cc in subst (λ (q : Report). q.why ≢ Why.Memory) same (line_none n x.why (front_none (want_line n x.why) (wants_text ns rs) none))
silent_at [] (x ∷ rs) (suc w) r e none = silent_at [] rs w r e (back_none (want_line (name_at [] 0) x.why) (wants_text [] rs) none)
silent_at (n ∷ ns) (x ∷ rs) (suc w) r e none = silent_at ns rs w r e (back_none (want_line n x.why) (wants_text ns rs) none)

none_silent : (ns : List Name) (rs : List Report) → ((w : ℕ) (r : Report) → slice_get rs w ≡ Some r → r.why ≢ Why.Memory) → wants_text ns rs ≡ []
none_silent ns [] h = refl
none_silent [] (x ∷ rs) h = ap (λ t. t ++ wants_text [] rs) (none_line (name_at [] 0) x.why (h 0 x refl)) ∙ none_silent [] rs (λ w. h (suc w))
none_silent (n ∷ ns) (x ∷ rs) h = ap (λ t. t ++ wants_text ns rs) (none_line n x.why (h 0 x refl)) ∙ none_silent ns rs (λ w. h (suc w))

module _ (P : Report → Type 0) (rs : List Report) where
  all_got : ((w : ℕ) (r : Report) → slice_get rs w ≡ Some r → P r) → All P rs
  all_got h k d m = let found = item_there rs k m in subst P (sym (get_or_from_slice_get rs k found.0 d found.1)) (h k found.0 found.1)

  got_all : All P rs → (w : ℕ) (r : Report) → slice_get rs w ≡ Some r → P r
  got_all h w r e = subst P (get_or_from_slice_get rs w r r e) (h w r (slice_get_within rs w r e))

all_had : (turns n : ℕ) (end : Ending) (y : Why) → IsReason turns end n y → y ≢ Why.Memory → (IsFault end → ⊥) → n ≡ turns
all_had turns n end Why.TurnsDone k m f = k
all_had turns n end Why.Faulted k m f = absurd (f k.1)
all_had turns n end Why.Stopped k m f = absurd (f k.1)
all_had turns n end Why.Memory k m f = absurd (m refl)

pub silence_means : SilenceMeans
silence_means names turns end reports ended = (
  (λ none. all_got (λ r. r.why ≢ Why.Memory) reports (λ w r e. silent_at names reports w r e none), λ none. none_silent names reports (got_all (λ r. r.why ≢ Why.Memory) reports none)),
  λ none f. all_got (λ r. counted r ≡ turns) reports
      (λ w r e. all_had turns (counted r) end r.why (got_all (λ q. IsReason turns end (counted q) q.why) reports ended w r e) (silent_at names reports w r e none) f),
)
