-- An Each, an Again and an item of the stack, on the number of a stack.
use Rattle.std.proofs.Common.{◌≡◌, ◌≢◌, ℕ, ◌+◌, ◌<◌, ◌≤◌, ⊎_elim, List, [], ◌∷◌, ◌++◌, length, Option, Some, None, Result, Ok, Err, refl, sym, ap, ◌∙◌, subst, arith}
use Rattle.std.specs.Prelude.{slice_get, reverse}
use Rattle.std.proofs.lemmas.Bool.{cases_lt}
use Rattle.std.proofs.lemmas.List.{length-append, reverse-reverse}
use Rattle.std.proofs.lemmas.Option.{slice_get_past}
use Rattle.ioa_value.specs.Table.{Table, item_type}
use Rattle.ioa_value.proofs.ItemLemmas.{get_last}
use Rattle.ioa_code.specs.declared.exits.Exits.{Exits}
use Rattle.ioa_code.specs.declared.exits.Exits.TheVariants.{Two}
use Rattle.ioa_code.specs.declared.reason.Reason.{Reason}
use Rattle.ioa_code.specs.declared.reason.Reason.TheVariants.{TooShort, Mistyped}
use Rattle.ioa_code.specs.Machine.{on_top}
use Rattle.ioa_code.specs.Valid.{Way, way, wanted, unheld, item_on}
use Rattle.ioa_code.specs.Stacks.{Numbering, node_at, Spells, IsStack, IsNumber, LiesBeneath, Grows, exit, AgreeOn, LeadsOn}
use Rattle.ioa_code.proofs.Lists.{get_before}
use Rattle.ioa_code.proofs.Nodes.{split_top}
use Rattle.ioa_code.proofs.Numbered.{grows_refl, stack_kept, one_more}
use Rattle.ioa_code.proofs.Passing.{top_there, top_missing, one_top, pop_held, unheld_free}

-- ---- an Each

abbrev pub each_ways : Table → (fast end p : ℕ) → List ℕ → Result (List Way) Reason
each_ways types fast end p ts =
    on_top 1 ts (Err TooShort) (λ below top. unheld fast below (wanted Mistyped (item_on types top) (λ item. Ok (way end below ∷ way (p + 1) (ts ++ item ∷ []) ∷ []))))

module _ (types : Table) (fast end p k : ℕ) where
  pub each_missing : (s : Numbering) → node_at s.nodes k ≡ None → LeadsOn s s k (Err TooShort) (each_ways types fast end p)
  each_missing s e =
      (grows_refl s, λ ts h. subst (AgreeOn s.nodes (Err TooShort)) (sym (top_missing s.nodes k 1 ts (Err TooShort) (λ below top. unheld fast below (wanted Mistyped (item_on types top) (λ item. Ok (way end below ∷ way (p + 1) (ts ++ item ∷ []) ∷ [])))) h (one_top s.nodes k None e))) refl)

  module _ (key : ℕ × ℕ) where
    pub each_held : (s : Numbering) → node_at s.nodes k ≡ Some key → ((below : List ℕ) → IsStack s.nodes key.0 below → length below < fast) → LeadsOn s s k (Err TooShort) (each_ways types fast end p)
    each_held s e short =
        (grows_refl s, λ ts h. subst (AgreeOn s.nodes (Err TooShort)) (sym (pop_held s.nodes fast k 1 (key.0, key.1 ∷ []) ts (λ below top. wanted Mistyped (item_on types top) (λ item. Ok (way end below ∷ way (p + 1) (ts ++ item ∷ []) ∷ []))) (one_top s.nodes k (Some key) e) short h)) refl)

    each_found : (old new : Numbering) (r : Result Exits Reason) (o : Option ℕ) → node_at old.nodes k ≡ Some key → item_type types key.1 ≡ o → ((below : List ℕ) → IsStack old.nodes key.0 below → fast ≤ length below) → (ts : List ℕ) → IsStack old.nodes k ts → ((below : List ℕ) → IsStack old.nodes key.0 below → AgreeOn new.nodes r (wanted Mistyped o (λ item. Ok (way end below ∷ way (p + 1) (ts ++ item ∷ []) ∷ [])))) → AgreeOn new.nodes r (each_ways types fast end p ts)
    each_found old new r o e f tall ts h go =
        top_there old.nodes k 1 ts (key.0, key.1 ∷ []) (AgreeOn new.nodes r) (Err TooShort) (λ below top. unheld fast below (wanted Mistyped (item_on types top) (λ item. Ok (way end below ∷ way (p + 1) (ts ++ item ∷ []) ∷ [])))) h (one_top old.nodes k (Some key) e)
        (λ below s. subst (AgreeOn new.nodes r) (sym (unheld_free fast below (wanted Mistyped (item_type types key.1) (λ item. Ok (way end below ∷ way (p + 1) (ts ++ item ∷ []) ∷ []))) (tall below s)))
        (subst (λ x. AgreeOn new.nodes r (wanted Mistyped x (λ item. Ok (way end below ∷ way (p + 1) (ts ++ item ∷ []) ∷ [])))) (sym f) (go below s)))

    pub each_mistyped : (s : Numbering) → node_at s.nodes k ≡ Some key → item_type types key.1 ≡ None → ((below : List ℕ) → IsStack s.nodes key.0 below → fast ≤ length below) → LeadsOn s s k (Err Mistyped) (each_ways types fast end p)
    each_mistyped s e f tall = (grows_refl s, λ ts h. each_found s s (Err Mistyped) None e f tall ts h (λ below x. refl))

    pub each_leads : (old new : Numbering) (start item : ℕ) → Grows old new → node_at old.nodes k ≡ Some key → item_type types key.1 ≡ Some item → node_at new.nodes start ≡ Some (k, item) → ((below : List ℕ) → IsStack old.nodes key.0 below → fast ≤ length below) → LeadsOn old new k (Ok (Two (exit end key.0) (exit (p + 1) start))) (each_ways types fast end p)
    each_leads old new start item g e f at tall =
        (g, λ ts h. each_found old new (Ok (Two (exit end key.0) (exit (p + 1) start))) (Some item) e f tall ts h (λ below s. (refl, stack_kept old new g key.0 below s, (refl, one_more new.nodes k start item ts (stack_kept old new g k ts h) at, tt))))

-- ---- an Again

pub again_missing : (s : Numbering) (k : ℕ) → node_at s.nodes k ≡ None → (ts : List ℕ) → IsStack s.nodes k ts → AgreeOn s.nodes (Err TooShort) (on_top 1 ts (Err TooShort) (λ below top. Ok []))
again_missing s k e ts h =
    subst (AgreeOn s.nodes (Err TooShort)) (sym (top_missing s.nodes k 1 ts (Err TooShort) (λ below top. Ok []) h (one_top s.nodes k None e))) refl

-- ---- an item of the stack

-- the item is still looked for in this stack
abbrev pub LooksIn : Numbering → (stack at d : ℕ) → Type 0
LooksIn s stack at d =
    IsNumber s at × ((ts : List ℕ) → IsStack s.nodes stack ts → (us : List ℕ) × IsStack s.nodes at us × (slice_get ts d ≡ slice_get us d))

get_other : (us : List ℕ) (t d : ℕ) → length us ≢ d → slice_get (us ++ t ∷ []) d ≡ slice_get us d
get_other us t d ne =
    let len = length-append us (t ∷ []) in
    ⊎_elim
    (λ (lt : d < length us). sym (get_before us (t ∷ []) d lt))
    (λ (ge : length us ≤ d).
    slice_get_past (us ++ t ∷ []) d (⊎_elim (λ (more : length us < d). omega arith) (λ (le : d ≤ length us). let same : length us ≡ d = omega arith in absurd (ne same)) (cases_lt (length us) d)) ∙ sym (slice_get_past us d ge))
    (cases_lt d (length us))

module _ (s : Numbering) (stack at d height : ℕ) (key : ℕ × ℕ) (looks : LooksIn s stack at d) (e : node_at s.nodes at ≡ Some key) (tall : (below : List ℕ) → IsStack s.nodes key.0 below → height ≡ length below) where
  pub item_found : height ≡ d → (ts : List ℕ) → IsStack s.nodes stack ts → Some key.1 ≡ slice_get ts d
  item_found same ts h =
      let u = looks.1 ts h in
      let p = split_top s.nodes at key u.0 u.1 e in
      let l = tall p.0 p.2 in
      let place : length p.0 ≡ d = omega arith in
      sym (u.2 ∙ ap (λ l. slice_get l d) p.1 ∙ subst (λ m. slice_get (p.0 ++ key.1 ∷ []) m ≡ Some key.1) place (get_last p.0 key.1))

  pub item_below : IsNumber s key.0 → height ≢ d → LooksIn s stack key.0 d
  item_below number apart = (
    number,
    λ ts h.
        let u = looks.1 ts h in
        let p = split_top s.nodes at key u.0 u.1 e in
        let l = tall p.0 p.2 in
        (p.0, p.2, u.2 ∙ ap (λ l. slice_get l d) p.1 ∙ get_other p.0 key.1 d (λ same. apart (omega arith))),
  )

-- it is in a stack beneath that is tall enough
pub item_under : (s : Numbering) (stack at d under height : ℕ) → LooksIn s stack at d → IsNumber s under → LiesBeneath s.nodes under at → ((us : List ℕ) → IsStack s.nodes under us → height ≡ length us) → d < height → LooksIn s stack under d
item_under s stack at d under height looks number beneath tall lt = (
  number,
  λ ts h.
      let u = looks.1 ts h in
      let v = beneath u.0 u.1 in
      let l = tall v.0 v.1 in
      (v.0, v.1, u.2 ∙ ap (λ l. slice_get l d) v.2.1 ∙ sym (get_before v.0 v.2.0 d (omega arith))),
)

-- where the stack is too low there is none
pub item_past : (s : Numbering) (stack at d height : ℕ) → LooksIn s stack at d → ((us : List ℕ) → IsStack s.nodes at us → height ≡ length us) → height ≤ d → (ts : List ℕ) → IsStack s.nodes stack ts → None ≡ slice_get ts d
item_past s stack at d height looks tall le ts h =
    let u = looks.1 ts h in let l = tall u.0 u.1 in sym (u.2 ∙ slice_get_past u.0 d (omega arith))

pub item_missing : (s : Numbering) (stack at d : ℕ) → LooksIn s stack at d → node_at s.nodes at ≡ None → (ts : List ℕ) → IsStack s.nodes stack ts → None ≡ slice_get ts d
item_missing s stack at d looks e ts h = let u = looks.1 ts h in sym (u.2 ∙ go u.0 (reverse u.0) refl u.1)
  where
    go : (us rs : List ℕ) → reverse us ≡ rs → Spells s.nodes at rs → slice_get us d ≡ None
    go us [] r x = let y : us ≡ [] = sym (reverse-reverse us) ∙ ap reverse r in ap (λ l. slice_get l d) y ∙ slice_get_past [] d (omega arith)
    go us (t ∷ rs) r x = let a = x.1 in absurd (cc)

pub looks_first : (s : Numbering) (stack d : ℕ) → IsNumber s stack → LooksIn s stack stack d
looks_first s stack d number = (number, λ ts h. (ts, h, refl))
