-- Values are read one after the other, in one way.
use Rattle.std.proofs.Common.{◌≡◌, ℕ, ◌<◌, List, [], ◌∷◌, ◌++◌, length, Some, None, All, refl, sym, ap, subst, ◌∙◌, append_assoc, append-nil, length-append, arith}
use Rattle.std.proofs.lemmas.List.Elements.{All-nil, All-cons, All-head, All-tail}
use Rattle.ioa_value.specs.Plain.{Val, vals}
use Rattle.ioa_value.specs.Table.{Table, AreTypes, truths}
use Rattle.ioa_value.specs.Reads.{IsBlank, SpellsAfter, IsTyped, ReadsValues}
use Rattle.ioa_value.specs.Scanning.{scan_value}
use Rattle.ioa_value.proofs.TokenLemmas.{IsEnd}
use Rattle.ioa_value.proofs.ScanLemmas.{after_ends, value_scanned}
use Rattle.ioa_value.proofs.CompleteLemmas.{value_complete}

heads : (a b : ℕ) (xs ys : List ℕ) → a ∷ xs ≡ b ∷ ys → a ≡ b
heads a b xs ys e = cc

pub apart : (xs ys : List ℕ) → 41 ∷ xs ≡ 44 ∷ ys → ⊥
apart xs ys e = omega (arith, heads 41 44 xs ys e)

-- after a value: further values, each of some type, up to the end
abbrev pub ReadsMore : Table → List ℕ → List Val → Type 0
ReadsMore types text vs = SpellsAfter types 41 text (vals vs) × All (IsTyped types) vs

-- a text of values begins with the first
pub record Begins (types : Table) (text : List ℕ) (v : Val) (vs : List Val) : Type 0 where
  pub rest : List ℕ
  pub value : scan_value types text ≡ Some (v, rest)
  pub more : ReadsMore types rest vs

-- the values in the text are those before the rest and those in the rest
pub record Reaches (types : Table) (text : List ℕ) (before : List Val) (rest : List ℕ) : Type 0 where
  pub sound : (vs : List Val) → ReadsValues types rest vs → ReadsValues types text (before ++ vs)
  pub complete : (ws : List Val) → ReadsValues types text ws → (vs : List Val) × (ws ≡ before ++ vs) × ReadsValues types rest vs

pub at_start : (types : Table) (text : List ℕ) → Reaches types text [] text
at_start types text = record { sound = λ vs r. r; complete = λ ws r. (ws, refl, r) }

pub stops : (types : Table) (text rest : List ℕ) (before : List Val) → Reaches types text before rest → ((vs : List Val) → ReadsValues types rest vs → ⊥) → (ws : List Val) → ReadsValues types text ws → ⊥
stops types text rest before h none ws r =
    let c = h.complete ws r in
    none c.0 c.2

module _ (types : Table) (declared : AreTypes types) where
  pub begins : (text : List ℕ) (v : Val) (vs : List Val) → ReadsValues types text (v ∷ vs) → Begins types text v vs
  begins text v vs ((first, rest, s, m, e), t) =
      let end : IsEnd rest = subst IsEnd (append-nil rest) (after_ends types truths (vals vs) rest [] m) in
      record {
        rest = rest;
        value = ap (scan_value types) e ∙ value_complete types declared v first rest s (All-head (IsTyped types) v vs t) end;
        more = (m, All-tail (IsTyped types) v vs t);
      }

  pub joins : (text : List ℕ) (v : Val) (rest : List ℕ) (vs : List Val) → scan_value types text ≡ Some (v, rest) → ReadsMore types rest vs → ReadsValues types text (v ∷ vs)
  joins text v rest vs e m =
      let f = value_scanned types declared text v rest e in
      ((f.0.first, rest, f.0.spells, m.0, f.0.whole), All-cons (IsTyped types) v vs f.1 m.1)

  pub no_value : (text : List ℕ) → scan_value types text ≡ None → (vs : List Val) → ReadsValues types text vs → ⊥
  no_value text none [] r = r
  no_value text none (v ∷ vs) r =
      let b = begins text v vs r in
      let e : None ≡ Some (v, b.rest) = sym none ∙ b.value in
      cc

  -- one value, and one rest
  pub same_value : (text : List ℕ) (u v : Val) (rest : List ℕ) (vs : List Val) → scan_value types text ≡ Some (u, rest) → (b : Begins types text v vs) → (u ≡ v) × (rest ≡ b.rest)
  same_value text u v rest vs e b =
      let s : Some (u, rest) ≡ Some (v, b.rest) = sym e ∙ b.value in
      let p : (u, rest) ≡ (v, b.rest) = cc in
      (ap (λ (x : Val × List ℕ). x.0) p, ap (λ (x : Val × List ℕ). x.1) p)

  -- after the value comes neither `)` nor `,`
  pub no_mark : (text : List ℕ) (u : Val) (rest : List ℕ) → scan_value types text ≡ Some (u, rest) → ((after : List ℕ) → rest ≡ 41 ∷ after → ⊥) → ((after : List ℕ) → rest ≡ 44 ∷ after → ⊥) → (vs : List Val) → ReadsValues types text vs → ⊥
  no_mark text u rest s close comma [] r = r
  no_mark text u rest s close comma (v ∷ []) r =
      let b = begins text v [] r in
      close b.more.0.0 ((same_value text u v rest [] s b).1 ∙ b.more.0.2)
  no_mark text u rest s close comma (v ∷ w ∷ vs) r =
      let b = begins text v (w ∷ vs) r in
      comma _ ((same_value text u v rest (w ∷ vs) s b).1 ∙ b.more.0.4)

  -- after the last value comes more than blanks
  pub no_end : (text : List ℕ) (u : Val) (rest after : List ℕ) → scan_value types text ≡ Some (u, rest) → rest ≡ 41 ∷ after → (IsBlank after → ⊥) → (vs : List Val) → ReadsValues types text vs → ⊥
  no_end text u rest after s e full [] r = r
  no_end text u rest after s e full (v ∷ []) r =
      let b = begins text v [] r in
      let m : rest ≡ 41 ∷ b.more.0.0 = (same_value text u v rest [] s b).1 ∙ b.more.0.2 in
      let k : b.more.0.0 ≡ after = cc in
      full (subst IsBlank k b.more.0.1)
  no_end text u rest after s e full (v ∷ w ∷ vs) r =
      let b = begins text v (w ∷ vs) r in
      absurd (apart _ _ (sym e ∙ (same_value text u v rest (w ∷ vs) s b).1 ∙ b.more.0.4))

  pub last_value : (text rest : List ℕ) (before : List Val) (v : Val) (behind after : List ℕ) → Reaches types text before rest → scan_value types rest ≡ Some (v, behind) → behind ≡ 41 ∷ after → IsBlank after → ReadsValues types text (before ++ v ∷ [])
  last_value text rest before v behind after h s e b =
      h.sound (v ∷ []) (joins rest v behind [] s ((after, b, e), All-nil (IsTyped types)))

  pub next_value : (text rest : List ℕ) (before : List Val) (v : Val) (behind after : List ℕ) → Reaches types text before rest → scan_value types rest ≡ Some (v, behind) → behind ≡ 44 ∷ after → Reaches types text (before ++ v ∷ []) after
  next_value text rest before v behind after h s e = record { sound = forth; complete = back }
    where
      forth : (vs : List Val) → ReadsValues types after vs → ReadsValues types text ((before ++ v ∷ []) ++ vs)
      forth [] r = absurd r
      forth (w ∷ ws) ((first, later, p, m, f), t) =
          let more : ReadsMore types behind (w ∷ ws) = ((first, later, p, m, e ∙ ap (λ l. 44 ∷ l) f), t) in
          let all = h.sound (v ∷ w ∷ ws) (joins rest v behind (w ∷ ws) s more) in
          subst (ReadsValues types text) (sym (append_assoc before (v ∷ []) (w ∷ ws))) all

      after_it : (us : List Val) → ReadsValues types rest us → (vs : List Val) × (us ≡ v ∷ vs) × ReadsValues types after vs
      after_it [] r = absurd r
      after_it (u ∷ []) r =
          let b = begins rest u [] r in
          absurd (apart _ _ (sym b.more.0.2 ∙ sym (same_value rest v u behind [] s b).1 ∙ e))
      after_it (u ∷ w ∷ ws) r =
          let b = begins rest u (w ∷ ws) r in
          let one = same_value rest v u behind (w ∷ ws) s b in
          let m : behind ≡ 44 ∷ (b.more.0.0 ++ b.more.0.1) = one.1 ∙ b.more.0.4 in
          let k : after ≡ b.more.0.0 ++ b.more.0.1 = cc in
          (w ∷ ws, ap (λ x. x ∷ w ∷ ws) (sym one.0), ((b.more.0.0, b.more.0.1, b.more.0.2, b.more.0.3, k), b.more.1))

      back : (ws : List Val) → ReadsValues types text ws → (vs : List Val) × (ws ≡ (before ++ v ∷ []) ++ vs) × ReadsValues types after vs
      back ws r =
          let c = h.complete ws r in
          let d = after_it c.0 c.2 in
          (d.0, c.1 ∙ ap (λ l. before ++ l) d.1 ∙ sym (append_assoc before (v ∷ []) d.0), d.2)

  pub shorter : (text : List ℕ) (v : Val) (rest : List ℕ) (b : ℕ) (after : List ℕ) → scan_value types text ≡ Some (v, rest) → rest ≡ b ∷ after → length after < length text
  shorter text v rest b after e m =
      let f = (value_scanned types declared text v rest e).0 in
      let w : length text ≡ length (f.first ++ (b ∷ after)) = ap length (f.whole ∙ ap (λ l. f.first ++ l) m) in
      omega (arith, w, length-append f.first (b ∷ after))
