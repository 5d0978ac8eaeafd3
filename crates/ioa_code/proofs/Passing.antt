-- One instruction, on the number of a stack.
use Rattle.std.proofs.Common.{◌≡◌, ℕ, suc, ◌+◌, ◌<◌, ◌≤◌, ◌==◌, Bool, true, false, List, [], ◌∷◌, ◌++◌, length, map, take, get_or, Option, Some, None, Result, Ok, Err, refl, sym, ap, ◌∙◌, subst, arith, if◌then◌else◌}
use Rattle.std.specs.Prelude.{reverse, nat_le}
use Rattle.std.proofs.lemmas.Bool.Decides.{nat_tests}
use Rattle.std.proofs.lemmas.List.{length-reverse, reverse-append, reverse-reverse, map-append}
use Rattle.std.proofs.Math.Seq.{take-suc}
use Rattle.ioa_value.specs.declared.value.Ty.{Ty}
use Rattle.ioa_value.specs.declared.operator.Op.{Op}
use Rattle.ioa_value.specs.Table.{Table}
use Rattle.ioa_value.specs.Operators.{arity, op_type}
use Rattle.ioa_code.specs.declared.reason.Reason.{Reason}
use Rattle.ioa_code.specs.declared.reason.Reason.TheVariants.{TooShort, Mistyped}
use Rattle.ioa_value.specs.Plain.{number}
use Rattle.ioa_code.specs.Machine.{on_top}
use Rattle.ioa_code.specs.Valid.{wanted, unheld, popped, to_next}
use Rattle.ioa_code.specs.Stacks.{Numbering, node_at, Spells, IsStack, Grows, from_node, topmost, Agrees, Passes, AgreeOn, LeadsOn, next_exit}
use Rattle.ioa_code.proofs.Lists.{on_top-append, on_top-short}
use Rattle.ioa_code.proofs.Numbered.{grows_refl, stack_kept, one_more, Taken, Takes, takes}

pub spelled_more : (old new : Numbering) (k j : ℕ) (xs : List Ty) (i : ℕ) (d : Ty) → Grows old new → i < length xs → IsStack old.nodes k (map number (take i xs)) → node_at new.nodes j ≡ Some (k, number (get_or xs i d)) → IsStack new.nodes j (map number (take (i + 1) xs))
spelled_more old new k j xs i d g lt h e =
    let n : i + 1 ≡ suc i = omega arith in
    let whole : map number (take (i + 1) xs) ≡ map number (take i xs) ++ number (get_or xs i d) ∷ [] =
    ap (λ m. map number (take m xs)) n ∙ ap (map number) (take-suc xs i d lt) ∙ map-append number (take i xs) (get_or xs i d ∷ []) in
    subst (IsStack new.nodes j) (sym whole)
    (one_more new.nodes k j (number (get_or xs i d)) (map number (take i xs)) (stack_kept old new g k (map number (take i xs)) h) e)

pub passes_same : (old new : Numbering) (k : ℕ) (r : Result ℕ Reason) (f g : List ℕ → Result (List ℕ) Reason) → ((ts : List ℕ) → f ts ≡ g ts) → Passes old new k r f → Passes old new k r g
passes_same old new k r f g e h = (h.0, λ ts x. subst (Agrees new.nodes r) (e ts) (h.1 ts x))

pub push_passes : (old new : Numbering) (below k t : ℕ) → Grows old new → node_at new.nodes k ≡ Some (below, t) → Passes old new below (Ok k) (λ ts. Ok (ts ++ t ∷ []))
push_passes old new below k t g e =
    (g, λ ts h. one_more new.nodes below k t ts (stack_kept old new g below ts h) e)

-- what passes leads on to the next place
pub passes_on : (old new : Numbering) (k p : ℕ) (r : Result ℕ Reason) (f : List ℕ → Result (List ℕ) Reason) → Passes old new k r f → LeadsOn old new k (next_exit p r) (λ ts. to_next p (f ts))
passes_on old new k p r f h = (h.0, λ ts x. go r (f ts) (h.1 ts x))
  where
    go : (a : Result ℕ Reason) (b : Result (List ℕ) Reason) → Agrees new.nodes a b → AgreeOn new.nodes (next_exit p a) (to_next p b)
    go (Ok j) (Ok ts) s = (refl, s, cc)
    go (Ok j) (Err why) s = absurd s
    go (Err why) (Ok ts) s = absurd s
    go (Err why) (Err reason) s = s

-- ---- the topmost types

record Parts (nodes : List (ℕ × ℕ)) (ts : List ℕ) (n rest : ℕ) (types : List ℕ) : Type 0 where
  below : List ℕ
  parts : ts ≡ below ++ types
  long : length types ≡ n
  stack : IsStack nodes rest below

parts : (nodes : List (ℕ × ℕ)) (k n : ℕ) (ts : List ℕ) (r : ℕ × List ℕ) → IsStack nodes k ts → topmost nodes k n ≡ Some r → Parts nodes ts n r.0 r.1
parts nodes k n ts r h e =
    let t : Taken nodes (reverse ts) n r.0 r.1 = subst (Takes nodes (reverse ts) n) e (takes nodes k n (reverse ts) h) in
    record {
      below = reverse t.below;
      parts = sym (reverse-reverse ts) ∙ ap reverse t.parts ∙ reverse-append (reverse r.1) t.below ∙ ap (λ l. reverse t.below ++ l) (reverse-reverse r.1);
      long = t.long;
      stack = subst (Spells nodes r.0) (sym (reverse-reverse t.below)) t.stack;
    }

pub top_there : {B : Type 0} (nodes : List (ℕ × ℕ)) (k n : ℕ) (ts : List ℕ) (r : ℕ × List ℕ) (P : B → Type 0) (x : B) (f : List ℕ → List ℕ → B) → IsStack nodes k ts → topmost nodes k n ≡ Some r → ((below : List ℕ) → IsStack nodes r.0 below → P (f below r.1)) → P (on_top n ts x f)
top_there nodes k n ts r P x f h e go =
    let p = parts nodes k n ts r h e in
    subst P (sym (ap (λ l. on_top n l x f) p.parts ∙ on_top-append n p.below r.1 x f p.long)) (go p.below p.stack)

pub top_missing : {B : Type 0} (nodes : List (ℕ × ℕ)) (k n : ℕ) (ts : List ℕ) (x : B) (f : List ℕ → List ℕ → B) → IsStack nodes k ts → topmost nodes k n ≡ None → on_top n ts x f ≡ x
top_missing nodes k n ts x f h e =
    let lt : length (reverse ts) < n = subst (Takes nodes (reverse ts) n) e (takes nodes k n (reverse ts) h) in
    on_top-short n ts x f (omega (arith, length-reverse ts))

pub one_top : (nodes : List (ℕ × ℕ)) (k : ℕ) (o : Option (ℕ × ℕ)) → node_at nodes k ≡ o → topmost nodes k 1 ≡ from_node o (λ key. Some (key.0, key.1 ∷ []))
one_top nodes k o e = ap (λ x. from_node x (λ key. Some (key.0, key.1 ∷ []))) e

pub unheld_free : {B : Type 0} (fast : ℕ) (below : List ℕ) (r : Result B Reason) → fast ≤ length below → unheld fast below r ≡ r
unheld_free fast below r le =
    let t : nat_le fast (length below) ≡ true = grind (arith, nat_tests) in ap (λ b. if b then r else Err TooShort) t

unheld_held : {B : Type 0} (fast : ℕ) (below : List ℕ) (r : Result B Reason) → length below < fast → unheld fast below r ≡ Err TooShort
unheld_held fast below r lt =
    let t : nat_le fast (length below) ≡ false = grind (arith, nat_tests) in ap (λ b. if b then r else Err TooShort) t

-- the top has this type, or not, or is missing
pub pop_there : (nodes : List (ℕ × ℕ)) (fast k ty : ℕ) (key : ℕ × ℕ) (b : Bool) → node_at nodes k ≡ Some key → (key.1 == ty) ≡ b → ((below : List ℕ) → IsStack nodes key.0 below → fast ≤ length below) → (ts : List ℕ) → IsStack nodes k ts → Agrees nodes (if b then Ok key.0 else Err Mistyped) (on_top 1 ts (Err TooShort) (λ below top. unheld fast below (popped ty below top)))
pop_there nodes fast k ty key b e t tall ts h =
    top_there nodes k 1 ts (key.0, key.1 ∷ []) (Agrees nodes (if b then Ok key.0 else Err Mistyped)) (Err TooShort) (λ below top. unheld fast below (popped ty below top)) h (one_top nodes k (Some key) e)
    (λ below s. subst (Agrees nodes (if b then Ok key.0 else Err Mistyped)) (sym (unheld_free fast below (popped ty below (key.1 ∷ [])) (tall below s)))
    (subst (λ c. Agrees nodes (if b then Ok key.0 else Err Mistyped) (if c then Ok below else Err Mistyped)) (sym t) (go b below s)))
  where
    go : (c : Bool) (below : List ℕ) → IsStack nodes key.0 below → Agrees nodes (if c then Ok key.0 else Err Mistyped) (if c then Ok below else Err Mistyped)
    go true below s = s
    go false below s = refl

-- what is on top is held
pub pop_held : {B : Type 0} (nodes : List (ℕ × ℕ)) (fast k n : ℕ) (r : ℕ × List ℕ) (ts : List ℕ) (f : List ℕ → List ℕ → Result B Reason) → topmost nodes k n ≡ Some r → ((below : List ℕ) → IsStack nodes r.0 below → length below < fast) → IsStack nodes k ts → on_top n ts (Err TooShort) (λ below top. unheld fast below (f below top)) ≡ Err TooShort
pop_held nodes fast k n r ts f e short h =
    top_there nodes k n ts r (λ x. x ≡ Err TooShort) (Err TooShort) (λ below top. unheld fast below (f below top)) h e (λ below s. unheld_held fast below (f below r.1) (short below s))

pub pop_missing : (nodes : List (ℕ × ℕ)) (fast k ty : ℕ) → node_at nodes k ≡ None → (ts : List ℕ) → IsStack nodes k ts → Agrees nodes (Err TooShort) (on_top 1 ts (Err TooShort) (λ below top. unheld fast below (popped ty below top)))
pop_missing nodes fast k ty e ts h =
    subst (Agrees nodes (Err TooShort)) (sym (top_missing nodes k 1 ts (Err TooShort) (λ below top. unheld fast below (popped ty below top)) h (one_top nodes k None e))) refl

-- an operator
abbrev pub operator : Table → ℕ → Op → List ℕ → Result (List ℕ) Reason
operator types fast op ts =
    on_top (arity types op) ts (Err TooShort) (λ below operands. unheld fast below (wanted Mistyped (op_type types op operands) (λ ty. Ok (below ++ ty ∷ []))))

pub apply_passes : (types : Table) (old new : Numbering) (fast : ℕ) (op : Op) (k : ℕ) (r : ℕ × List ℕ) (o : Option ℕ) (x : Result ℕ Reason) → topmost old.nodes k (arity types op) ≡ Some r → o ≡ op_type types op r.1 → ((below : List ℕ) → IsStack old.nodes r.0 below → fast ≤ length below) → Passes old new r.0 x (λ ts. wanted Mistyped o (λ ty. Ok (ts ++ ty ∷ []))) → Passes old new k x (operator types fast op)
apply_passes types old new fast op k r o x e t tall p = (
  p.0,
  λ ts h. top_there old.nodes k (arity types op) ts r (Agrees new.nodes x) (Err TooShort) (λ below operands. unheld fast below (wanted Mistyped (op_type types op operands) (λ ty. Ok (below ++ ty ∷ [])))) h e
      (λ below s. subst (Agrees new.nodes x) (sym (unheld_free fast below (wanted Mistyped (op_type types op r.1) (λ ty. Ok (below ++ ty ∷ []))) (tall below s)))
      (subst (λ y. Agrees new.nodes x (wanted Mistyped y (λ ty. Ok (below ++ ty ∷ [])))) t (p.1 below s))),
)

pub apply_held : (types : Table) (s : Numbering) (fast : ℕ) (op : Op) (k : ℕ) (r : ℕ × List ℕ) → topmost s.nodes k (arity types op) ≡ Some r → ((below : List ℕ) → IsStack s.nodes r.0 below → length below < fast) → Passes s s k (Err TooShort) (operator types fast op)
apply_held types s fast op k r e short =
    (grows_refl s, λ ts h. subst (Agrees s.nodes (Err TooShort)) (sym (pop_held s.nodes fast k (arity types op) r ts (λ below operands. wanted Mistyped (op_type types op operands) (λ ty. Ok (below ++ ty ∷ []))) e short h)) refl)

pub apply_short : (types : Table) (s : Numbering) (fast : ℕ) (op : Op) (k : ℕ) → topmost s.nodes k (arity types op) ≡ None → Passes s s k (Err TooShort) (operator types fast op)
apply_short types s fast op k e =
    (grows_refl s, λ ts h. subst (Agrees s.nodes (Err TooShort)) (sym (top_missing s.nodes k (arity types op) ts (Err TooShort) (λ below operands. unheld fast below (wanted Mistyped (op_type types op operands) (λ ty. Ok (below ++ ty ∷ [])))) h e)) refl)
