-- A stream that is one line longer.
use Rattle.std.proofs.Common.{◌≡◌, ◌<◌, ◌≤◌, ltb, ℕ, suc, ◌+◌, Bool, true, false, List, [], ◌∷◌, ◌++◌, length, take, flat_map, refl, sym, ap, ◌∙◌, arith, append_assoc, append-nil, length-append}
use Rattle.std.specs.List.{AllZip}
use Rattle.std.proofs.lemmas.Bool.{ltb-true, ltb-false}
use Rattle.std.proofs.lemmas.List.{take-append-le}
use Rattle.std.proofs.lemmas.Slice.Zip.{all_zipped_more}
use Rattle.std.proofs.Math.Seq.{take-append_seam}
use Rattle.ioa_value.specs.Actions.{Name, Act}
use Rattle.ioa_value.specs.Table.{Table}
use Rattle.ioa_compile.specs.Programs.{Prog}
use Rattle.ioa_watch.specs.Streams.{Came, Tells, is_over, joined, known_by, told, told_at, told_from}

-- ---- what is told

told_from_more : (json : Bool) (ps : List Prog) (before acts : List Act) (a : Act)
    → told_from json ps before (acts ++ a ∷ []) ≡ told_from json ps before acts ++ flat_map (told_at json (before ++ acts) a) ps
told_from_more json ps before [] a =
    append-nil (flat_map (told_at json before a) ps) ∙ ap (λ xs. flat_map (told_at json xs a) ps) (sym (append-nil before))
told_from_more json ps before (b ∷ acts) a =
    ap (λ xs. flat_map (told_at json before b) ps ++ xs) (told_from_more json ps (before ++ b ∷ []) acts a)
    ∙ ap (λ xs. flat_map (told_at json before b) ps ++ (told_from json ps (before ++ b ∷ []) acts ++ flat_map (told_at json xs a) ps)) (append_assoc before (b ∷ []) acts)
    ∙ sym (append_assoc (flat_map (told_at json before b) ps) (told_from json ps (before ++ b ∷ []) acts) (flat_map (told_at json (before ++ b ∷ acts) a) ps))

pub told_more : (json : Bool) (ps : List Prog) (acts : List Act) (a : Act) → told json ps (acts ++ a ∷ []) ≡ told json ps acts ++ flat_map (told_at json acts a) ps
told_more json ps acts a = told_from_more json ps [] acts a

-- ---- what came

joined_more : (items : List (List Act)) (acts : List Act) → joined (items ++ acts ∷ []) ≡ joined items ++ acts
joined_more [] acts = append-nil acts
joined_more (x ∷ items) acts = ap (λ xs. x ++ xs) (joined_more items acts) ∙ sym (append_assoc x (joined items) acts)

pub same_count : {A B : Type 0} (R : A → B → Type 0) (xs : List A) (ys : List B) → AllZip R xs ys → length xs ≡ length ys
same_count R [] [] h = refl
same_count R [] (y ∷ ys) h = absurd h
same_count R (x ∷ xs) [] h = absurd h
same_count R (x ∷ xs) (y ∷ ys) h = ap suc (same_count R xs ys h.1)

pub came_none : (types : Table) (ps : List Prog) (first : Bool) → Came types ps first [] []
came_none types ps first = record { items = []; tell = tt; acts_are = refl; going = λ n l. absurd (omega (arith, l)) }

pub came_more : (types : Table) (ps : List Prog) (first : Bool) (ls : List (List ℕ)) (acts : List Act) (line : List ℕ) (more : List Act)
    → Came types ps first ls acts → is_over first ps acts ≡ false → Tells types (known_by ps) line more → Came types ps first (ls ++ line ∷ []) (acts ++ more)
came_more types ps first ls acts line more c going tells =
    let count : length ls ≡ length c.items = same_count (Tells types (known_by ps)) ls c.items c.tell in
    let long : length (ls ++ line ∷ []) ≡ length ls + 1 = length-append ls (line ∷ []) in
    record {
      items = c.items ++ more ∷ [];
      tell = all_zipped_more (Tells types (known_by ps)) ls c.items line more c.tell tells;
      acts_are = ap (λ xs. xs ++ more) c.acts_are ∙ sym (joined_more c.items more);
      going = λ n l. at n (omega (arith, l, long)) count;
    }
  where
    at : (n : ℕ) → n ≤ length ls → length ls ≡ length c.items → is_over first ps (joined (take n (c.items ++ more ∷ []))) ≡ false
    at n l count = go (ltb n (length ls)) refl
      where
        go : (b : Bool) → ltb n (length ls) ≡ b → is_over first ps (joined (take n (c.items ++ more ∷ []))) ≡ false
        go true e =
            let less : n < length ls = ltb-true n (length ls) e in
            ap (λ xs. is_over first ps (joined xs)) (take-append-le n c.items (more ∷ []) (omega (arith, less, count))) ∙ c.going n less
        go false e =
            let least : length ls ≤ n = ltb-false n (length ls) e in
            let all : n ≡ length c.items = omega (arith, least, l, count) in
            ap (λ k. is_over first ps (joined (take k (c.items ++ more ∷ [])))) all
            ∙ ap (λ xs. is_over first ps (joined xs)) (take-append_seam c.items (more ∷ [])) ∙ ap (is_over first ps) (sym c.acts_are) ∙ going

-- ---- no more actions than lines

few : (types : Table) (known : Name → Bool) (ls : List (List ℕ)) (items : List (List Act)) → AllZip (Tells types known) ls items → length (joined items) ≤ length ls
few types known [] [] h = omega arith
few types known [] (acts ∷ items) h = absurd h
few types known (l ∷ ls) [] h = absurd h
few types known (l ∷ ls) ([] ∷ items) h = let n : length (joined items) ≤ length ls = few types known ls items h.1 in omega (arith, n)
few types known (l ∷ ls) ((a ∷ []) ∷ items) h = let n : length (joined items) ≤ length ls = few types known ls items h.1 in omega (arith, n)
few types known (l ∷ ls) ((a ∷ b ∷ acts) ∷ items) h = absurd h.0

pub came_few : (types : Table) (ps : List Prog) (first : Bool) (ls : List (List ℕ)) (acts : List Act) → Came types ps first ls acts → length acts ≤ length ls
came_few types ps first ls acts c =
    let n : length (joined c.items) ≤ length ls = few types (known_by ps) ls c.items c.tell in
    omega (arith, n, ap length c.acts_are)
