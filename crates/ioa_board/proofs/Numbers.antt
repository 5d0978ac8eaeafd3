-- Items of numbers, and what is put back in their places.
use Rattle.std.proofs.Common.{◌≡◌, ℕ, zero, suc, ◌+◌, ◌<◌, ◌≤◌, List, [], ◌∷◌, ◌++◌, length, get_or, take, map, All, Option, None, Some, refl, sym, ◌∙◌, ap, subst, arith}
use Rattle.std.specs.Prelude.{slice_get, slice_set}
use Rattle.std.specs.List.{cons_option}
use Rattle.std.specs.Option.{option_map}
use Rattle.std.proofs.lemmas.List.{length-map, length-set, take_all, take_more}
use Rattle.std.proofs.lemmas.List.Elements.{All-head, All-tail, All-cons, filter_map-append}
use Rattle.std.proofs.lemmas.Option.{slice_get-map, slice_get_read}
use Rattle.ioa_value.specs.Actions.{Act}
use Rattle.ioa_value.specs.Plain.{Val}
use Rattle.ioa_value.specs.Table.{Table}
use Rattle.ioa_value.proofs.ItemLemmas.{at_map, item_there}
use Rattle.ioa_parts.specs.Nodes.{Node}
use Rattle.ioa_tree.specs.Components.{Component}
use Rattle.ioa_tree.specs.Steps.{participants_from, participants}
use Rattle.ioa_system.specs.Participants.{taken, put_back}
use Rattle.ioa_system.specs.Systems.{Slots, slots_of, types_of, values_of}
use Rattle.ioa_system.proofs.Participating.{participates, stays, takes, taken_some}
use Rattle.ioa_system.proofs.Finding.{no_item}

participants_within_from : {S : Type 0} (a : Act) (i n : ℕ) (ps : List (Component S)) → i + length ps ≤ n → All (λ m. m < n) (participants_from i ps a)
participants_within_from a i n [] l = no_item (λ m. m < n)
participants_within_from a i n (p ∷ ps) l =
    let more : All (λ m. m < n) (participants_from (i + 1) ps a) = participants_within_from a (i + 1) n ps (omega arith) in
    elim (takes a p i ps) [
      | participates h e f ↦ subst (All (λ m. m < n)) (sym e) (All-cons (λ m. m < n) i (participants_from (i + 1) ps a) (omega arith) more)
      | stays h e f ↦ subst (All (λ m. m < n)) (sym e) more
    ]

-- participants are components
pub participants_within : {S : Type 0} (a : Act) (ps : List (Component S)) → All (λ m. m < length ps) (participants ps a)
participants_within a ps = participants_within_from a 0 (length ps) ps (omega arith)

map_cons_option : {X Y : Type 0} (f : X → Y) (o : Option X) (xs : List X) → map f (cons_option o xs) ≡ cons_option (option_map f o) (map f xs)
map_cons_option f None xs = refl
map_cons_option f (Some x) xs = refl

pub map_taken : {X Y : Type 0} (f : X → Y) (ns : List ℕ) (xs : List X) → map f (taken ns xs) ≡ taken ns (map f xs)
map_taken f [] xs = refl
map_taken f (n ∷ ns) xs =
    map_cons_option f (slice_get xs n) (taken ns xs) ∙ ap (cons_option (option_map f (slice_get xs n))) (map_taken f ns xs)
    ∙ ap (λ o. cons_option o (taken ns (map f xs))) (sym (slice_get-map f xs n))

pub length_taken : {X : Type 0} (ns : List ℕ) (xs : List X) → All (λ n. n < length xs) ns → length (taken ns xs) ≡ length ns
length_taken [] xs h = refl
length_taken (n ∷ ns) xs h =
    let g = item_there xs n (All-head (λ k. k < length xs) n ns h) in
    let more : length (taken ns xs) ≡ length ns = length_taken ns xs (All-tail (λ k. k < length xs) n ns h) in
    let e : length (taken (n ∷ ns) xs) ≡ length (g.0 ∷ taken ns xs) = ap length (taken_some n ns xs g.0 g.1) in
    omega (arith, e, more)

-- one number more
pub taken_more : {X : Type 0} (ns : List ℕ) (xs : List X) (k d : ℕ) (x : X) → k < length ns → slice_get xs (get_or ns k d) ≡ Some x
    → taken (take (k + 1) ns) xs ≡ taken (take k ns) xs ++ x ∷ []
taken_more ns xs k d x l g =
    ap (λ ms. taken ms xs) (take_more ns k d l) ∙ filter_map-append (slice_get xs) (take k ns) (get_or ns k d ∷ [])
    ∙ ap (λ ys. taken (take k ns) xs ++ ys) (taken_some (get_or ns k d) [] xs x g)

taken_at : {X : Type 0} (ns : List ℕ) (xs : List X) (k d : ℕ) (x : X) → All (λ m. m < length xs) ns → k < length ns → slice_get xs (get_or ns k d) ≡ Some x
    → slice_get (taken ns xs) k ≡ Some x
taken_at [] xs k d x h l g = absurd (omega arith)
taken_at (m ∷ ns) xs zero d x h l g = ap (λ ys. slice_get ys 0) (taken_some m ns xs x g)
taken_at (m ∷ ns) xs (suc k) d x h l g =
    let f = item_there xs m (All-head (λ j. j < length xs) m ns h) in
    ap (λ ys. slice_get ys (suc k)) (taken_some m ns xs f.0 f.1) ∙ taken_at ns xs k d x (All-tail (λ j. j < length xs) m ns h) (omega arith) g

-- the items at one place
pub item_taken : {X : Type 0} (ns : List ℕ) (xs ys : List X) (k d : ℕ) (x y : X) → All (λ m. m < length xs) ns → k < length ns → taken ns xs ≡ ys
    → slice_get xs (get_or ns k d) ≡ Some x → slice_get ys k ≡ Some y → x ≡ y
item_taken ns xs ys k d x y h l t f g =
    let e : Some x ≡ Some y = sym (taken_at ns xs k d x h l f) ∙ ap (λ zs. slice_get zs k) t ∙ g in
    cc

-- all numbers
pub taken_all : {X : Type 0} (ns : List ℕ) (xs ys : List X) (k : ℕ) → length ns ≤ k → length ys ≡ length ns → taken (take k ns) xs ≡ take k ys → taken ns xs ≡ ys
taken_all ns xs ys k l c e = ap (λ ms. taken ms xs) (sym (take_all k ns l)) ∙ e ∙ take_all k ys (omega arith)

pub length_put_back : {X : Type 0} (ns : List ℕ) (ys xs : List X) → length (put_back ns ys xs) ≡ length xs
length_put_back [] ys xs = refl
length_put_back (n ∷ ns) [] xs = refl
length_put_back (n ∷ ns) (y ∷ ys) xs = length_put_back ns ys (slice_set xs n y) ∙ length-set xs n y

-- ---- states of the same types

abbrev node : Table → List ℕ → List Val → Node
node t ts vs = record { table = t; types = ts; values = vs }

pub same_nodes : (ms ns : List Node) → types_of ms ≡ types_of ns → values_of ms ≡ values_of ns → ms ≡ ns
same_nodes [] [] t v = refl
same_nodes [] (n ∷ ns) t v = absurd (cc)
same_nodes (m ∷ ms) [] t v = absurd (cc)
same_nodes (m ∷ ms) (n ∷ ns) t v =
    let s : slots_of m ≡ slots_of n = cc in
    let ts : types_of ms ≡ types_of ns = cc in
    let w : m.values ≡ n.values = cc in
    let vs : values_of ms ≡ values_of ns = cc in
    let more : ms ≡ ns = same_nodes ms ns ts vs in
    let first : m ≡ n = ap (λ (u : Slots). node u.table u.types m.values) s ∙ ap (node n.table n.types) w in
    cc

-- the states of these numbers are others exactly where their values are
pub same_taken : (ns : List ℕ) (states copied : List Node) → types_of copied ≡ taken ns (types_of states)
    → taken ns (values_of states) ≡ values_of copied → taken ns states ≡ copied
same_taken ns states copied t v =
    same_nodes (taken ns states) copied (map_taken slots_of ns states ∙ sym t) (map_taken (λ (n : Node). n.values) ns states ∙ v)

pub values_taken : (ns : List ℕ) (states copied : List Node) → taken ns states ≡ copied → taken ns (values_of states) ≡ values_of copied
values_taken ns states copied e = sym (map_taken (λ (n : Node). n.values) ns states) ∙ ap values_of e

-- an item, as code reads it
pub got : {X : Type 0} (xs : List X) (i : ℕ) (x : X) → i < length xs → x ≡ get_or xs i x → slice_get xs i ≡ Some x
got xs i x l e = slice_get_read xs (length xs) i x refl l e

-- a state of these numbers has the types of the copy in its place
pub same_slots : (ns : List ℕ) (states copied : List Node) (k d : ℕ) (x y : Node) → All (λ m. m < length states) ns → types_of copied ≡ taken ns (types_of states)
    → k < length ns → k < length copied → get_or ns k d < length states → x ≡ get_or states (get_or ns k d) x → y ≡ get_or copied k y → slots_of x ≡ slots_of y
same_slots ns states copied k d x y h t l m n e f =
    let w : All (λ j. j < length (types_of states)) ns = subst (λ j. All (λ i. i < j) ns) (sym (length-map states slots_of)) h in
    item_taken ns (types_of states) (types_of copied) k d (slots_of x) (slots_of y) w l (sym t) (at_map slots_of states (get_or ns k d) x n e) (at_map slots_of copied k y m f)

pub copied_count : (ns : List ℕ) (states copied : List Node) → All (λ m. m < length states) ns → types_of copied ≡ taken ns (types_of states) → length copied ≡ length ns
copied_count ns states copied h t =
    let w : All (λ j. j < length (types_of states)) ns = subst (λ j. All (λ i. i < j) ns) (sym (length-map states slots_of)) h in
    sym (length-map copied slots_of) ∙ ap length t ∙ length_taken ns (types_of states) w
