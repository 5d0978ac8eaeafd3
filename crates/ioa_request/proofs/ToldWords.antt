-- What words ask to be explained, step by step.
use Rattle.std.proofs.Common.{◌≡◌, ◌∙◌, ◌++◌, ◌∷◌, [], List, Option, Some, None, IfNone, IfSome, ap, ap₂, false, inl, inr, refl, subst, sym, true}
use Rattle.std.specs.Borrow.{Bor}
use Rattle.std.specs.Option.{option_and_then, option_map, option_to_list}
use Rattle.clap.specs.Words.{Text}
use Rattle.ioa_request.specs.declared.code.Code.{Code}
use Rattle.ioa_request.specs.declared.pasted.Left.{Left}
use Rattle.ioa_request.specs.declared.topic.Topic.{Topic}
use Rattle.ioa_request.specs.Codes.{spelling}
use Rattle.ioa_request.specs.Fields.{after_field, first_field}
use Rattle.ioa_request.specs.Pasted.{IsNamed, IsPasted, is_label, left_of, next_word, phrase_in, reads, texts, told, unlabelled, with_next}

-- the next word is of what is left of one with spaces, or of the words after it
pub next_begun : (left : Left) (text : Bor Text) (w : Text) (l : List Text) → left.begun ≡ Some text → w ≡ first_field text.now
    → l ≡ option_to_list (after_field text.now) ++ texts left.rest.now → Some (w, l) ≡ next_word (left_of left)
next_begun left text w l is e f =
    ap₂ (λ (a : Text) (b : List Text). Some (a, b)) e f
    ∙ sym (ap (λ (o : Option (Bor Text)). next_word (option_to_list (option_map (λ x. x.now) o) ++ texts left.rest.now)) is)

pub next_whole : (left : Left) (word : Bor Text) (rest : List (Bor Text)) (w : Text) (l : List Text) → left.begun ≡ None → left.rest.now ≡ word ∷ rest
    → w ≡ first_field word.now → l ≡ option_to_list (after_field word.now) ++ texts rest → Some (w, l) ≡ next_word (left_of left)
next_whole left word rest w l is parts e f =
    ap₂ (λ (a : Text) (b : List Text). Some (a, b)) e f
    ∙ sym (
    ap (λ (o : Option (Bor Text)). next_word (option_to_list (option_map (λ x. x.now) o) ++ texts left.rest.now)) is
    ∙ ap (λ (xs : List (Bor Text)). next_word (texts xs)) parts
    )

pub next_none : (left : Left) → left.begun ≡ None → left.rest.now ≡ [] → None ≡ next_word (left_of left)
next_none left is none =
    sym (
    ap (λ (o : Option (Bor Text)). next_word (option_to_list (option_map (λ x. x.now) o) ++ texts left.rest.now)) is
    ∙ ap (λ (xs : List (Bor Text)). next_word (texts xs)) none
    )

-- the first two words that tell, without a label and behind one
tells : (ws : List Text) (o : Option (Text × List Text)) → o ≡ next_word ws → told ws ≡ option_map with_next (option_and_then unlabelled o)
tells ws o e = ap (λ (p : Option (Text × List Text)). option_map with_next (option_and_then unlabelled p)) (sym e)

pub told_plain : (ws : List Text) (w : Text) (l : List Text) (o : Option Text) → Some (w, l) ≡ next_word ws → is_label w ≡ false
    → o ≡ option_map (λ p. p.0) (next_word l) → Some (w, o) ≡ told ws
told_plain ws w l o e bare s =
    let plain : option_map with_next (option_and_then unlabelled (Some (w, l))) ≡ Some (with_next (w, l)) = rw bare refl in
    ap (λ (x : Option Text). Some (w, x)) s ∙ sym plain ∙ sym (tells ws (Some (w, l)) e)

pub told_labelled : (ws : List Text) (w : Text) (l : List Text) (p : Option (Text × List Text)) → Some (w, l) ≡ next_word ws → is_label w ≡ true
    → p ≡ next_word l → option_map with_next p ≡ told ws
told_labelled ws w l p e label f =
    let behind : option_map with_next (option_and_then unlabelled (Some (w, l))) ≡ option_map with_next (next_word l) = rw label refl in
    ap (option_map with_next) f ∙ sym behind ∙ sym (tells ws (Some (w, l)) e)

pub told_none : (ws : List Text) → None ≡ next_word ws → None ≡ told ws
told_none ws e = sym (tells ws None e)

-- what a word and the next one name
pub phrased : (w : Text) (o : Option Text) (r : Option Topic) → r ≡ phrase_in w o → IfSome r (λ topic. IsNamed w o topic)
phrased w o None e = tt
phrased w o (Some topic) e = inr (sym e)

pub unnamed : (w : Text) (o : Option Text) (r : Option Topic) → r ≡ phrase_in w o → ((code : Code) → reads (spelling code) w ≡ true → ⊥)
    → IfNone r ((topic : Topic) → IsNamed w o topic → ⊥)
unnamed w o (Some topic) e none = tt
unnamed w o None e none = λ topic h. elim h [
  | inl k ↦ none k.0 k.2
  | inr k ↦ let z : None ≡ Some topic = e ∙ k in cc
]

-- what the words ask for
pub pasted_some : (ws : List Text) (w : Text) (o : Option Text) (r : Option Topic) → Some (w, o) ≡ told ws → IfSome r (λ topic. IsNamed w o topic)
    → IfSome r (λ topic. IsPasted ws topic)
pasted_some ws w o None e h = tt
pasted_some ws w o (Some topic) e h = ((w, o), sym e, h)

same_told : (ws : List Text) (p q : Text × Option Text) → Some p ≡ told ws → told ws ≡ Some q → p ≡ q
same_told ws p q e f = let z : Some p ≡ Some q = e ∙ f in cc

pub pasted_none : (ws : List Text) (w : Text) (o : Option Text) (r : Option Topic) → Some (w, o) ≡ told ws → IfNone r ((topic : Topic) → IsNamed w o topic → ⊥)
    → IfNone r ((topic : Topic) → IsPasted ws topic → ⊥)
pasted_none ws w o (Some topic) e h = tt
pasted_none ws w o None e h = λ topic k.
    h topic (subst (λ (p : Text × Option Text). IsNamed p.0 p.1 topic) (sym (same_told ws (w, o) k.0 e k.1)) k.2)

pub untold : (ws : List Text) → None ≡ told ws → (topic : Topic) → IsPasted ws topic → ⊥
untold ws e topic k = let z : None ≡ Some k.0 = e ∙ k.1 in cc
