-- What a call passed, and what it found.
use Rattle.std.proofs.Common.{Option, None, Some, Result, Ok, Err, IfOk, IfSome}

-- what follows of what a call passed
pub if_ok : {A E : Type 0} (P Q : A → Type 0) (r : Result A E) → ((x : A) → P x → Q x) → IfOk r P → IfOk r Q
if_ok P Q (Ok x) f p = f x p
if_ok P Q (Err e) f p = tt

-- what follows of what a call found
pub if_some : {A : Type 0} (P Q : A → Type 0) (o : Option A) → ((x : A) → P x → Q x) → IfSome o P → IfSome o Q
if_some P Q None f p = tt
if_some P Q (Some x) f p = f x p

-- what follows of what a call passed and found
pub if_found : {A E : Type 0} (P Q : A → Type 0) (r : Result (Option A) E) → ((x : A) → P x → Q x) → IfOk r (λ found. IfSome found P) → IfOk r (λ found. IfSome found Q)
if_found P Q (Ok None) f p = tt
if_found P Q (Ok (Some x)) f p = f x p
if_found P Q (Err e) f p = tt
