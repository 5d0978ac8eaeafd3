-- A part's code, with constants after its own.
use Rattle.ioa_tree.specs.declared.tree.Kind.{Kind}
use Rattle.ioa_tree.specs.declared.tree.Kind.TheVariants.{Output, Internal}
use Rattle.ioa_compile.specs.Tables.{HasLocal}
use Rattle.ioa_compile.specs.Translated.{IsGuard, IsProposing}
use Rattle.std.proofs.Common.{◌≡◌, ◌⊎◌, ⊎_elim, List, length, Option, Some, refl, sym, subst}
use Rattle.ioa_value.specs.Plain.{Val}
use Rattle.ioa_value.specs.Typing.{OwnTypes}
use Rattle.ioa_code.specs.Machine.{Listing}
use Rattle.ioa_tree.specs.Tree.{Expr, PositionTree, ProposalTree}
use Rattle.ioa_emit.specs.Scopes.{Scope}
use Rattle.ioa_emit.specs.Emitting.{KeepsCode, IsGrown}
use Rattle.ioa_emit.proofs.Emitted.{HasGuard-keeps, HasProposals-keeps}

-- what is so of a locally controlled entry's code
pub local_is : {X : Type 0} (P : X → Type 0) (k : Kind) (x : X) → (k ≡ Output) ⊎ (k ≡ Internal) → P x → HasLocal P k (Some x)
local_is P k x is h =
    ⊎_elim (λ (e : k ≡ Output). subst (λ l. HasLocal P l (Some x)) (sym e) h) (λ (e : k ≡ Internal). subst (λ l. HasLocal P l (Some x)) (sym e) h) is

-- the same code with these constants
abbrev pub with_consts : Listing → List Val → Listing
with_consts old consts = record { types = old.types; instrs = old.instrs; consts = consts }

grown_keeps : (old : Listing) (consts : List Val) → IsGrown old.consts consts → OwnTypes old.types consts → KeepsCode old (with_consts old consts)
grown_keeps old consts grown own_types = record { instr = λ p i e. e; const = grown; types = refl; typed = λ t. own_types }

pub grown_guard : (s : Scope) (g : Option Expr) (old : Listing) (consts : List Val) → IsGuard old s g → IsGrown old.consts consts → OwnTypes old.types consts → IsGuard (with_consts old consts) s g
grown_guard s g old consts h grown own_types = record {
  has = HasGuard-keeps old (with_consts old consts) (grown_keeps old consts grown own_types) s g 0 (length old.instrs) h.has;
  typed = own_types;
}

pub grown_proposals : (s : Scope) (rs : List ProposalTree) (ps : List PositionTree) (old : Listing) (consts : List Val) → IsProposing old s rs ps → IsGrown old.consts consts → OwnTypes old.types consts → IsProposing (with_consts old consts) s rs ps
grown_proposals s rs ps old consts h grown own_types = record {
  has = HasProposals-keeps old (with_consts old consts) (grown_keeps old consts grown own_types) s rs ps 0 (length old.instrs) h.has;
  typed = own_types;
}

pub grown_on : (a b c : List Val) → IsGrown a b → IsGrown b c → IsGrown a c
grown_on a b c f g k v e = g k v (f k v e)
