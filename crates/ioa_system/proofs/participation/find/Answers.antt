use Rattle.std.proofs.Common.{◌≡◌, ℕ, ◌+◌, List, Option, Some, map, length, get_or, refl, sym, ap, subst, ◌∙◌, vec_items, arith, slice_get, false}
use Rattle.std.proofs.lemmas.Option.{slice_get-get_or}
use Rattle.ioa_value.proofs.RowLemmas.{drop_there}
use Rattle.ioa_value.specs.Actions.{act_of, Act}
use Rattle.ioa_sites.specs.declared.sites.Site.{Site}
use Rattle.ioa_compile.specs.Programs.{Prog}
use Rattle.ioa_compile.specs.Shown.{member_code}
use Rattle.ioa_compile.specs.Sites.{sites_of}
use Rattle.ioa_system.specs.declared.participation.Participant.{Participant}
use Rattle.ioa_system.specs.Found.{IsSite, IsTaker, takes_at}
use Rattle.ioa_system.proofs.Taking.{Finds, OwnedSo, finds_begin, finds_more, finds_none, finds_end, owned_more, owned_none, owned_end, is_site}
use Rattle.ioa_system.proofs.participation.find.Goals as goal
use Rattle.ioa_system.proofs.participation.find.Goals.{in-Some+in_ok-push, in_default}

pub loop-k-init : goal.loop-k-init
loop-k-init c =
    let p : Prog = c.args.program.now in
    let a : Act = act_of c.args.action.now in
    (subst (λ qs. Finds p a qs 0) (sym c.clear.ensures.items) (finds_begin p a c.members-members.ensures.sound), refl)

pub taker_at-requires : goal.taker_at-requires
taker_at-requires c =
    let p : Prog = c.args.program.now in
    let a : Act = act_of c.args.action.now in
    let ss : List Site = c.args.sites.now in
    let s : Site = get_or ss c.loop-k.k (record { component = 0; entry = 0; shown = false }) in
    let at = slice_get-get_or ss c.loop-k.k (record { component = 0; entry = 0; shown = false }) c.loop-k-test.true in
    subst (λ ms. IsSite ms s) (sym c.members-members.ensures.value)
    (is_site p a.name c.loop-k.k s (ap (λ us. slice_get us c.loop-k.k) (sym c.requires) ∙ at))

pub loop-k-preserved : goal.loop-k-preserved
loop-k-preserved c =
    let p : Prog = c.args.program.now in
    let a : Act = act_of c.args.action.now in
    let all : List Site = sites_of p a.name in
    let ss : List Site = c.args.sites.now in
    let k : ℕ = c.loop-k.k in
    let s : Site = get_or ss k (record { component = 0; entry = 0; shown = false }) in
    let qs : List Participant = c.loop-k.participants.items in
    let same : ss ≡ all = c.requires in
    let here = slice_get-get_or ss k (record { component = 0; entry = 0; shown = false }) c.loop-k-test.true in
    let at : slice_get all k ≡ Some s = ap (λ us. slice_get us k) (sym same) ∙ here in
    let next = drop_there all k s at in
    let members : map member_code c.members-members.result.now ≡ p.members = c.members-members.ensures.value in
    let sound = c.members-members.ensures.sound in
    let P : List Participant → Type 0 = λ rs. Finds p a rs (k + 1) in
    let O : Option Site → Type 0 = λ o. OwnedSo p a o (k + 1) in
    elim c.match-taker_at.branch [
      | in-Some+in_ok-push b ↦
          let taker = subst (λ ms. IsTaker ms a s b.in-Some.taker) members b.in-Some.ensures.taker in (
            subst P (sym (ap vec_items b.participants-is ∙ b.in_ok-push.ensures.items)) (finds_more p a qs k s b.in-Some.taker sound c.loop-k.invariant.0 at next taker),
            subst O (sym (b.owner-is ∙ b.first_local-owner.ensures)) (owned_more p a c.loop-k.owner k s b.in-Some.taker c.loop-k.invariant.1 next taker),
          )
      | in_default b ↦
          let none = subst (λ ms. takes_at ms a s ≡ false) members b.in_default.ensures.none in (
            subst P (sym (ap vec_items b.participants-is)) (finds_none p a qs k s c.loop-k.invariant.0 next none),
            subst O (sym b.owner-is) (owned_none p a c.loop-k.owner k s c.loop-k.invariant.1 next none),
          )
    ]

pub returns-clause-participants : goal.returns-clause-participants
returns-clause-participants c =
    let size = ap length c.requires in
    finds_end c.args.program.now (act_of c.args.action.now) c.loop-k.participants.items c.loop-k.k c.loop-k.invariant.0 (omega arith)

pub returns-clause-owner : goal.returns-clause-owner
returns-clause-owner c =
    let size = ap length c.requires in
    owned_end c.args.program.now (act_of c.args.action.now) c.loop-k.owner c.loop-k.k c.loop-k.invariant.1 (omega arith)
