use Rattle.std.proofs.Common.{◌≡◌, ◌∙◌, ◌<◌, Some, ap, length, map, sym, subst, rules, arith}
use Rattle.std.specs.Prelude.{IfSome, slice_get}
use Rattle.std.proofs.lemmas.List.{length-map}
use Rattle.std.proofs.lemmas.Result.{IfOk-weaker}
use Rattle.ioa_value.proofs.ItemLemmas.{item_there}
use Rattle.ioa_compile.specs.Programs.{MemberCode, Prog}
use Rattle.ioa_compile.specs.Shown.{member_code}
use Rattle.ioa_compile.specs.Tables.{IsProgram}
use Rattle.ioa_board.specs.Wishes.{IsWishOf}
use Rattle.ioa_board.proofs.Numbers.{got}
use Rattle.ioa_run.specs.Locals.{AreLocals}
use Rattle.ioa_run.proofs.LocalSites.{local_sites, locals_over}
use Rattle.ioa_run.proofs.Wishing.{over_copy, own_there}
use Rattle.ioa_run.proofs.worker.Worker.choice.Given.{Over}
use Rattle.ioa_run.proofs.worker.Worker.choice.Goals as goal
use Rattle.ioa_run.proofs.worker.Worker.choice.Goals.{After-of_component-locals}

member_there : (g : Over) (c : After-of_component-locals g) → (m : MemberCode) × (slice_get g.T.Terms.program.members c.args.self.now.who ≡ Some m)
member_there g c =
    let p : Prog = g.T.Terms.program in
    let members : map member_code c.members-members.result.now ≡ p.members = c.members-members.ensures.value ∙ ap (λ (q : Prog). q.members) c.args.self.now.crew.now.own in
    let many : length p.members ≡ length c.members-members.result.now = sym (ap length members) ∙ length-map c.members-members.result.now member_code in
    let less : c.args.self.now.who < length c.members-members.result.now = search rules in
    item_there p.members c.args.self.now.who (omega (arith, less, many))

-- the local entries are the component's
its_own : (g : Over) (c : After-of_component-locals g) (m : MemberCode) → slice_get g.T.Terms.program.members c.args.self.now.who ≡ Some m → AreLocals g.T.Terms.program m.entries c.of_component-locals.result.now
its_own g c =
    subst (λ (p : Prog). (m : MemberCode) → slice_get p.members c.args.self.now.who ≡ Some m → AreLocals p m.entries c.of_component-locals.result.now) c.args.self.now.crew.now.its
    c.of_component-locals.ensures

pub choose-requires : goal.choose-requires
choose-requires g c =
    let at = (goal.at.choose-requires g c).After-of_component-locals in
    let p : Prog = g.T.Terms.program in
    let w = c.args.self.now.who in
    let m = member_there g at in
    let one : length c.in_ok-own.own.items ≡ 1 = own_there c.in_ok-own.own.items p.members w m.0 c.in_ok-own.ensures m.1 in
    locals_over p c.index.result.now (m.0).entries c.of_component-locals.result.now (its_own g at m.0 m.1)
    (over_copy p c.in_ok-own.own.items w c.index.result.now m.0 (subst IsProgram c.args.self.now.crew.now.own c.members-members.ensures.sound) c.in_ok-own.ensures
    (got c.in_ok-own.own.items 0 c.index.result.now (omega (arith, one)) c.index.ensures) m.1)

pub returns : goal.returns
returns g c =
    let at = (goal.at.returns g c).After-of_component-locals in
    let p : Prog = g.T.Terms.program in
    let m = member_there g at in
    IfOk-weaker c.choose.result _ (λ r. IfSome r (IsWishOf p)) (λ r h. h p (local_sites p (m.0).entries c.of_component-locals.result.now (its_own g at m.0 m.1))) c.choose.ensures.known
