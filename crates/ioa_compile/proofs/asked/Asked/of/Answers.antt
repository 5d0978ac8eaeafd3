use Rattle.std.proofs.Common.{◌≡◌, [], ◌∷◌, length, map, Option, Vec, sym, ap, ◌∙◌, subst, arith, length-append}
use Rattle.std.specs.Global.{Global}
use Rattle.std.proofs.lemmas.List.{length-map, map-append}
use Rattle.ioa_code.specs.Valid.{Part}
use Rattle.ioa_compose.specs.Held.{composed_of}
use Rattle.ioa_compile.specs.Asking.{AreAsked, AskAll}
use Rattle.ioa_compile.proofs.Asking.{all_asked_more}
use Rattle.ioa_compile.proofs.asked.Asked.of.Goals as goal

pub loop-component-preserved : goal.loop-component-preserved
loop-component-preserved c =
    let composed = composed_of c.args.composition.now in
    let before = c.loop-component.codes.items in
    let new = c.in_ok-component_codes.field-0 in
    let items = c.in_ok-push.ensures.items in
    let all = c.loop-component.invariant in
    let many : length (map (λ (v : Vec (Option Part) Global). v.items) before) ≡ c.loop-component.component = length-map before _ ∙ all.1 in (
      subst (AreAsked composed) (sym (ap (map (λ (v : Vec (Option Part) Global). v.items)) items ∙ map-append _ before (new ∷ [])))
          (all_asked_more composed (map (λ (v : Vec (Option Part) Global). v.items) before) new.items all.0 (subst (λ j. AskAll composed j new.items) (sym many) c.in_ok-component_codes.ensures)),
      omega (arith, ap length items, length-append before (new ∷ []), all.1),
    )
