use Rattle.std.proofs.Common.{Vec, ◌≡◌, ◌∙◌, ℕ, ◌+◌, ◌≤◌, List, [], ◌∷◌, Some, ap, map, refl, sym, subst, string_bytes, arith}
use Rattle.std.specs.Prelude.{is_some, nat_lt}
use Rattle.std.specs.Option.{option_map}
use Rattle.std.proofs.lemmas.List.{map-append}
use Rattle.ioa_value.specs.Actions.{Act, act_of}
use Rattle.std.specs.Global.{Global}
use Rattle.ioa_value.specs.declared.action.Action.{Action}
use Rattle.ioa_value.specs.Plain.{Val, plain}
use Rattle.ioa_parts.specs.Proposals.{values_in}
use Rattle.ioa_compile.specs.Shown.{member_code}
use Rattle.ioa_compile.specs.Tables.{table_component}
use Rattle.ioa_enabled.specs.Sampled.{named}
use Rattle.ioa_enabled.specs.Ways.{combination, is_enabled, total, way}
use Rattle.ioa_enabled.proofs.Trying.{absent, all_tried, found, kept, left_out, made, mapped, more_there, most_tried, no_more}
use Rattle.ioa_enabled.proofs.offers.enabled_among.Goals as goal
use Rattle.ioa_enabled.proofs.offers.enabled_among.Goals.{then-branch+in_ok-push, else-branch}

pub returns-in_default : goal.returns-in_default
returns-in_default c = λ cs are.
    let test : Act → _ = is_enabled (table_component (member_code c.args.member.now)) c.args.state.now.values in
    let so_far = c.loop-number.invariant cs are in
    let number = c.loop-number.number in
    let last = absent cs c.args.most (map values_in c.args.columns.now) are number (omega arith) (ap (option_map values_in) (sym c.in_default.is) ∙ c.in_ok-vals.ensures) in
    record {
      enabled = all_tried test c.args.name.now cs number c.args.most (map act_of c.loop-number.enabled.items) so_far.0 so_far.1 last (omega arith);
      more = no_more c.args.most number (total cs) last (omega arith);
    }

pub loop-number-preserved : goal.loop-number-preserved
loop-number-preserved c = λ cs are.
    let test : Act → _ = is_enabled (table_component (member_code c.args.member.now)) c.args.state.now.values in
    let so_far = c.loop-number.invariant cs are in
    let number = c.loop-number.number in
    let one =
    found cs c.args.most (map values_in c.args.columns.now) are number (values_in c.in-Some.vals) (omega arith) (ap (option_map values_in) (sym c.in-Some.is) ∙ c.in_ok-vals.ensures) in
    let a : Act = named (string_bytes c.in_ok-from_str.field-0) (values_in c.in-Some.vals) in
    let is : a ≡ way c.args.name.now cs number =
    made (string_bytes c.in_ok-from_str.field-0) c.args.name.now (values_in c.in-Some.vals) (combination cs number) c.in_ok-from_str.ensures.ok one.0 in
    let within : number + 1 ≤ total cs = omega (arith, one.1) in
    elim c.if-branch.branch [
      | then-branch+in_ok-push w ↦ (
        ap (λ (v : Vec Action Global). map act_of v.items) w.enabled-is ∙ ap (map act_of) w.in_ok-push.ensures.items ∙ map-append act_of c.loop-number.enabled.items _
            ∙ kept test c.args.name.now cs number (map act_of c.loop-number.enabled.items) a is so_far.0 (sym c.in_ok-is_enabled.ensures ∙ w.if-branch.true),
        within,
      )
      | else-branch w ↦ (
        ap (λ (v : Vec Action Global). map act_of v.items) w.enabled-is
            ∙ left_out test c.args.name.now cs number (map act_of c.loop-number.enabled.items) a is so_far.0 (sym c.in_ok-is_enabled.ensures ∙ w.if-branch.false),
        within,
      )
    ]

pub returns : goal.returns
returns c = λ cs are.
    let test : Act → _ = is_enabled (table_component (member_code c.args.member.now)) c.args.state.now.values in
    let so_far = c.loop-number.invariant cs are in
    let number = c.loop-number.number in
    record {
      enabled = most_tried test c.args.name.now cs number c.args.most (map act_of c.loop-number.enabled.items) so_far.0 so_far.1 (omega arith);
      more =
          c.is_some-more.ensures ∙ sym (mapped values_in c.in_ok-combination.field-0)
          ∙ more_there cs c.args.most (map values_in c.args.columns.now) are (option_map values_in c.in_ok-combination.field-0) c.in_ok-combination.ensures;
    }
