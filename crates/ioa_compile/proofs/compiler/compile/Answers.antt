use Rattle.std.proofs.Common.{◌≡◌, ◌∙◌, map, sym, subst}
use Rattle.std.specs.List.{AllZip}
use Rattle.std.proofs.lemmas.Result.{IfOk-weaker}
use Rattle.ioa_compose.specs.Held.{composed_of, member_of}
use Rattle.ioa_compile.specs.Shown.{member_code}
use Rattle.ioa_compile.specs.Translated.{DoesSame}
use Rattle.std.specs.String.{string_bytes}
use Rattle.ioa_compile.specs.Programs.{Prog}
use Rattle.ioa_compile.specs.Implements.{Implements}
use Rattle.ioa_compile.proofs.Meant.{all_like, all_match, all_related, from_all}
use Rattle.ioa_compile.proofs.Twins.{is_program}
use Rattle.ioa_compile.proofs.compiler.compile.Goals as goal

pub new-requires : goal.new-requires
new-requires c =
    let composed = composed_of c.args.composition.now in
    let cs = map member_code c.in_ok-members.members.items in
    let all = subst (λ l. AllZip DoesSame (map member_of l) cs) c.members.ensures.value c.in_ok-members.ensures in
    is_program composed (record { types = c.in_ok-types.types; name = string_bytes c.in_ok-name.name; members = cs; hidden = map string_bytes c.in_ok-hidden.hidden.items }) c.members.ensures.sound (c.in_ok-name.ensures.ok ∙ c.name.ensures) (c.in_ok-types.ensures.same ∙ c.types.ensures.value) (c.in_ok-hidden.ensures ∙ c.hidden.ensures) all

pub returns : goal.returns
returns c =
    let composed = composed_of c.args.composition.now in
    let ms = composed.members in
    let cs = map member_code c.in_ok-members.members.items in
    let all = subst (λ l. AllZip DoesSame (map member_of l) cs) c.members.ensures.value c.in_ok-members.ensures in
    let made : Prog = record { types = c.in_ok-types.types; name = string_bytes c.in_ok-name.name; members = cs; hidden = map string_bytes c.in_ok-hidden.hidden.items } in
    let means : Implements made composed = record {
      types = c.in_ok-types.ensures.same ∙ c.types.ensures.value;
      name = c.in_ok-name.ensures.ok ∙ c.name.ensures;
      hidden = c.in_ok-hidden.ensures ∙ c.hidden.ensures;
      tables = all_match ms cs all;
      components = all_like ms 0 ms cs (from_all ms) all;
      starts = all_related ms 0 ms cs (from_all ms) all;
    } in
    IfOk-weaker c.new.result (λ (p : Prog). p ≡ made) (λ (p : Prog). Implements p composed) (λ p e. subst (λ (q : Prog). Implements q composed) (sym e) means) c.new.ensures
