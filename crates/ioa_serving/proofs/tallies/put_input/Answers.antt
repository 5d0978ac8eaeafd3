use Rattle.std.proofs.Common.{codes, string_bytes}
use Rattle.ioa_value.specs.Actions.{act_of}
use Rattle.ioa_value.specs.Written.{written_action}
use Rattle.ioa_serving.proofs.TalliedLines.{put_thrice}
use Rattle.ioa_serving.proofs.tallies.put_input.Goals as goal

pub returns : goal.returns
returns c =
    put_thrice (string_bytes c.args.text.now) (string_bytes c.push_str.new.self) (string_bytes c.push_action.new.text) (string_bytes c.push_str-2.new.self) (codes "environment: ")
    (written_action c.args.types.now (act_of c.args.input.now)) (codes " was not performed\n") c.in_ok-push_str.ensures.bytes c.in_ok-push_action.ensures c.in_ok-push_str-2.ensures.bytes
