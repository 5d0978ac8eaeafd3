use Rattle.std.proofs.Common.{not, ap, ◌∙◌}
use Rattle.ioa_value.specs.Table.{contains}
use Rattle.ioa_object.proofs.Names.{was_taken}
use Rattle.ioa_bytes.proofs.Readers.{name_free, name_taken}
use Rattle.ioa_object.proofs.types.new_name.Goals as goal

pub returns-then-branch-clause-read : goal.returns-then-branch-clause-read
returns-then-branch-clause-read c =
    name_free (contains c.args.taken.now) c.args.cursor.now c.in_ok-name.name.text.now c.in_ok-name.name.at c.name.new.self c.in_ok-name.ensures.read
    (was_taken _ c.in_ok-insert.field-0 c.in_ok-insert.ensures.added ∙ ap not c.if-branch.true)

pub returns-else-branch-clause-read : goal.returns-else-branch-clause-read
returns-else-branch-clause-read c =
    name_taken (contains c.args.taken.now) c.args.cursor.now c.in_ok-name.name.text.now c.in_ok-name.name.at c.name.new.self c.in_ok-name.ensures.read
    (was_taken _ c.in_ok-insert.field-0 c.in_ok-insert.ensures.added ∙ ap not c.if-branch.false)
