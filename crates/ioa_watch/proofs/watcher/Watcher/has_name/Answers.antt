use Rattle.std.proofs.Common.{is_some, ap, ◌∙◌}
use Rattle.ioa_watch.specs.Watchers.{names_in}
use Rattle.ioa_watch.proofs.EntryNames.{is_there}
use Rattle.ioa_watch.proofs.watcher.Watcher.has_name.Goals as goal

pub returns : goal.returns
returns c = c.is_some.ensures ∙ ap is_some c.place.ensures ∙ is_there (names_in c.args.self.now) c.args.name.now
