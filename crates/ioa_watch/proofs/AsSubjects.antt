-- What a program refuses of a stream and counts of it is what the components do that it stands for.
use Rattle.std.proofs.Common.{List}
use Rattle.ioa_value.specs.Actions.{Name, Act}
use Rattle.ioa_compile.specs.Programs.{Prog}
use Rattle.ioa_compile.specs.Subjects.{InSlots, RunsAs, Subject, its_components, its_starts}
use Rattle.ioa_compile.specs.Tables.{start_states, tabled}
use Rattle.ioa_compile.proofs.Subjects.{does_as}
use Rattle.ioa_watch.specs.AsSubjects.{HearsAsProgram}
use Rattle.ioa_watch.specs.Names.{names_of}
use Rattle.ioa_watch.specs.Watched.{starting}
use Rattle.ioa_watch.proofs.Alike.{hearing_all_same, starting_same}

pub hears_as_program : (p : Prog) (s : Subject) (acts : List Act) → RunsAs p s → HearsAsProgram s p acts
hears_as_program p s acts runs =
    let names : List Name = names_of p.members in
    let k = does_as p s runs in
    let h = hearing_all_same (InSlots p s) names (its_components s) (tabled p) k.components acts (starting names (its_starts s)) (starting names (start_states p))
    (starting_same (InSlots p s) names (its_components s) (tabled p) k.components (its_starts s) (start_states p) k.starts) in
    record { heard = h.heard; counts = h.counts; others = h.others; refusal = h.refusal }
