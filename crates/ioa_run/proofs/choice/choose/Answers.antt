use Rattle.std.proofs.Common.{◌≡◌, ◌∙◌, ◌%◌, All, List, IfSome, length, map, subst, sym}
use Rattle.std.specs.Option.{option_map}
use Rattle.std.proofs.lemmas.List.{length-map}
use Rattle.std.proofs.lemmas.Result.{IfOk-weaker}
use Rattle.ioa_compile.specs.Programs.{EntryCode, Prog}
use Rattle.ioa_board.specs.Wishes.{IsWishOf, act_meant}
use Rattle.ioa_run.specs.Choices.{Chooses, GivesAction, IsOfState}
use Rattle.ioa_run.specs.Locals.{HasSites, code_of}
use Rattle.ioa_run.specs.declared.locals.Local.{Local}
use Rattle.ioa_run.proofs.Choosing.{chosen_by, none_chosen, none_picked, one_after, picked_by, picked_there, picks_by, within}
use Rattle.ioa_run.proofs.Counting.{got_all}
use Rattle.ioa_run.proofs.choice.choose.Goals as goal

pub returns-then-count-eq0-clause-chosen : goal.returns-then-count-eq0-clause-chosen
returns-then-count-eq0-clause-chosen g c =
    none_chosen (map code_of c.args.locals.now) c.args.state.now.values (g.W.Words.stream c.args.words.now) (length-map c.args.locals.now code_of ∙ c.if-count-eq0.true)

pub returns-then-count-eq0-clause-picks : goal.returns-then-count-eq0-clause-picks
returns-then-count-eq0-clause-picks g c = λ ok.
    none_picked (map code_of c.args.locals.now) c.args.state.now.values (g.W.Words.stream c.args.words.now) c.args.pick.now (length-map c.args.locals.now code_of ∙ c.if-count-eq0.true)

pub propose_by-requires : goal.propose_by-requires
propose_by-requires g c =
    let ls : List Local = c.args.locals.now in
    let l : Local = c.index-locals-number.result in
    got_all (λ (e : EntryCode). IfSome e.propose (IsOfState c.args.state.now)) (map code_of ls) (c.next-pick.result % length ls) (code_of l) c.requires
    (picked_there ls c.next-pick.result l c.if-count-eq0.false c.index-locals-number.is)

pub returns-clause-chosen : goal.returns-clause-chosen
returns-clause-chosen g c =
    let ls : List Local = c.args.locals.now in
    let l : Local = c.index-locals-number.result in
    let es : List EntryCode = map code_of ls in
    let s = c.args.state.now.values in
    let words = g.W.Words.stream c.args.words.now in
    let mid = g.W.Words.stream c.next-pick.new.self in
    let rest = g.W.Words.stream c.propose_by.new.words in
    IfOk-weaker c.propose_by.result (λ r. GivesAction (code_of l) s mid (option_map act_meant r) rest) (λ r. Chooses es s words (option_map act_meant r) rest)
    (λ r h.
    chosen_by es s words mid rest (c.next-pick.result % length ls) (code_of l) (option_map act_meant r) (picked_by ls words c.next-pick.result c.next-pick.ensures.word)
    (picked_there ls c.next-pick.result l c.if-count-eq0.false c.index-locals-number.is) (one_after words mid c.next-pick.ensures.rest) h)
    c.propose_by.ensures.gives

-- beside the picked entry stand its sites
pub returns-clause-known : goal.returns-clause-known
returns-clause-known g c =
    let ls : List Local = c.args.locals.now in
    let l : Local = c.index-locals-number.result in
    IfOk-weaker c.propose_by.result (λ r. (p : Prog) → HasSites p l → IfSome r (IsWishOf p)) (λ r. (p : Prog) → All (HasSites p) ls → IfSome r (IsWishOf p))
    (λ r h p all. h p (subst (HasSites p) (sym c.index-locals-number.is) (all (c.next-pick.result % length ls) l (within ls c.next-pick.result c.if-count-eq0.false))))
    c.propose_by.ensures.known

-- the picked entry is the one that the first word picks, and its proposal takes the words after it
pub returns-clause-picks : goal.returns-clause-picks
returns-clause-picks g c = λ ok.
    let ls : List Local = c.args.locals.now in
    let l : Local = c.index-locals-number.result in
    let words = g.W.Words.stream c.args.words.now in
    let mid = g.W.Words.stream c.next-pick.new.self in
    picks_by (map code_of ls) c.args.state.now.values words mid (c.next-pick.result % length ls) (code_of l) (record { word = c.next-pick.result; lost = c.propose_by.new.lost })
    (picked_by ls words c.next-pick.result c.next-pick.ensures.word) (picked_there ls c.next-pick.result l c.if-count-eq0.false c.index-locals-number.is) (one_after words mid c.next-pick.ensures.rest) c.next-pick.ensures.word
    (c.propose_by.ensures.lost ok)
