use Rattle.std.proofs.Common.{◌+◌, refl, sym, ap, subst, Ok}
use Rattle.ioa_tree.specs.View.{type_declaration_of, declaration_of}
use Rattle.ioa_tree.specs.WellFormed.{is_type_declaration}
use Rattle.ioa_rules.specs.KnownTypes.{whole}
use Rattle.ioa_rules.proofs.DeclarationLemmas.{Reached, reached_start, reached_type, reached_other, reached_end, says-of_declarations, automaton-says, composition-says, invariant-says}
use Rattle.ioa_rules.proofs.declarations.declarations_fine.Goals as goal
use Rattle.ioa_rules.proofs.declarations.declarations_fine.Goals.{in-Type, in-Automaton+in_ok-automaton_fine-in-Automaton, in-Composition+in_ok-composition_fine-in-Composition, in-Invariant+in_ok-invariant_fine-in-Invariant}

pub loop-i-init : goal.loop-i-init
loop-i-init c = reached_start _ _ c.args.declarations.now _ refl refl c.requires.fine

pub returns-in_err-automaton_fine-in-Automaton : goal.returns-in_err-automaton_fine-in-Automaton
returns-in_err-automaton_fine-in-Automaton c =
    let t = c.args.types.now in
    let g = c.args.globals.now in
    let ds = c.args.declarations.now in
    let d = c.index-declarations-i.result in
    says-of_declarations t g ds c.loop-i.i c.loop-i.known c.loop-i.invariant c.requires.types d c.loop-i-test.true c.index-declarations-i.is
    c.automaton_fine.result c.from_residual.result _
    c.in_err-automaton_fine-in-Automaton.was c.from_residual.ensures.1
    (automaton-says t g ds c.loop-i.i c.loop-i.known c.loop-i.invariant c.requires.types d c.loop-i-test.true c.index-declarations-i.is
    c.automaton_fine.result c.in-Automaton.automaton c.in-Automaton.is c.automaton_fine.ensures)

pub returns-in_err-composition_fine-in-Composition : goal.returns-in_err-composition_fine-in-Composition
returns-in_err-composition_fine-in-Composition c =
    let t = c.args.types.now in
    let g = c.args.globals.now in
    let ds = c.args.declarations.now in
    let d = c.index-declarations-i.result in
    says-of_declarations t g ds c.loop-i.i c.loop-i.known c.loop-i.invariant c.requires.types d c.loop-i-test.true c.index-declarations-i.is
    c.composition_fine.result c.from_residual-in_err-composition_fine-in-Composition.result _
    c.in_err-composition_fine-in-Composition.was c.from_residual-in_err-composition_fine-in-Composition.ensures.1
    (composition-says t g ds c.loop-i.i c.loop-i.known c.loop-i.invariant c.requires.types d c.loop-i-test.true c.index-declarations-i.is
    c.composition_fine.result c.in-Composition.composition c.in-Composition.is c.composition_fine.ensures)

pub returns-in_err-invariant_fine-in-Invariant : goal.returns-in_err-invariant_fine-in-Invariant
returns-in_err-invariant_fine-in-Invariant c =
    let t = c.args.types.now in
    let g = c.args.globals.now in
    let ds = c.args.declarations.now in
    let d = c.index-declarations-i.result in
    says-of_declarations t g ds c.loop-i.i c.loop-i.known c.loop-i.invariant c.requires.types d c.loop-i-test.true c.index-declarations-i.is
    c.invariant_fine.result c.from_residual-in_err-invariant_fine-in-Invariant.result _
    c.in_err-invariant_fine-in-Invariant.was c.from_residual-in_err-invariant_fine-in-Invariant.ensures.1
    (invariant-says t g ds c.loop-i.i c.loop-i.known c.loop-i.invariant c.requires.types d c.loop-i-test.true c.index-declarations-i.is
    c.invariant_fine.result c.in-Invariant.invariant c.in-Invariant.is c.invariant_fine.ensures)

pub loop-i-preserved : goal.loop-i-preserved
loop-i-preserved c =
    let t = c.args.types.now in
    let g = c.args.globals.now in
    let ds = c.args.declarations.now in
    let i = c.loop-i.i in
    let k = c.loop-i.known in
    let d = c.index-declarations-i.result in
    let r = c.loop-i.invariant in
    let l = c.loop-i-test.true in
    let is = c.index-declarations-i.is in
    elim c.match-declarations-i.branch [
      | in-Type w ↦
          reached_type t g ds i k r c.requires.types d l is (type_declaration_of w.in-Type.field-0) (ap declaration_of w.in-Type.is)
          c.match-declarations-i.known (ap (λ m. whole m) w.known-is) (ap (λ m. m.count) w.known-is)
      | in-Automaton+in_ok-automaton_fine-in-Automaton w ↦
          subst (λ m. Reached t g ds (i + 1) m) (sym w.known-is)
          (reached_other t g ds i k r c.requires.types d l is (ap (λ x. is_type_declaration (declaration_of x)) w.in-Automaton.is)
          (automaton-says t g ds i k r c.requires.types d l is {T = Unit {0}} (Ok tt) w.in-Automaton.automaton w.in-Automaton.is
          w.in_ok-automaton_fine-in-Automaton.ensures))
      | in-Composition+in_ok-composition_fine-in-Composition w ↦
          subst (λ m. Reached t g ds (i + 1) m) (sym w.known-is)
          (reached_other t g ds i k r c.requires.types d l is (ap (λ x. is_type_declaration (declaration_of x)) w.in-Composition.is)
          (composition-says t g ds i k r c.requires.types d l is {T = Unit {0}} (Ok tt) w.in-Composition.composition w.in-Composition.is
          w.in_ok-composition_fine-in-Composition.ensures))
      | in-Invariant+in_ok-invariant_fine-in-Invariant w ↦
          subst (λ m. Reached t g ds (i + 1) m) (sym w.known-is)
          (reached_other t g ds i k r c.requires.types d l is (ap (λ x. is_type_declaration (declaration_of x)) w.in-Invariant.is)
          (invariant-says t g ds i k r c.requires.types d l is {T = Unit {0}} (Ok tt) w.in-Invariant.invariant w.in-Invariant.is
          w.in_ok-invariant_fine-in-Invariant.ensures))
    ]

pub returns : goal.returns
returns c = reached_end c.args.types.now c.args.globals.now c.args.declarations.now c.loop-i.i c.loop-i.known c.loop-i.invariant c.loop-i-test.false
