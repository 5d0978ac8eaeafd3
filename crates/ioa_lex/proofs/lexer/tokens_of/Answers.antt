use Rattle.std.proofs.Common.{◌≡◌, ◌+◌, ◌++◌, take, get_or, inl, inr, subst, sym, ap, ◌∙◌, rules, arith}
use Rattle.std.proofs.lemmas.List.{take_rest}
use Rattle.ioa_lex.specs.declared.token.Token.{Token}
use Rattle.ioa_lex.specs.Lexing.{placed, line_after, IsRefused}
use Rattle.ioa_lex.proofs.Steps.{IsLexedTo, line_more, line_kept, lexed_more, within_more, refused_by, kept_some, kept_none, found_on}
use Rattle.ioa_lex.proofs.lexer.tokens_of.Goals as goal
use Rattle.ioa_lex.proofs.lexer.tokens_of.Goals.{in-Some+in_ok-push, in_default, then-text-at-eq10, else-text-at-eq10}

pub returns-in_err-kind : goal.returns-in_err-kind
returns-in_err-kind c =
    let none = rw (take_rest c.args.text.now c.loop-at.at) at c.in_err-kind.ensures in
    let why : IsRefused c.args.text.now c.in_err-kind.field-0.0 =
    refused_by c.args.text.now c.loop-at.at c.loop-at.line (placed c.loop-at.tokens.items) c.in_err-kind.field-0.0 c.requires c.loop-at-test.true c.loop-at.invariant.lexed c.loop-at.invariant.here none in
    search (rules, why)

pub loop-at-preserved : goal.loop-at-preserved
loop-at-preserved c =
    let text = c.args.text.now in
    let at' = c.loop-at.at in
    let k = c.in_ok-kind.field-0.kind in
    let n = c.in_ok-kind.field-0.len in
    let f = rw (take_rest text at') at c.in_ok-kind.ensures in
    let more = lexed_more text at' c.loop-at.line n (placed c.loop-at.tokens.items) k c.loop-at.invariant.lexed c.loop-at.invariant.here f in
    let lines = line_more text at' n k f in
    let kept : placed c.match-kind.tokens.items ≡ placed c.loop-at.tokens.items ++ found_on c.loop-at.line k =
    elim c.match-kind.branch [
      | in-Some+in_ok-push w ↦ let t : Token = record { kind = w.in-Some.kind; line = c.loop-at.line } in kept_some c.loop-at.tokens.items c.match-kind.tokens.items t k w.in-Some.is (ap (λ v. v.items) w.tokens-is ∙ w.in_ok-push.ensures.items)
      | in_default w ↦ kept_none c.loop-at.tokens.items c.match-kind.tokens.items c.loop-at.line k w.in_default.is (ap (λ v. v.items) w.tokens-is)
    ] in
    record {
      within = (within_more text at' n k c.loop-at.invariant.within f).1;
      here = line_kept (line_after (take at' text)) (line_after (take (at' + n) text)) (get_or text at' 0) c.loop-at.line c.if-text-at-eq10.line lines c.loop-at.invariant.here
          (elim c.if-text-at-eq10.branch [ then-text-at-eq10 w ↦ inl (w.if-text-at-eq10.true, w.line-is) | else-text-at-eq10 w ↦ inr (w.if-text-at-eq10.false, w.line-is) ]);
      lexed = subst (IsLexedTo text (at' + n)) (sym kept) more;
    }

pub loop-at-smaller : goal.loop-at-smaller
loop-at-smaller c =
    let f = rw (take_rest c.args.text.now c.loop-at.at) at c.in_ok-kind.ensures in
    let k = within_more c.args.text.now c.loop-at.at c.in_ok-kind.field-0.len c.in_ok-kind.field-0.kind c.loop-at.invariant.within f in
    omega (arith, k.0, k.1)
