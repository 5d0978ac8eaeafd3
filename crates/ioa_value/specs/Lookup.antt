-- Where a reserved word or sign is looked up: by its first byte.
use Rattle.std.specs.Prelude.{ℕ, List, [], ◌∷◌, ◌==◌, if◌then◌else◌}
use Rattle.ioa_value.specs.declared.terminal.Terminal.{Terminal}
use Rattle.ioa_value.specs.declared.terminal.Terminal.TheVariants as terminals

abbrev pub beginning_with : ℕ → List Terminal
beginning_with b =
    if b == 97 then (terminals.Any ∷ terminals.Append ∷ terminals.At ∷ terminals.Automaton ∷ []) else (
    if b == 99 then (terminals.Composition ∷ terminals.Components ∷ terminals.Const ∷ terminals.Crash ∷ []) else (
    if b == 100 then (terminals.Div ∷ terminals.Do ∷ []) else (
    if b == 101 then (terminals.Eff ∷ terminals.Else ∷ terminals.Elseif ∷ terminals.Empty ∷ terminals.Enum ∷ []) else (
    if b == 102 then (terminals.False ∷ terminals.Fi ∷ terminals.For ∷ []) else (
    if b == 104 then (terminals.Head ∷ terminals.Hidden ∷ []) else (
    if b == 105 then (terminals.If ∷ terminals.In ∷ terminals.Init ∷ terminals.Input ∷ terminals.Internal ∷ terminals.Invariant ∷ []) else (
    if b == 108 then (terminals.Last ∷ terminals.Len ∷ []) else (
    if b == 109 then (terminals.Member ∷ terminals.Mod ∷ []) else (
    if b == 111 then (terminals.Od ∷ terminals.Of ∷ terminals.Output ∷ []) else (
    if b == 112 then (terminals.Pre ∷ terminals.Propose ∷ []) else (
    if b == 114 then (terminals.Recover ∷ []) else (
    if b == 115 then (terminals.Seq ∷ terminals.Signature ∷ terminals.Stable ∷ terminals.States ∷ []) else (
    if b == 116 then (terminals.Tail ∷ terminals.Then ∷ terminals.Transitions ∷ terminals.True ∷ terminals.Tuple ∷ terminals.Type ∷ []) else (
    if b == 119 then (terminals.Without ∷ []) else (
    if b == 61 then (terminals.Equal ∷ terminals.Implies ∷ []) else (
    if b == 126 then (terminals.Not ∷ terminals.NotEqual ∷ []) else (
    if b == 60 then (terminals.Less ∷ terminals.LessEqual ∷ []) else (
    if b == 62 then (terminals.Greater ∷ terminals.GreaterEqual ∷ []) else (
    if b == 43 then (terminals.Plus ∷ []) else (
    if b == 45 then (terminals.Minus ∷ []) else (
    if b == 42 then (terminals.Star ∷ []) else (
    if b == 47 then (terminals.And ∷ []) else (
    if b == 92 then (terminals.Or ∷ []) else (
    if b == 58 then (terminals.Becomes ∷ terminals.Colon ∷ []) else (
    if b == 59 then (terminals.Semicolon ∷ []) else (
    if b == 44 then (terminals.Comma ∷ []) else (
    if b == 46 then (terminals.Dot ∷ []) else (
    if b == 40 then (terminals.Open ∷ []) else (
    if b == 41 then (terminals.Close ∷ []) else (
    if b == 123 then (terminals.OpenBrace ∷ []) else (
    if b == 125 then (terminals.CloseBrace ∷ []) else (
    []))))))))))))))))))))))))))))))))
