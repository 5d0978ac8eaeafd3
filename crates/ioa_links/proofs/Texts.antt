-- The text of the protocol's source is that of its tokens.
use Rattle.std.proofs.Common.{◌≡◌, ℕ, ◌≤◌, ◌<◌, ◌^◌, true, List, ◌∷◌, ◌++◌, length, length-append, map, Ok, refl, sym, subst, arith}
use Rattle.std.proofs.lemmas.Fmt.{length-decimal-le}
use Rattle.std.specs.Fmt.{decimal, digits}
use Rattle.ioa_value.specs.declared.limits.TheConstants.{LIMITS}
use Rattle.ioa_value.specs.Names.{is_name, is_reserved, reserved}
use Rattle.ioa_lex.specs.declared.refusal.Refusal.{Refusal}
use Rattle.ioa_lex.specs.Tokens.{Tok, number}
use Rattle.ioa_lex.specs.Lexing.{Lexes}
use Rattle.ioa_lex.specs.Spaced.{Spaced}
use Rattle.ioa_lex.proofs.SpacedLemmas.{spaced_append, spaced_lexes}
use Rattle.ioa_grammar.specs.Grammar.{SpellsSource}
use Rattle.ioa_grammar.specs.Reading.{same_terminal, terminal_at, sees, after, sign, a_name, a_number, kind_of, kind_at, a_kind, optional, optional_list, items_from, separated, terminated, closing, enclosed, braced, perhaps, many_from, many, sees_name, sees_kind, operator_of, prefix_of, prefix_at, operator_at, around_of, start_of, start_at, around_one, around_two, around, an_empty, after_name, primary, fields_from, operand, climb, first, expr, expression, field, fields, literal_of, literal_at, literal, a_constant, position, positions, entry, entries, flag, variable, sees_variable, variables, a_choice, proposal, proposals, assignment, sees_statement, in_sequence, introduced, an_arm, more_arms, choice, a_loop, unconditional, statement, statements, transition, transitions, an_automaton, arguments, a_crash, instance, instances, hidden_names, a_composition, composed, an_enumeration, a_tuple, a_sequence, sequence_form, compound_form, type_form, a_type, an_invariant, machine, about_machines, declaration, source, source_from}
use Rattle.ioa_lex.proofs.Covers.{same_tokens}
use Rattle.ioa_tree.specs.Depth.{source_deep}
use Rattle.ioa_tree.specs.Tree.{SourceTree}
use Rattle.ioa_declarations.proofs.Whole.{source_found, one_source}
use Rattle.ioa_links.specs.Trees.{stenning_source}
use Rattle.ioa_links.specs.declared.stenning.TheConstants.{BEFORE, AFTER}
use Rattle.ioa_links.proofs.Words.{tokens_of, all_fine, spaced_text}

before_fine : all_fine BEFORE.now ≡ true
unfolding is_name is_reserved reserved digits
before_fine = refl

after_fine : all_fine AFTER.now ≡ true
unfolding is_name is_reserved reserved digits
after_fine = refl

-- the text with n crashes, and its tokens
abbrev pub text : ℕ → List ℕ
text n = BEFORE.now ++ (decimal n ++ 32 ∷ AFTER.now)

abbrev pub tokens : ℕ → List Tok
tokens n = tokens_of BEFORE.now ++ (number n ∷ tokens_of AFTER.now)

spaced : (n : ℕ) → n ≤ 9223372036854775807 → Spaced (tokens n) (text n)
spaced n h =
    spaced_append (tokens_of BEFORE.now) (number n ∷ tokens_of AFTER.now) BEFORE.now (decimal n ++ 32 ∷ AFTER.now) (spaced_text BEFORE.now before_fine)
    (32, AFTER.now, h, refl, refl, spaced_text AFTER.now after_fine)

no_lines : ℕ → ℕ
no_lines n = 0

reads : (n : ℕ) → source 64 no_lines (tokens n) ≡ Ok (stenning_source n)
unfolding same_terminal terminal_at sees after sign a_name a_number kind_of kind_at a_kind optional optional_list items_from separated terminated closing enclosed braced perhaps many_from many sees_name sees_kind operator_of prefix_of prefix_at operator_at around_of start_of start_at around_one around_two around an_empty after_name primary fields_from operand climb first expr expression field fields literal_of literal_at literal a_constant position positions entry entries flag variable sees_variable variables a_choice proposal proposals assignment sees_statement in_sequence introduced an_arm more_arms choice a_loop unconditional statement statements transition transitions an_automaton arguments a_crash instance instances hidden_names a_composition composed an_enumeration a_tuple a_sequence sequence_form compound_form type_form a_type an_invariant machine about_machines declaration source source_from
reads n = refl

pub text_spells : (n : ℕ) → n ≤ 9223372036854775807 → (us : List (Tok × ℕ)) × Lexes (text n) us × SpellsSource (stenning_source n) (map (λ t. t.0) us)
text_spells n h =
    let l = spaced_lexes (tokens n) (text n) (spaced n h) in
    (l.0, l.1, subst (SpellsSource (stenning_source n)) (sym l.2) (source_found 64 no_lines (tokens n) (stenning_source n) (reads n)).0)

-- what the text is read as
pub text_is : (n : ℕ) (bytes : List ℕ) (t : SourceTree) → n ≤ 9223372036854775807 → bytes ≡ text n
    → (ts : List (Tok × ℕ)) × Lexes bytes ts × SpellsSource t (map (λ t. t.0) ts) → t ≡ stenning_source n
text_is n bytes t h e (ts, lexes, spells) =
    let own = text_spells n h in
    let same : ts ≡ own.0 = same_tokens (text n) ts own.0 (subst (λ b. Lexes b ts) e lexes) own.1 in
    one_source (map (λ t. t.0) own.0) t (stenning_source n) (subst (λ us. SpellsSource t (map (λ t. t.0) us)) same spells) own.2

-- ---- no refusal but for want of memory

length_text : (n : ℕ) → n < 2 ^ 63 → length (text n) ≤ LIMITS.text
length_text n h =
    let number : length (decimal n) ≤ 19 = length-decimal-le 19 n (omega arith) (omega (arith, h)) (omega (arith, h)) in
    omega (arith, number, length-append BEFORE.now (decimal n ++ 32 ∷ AFTER.now), length-append (decimal n) (32 ∷ AFTER.now))

shallow : (n : ℕ) → source_deep (stenning_source n) ≤ LIMITS.depth
shallow n = omega arith

-- what `only` says of the text's refusal
pub memory_alone : (n : ℕ) (bytes : List ℕ) (e : Refusal) → n < 2 ^ 63 → bytes ≡ text n
    → ((ts : List (Tok × ℕ)) (t : SourceTree) → Lexes bytes ts → SpellsSource t (map (λ t. t.0) ts) → source_deep t ≤ LIMITS.depth → length bytes ≤ LIMITS.text
    → e ≡ Refusal.OutOfMemory)
    → e ≡ Refusal.OutOfMemory
memory_alone n bytes e h same only =
    let own = text_spells n (omega (arith, h)) in
    only own.0 (stenning_source n) (subst (λ b. Lexes b own.0) (sym same) own.1) own.2 (shallow n) (subst (λ (b : List ℕ). length b ≤ LIMITS.text) (sym same) (length_text n h))
