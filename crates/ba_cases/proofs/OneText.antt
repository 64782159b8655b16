-- A text has one meaning, or one fault.

use Rattle.std.proofs.Common.{◌≡◌, ◌⊎◌, inl, inr, ℕ, None, Some, Ok, Err, List, [], refl, sym, ◌∙◌, ap, subst, arith}
use Rattle.std.specs.Prelude.{Contains}
use Rattle.ba_lex.specs.Lines.{tokens_of}
use Rattle.ba_lex.specs.declared.error.LexError.{LexError}
use Rattle.ba_tokens.specs.declared.token.Token.{Token}
use Rattle.ba_trees.specs.FileMarks.{file_marks}
use Rattle.ba_parse.specs.Files.{IsParsed, Says, Verdict, deep_at, parsed, syntax_at}
use Rattle.ba_trees.specs.Marks.{Mark}
use Rattle.ba_trees.specs.declared.tree.statements.RawProgram.{RawProgram}
use Rattle.ba_parse.proofs.Verdicts.{one_verdict}
use Rattle.ba_tree.specs.declared.tree.Program.{Program}
use Rattle.ba_typing.specs.Faults.{IsFirst}
use Rattle.ba_typing.specs.Files.{faults_of, typed_of}
use Rattle.ba_tree_laws.specs.Equivalent.{AreEquivalent}
use Rattle.ba_tree_laws.specs.Spelling.{Spells}
use Rattle.ba_typing.specs.declared.fault.Fault.{Fault as TypeFault}
use Rattle.ba_tree_laws.proofs.FileRows.{same_faults}
use Rattle.ba_typing.proofs.FaultOrder.{connected}
use Rattle.ba_tree_laws.proofs.Equivalence.{equivalent}
use Rattle.ba_tree_laws.proofs.OneProgram.{clean, has_program, one_of_text}
use Rattle.ba_cases.specs.Programs.{IsFault, ill_typed, lexical_fault, no_file, no_main, no_tokens, position_of_token, too_deep, typing_fault}
use Rattle.ba_answers.specs.declared.fault.Cause.TheVariants as cause
use Rattle.ba_answers.specs.declared.fault.Fault.{Fault}

-- A FAULT OF A TEXT, by the stage that it is of

-- of a tree: its first fault, or that there is no `main`
data IsFaultOf (tree : RawProgram) (fault : Fault) : Type 0 where
  first : (f : TypeFault) → IsFirst (faults_of tree.externals.items) f → fault ≡ typing_fault f
      → IsFaultOf tree fault
  none : faults_of tree.externals.items ≡ [] → typed_of tree.externals.items ≡ None
      → fault ≡ record { cause = cause.NoMain; at = None } → IsFaultOf tree fault

-- of a tree that is written out so
record IsFaultIn (marks : List Mark) (fault : Fault) : Type 0 where
  pub tree : RawProgram
  pub written : file_marks tree ≡ marks
  pub is : IsFaultOf tree fault

-- of tokens of which the grammar says this
abbrev IsFaultBy : List Token → Verdict → Fault → Type 0
IsFaultBy tokens (syntax_at k) fault = fault ≡ record {
  cause = cause.Syntax;
  at = position_of_token tokens k;
}
IsFaultBy tokens (deep_at k) fault = fault ≡ record { cause = cause.TooDeep; at = position_of_token tokens k }
IsFaultBy tokens (parsed marks) fault = IsFaultIn marks fault

record IsLexical (source : List ℕ) (fault : Fault) : Type 0 where
  pub error : LexError
  pub refused : tokens_of source ≡ Err error
  pub told : lexical_fault error ≡ Some fault

record IsLater (source : List ℕ) (fault : Fault) : Type 0 where
  pub tokens : List Token
  pub lexed : tokens_of source ≡ Ok tokens
  pub verdict : Verdict
  pub says : Says tokens verdict
  pub is : IsFaultBy tokens verdict fault

staged : (source : List ℕ) (fault : Fault) → IsFault source fault →
    IsLexical source fault ⊎ IsLater source fault
staged source fault (no_tokens error refused told) =
    inl (record { error = error; refused = refused; told = told })
staged source fault (no_file tokens number lexed says is) =
    inr (record { tokens = tokens; lexed = lexed; verdict = syntax_at number; says = says; is = is })
staged source fault (too_deep tokens number lexed says is) =
    inr (record { tokens = tokens; lexed = lexed; verdict = deep_at number; says = says; is = is })
staged source fault (ill_typed tree f spelled is_first is) = inr (record {
  tokens = spelled.tokens;
  lexed = spelled.lexed;
  verdict = parsed (file_marks tree);
  says = spelled.parsed;
  is = record { tree = tree; written = refl; is = first f is_first is };
})
staged source fault (no_main tree spelled clean untyped is) = inr (record {
  tokens = spelled.tokens;
  lexed = spelled.lexed;
  verdict = parsed (file_marks tree);
  says = spelled.parsed;
  is = record { tree = tree; written = refl; is = none clean untyped is };
})

-- A TEXT HAS ONE FAULT

tokens_same : (source : List ℕ) (tokens others : List Token) → tokens_of source ≡ Ok tokens
    → tokens_of source ≡ Ok others → tokens ≡ others
tokens_same source tokens others is are = let e = sym is ∙ are in cc

some_same : {A : Type 0} (a b : A) → Some a ≡ Some b → a ≡ b
some_same a b e = cc

errors_same : (source : List ℕ) (error other : LexError) → tokens_of source ≡ Err error
    → tokens_of source ≡ Err other → error ≡ other
errors_same source error other is are = let e = sym is ∙ are in cc

tokens_or_none : (source : List ℕ) (error : LexError) (tokens : List Token) → tokens_of source ≡ Err error
    → tokens_of source ≡ Ok tokens → ⊥
tokens_or_none source error tokens is are = let e = sym is ∙ are in cc

pub none_first : (f : TypeFault) (faults : List TypeFault) → faults ≡ [] → IsFirst faults f → ⊥
none_first f faults empty it =
    let there : Contains [] f = subst (λ faults. Contains faults f) empty it.there in omega arith

first_same : (f g : TypeFault) (faults : List TypeFault) → IsFirst faults f → IsFirst faults g → f ≡ g
first_same f g faults one other = connected f g (other.least f one.there) (one.least g other.there)

tree_fault_same : (tree other : RawProgram) (fault second : Fault) → file_marks tree ≡ file_marks other
    → IsFaultOf tree fault → IsFaultOf other second → fault ≡ second
tree_fault_same tree other fault second same (first f is_first is) (first g is_other are) =
    is ∙ ap typing_fault (first_same f g (faults_of other.externals.items)
    (subst (λ faults. IsFirst faults f) (same_faults tree other same) is_first) is_other) ∙ sym are
tree_fault_same tree other fault second same (first f is_first is) (none empty untyped are) =
    absurd (none_first f (faults_of tree.externals.items) (same_faults tree other same ∙ empty) is_first)
tree_fault_same tree other fault second same (none empty untyped is) (first g is_other are) =
    absurd (none_first g (faults_of other.externals.items) (sym (same_faults tree other same) ∙ empty)
    is_other)
tree_fault_same tree other fault second same (none empty untyped is) (none e u are) = is ∙ sym are

by_same : (tokens : List Token) (verdict : Verdict) (fault second : Fault) → IsFaultBy tokens verdict fault
    → IsFaultBy tokens verdict second → fault ≡ second
by_same tokens (syntax_at k) fault second is are = is ∙ sym are
by_same tokens (deep_at k) fault second is are = is ∙ sym are
by_same tokens (parsed marks) fault second one other = tree_fault_same one.tree other.tree fault second
    (one.written ∙ sym other.written) one.is other.is

module _ (source : List ℕ) where
  -- the verdict is one, and so is what is said by it
  verdict_same : (tokens : List Token) (verdict other : Verdict) → Says tokens verdict → Says tokens other
      → verdict ≡ other
  verdict_same tokens verdict other one two = one_verdict tokens verdict other one two

  later_same : (fault second : Fault) → IsLater source fault → IsLater source second → fault ≡ second
  later_same fault second one other =
      let tokens = tokens_same source one.tokens other.tokens one.lexed other.lexed in
      let says : Says other.tokens one.verdict = subst (λ tokens. Says tokens one.verdict) tokens one.says in
      let verdict = verdict_same other.tokens one.verdict other.verdict says other.says in
      let is : IsFaultBy other.tokens one.verdict fault =
      subst (λ tokens. IsFaultBy tokens one.verdict fault) tokens one.is in
      by_same other.tokens other.verdict fault second
      (subst (λ verdict. IsFaultBy other.tokens verdict fault) verdict is) other.is

  lexical_same : (fault second : Fault) → IsLexical source fault → IsLexical source second → fault ≡ second
  lexical_same fault second one other = some_same fault second (sym one.told
      ∙ ap lexical_fault (errors_same source one.error other.error one.refused other.refused) ∙ other.told)

  staged_same : (fault second : Fault) → IsLexical source fault ⊎ IsLater source fault
      → IsLexical source second ⊎ IsLater source second → fault ≡ second
  staged_same fault second (inl one) (inl other) = lexical_same fault second one other
  staged_same fault second (inl one) (inr other) =
      absurd (tokens_or_none source one.error other.tokens one.refused other.lexed)
  staged_same fault second (inr one) (inl other) =
      absurd (tokens_or_none source other.error one.tokens other.refused one.lexed)
  staged_same fault second (inr one) (inr other) = later_same fault second one other

  pub one_fault : (fault second : Fault) → IsFault source fault → IsFault source second → fault ≡ second
  one_fault fault second one other =
      staged_same fault second (staged source fault one) (staged source second other)

  -- A TEXT WITH A FAULT SPELLS NO PROGRAM

  parsed_only : (tokens : List Token) (verdict : Verdict) (marks : List Mark) → Says tokens verdict
      → IsParsed tokens marks → verdict ≡ parsed marks
  parsed_only tokens verdict marks says is = verdict_same tokens verdict (parsed marks) says is

  tree_spelled : (p : Program) (tree : RawProgram) (tokens : List Token) (fault : Fault)
      → tokens_of source ≡ Ok tokens → IsParsed tokens (file_marks tree) → Spells source p
      → IsFaultOf tree fault → ⊥
  tree_spelled p tree tokens fault lexed is_parsed spells (first f is_first is) =
      none_first f (faults_of tree.externals.items) (clean source tokens tree p lexed is_parsed spells)
      is_first
  tree_spelled p tree tokens fault lexed is_parsed spells (none empty untyped is) =
      let both = sym untyped ∙ has_program source tokens tree p lexed is_parsed spells in cc

  by_spelled : (p : Program) (tokens : List Token) (verdict : Verdict) (fault : Fault)
      → tokens_of source ≡ Ok tokens → Says tokens verdict → Spells source p
      → IsFaultBy tokens verdict fault → ⊥
  by_spelled p tokens (parsed marks) fault lexed says spells it =
      tree_spelled p it.tree tokens fault lexed (subst (λ marks. IsParsed tokens marks) (sym it.written) says)
      spells it.is
  by_spelled p tokens (syntax_at k) fault lexed says spells it = no_syntax (parsed_only tokens (syntax_at k)
      (file_marks spells.are.tree) says (subst (λ tokens. IsParsed tokens (file_marks spells.are.tree))
      (tokens_same source spells.tokens tokens spells.lexed lexed) spells.are.parsed)) where
        no_syntax : {n : ℕ} {marks : List Mark} → syntax_at n ≡ parsed marks → ⊥
        no_syntax e = cc
  by_spelled p tokens (deep_at k) fault lexed says spells it = no_deep (parsed_only tokens (deep_at k)
      (file_marks spells.are.tree) says (subst (λ tokens. IsParsed tokens (file_marks spells.are.tree))
      (tokens_same source spells.tokens tokens spells.lexed lexed) spells.are.parsed)) where
        no_deep : {n : ℕ} {marks : List Mark} → deep_at n ≡ parsed marks → ⊥
        no_deep e = cc

  stage_spelled : (p : Program) (fault : Fault) → Spells source p
      → IsLexical source fault ⊎ IsLater source fault → ⊥
  stage_spelled p fault spells (inl it) =
      tokens_or_none source it.error spells.tokens it.refused spells.lexed
  stage_spelled p fault spells (inr it) =
      by_spelled p it.tokens it.verdict fault it.lexed it.says spells it.is

  pub no_fault : (p : Program) (fault : Fault) → Spells source p → IsFault source fault → ⊥
  no_fault p fault spells it = stage_spelled p fault spells (staged source fault it)

  -- A TEXT HAS ONE MEANING

  pub meaning_same : (p q : Program) → Spells source p → Spells source q → AreEquivalent p q
  meaning_same p q it that = equivalent p q (one_of_text source p q it that)
