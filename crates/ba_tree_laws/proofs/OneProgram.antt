-- No list of tokens and no text is that of two programs.
use Rattle.std.proofs.Common.{◌≡◌, ℕ, Some, List, [], Result, Ok, sym, ◌∙◌, ap, subst}
use Rattle.std.proofs.lemmas.Option.{same_Some}
use Rattle.ba_lex.specs.Lines.{tokens_of}
use Rattle.ba_lex.specs.declared.error.LexError.{LexError}
use Rattle.ba_tokens.specs.declared.token.Token.{Token}
use Rattle.ba_trees.specs.FileMarks.{file_marks}
use Rattle.ba_parse.specs.Files.{IsParsed}
use Rattle.ba_trees.specs.declared.tree.statements.RawProgram.{RawProgram}
use Rattle.ba_parse.proofs.OneTree.{one_tree}
use Rattle.ba_tree.specs.declared.tree.Program.{Program}
use Rattle.ba_typing.specs.Files.{faults_of, typed_of}
use Rattle.ba_tree_laws.specs.Spelling.{AreTokensOf, Spells}
use Rattle.ba_tree.specs.Trees.{tree_of}
use Rattle.ba_tree_laws.proofs.FileRows.{same_faults, same_typed}

abbrev tokens_or : Result (List Token) LexError → List Token
tokens_or (Ok ts) = ts
tokens_or _ = []

-- trees of the same tokens are the same written out
same_marks : (tokens : List Token) (tree other : RawProgram) → IsParsed tokens (file_marks tree)
    → IsParsed tokens (file_marks other) → file_marks tree ≡ file_marks other
same_marks tokens tree other it that = one_tree tokens (file_marks tree) (file_marks other) it.is_file
    that.is_file

pub one_of_tokens : (tokens : List Token) (p q : Program) → AreTokensOf tokens p → AreTokensOf tokens q
    → tree_of p ≡ tree_of q
one_of_tokens tokens p q it that = same_Some (tree_of p) (tree_of q)
    (sym it.typed ∙ same_typed it.tree that.tree (same_marks tokens it.tree that.tree it.parsed
    that.parsed) ∙ that.typed)

-- a text has one list of tokens
same_tokens : (text : List ℕ) (ts us : List Token) → tokens_of text ≡ Ok ts → tokens_of text ≡ Ok us → ts ≡ us
same_tokens text ts us it that = ap tokens_or (sym it ∙ that)

pub one_of_text : (text : List ℕ) (p q : Program) → Spells text p → Spells text q
    → tree_of p ≡ tree_of q
one_of_text text p q it that = one_of_tokens that.tokens p q
    (subst (λ ts. AreTokensOf ts p) (same_tokens text it.tokens that.tokens it.lexed that.lexed) it.are)
    that.are

-- the tree of a text that spells a program is the same written out as any of its trees
module _ (text : List ℕ) (tokens : List Token) (tree : RawProgram) (p : Program) (lexed : tokens_of text ≡
    Ok tokens)
    (parsed : IsParsed tokens (file_marks tree)) (it : Spells text p) where
  same_written : file_marks tree ≡ file_marks it.are.tree
  same_written = same_marks tokens tree it.are.tree parsed
      (subst (λ ts. IsParsed ts (file_marks it.are.tree)) (same_tokens text it.tokens tokens it.lexed
      lexed) it.are.parsed)

  pub clean : faults_of tree.externals.items ≡ []
  clean = same_faults tree it.are.tree same_written ∙ it.are.clean

  pub has_program : typed_of tree.externals.items ≡ Some (tree_of p)
  has_program = same_typed tree it.are.tree same_written ∙ it.are.typed
