-- The program that a text spells: a text has one program or none.

use Rattle.std.specs.Prelude.{◌≡◌, ℕ, Some, Ok, List, []}
use Rattle.ba_lex.specs.Lines.{tokens_of}
use Rattle.ba_tokens.specs.declared.token.Token.{Token}
use Rattle.ba_trees.specs.FileMarks.{file_marks}
use Rattle.ba_parse.specs.Files.{IsParsed}
use Rattle.ba_trees.specs.declared.tree.statements.RawProgram.{RawProgram}
use Rattle.ba_tree.specs.declared.tree.Program.{Program}
use Rattle.ba_typing.specs.Files.{faults_of, typed_of}
use Rattle.ba_tree.specs.Trees.{tree_of}

-- the tokens are those of a file whose tree has no fault, and this is its typed program
pub record AreTokensOf (tokens : List Token) (program : Program) : Type 0 where
  pub tree : RawProgram
  pub parsed : IsParsed tokens (file_marks tree)
  pub clean : faults_of tree.externals.items ≡ []
  pub typed : typed_of tree.externals.items ≡ Some (tree_of program)

-- the text spells the program
pub record Spells (text : List ℕ) (program : Program) : Type 0 where
  pub tokens : List Token
  pub lexed : tokens_of text ≡ Ok tokens
  pub are : AreTokensOf tokens program
