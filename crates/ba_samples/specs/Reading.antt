-- Texts that are read without a fault, whatever tree the parser gives.

use Rattle.std.specs.Prelude.{◌≡◌, ℕ, Some, Ok, List, []}
use Rattle.ba_lex.specs.Lines.{tokens_of}
use Rattle.ba_parse.specs.Files.{IsParsed}
use Rattle.ba_tokens.specs.declared.token.Token.{Token}
use Rattle.ba_tree.specs.Trees.{ProgramTree}
use Rattle.ba_trees.specs.FileMarks.{file_marks}
use Rattle.ba_trees.specs.Marks.{Mark}
use Rattle.ba_trees.specs.declared.tree.statements.RawProgram.{RawProgram}
use Rattle.ba_typing.specs.Files.{faults_of, typed_of}

-- The text has tokens, and these are a file's. Each tree of that file has no fault and this typed program.
pub record IsReadAs (text : List ℕ) (program : ProgramTree) : Type 0 where
  pub tokens : List Token
  pub lexed : tokens_of text ≡ Ok tokens
  pub marks : List Mark
  pub parsed : IsParsed tokens marks
  pub clean : (tree : RawProgram) → file_marks tree ≡ marks → faults_of tree.externals.items ≡ []
  pub typed : (tree : RawProgram) → file_marks tree ≡ marks
      → typed_of tree.externals.items ≡ Some program
