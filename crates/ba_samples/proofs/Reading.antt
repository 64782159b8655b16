-- The text of a sample is read as the sample's program, and spells no other.
use Rattle.std.proofs.Common.{◌≡◌, ℕ, ◌≤◌, Ok, List, [], sym, ◌∙◌, ap, subst}
use Rattle.std.specs.Prelude.{Result}
use Rattle.std.proofs.lemmas.Option.{same_Some}
use Rattle.ba_samples.specs.Text.{sample_text}
use Rattle.ba_lex.specs.declared.error.LexError.{LexError}
use Rattle.ba_parse.proofs.OneTree.{one_tree}
use Rattle.ba_parse.specs.Files.{IsParsed}
use Rattle.ba_tokens.specs.declared.token.Token.{Token}
use Rattle.ba_tree.specs.Trees.{tree_of}
use Rattle.ba_tree.specs.declared.tree.Program.{Program}
use Rattle.ba_trees.specs.FileMarks.{file_marks}
use Rattle.ba_tree_laws.specs.Spelling.{Spells}
use Rattle.ba_samples.specs.Reading.{IsReadAs}
use Rattle.ba_samples.specs.Sample.{sample_tree}
use Rattle.ba_samples.proofs.Lexing.{lexed}
use Rattle.ba_samples.proofs.Marks.{sample_marks}
use Rattle.ba_samples.proofs.Parsing.{parsed}
use Rattle.ba_samples.proofs.Tokens.{sample_tokens}
use Rattle.ba_samples.proofs.Typing.{clean, typed}

pub sample_reads : (n : ℕ) → n ≤ 3997 → IsReadAs (sample_text n) (sample_tree n)
sample_reads n low = record {
  tokens = sample_tokens n;
  lexed = lexed n low;
  marks = sample_marks n;
  parsed = parsed n;
  clean = λ tree same. clean n low tree same;
  typed = λ tree same. typed n low tree same;
}

abbrev tokens_or : Result (List Token) LexError → List Token
tokens_or (Ok ts) = ts
tokens_or _ = []

pub sample_spells : (n : ℕ) → n ≤ 3997 → (p : Program) → Spells (sample_text n) p → tree_of p ≡ sample_tree n
sample_spells n low p it =
    let tokens_are = ap tokens_or (sym it.lexed ∙ lexed n low) in
    let parsed_as = subst (λ ts. IsParsed ts (file_marks it.are.tree)) tokens_are it.are.parsed in
    let same = one_tree (sample_tokens n) (file_marks it.are.tree) (sample_marks n) parsed_as.is_file
    (parsed n).is_file in
    same_Some (tree_of p) (sample_tree n) (sym it.are.typed ∙ typed n low it.are.tree same)
