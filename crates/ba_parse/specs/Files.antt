-- Files, the lists that begin one, and what is said of a list of tokens.

use Rattle.std.specs.Prelude.{◌≡◌, ℕ, ◌+◌, ◌<◌, ◌≤◌, true, List, length, take, get_or, None}
use Rattle.ba_tokens.specs.declared.token.Token.{Token}
use Rattle.ba_trees.specs.Marks.{Mark, file, yield, levels, max_level, no_else_lost}
use Rattle.ba_parse.specs.Grammar.{Spells, rule}

-- the tree is that of a file with these tokens
pub record IsFile (tokens : List Token) (tree : List Mark) : Type 0 where
  pub spelled : Spells (rule file) tree
  pub yields : yield tree ≡ tokens
  pub pairs_else : no_else_lost tree None ≡ true

-- some file's tokens begin with the list
pub record Begins (list : List Token) : Type 0 where
  pub tokens : List Token
  pub tree : List Mark
  pub is_file : IsFile tokens tree
  pub begins : take (length list) tokens ≡ list

-- the level of token k of a tree
abbrev pub level_at : List Mark → ℕ → ℕ
level_at tree k = get_or (levels 0 tree) k 0

-- the tokens are a file's, and each has a level that is accepted
pub record IsParsed (tokens : List Token) (tree : List Mark) : Type 0 where
  pub is_file : IsFile tokens tree
  pub accepted : (j : ℕ) → level_at tree j ≤ max_level

-- No file's tokens begin with tokens 0 to k, but some file's begin with those before k. At the end of the
-- list, the list is no file's. No token before k is too deep in a file that begins with those.
pub record IsSyntaxError (tokens : List Token) (k : ℕ) : Type 0 where
  pub within : k ≤ length tokens
  pub begins : Begins (take k tokens)
  pub stops : k < length tokens → Begins (take (k + 1) tokens) → ⊥
  pub at_end : k ≡ length tokens → (tree : List Mark) → IsFile tokens tree → ⊥
  pub before : (others : List Token) (tree : List Mark) → IsFile others tree → take k others ≡ take k tokens →
      (j : ℕ) → j < k → level_at tree j ≤ max_level

-- some file's tokens begin with tokens 0 to k, and token k is the first whose level is not accepted
pub record IsTooDeep (tokens : List Token) (k : ℕ) : Type 0 where
  pub within : k < length tokens
  pub others : List Token
  pub tree : List Mark
  pub is_file : IsFile others tree
  pub begins : take (k + 1) others ≡ take (k + 1) tokens
  pub deep : max_level < level_at tree k
  pub before : (j : ℕ) → j < k → level_at tree j ≤ max_level

-- what the grammar says of a list of tokens
pub data Verdict : Type 0 where
  parsed : List Mark → Verdict
  syntax_at : ℕ → Verdict
  deep_at : ℕ → Verdict

-- what a verdict says of a list of tokens
abbrev pub Says : List Token → Verdict → Type 0
Says tokens (parsed tree) = IsParsed tokens tree
Says tokens (syntax_at k) = IsSyntaxError tokens k
Says tokens (deep_at k) = IsTooDeep tokens k

-- a verdict on a list of tokens, which is true
pub record Said (tokens : List Token) : Type 0 where
  pub verdict : Verdict
  pub says : Says tokens verdict
