-- The definition computed at worked texts.
use Rattle.std.proofs.Common.{◌≡◌, ℕ, List, [], ◌∷◌, ◌++◌, Ok, Err, refl, codes, pos, negsuc}
use Rattle.ba_numbers.specs.Numbers.{converted}
use Rattle.ba_numbers.specs.declared.ids.At.{At}
use Rattle.ba_numbers.specs.declared.numbers.CType.TheVariants.{I32, U32}
use Rattle.ba_lex.specs.Constants.{number_kind, character_kind}
use Rattle.ba_lex.specs.Pieces.{first_piece}
use Rattle.ba_lex.specs.Lines.{tokens_of}
use Rattle.ba_lex.specs.declared.error.LexError.TheVariants as error
use Rattle.ba_tokens.specs.declared.token.Punct.TheVariants as punct
use Rattle.ba_tokens.specs.declared.token.Token.{Token}
use Rattle.ba_tokens.specs.declared.token.TokenKind.{TokenKind}
use Rattle.ba_tokens.specs.declared.token.TokenKind.TheVariants as kind

abbrev at : ℕ → ℕ → At
at line column = record { line = line; column = column }

abbrev token : ℕ → ℕ → TokenKind → Token
token line column kind = record { kind = kind; at = at line column }

abbrev line_end : List ℕ
line_end = 10 ∷ []

longest : tokens_of (codes "a+++b") ≡ Ok (token 1 1 (kind.Name (codes "a")) ∷ token 1 2 (kind.Punct punct.Increment) ∷ token 1 4 (kind.Punct punct.Plus) ∷ token 1 5 (kind.Name (codes "b")) ∷ [])
unfolding tokens_of first_piece
longest = refl

order : tokens_of (codes "#define A B" ++ line_end ++ codes "#define B 1") ≡ Err (error.MacroOrder (at 2 9))
unfolding tokens_of first_piece number_kind
order = refl

own_body : tokens_of (codes "#define A A") ≡ Err (error.MacroOrder (at 1 9))
unfolding tokens_of first_piece
own_body = refl

too_large : tokens_of (codes "4294967296") ≡ Err (error.BadToken (at 1 1))
unfolding tokens_of first_piece number_kind
too_large = refl

unsigned_value : tokens_of (codes "2147483648") ≡ Ok (token 1 1 (kind.Constant U32 (pos 2147483648)) ∷ [])
unfolding tokens_of first_piece number_kind
unsigned_value = refl

refused_word : tokens_of (codes "int main(void) { double d; }") ≡ Err (error.NotInProfile (at 1 18))
unfolding tokens_of first_piece
refused_word = refl

use_of_macro : tokens_of (codes "#define N 0x1fU" ++ line_end ++ codes " N;") ≡ Ok (token 2 2 (kind.Constant U32 (pos 31)) ∷ token 2 3 (kind.Punct punct.Semicolon) ∷ [])
unfolding tokens_of first_piece number_kind
use_of_macro = refl

include_header : tokens_of (codes "  # include < stdio.h > // c") ≡ Ok []
unfolding tokens_of first_piece
include_header = refl

include_assert : tokens_of (codes "#include <assert.h>") ≡ Ok []
unfolding tokens_of first_piece
include_assert = refl

late_hash : tokens_of (codes "int /*" ++ line_end ++ codes "*/ # x") ≡ Err (error.BadToken (at 2 4))
unfolding tokens_of first_piece
late_hash = refl

redefined : tokens_of (codes "#define A 1" ++ line_end ++ codes "#define A '\\1'" ++ line_end ++ codes "#define A 2") ≡ Err (error.Redefined (at 3 9))
unfolding tokens_of first_piece number_kind character_kind converted
redefined = refl

negative_character : tokens_of (codes "'\\377'") ≡ Ok (token 1 1 (kind.Constant I32 (negsuc 0)) ∷ [])
unfolding tokens_of first_piece character_kind converted
negative_character = refl

with_parameters : tokens_of (codes "#define A(x) x") ≡ Err (error.BadDirective (at 1 1))
unfolding tokens_of first_piece
with_parameters = refl

bad_octal : tokens_of (codes "x 08") ≡ Err (error.BadToken (at 1 3))
unfolding tokens_of first_piece number_kind
bad_octal = refl

open_string : tokens_of (codes "x \"a\\\"") ≡ Err (error.BadToken (at 1 3))
unfolding tokens_of first_piece
open_string = refl

stray_byte : tokens_of (codes "x @ $") ≡ Err (error.BadByte (at 1 3))
unfolding tokens_of first_piece
stray_byte = refl
