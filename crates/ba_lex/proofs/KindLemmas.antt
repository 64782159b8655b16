-- The test of two kinds of tokens decides whether they are the same.
use Rattle.std.proofs.Common.{◌≡◌, true, ℤ, refl, ap, rules}
use Rattle.std.specs.Bool.{Decides}
use Rattle.std.proofs.lemmas.Bool.{and_parts, and_from}
use Rattle.std.specs.Ordering.{int_eq}
use Rattle.std.proofs.lemmas.Bool.Decides.{Decides-int_eq}
use Rattle.std.proofs.lemmas.Slice.Eq.{bytes_eq-Decides}
use denote.Enum.Bare.{sameb, same_true, true_same}
use Rattle.ba_numbers.specs.declared.numbers.CType.{CType}
use Rattle.ba_numbers.specs.contracts.numbers.CType as ctype
use Rattle.ba_tokens.specs.contracts.token.Keyword as word
use Rattle.ba_tokens.specs.contracts.token.Punct as mark
use Rattle.ba_lex.specs.Lines.{same_kind}
use Rattle.ba_tokens.specs.declared.token.Keyword.{Keyword}
use Rattle.ba_tokens.specs.declared.token.Punct.{Punct}
use Rattle.ba_tokens.specs.declared.token.TokenKind.{TokenKind}
use Rattle.ba_tokens.specs.declared.token.TokenKind.TheVariants as kind

keyword_same : (a b : Keyword) → same_kind (kind.Keyword a) (kind.Keyword b) ≡ true → a ≡ b
keyword_same a b same = same_true word.the_type (search rules) a b same

punct_same : (a b : Punct) → same_kind (kind.Punct a) (kind.Punct b) ≡ true → a ≡ b
punct_same a b same = same_true mark.the_type (search rules) a b same

type_same : (a b : CType) → sameb ctype.the_type a b ≡ true → a ≡ b
type_same a b same = same_true ctype.the_type (search rules) a b same

constants_decide : (s t : CType) (v w : ℤ) → Decides (same_kind (kind.Constant s v) (kind.Constant t w)) (kind.Constant s v ≡ kind.Constant t w)
constants_decide s t v w = (
  λ same. let parts = and_parts (sameb ctype.the_type s t) (int_eq v w) same in
      let e : s ≡ t = type_same s t parts.0 in
      let f : v ≡ w = (Decides-int_eq v w).0 parts.1 in cc,
  λ is. and_from (sameb ctype.the_type s t) (int_eq v w) (true_same ctype.the_type s t cc) ((Decides-int_eq v w).1 cc),
)

pub same_kind-Decides : (a b : TokenKind) → Decides (same_kind a b) (a ≡ b)
same_kind-Decides (kind.Name n) (kind.Name n') = (λ same. ap kind.Name ((bytes_eq-Decides n n').0 same), λ is. (bytes_eq-Decides n n').1 cc)
same_kind-Decides (kind.Name n) (kind.Keyword k') = (λ same. cc, λ is. cc)
same_kind-Decides (kind.Name n) (kind.Constant t' v') = (λ same. cc, λ is. cc)
same_kind-Decides (kind.Name n) kind.Quoted = (λ same. cc, λ is. cc)
same_kind-Decides (kind.Name n) (kind.Punct p') = (λ same. cc, λ is. cc)
same_kind-Decides (kind.Keyword k) (kind.Name n') = (λ same. cc, λ is. cc)
same_kind-Decides (kind.Keyword k) (kind.Keyword k') = (λ same. ap kind.Keyword (keyword_same k k' same), λ is. true_same word.the_type k k' cc)
same_kind-Decides (kind.Keyword k) (kind.Constant t' v') = (λ same. cc, λ is. cc)
same_kind-Decides (kind.Keyword k) kind.Quoted = (λ same. cc, λ is. cc)
same_kind-Decides (kind.Keyword k) (kind.Punct p') = (λ same. cc, λ is. cc)
same_kind-Decides (kind.Constant t v) (kind.Name n') = (λ same. cc, λ is. cc)
same_kind-Decides (kind.Constant t v) (kind.Keyword k') = (λ same. cc, λ is. cc)
same_kind-Decides (kind.Constant t v) (kind.Constant t' v') = constants_decide t t' v v'
same_kind-Decides (kind.Constant t v) kind.Quoted = (λ same. cc, λ is. cc)
same_kind-Decides (kind.Constant t v) (kind.Punct p') = (λ same. cc, λ is. cc)
same_kind-Decides kind.Quoted (kind.Name n') = (λ same. cc, λ is. cc)
same_kind-Decides kind.Quoted (kind.Keyword k') = (λ same. cc, λ is. cc)
same_kind-Decides kind.Quoted (kind.Constant t' v') = (λ same. cc, λ is. cc)
same_kind-Decides kind.Quoted kind.Quoted = (λ same. refl, λ is. refl)
same_kind-Decides kind.Quoted (kind.Punct p') = (λ same. cc, λ is. cc)
same_kind-Decides (kind.Punct p) (kind.Name n') = (λ same. cc, λ is. cc)
same_kind-Decides (kind.Punct p) (kind.Keyword k') = (λ same. cc, λ is. cc)
same_kind-Decides (kind.Punct p) (kind.Constant t' v') = (λ same. cc, λ is. cc)
same_kind-Decides (kind.Punct p) kind.Quoted = (λ same. cc, λ is. cc)
same_kind-Decides (kind.Punct p) (kind.Punct p') = (λ same. ap kind.Punct (punct_same p p' same), λ is. true_same mark.the_type p p' cc)
