use Rattle.std.proofs.Common.{◌≡◌, ℕ, List, ◌||◌, true, false, sym, ap, subst, ◌∙◌}
use Rattle.std.proofs.lemmas.Result.{on_ok_weaker}
use Rattle.std.specs.Option.{is_some}
use Rattle.std.specs.Str.{bytes_eq}
use Rattle.ba_lex.specs.Lines.{body_of, replacement, is_in_body}
use Rattle.ba_lex.specs.Storage.{is_among, table_of}
use Rattle.ba_tokens.specs.declared.token.TokenKind.{TokenKind}
use Rattle.ba_lex.proofs.TableLemmas.{is_among-macro, is_among-name, lookup-table_of}
use Rattle.ba_lex.proofs.macros.mention_token.Goals as goal

pub returns-then-contains_key : goal.returns-then-contains_key
returns-then-contains_key c = λ name.
    let entries = c.args.bodies.now.entries in
    let word = c.as_bytes.result.now in
    let keys = c.args.mentioned.now.keys in
    let there : is_some (body_of (table_of entries) word) ≡ true = ap is_some (lookup-table_of (bytes_eq word) entries) ∙ sym c.contains_key.ensures ∙ c.if-contains_key.true in
    let known : is_some (body_of (table_of entries) c.in-Name.name) ≡ true = subst (λ (n : List ℕ). is_some (body_of (table_of entries) n) ≡ true) c.as_bytes.ensures there in
    is_among-macro keys (table_of entries) c.in-Name.name c.requires known name
    ∙ ap (λ (k : TokenKind). is_among name keys || is_in_body name (replacement (table_of entries) k)) (sym c.in-Name.is)

pub returns : goal.returns
returns c =
    let entries = c.args.bodies.now.entries in
    let word = c.as_bytes.result.now in
    let keys = c.args.mentioned.now.keys in
    let absent : is_some (body_of (table_of entries) word) ≡ false = ap is_some (lookup-table_of (bytes_eq word) entries) ∙ sym c.contains_key.ensures ∙ c.if-contains_key.false in
    let unknown : is_some (body_of (table_of entries) c.in-Name.name) ≡ false = subst (λ (n : List ℕ). is_some (body_of (table_of entries) n) ≡ false) c.as_bytes.ensures absent in
    on_ok_weaker c.mention.result
    (λ added name. added name
    ∙ ap (λ (n : List ℕ). is_among name keys || bytes_eq name n) c.as_bytes-2.ensures
    ∙ is_among-name (is_among name keys) (table_of entries) c.in-Name.name unknown name
    ∙ ap (λ (k : TokenKind). is_among name keys || is_in_body name (replacement (table_of entries) k)) (sym c.in-Name.is))
    c.mention.ensures
