use Rattle.std.proofs.Common.{◌≡◌, [], ◌∷◌, ◌++◌, ◌||◌, None, sym, ap, ◌∙◌}
use Rattle.std.specs.Map.{lookup}
use Rattle.std.specs.Str.{bytes_eq}
use Rattle.indexmap.proofs.CallerLemmas.{insert_entry-new}
use Rattle.ba_lex.specs.Lines.{Table, body_of, body_from, is_in_body}
use Rattle.ba_lex.specs.Storage.{table_of, is_mentioned}
use Rattle.ba_lex.proofs.TableLemmas.{same_key, lookup-table_of, table_of-push, is_mentioned-push}
use Rattle.ba_lex.proofs.macros.Macros.with.Goals as goal

-- the table after the macro is added
pub returns : goal.returns
returns c =
    let name = c.args.name.now in
    let entries = c.self.inside.bodies.entries in
    let key = c.in_ok-from_slice.field-0 in
    let body = c.in_ok-body.body in
    let absent : lookup (same_key key) entries ≡ None =
    ap (λ n. lookup (λ k. bytes_eq n k.items) entries) c.in_ok-from_slice.ensures.items
    ∙ sym (lookup-table_of (bytes_eq name) entries) ∙ ap (λ t. body_of t name) c.self.view_is ∙ c.requires in
    ap table_of (c.in_ok-insert.ensures.entries ∙ insert_entry-new same_key c.self.inside.bodies key body absent)
    ∙ table_of-push entries key body
    ∙ ap (λ n. table_of entries ++ (n, body) ∷ []) c.in_ok-from_slice.ensures.items
    ∙ ap (λ t. t ++ (name, body) ∷ []) c.self.view_is
    ∙ ap (λ b. c.args.self ++ (name, b) ∷ []) c.in_ok-body.ensures

pub invariant_of-result : goal.invariant_of-result
invariant_of-result c = λ n.
    let table = c.args.self in
    let tokens = c.args.tokens.now in
    let entries = c.self.inside.bodies.entries in
    c.in_ok-mention_all.ensures n
    ∙ ap (λ b. b || is_in_body n (body_from (table_of entries) tokens)) (c.self.invariant n)
    ∙ ap (λ (t : Table). is_mentioned n t || is_in_body n (body_from t tokens)) c.self.view_is
    ∙ sym (is_mentioned-push n table (c.args.name.now, body_from table tokens))
    ∙ ap (is_mentioned n) (sym (returns c))
