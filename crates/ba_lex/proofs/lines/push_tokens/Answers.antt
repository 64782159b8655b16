use Rattle.std.proofs.Common.{◌≡◌, ◌⊎◌, inl, inr, ℕ, ◌+◌, ◌<◌, ◌≤◌, List, [], ◌∷◌, ◌++◌, length, take, get_or, sym, ap, ◌∙◌, append_assoc, length-append, length-take-le, add-one, arith}
use Rattle.std.proofs.Math.Seq.{take-suc}
use Rattle.std.proofs.lemmas.List.{length-map, map-append, take_all}
use Rattle.std.proofs.lemmas.Result.{err_from_is_err_and}
use Rattle.ba_numbers.specs.declared.ids.At.{At}
use Rattle.ba_lex.specs.Lines.{tokens_at}
use Rattle.ba_lex.specs.declared.error.LexError.{LexError}
use Rattle.ba_lex.specs.declared.error.LexError.TheVariants.{Memory, TooMany}
use Rattle.ba_lex.specs.declared.lines.TheConstants.{MAX_TOKENS}
use Rattle.ba_tokens.specs.declared.token.Token.{Token}
use Rattle.ba_tokens.specs.declared.token.TokenKind.{TokenKind}
use Rattle.ba_lex.proofs.lines.push_tokens.Goals as goal

-- one more kind was added
added_more : (before now after : List Token) (kinds : List TokenKind) (i : ℕ) (kind : TokenKind) (at : At) →
    i < length kinds → kind ≡ get_or kinds i kind → now ≡ before ++ tokens_at at (take i kinds) →
    after ≡ now ++ record { kind = kind; at = at } ∷ [] → after ≡ before ++ tokens_at at (take (i + 1) kinds)
added_more before now after kinds i kind at here item added adds =
    let token : TokenKind → Token = λ kind. record { kind = kind; at = at } in
    let more = take-suc kinds i kind here in
    rw add-one (
    adds ∙ ap (λ now. now ++ token kind ∷ []) added
    ∙ append_assoc before (tokens_at at (take i kinds)) (token kind ∷ [])
    ∙ ap (λ kind. before ++ (tokens_at at (take i kinds) ++ token kind ∷ [])) item
    ∙ ap (λ tokens. before ++ tokens)
    (sym (ap (tokens_at at) more ∙ map-append token (take i kinds) (get_or kinds i kind ∷ [])))
    )

-- a token too many in this row, or out of memory
refused : (before now : List Token) (kinds : List TokenKind) (i : ℕ) (at : At) (e : LexError) →
    i < length kinds → now ≡ before ++ tokens_at at (take i kinds) →
    (e ≡ Memory) ⊎ ((e ≡ TooMany at) × (length now ≡ MAX_TOKENS)) →
    (e ≡ Memory) ⊎ ((e ≡ TooMany at) × (MAX_TOKENS < length before + length kinds))
refused before now kinds i at e here added (inl memory) = inl memory
refused before now kinds i at e here added (inr (many, full)) =
    let within : i ≤ length kinds = omega arith in
    let counted : length now ≡ length before + i =
    ap length added ∙ length-append before (tokens_at at (take i kinds))
    ∙ ap (λ n. length before + n) (length-map (take i kinds) _ ∙ length-take-le i kinds within) in
    inr (many, omega (arith, counted, full, here))

pub loop-kind-preserved : goal.loop-kind-preserved
loop-kind-preserved c = record {
  added =
      added_more _ _ _ _ _ _ _ c.loop-kind-test.true c.kind-item.is c.loop-kind.invariant.added
      c.in_ok-push_token.ensures.ok.0;
  room = c.in_ok-push_token.ensures.ok.1;
}

pub returns-in_err-push_token : goal.returns-in_err-push_token
returns-in_err-push_token c =
    let q = err_from_is_err_and c.from_residual.result c.from_residual.ensures.1 in
    rw (q.1, q.2) (record {
      ok = tt;
      err =
          refused _ _ _ _ _ _ c.loop-kind-test.true c.loop-kind.invariant.added
          c.in_err-push_token.ensures.err;
    })

pub returns : goal.returns
returns c = record {
  ok = (
    c.loop-kind.invariant.added
        ∙ ap (λ kinds. c.args.out.now.items ++ tokens_at c.args.at kinds)
        (take_all _ _ c.loop-kind-test.false),
    c.loop-kind.invariant.room,
  );
  err = tt;
}
