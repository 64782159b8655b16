use Rattle.std.proofs.Common.{◌≡◌, ℕ, suc, ◌+◌, ◌<◌, List, [], ◌∷◌, ◌++◌, length, map, drop, get_or, ℤ, pos, SFits, w64, to_z-of_z, sym, ap, ◌∙◌, append_assoc, add-one, drop-cons, rules}
use Rattle.std.specs.Fmt.{signed_decimal}
use Rattle.ba_text.specs.Texts.{spaced}
use Rattle.ba_text.proofs.choices.push_values.Goals as goal

-- the text so far and what is left are the whole after one more value too
one_more : (f : ℤ → List ℕ) (values : List ℤ) (i : ℕ) (text mid more whole : List ℕ) → i < length values →
    text ++ spaced (map f (drop i values)) ≡ whole → mid ≡ text ++ 32 ∷ [] →
    more ≡ mid ++ f (get_or values i (pos 0)) → more ++ spaced (map f (drop (i + 1) values)) ≡ whole
one_more f values i text mid more whole here before spaces adds =
    rw add-one (
    ap (λ text. text ++ spaced (map f (drop (suc i) values)))
    (adds ∙ ap (λ text. text ++ value) spaces ∙ append_assoc text (32 ∷ []) value)
    ∙ append_assoc text (32 ∷ value) (spaced (map f (drop (suc i) values)))
    ∙ ap (λ values. text ++ spaced (map f values)) (sym (drop-cons values i (pos 0) here))
    ∙ before
    )
  where
    value : List ℕ
    value = f (get_or values i (pos 0))

pub loop-value-preserved : goal.loop-value-preserved
loop-value-preserved c =
    let fits : SFits w64 (get_or c.args.values.now c.loop-value.value-index (pos 0)) = search rules in
    one_more signed_decimal _ _ _ _ _ _ c.loop-value-test.true c.loop-value.invariant
    c.in_ok-extend_from_slice.ensures.items
    (c.in_ok-push_value.ensures
    ∙ ap (λ z. c.extend_from_slice.new.self.items ++ signed_decimal z) (to_z-of_z fits))
