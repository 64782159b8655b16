use Rattle.std.proofs.Common.{◌≡◌, ◌∙◌, ◌+◌, ◌<◌, ◌^◌, ◌++◌, ℕ, List, length, ap, arith, length-append}
use Rattle.std.proofs.lemmas.List.{length-map}
use Rattle.ba_lits.specs.Literals.{Literal, index_of}
use Rattle.ba_arena.specs.Words.{words_of}
use Rattle.ba_arena.proofs.Appending.{adds, add-words}
use Rattle.ba_arena.proofs.Arena.add.Goals as goal

few : (ws us : List ℕ) (lits : List Literal) (number : ℕ) → us ≡ ws ++ words_of lits number
    → length ws + 4 + length lits < 2 ^ 32 → length us < 2 ^ 32
few ws us lits number is h =
    omega (
      arith,
      ap (λ (vs : List ℕ). length vs) is,
      length-append ws (words_of lits number),
      length-map lits index_of,
      h,
    )

pub invariant_of-self-in_default : goal.invariant_of-self-in_default
invariant_of-self-in_default c =
    add-words c.self.inside.words.items _ c.args.lits.now c.args.number c.self.invariant (omega (arith, c.if-number.false))
    (few _ _ c.args.lits.now c.args.number c.in_default.ensures.ok
    (omega (arith, c.if-place-lits.false, c.len-place.ensures, c.self.inside.words.ok.0)))
    c.in_default.ensures.ok c.in_default.ensures.indexed

pub returns-clause-ok : goal.returns-clause-ok
returns-clause-ok c =
    rw (← c.self.view_is)
    (adds c.self.inside.words.items _ c.args.lits.now c.args.number c.len-place.result c.self.invariant (omega (arith, c.if-number.false))
    c.in_default.ensures.ok (c.len-place.ensures ∙ c.self.inside.words.ok.0))
