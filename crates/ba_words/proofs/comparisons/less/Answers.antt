use Rattle.std.proofs.Common.{◌≡◌, Bool, true, false, sym, subst}
use Rattle.ba_numbers.specs.declared.numbers.BinOp.TheVariants.{Lt}
use Rattle.ba_words.specs.Words.{IsComparison}
use Rattle.ba_words.proofs.Outcomes.{on_ok}
use Rattle.ba_words.proofs.Order.{signed_less, unsigned_less, unsigned_below}
use Rattle.ba_words.proofs.comparisons.less.Goals as goal

pub returns-then-signed-clause-value : goal.returns-then-signed-clause-value
returns-then-signed-clause-value c =
    on_ok c.borrow.result _ _
    (λ bit has. subst (λ s. IsComparison Lt s c.args.nodes.now c.args.a.now c.args.b.now c.borrow.new.nodes bit) (sym c.if-signed.true)
    (signed_less c.args.nodes.now c.low_less.new.nodes c.borrow.new.nodes c.args.a.now c.args.b.now c.in_ok-low.low bit c.told-a c.told-b c.requires.first c.requires.second c.low_less.ensures.grows.extends c.in_ok-low.ensures.value has))
    c.borrow.ensures.value

pub returns-else-signed-clause-value : goal.returns-else-signed-clause-value
returns-else-signed-clause-value c =
    on_ok c.borrow-else-signed.result _ _
    (λ bit has. subst (λ s. IsComparison Lt s c.args.nodes.now c.args.a.now c.args.b.now c.borrow-else-signed.new.nodes bit) (sym c.if-signed.false)
    (unsigned_less c.args.nodes.now c.borrow-else-signed.new.nodes c.args.a.now c.args.b.now bit c.told-a c.told-b
    (unsigned_below c.args.nodes.now c.low_less.new.nodes c.borrow-else-signed.new.nodes c.args.a.now c.args.b.now c.in_ok-low.low bit c.told-a c.told-b c.requires.first c.requires.second c.low_less.ensures.grows.extends c.in_ok-low.ensures.value has)))
    c.borrow-else-signed.ensures.value

pub returns-then-signed-clause-below : goal.returns-then-signed-clause-below
returns-then-signed-clause-below c =
    on_ok c.borrow.result _ _ (λ bit has unsigned. absurd (both_not c.args.signed c.if-signed.true unsigned)) c.borrow.ensures.value
  where
    both_not : (b : Bool) → b ≡ true → b ≡ false → ⊥
    both_not b is not_so = cc

pub returns-else-signed-clause-below : goal.returns-else-signed-clause-below
returns-else-signed-clause-below c =
    on_ok c.borrow-else-signed.result _ _
    (λ bit has unsigned.
    unsigned_below c.args.nodes.now c.low_less.new.nodes c.borrow-else-signed.new.nodes c.args.a.now c.args.b.now c.in_ok-low.low bit c.told-a c.told-b c.requires.first c.requires.second c.low_less.ensures.grows.extends c.in_ok-low.ensures.value has)
    c.borrow-else-signed.ensures.value
