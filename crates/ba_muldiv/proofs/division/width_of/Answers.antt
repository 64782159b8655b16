use Rattle.std.proofs.Common.{◌-◌, inl, inr, ap, ◌∙◌, arith}
use Rattle.std.proofs.lemmas.Bool.{cases_eq}
use Rattle.ba_nodes.specs.Gates.{truth}
use Rattle.ba_nodes.proofs.Folding.{truth-zero}
use Rattle.ba_words.specs.Words.{bit_at}
use Rattle.ba_muldiv.proofs.Rows.{number_low}
use Rattle.ba_muldiv.proofs.division.width_of.Goals as goal

pub returns-then-bit-ne0-clause-narrow : goal.returns-then-bit-ne0-clause-narrow
returns-then-bit-ne0-clause-narrow c nodes free =
    number_low free nodes c.args.word.now (32 - c.loop-i.i) c.told-word (omega arith)
    (c.loop-i.invariant nodes free)

pub returns-then-bit-clause-narrow : goal.returns-then-bit-clause-narrow
returns-then-bit-clause-narrow c nodes free =
    number_low free nodes c.args.word.now (32 - c.loop-i.i) c.told-word (omega arith)
    (c.loop-i.invariant nodes free)

pub loop-i-preserved : goal.loop-i-preserved
loop-i-preserved c nodes free place from within =
    elim (cases_eq place (31 - c.loop-i.i)) [
      | inl here ↦
          ap (λ k. truth free nodes (bit_at c.args.word.now k)) here
          ∙ truth-zero free nodes (bit_at c.args.word.now (31 - c.loop-i.i)) c.if-bit-ne0.false
          ∙ c.if-bit.false
      | inr apart ↦ c.loop-i.invariant nodes free place (omega arith) within
    ]

pub returns-clause-narrow : goal.returns-clause-narrow
returns-clause-narrow c nodes free =
    number_low free nodes c.args.word.now 0 c.told-word (omega arith)
    (λ place from within. c.loop-i.invariant nodes free place (omega arith) within)
