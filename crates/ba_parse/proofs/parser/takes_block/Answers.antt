-- All have names, or `void` is alone.

use Rattle.std.proofs.Common.{◌≡◌, true, false, not, ◌||◌, sym, ◌∙◌, ap}
use Rattle.ba_parse.specs.Grammar.{has_unnamed, is_void}
use Rattle.ba_trees.specs.DeclarationMarks.{parameters_marks}
use Rattle.ba_trees.specs.Marks.{yield}
use Rattle.ba_parse.proofs.Named.{takes_block_is}
use Rattle.ba_parse.proofs.parser.takes_block.Goals as goal

pub returns-then-are_named : goal.returns-then-are_named
returns-then-are_named c =
    let named : not (has_unnamed (parameters_marks c.args.parameters.now)) ≡ true = sym c.are_named.ensures
    ∙ c.if-are_named.true in
    c.if-are_named.true ∙ ap (λ b. b || is_void (yield (parameters_marks c.args.parameters.now))) (sym named)
    ∙ sym (takes_block_is (parameters_marks c.args.parameters.now))

pub returns-else-are_named : goal.returns-else-are_named
returns-else-are_named c =
    let named : not (has_unnamed (parameters_marks c.args.parameters.now)) ≡ false = sym c.are_named.ensures
    ∙ c.if-are_named.false in
    c.is_void.ensures.told (yield (parameters_marks c.args.parameters.now)) c.requires
    ∙ ap (λ b. b || is_void (yield (parameters_marks c.args.parameters.now))) (sym named)
    ∙ sym (takes_block_is (parameters_marks c.args.parameters.now))
