use Rattle.std.proofs.Common.{◌∙◌, ◌+◌, refl, ap, length, get_or}
use Rattle.std.proofs.lemmas.List.{get_or_default, length_push}
use Rattle.ba_nodes.specs.declared.Node.TheVariants.{Free}
use Rattle.ba_clauses.specs.Uses.{use_at}
use Rattle.ba_clauses.proofs.Numbered.{IsNumbering-none, numbered_next}
use Rattle.ba_clauses.proofs.numbers.variables_of.Goals as goal

pub loop-number-init : goal.loop-number-init
loop-number-init c =
    record {
      numbering = rw c.new-variables.ensures.items (IsNumbering-none _ _ _);
      size = ap length c.new-variables.ensures.items;
      clauses = refl;
    }

pub loop-number-preserved : goal.loop-number-preserved
loop-number-preserved c =
    record {
      numbering = numbered_next c.args.nodes.now c.args.uses.now c.loop-number.variables.items
          c.push.new.self.items c.loop-number.number
          c.loop-number.formula c.next_variable.new.formula c.has_variable.result c.in_ok-variable.variable
          (use_at c.args.uses.now c.loop-number.number) (get_or c.args.nodes.now c.loop-number.number (Free
          0))
          c.loop-number.invariant.size c.loop-number-test.true c.loop-number.invariant.numbering
          c.in_ok-variable.ensures.next c.has_variable.ensures
          (get_or_default c.args.nodes.now c.loop-number.number (Free 0) _ c.loop-number-test.true) refl
          c.in_ok-push.ensures.items;
      size = ap length c.in_ok-push.ensures.items ∙ length_push c.loop-number.variables.items
          c.in_ok-variable.variable
          ∙ ap (λ n. n + 1) c.loop-number.invariant.size;
      clauses = c.next_variable.ensures.clauses ∙ c.loop-number.invariant.clauses;
    }
