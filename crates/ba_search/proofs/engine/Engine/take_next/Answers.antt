use Rattle.std.proofs.Common.{rules, sym, ◌∙◌}
use Rattle.std.proofs.lemmas.Result.{on_ok_weaker}
use Rattle.ba_checker.specs.States.{clause_at}
use Rattle.ba_search.proofs.TakenLaws.{taken_more}
use Rattle.ba_search.proofs.engine.Engine.take_next.Goals as goal

pub returns-clause-taken : goal.returns-clause-taken
returns-clause-taken c =
    on_ok_weaker c.add.result
    (λ adds. taken_more c.args.self.now.watch c.add.new.self.watch c.args.self.now.numbers
    c.add.new.self.numbers
    c.args.number c.in-Some.lits.now (clause_at c.args.checker.now.clauses) adds
    (sym c.is_taken.ensures ∙ c.if-is_taken.false) c.requires.taken (search rules))
    c.add.ensures.adds
