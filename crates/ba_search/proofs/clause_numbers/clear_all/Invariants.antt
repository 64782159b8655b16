use Rattle.ba_search.proofs.ForgetLaws.{HasForgotten}
use Rattle.ba_search.proofs.clause_numbers.clear_all.Given as goal

abbrev pub invariant-loop-place : goal.invariant-loop-place
invariant-loop-place l = HasForgotten l.numbers l.place l.initial.taken.items l.taken.items
