use Rattle.std.proofs.Common.{rules, ◌≡◌, ℕ, slice_get, Option, Some, None, Result, Ok, Err, is_some, IfOk, OnErr, refl, sym, ap, ◌∙◌, inl}
use Rattle.std.specs.declared.alloc.AllocError.{AllocError}
use Rattle.ba_nodes.specs.Gates.{Puts, IsAbsent}
use Rattle.ba_nodes.proofs.Putting.{found_from_position, absent_from_any, puts_from_insert, found_from_stored}
use Rattle.ba_nodes.proofs.put.Goals as goal

pub returns-then-len-clause-ok : goal.returns-then-len-clause-ok
returns-then-len-clause-ok c =
    by_result c.get_index_of.result refl
  where
    by_result : (found : Option ℕ) → c.get_index_of.result ≡ found → IfOk c.ok_or.result (λ number. slice_get c.args.nodes.now.keys number ≡ Some c.args.node × Puts c.args.nodes.now.keys c.args.node c.args.nodes.now.keys)
    by_result None is = rw (c.ok_or.ensures.value, is) tt
    by_result (Some number) is =
        rw (c.ok_or.ensures.value, is) (found_from_position c.args.nodes.now.keys c.args.node number (sym c.get_index_of.ensures.index ∙ is), inl refl)

pub returns-then-len-clause-err : goal.returns-then-len-clause-err
returns-then-len-clause-err c =
    by_result c.get_index_of.result refl
  where
    by_result : (found : Option ℕ) → c.get_index_of.result ≡ found → OnErr c.ok_or.result (c.args.nodes.now.keys ≡ c.args.nodes.now.keys × IsAbsent c.args.nodes.now.keys c.args.node)
    by_result (Some number) is = rw (c.ok_or.ensures.value, is) tt
    by_result None is =
        rw (c.ok_or.ensures.value, is) (refl, absent_from_any c.args.nodes.now.keys c.args.node (sym c.get_index_of.ensures.found ∙ ap is_some is))

on_err : (result : Result ℕ AllocError) (P : Type 0) → P → OnErr result P
on_err (Ok number) P holds = tt
on_err (Err error) P holds = holds

pub returns-in_err-number-clause-err : goal.returns-in_err-number-clause-err
returns-in_err-number-clause-err c =
    let same : c.insert_full.new.self.keys ≡ c.args.nodes.now.keys = search rules in
    on_err c.from_residual.result (c.insert_full.new.self.keys ≡ c.args.nodes.now.keys × IsAbsent c.args.nodes.now.keys c.args.node)
    (same, absent_from_any c.args.nodes.now.keys c.args.node c.in_err-number.ensures.absent)

pub returns-clause-ok : goal.returns-clause-ok
returns-clause-ok c =
    let stored = c.in_ok-number.ensures.stored in (
      found_from_stored c.insert_full.new.self.keys c.args.node stored.0 c.in_ok-number.number stored.1 stored.2,
      puts_from_insert c.args.nodes.now.keys c.insert_full.new.self.keys c.args.node c.in_ok-number.ensures.keys,
    )
