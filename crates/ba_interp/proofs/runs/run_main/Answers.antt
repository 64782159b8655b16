use Rattle.std.proofs.Common.{refl, subst, Ok}
use Rattle.std.proofs.lemmas.Result.{err_from_is_err_and}
use Rattle.ba_tree.specs.Meaning.{exec_all}
use Rattle.ba_tree.specs.declared.run.Flow.TheVariants.{Next, Leaves}
use Rattle.ba_interp.specs.Doing.{Did}
use Rattle.ba_interp.specs.Paths.{steps_of}
use Rattle.ba_interp.specs.Settings.{context_at}
use Rattle.ba_interp.proofs.RunArms.{main-parts, main-ran}
use Rattle.ba_interp.proofs.Steps.{then-ends, then-goes}
use Rattle.ba_interp.proofs.runs.run_main.Goals as goal

pub returns-in_err-exec_all : goal.returns-in_err-exec_all
returns-in_err-exec_all c = let p = err_from_is_err_and c.from_residual.result c.from_residual.ensures.1 in
    then-ends (main-parts c.args.setting.now c.args.frame c.args.input.now c.args.machine.now (steps_of
    c.main-path.result) c.as_slice.result.now c.main-path.ensures c.as_slice.ensures)
    c.from_residual.result c.exec_all.new.machine p.1 (rw p.2 c.in_err-exec_all.ensures)

pub returns-in-Leaves : goal.returns-in-Leaves
returns-in-Leaves c = then-goes (main-parts c.args.setting.now c.args.frame c.args.input.now
    c.args.machine.now (steps_of c.main-path.result) c.as_slice.result.now c.main-path.ensures
    c.as_slice.ensures)
    (Ok (Leaves c.in-Leaves.exit)) c.exec_all.new.machine c.exec_all.new.machine (Leaves c.in-Leaves.exit)
    (subst (λ flow. Did (Ok flow) c.exec_all.new.machine (exec_all (context_at c.args.setting.now
    c.args.frame) (steps_of c.main-path.result) c.as_slice.result.now c.args.machine.now)) c.in-Leaves.is
    c.in_ok-exec_all.ensures) refl

pub returns : goal.returns
returns c = then-goes (main-parts c.args.setting.now c.args.frame c.args.input.now c.args.machine.now
    (steps_of c.main-path.result) c.as_slice.result.now c.main-path.ensures c.as_slice.ensures)
    c.exec_all-2.result c.exec_all.new.machine c.exec_all-2.new.machine Next
    (subst (λ flow. Did (Ok flow) c.exec_all.new.machine (exec_all (context_at c.args.setting.now
    c.args.frame) (steps_of c.main-path.result) c.as_slice.result.now c.args.machine.now)) c.in-Next.is
    c.in_ok-exec_all.ensures)
    (main-ran c.args.setting.now c.args.frame c.args.input.now c.args.machine.now (steps_of
    c.main-path.result) c.main_body.result.now
    c.enter_main.new.machine c.exec_all.new.machine c.exec_all-2.new.machine c.exec_all-2.result
    c.main-path.ensures c.main_body.ensures
    c.in_ok-enter_main.ensures c.exec_all-2.ensures)
