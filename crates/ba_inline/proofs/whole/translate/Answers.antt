use Rattle.std.proofs.Common.{rules}
use Rattle.ba_inline.proofs.Wholes.{translated}
use Rattle.ba_inline.proofs.whole.translate.Goals as goal

pub returns : goal.returns
returns c = translated c.args.setting.now.program.now c.in-Some.main.now c.in_ok-globals.globals
    c.start_all.new.scope
    c.in_ok-scope.scope c.start_all-2.new.scope c.start_all-3.new.scope c.new-declared.result
    c.start_all.new.declared
    c.start_all-2.new.declared c.start_all-3.new.declared c.variable.new.self c.statements.new.declared
    c.statements-2.new.declared c.as_slice.result.now c.as_slice-2.result.now c.as_slice-3.result.now
    c.as_slice-6.result.now c.as_slice-4.result.now c.as_slice-5.result.now c.len.result c.in_ok-home.home
    c.saturating_sub.result c.args.frames c.unwrap_or.result c.counts-counts.result c.new-body.result.items
    c.statements.new.out.items c.statements-2.new.out.items c.new-whole.result.items c.add_body.new.out.items
    c.in_ok-params.params.items c.in-Some.ensures.1 c.new-declared.ensures c.in_ok-globals.ensures
    c.len.ensures
    c.as_slice.ensures c.in_ok-start_all.ensures c.counts-counts.ensures c.in_ok-scope.ensures
    c.as_slice-2.ensures
    c.in_ok-start_all-2.ensures c.as_slice-3.ensures c.in_ok-start_all-3.ensures c.in_ok-home.ensures.0
    c.in_ok-home.ensures.1 (search rules) c.new-body.ensures.items c.as_slice-4.ensures
    c.in_ok-statements.ensures
    c.as_slice-5.ensures c.in_ok-statements-2.ensures c.new-whole.ensures.items c.in_ok-add_body.ensures
    c.as_slice-6.ensures c.in_ok-params.ensures
