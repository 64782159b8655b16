use Rattle.std.proofs.Common.{Ok, ap, sym, subst, ◌∙◌}
use Rattle.ba_cases.specs.Programs.{TellsFault, tree_fault}
use Rattle.ba_cases.proofs.Faulty.{lexical_tells, spells, tree_of_text, tree_tells, type_tells}
use Rattle.ba_cases.proofs.programs.spelled_by.Goals as goal

pub returns-in-Err-clause-err : goal.returns-in-Err-clause-err
returns-in-Err-clause-err c = subst (TellsFault c.args.source.now) (sym c.lexical_fault.ensures)
    (lexical_tells c.args.source.now c.in-Err.error c.in-Err.ensures)

pub returns-in-Err-parse-clause-err : goal.returns-in-Err-parse-clause-err
returns-in-Err-parse-clause-err c =
    let same = c.as_slice-in-Err-parse.ensures.value ∙ sym c.as_slice.ensures.value in
    let fault = c.tree_fault.ensures ∙ ap (λ tokens. tree_fault tokens c.in-Err-parse.error) same in
    subst (TellsFault c.args.source.now) (sym fault)
    (tree_tells c.args.source.now c.as_slice.result.now c.in-Err-parse.error
    (c.in-Ok.ensures ∙ ap Ok (sym c.as_slice.ensures.value)) c.in-Err-parse.ensures.told)

pub returns-in-Ok-check-clause-ok : goal.returns-in-Ok-check-clause-ok
returns-in-Ok-check-clause-ok c = spells c.args.source.now c.in-Ok-parse.raw c.in-Ok-check.program
    (tree_of_text c.args.source.now c.as_slice.result.now c.in-Ok-parse.raw
    (c.in-Ok.ensures ∙ ap Ok (sym c.as_slice.ensures.value)) c.in-Ok-parse.ensures.told)
    c.in-Ok-check.ensures

pub returns-clause-err : goal.returns-clause-err
returns-clause-err c = subst (TellsFault c.args.source.now) (sym c.type_fault.ensures)
    (type_tells c.args.source.now c.in-Ok-parse.raw c.in-Err-check.error
    (tree_of_text c.args.source.now c.as_slice.result.now c.in-Ok-parse.raw
    (c.in-Ok.ensures ∙ ap Ok (sym c.as_slice.ensures.value)) c.in-Ok-parse.ensures.told)
    c.in-Err-check.ensures)
