use Rattle.std.proofs.Common.{◌≡◌, [], Err, sym, subst}
use Rattle.std.proofs.lemmas.Option.{MatchOption-at_none, MatchOption-at_some}
use Rattle.ba_typing.specs.Faults.{IsFirst}
use Rattle.ba_typing.specs.Files.{faults_of}
use Rattle.ba_types.specs.Filing.{CheckedParts}
use Rattle.ba_typing.specs.declared.error.TypeError.{TypeError}
use Rattle.ba_types.proofs.FileSteps.{first-error, found-first, no-main, with-main}
use Rattle.ba_types.proofs.files.verdict.Goals as goal

pub returns-in-Some : goal.returns-in-Some
returns-in-Some c xs is =
    let fault = c.in-Some.fault in
    let first = MatchOption-at_some (faults_of xs ≡ []) (IsFirst (faults_of xs)) fault c.in-Some.is
    (found-first xs c.args.file is c.first_fault.result c.first_fault.ensures) in
    subst (λ (e : TypeError). CheckedParts xs (Err e)) (sym c.error_of.ensures)
    (first-error xs fault.cause fault.at first)

pub returns-in_default-main : goal.returns-in_default-main
returns-in_default-main c xs is =
    let none = MatchOption-at_none (faults_of xs ≡ []) (IsFirst (faults_of xs)) c.in_default.is
    (found-first xs c.args.file is c.first_fault.result c.first_fault.ensures) in
    no-main xs c.args.file is none c.in_default-main.is

pub returns : goal.returns
returns c xs is =
    let none = MatchOption-at_none (faults_of xs ≡ []) (IsFirst (faults_of xs)) c.in_default.is
    (found-first xs c.args.file is c.first_fault.result c.first_fault.ensures) in
    with-main xs c.args.file is c.in-Some-main.main none c.in-Some-main.is
