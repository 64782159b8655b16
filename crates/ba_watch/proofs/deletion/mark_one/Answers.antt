use Rattle.std.proofs.Common.{◌≡◌, ◌<◌, ℕ, Option, None, Some, IsSome, length, refl, sym, ◌∙◌, arith}
use Rattle.std.proofs.lemmas.List.{get_or_past, get_or_read}
use Rattle.ba_arena.specs.Clauses.{Stored, clause_at}
use Rattle.ba_watch.specs.Deletion.{number_of}
use Rattle.ba_watch.proofs.Deletions.{unnamed, marked, marked_references}
use Rattle.ba_watch.proofs.deletion.mark_one.Goals as goal

live_of : (o : Option Stored) (n : ℕ) → number_of o ≡ Some n → IsSome o
live_of None n e = absurd (cc e)
live_of (Some s) n e = refl

pub returns-then-place-len-clause-without : goal.returns-then-place-len-clause-without
returns-then-place-len-clause-without c =
    unnamed c.args.arena.now c.args.references.now.items c.args.number c.requires.referenced
    (get_or_past c.args.references.now.items c.args.number None
    (omega (arith, c.if-place-len.true, c.len.ensures, c.args.references.now.ok.0)))

pub mark_dead-requires : goal.mark_dead-requires
mark_dead-requires c =
    let refs = c.args.references.now.items in
    let within : c.args.number < length refs =
    omega (arith, c.if-place-len.false, c.len.ensures, c.args.references.now.ok.0) in
    let is = sym (get_or_read refs c.args.number c.index.result.now within c.index.ensures None)
    ∙ c.in-Some.is in
    live_of (clause_at c.args.arena.now c.in-Some.clause) c.args.number
    (c.requires.referenced.sound c.args.number c.in-Some.clause is)

pub returns-in-Some-clause-without : goal.returns-in-Some-clause-without
returns-in-Some-clause-without c =
    let refs = c.args.references.now.items in
    let within : c.args.number < length refs =
    omega (arith, c.if-place-len.false, c.len.ensures, c.args.references.now.ok.0) in
    let is = sym (get_or_read refs c.args.number c.index.result.now within c.index.ensures None)
    ∙ c.in-Some.is in
    marked c.args.arena.now c.mark_dead.new.self refs c.args.number c.in-Some.clause c.requires.referenced
    c.requires.alone is c.mark_dead.ensures

pub returns-in-Some-clause-referenced : goal.returns-in-Some-clause-referenced
returns-in-Some-clause-referenced c =
    let refs = c.args.references.now.items in
    let within : c.args.number < length refs =
    omega (arith, c.if-place-len.false, c.len.ensures, c.args.references.now.ok.0) in
    let is = sym (get_or_read refs c.args.number c.index.result.now within c.index.ensures None)
    ∙ c.in-Some.is in
    marked_references c.args.arena.now c.mark_dead.new.self refs c.args.number c.in-Some.clause
    c.requires.referenced
    c.requires.alone is c.mark_dead.ensures

pub returns-in_default-clause-without : goal.returns-in_default-clause-without
returns-in_default-clause-without c =
    let refs = c.args.references.now.items in
    let within : c.args.number < length refs =
    omega (arith, c.if-place-len.false, c.len.ensures, c.args.references.now.ok.0) in
    unnamed c.args.arena.now refs c.args.number c.requires.referenced
    (sym (get_or_read refs c.args.number c.index.result.now within c.index.ensures None) ∙ c.in_default.is)
