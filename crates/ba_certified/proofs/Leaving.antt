-- What a search leaves if it stops.

use Rattle.std.proofs.Common.{◌≡◌, ◌⊎◌, ℕ, Bool, true, ◌&&◌, is_some, Option, None, Some, IfSome, option_map, List, [], ◌∷◌, inl, inr, refl, sym, ◌∙◌, ap, subst}
use Rattle.std.proofs.lemmas.Bool.{and_parts}
use Rattle.std.proofs.lemmas.Slice.Eq.{bytes_eq-Decides}
use Rattle.ba_cert.proofs.SinkLaws.{sound-written}
use Rattle.ba_cert.specs.Certificates.{steps_from}
use Rattle.ba_cert.specs.Writing.{is_named, is_sound, is_written, may_be_named, steps_at}
use Rattle.ba_cert.specs.declared.head.CertHead.{CertHead}
use Rattle.ba_certified.specs.Certifying.{Begins}
use Rattle.ba_certified.specs.Leaving.{IsWriting, LeavesPart, LeavesWritten, SearchLeaves, with_log, writes_steps}
use Rattle.ba_checker.specs.StepRules.{after_all}
use Rattle.ba_checker.specs.Puts.{LeavesSteps}
use Rattle.ba_checker.specs.States.{State, first_state}
use Rattle.ba_choices.specs.Judges.{Judge}
use Rattle.ba_commands.specs.Modes.{Word}
use Rattle.ba_localise.specs.Verdicts.{LeavesDerivation, leaves_formula, leaves_nothing, leaves_steps}
use Rattle.ba_steps.specs.Sinks.{Logs, MayAdd, Told, with_told}
use Rattle.ba_steps.specs.declared.sink.Basis.{Basis}
use Rattle.ba_steps.specs.declared.step.CertStep.{CertStep}
use Rattle.ba_tree.specs.Least.{WeightList}
use Rattle.ba_world.specs.World.{Outside}

-- OF A DERIVATION

-- steps over this formula that are allowed
abbrev allowed : Judge → ℕ → ℕ → Basis → List CertStep → State → Type 0
allowed good conflicts most begun steps s =
    after_all good (first_state begun.formula begun.softs conflicts most) steps ≡ Some s

-- as other sinks tell it that tell the same formulas and logs
part_as : (weights : WeightList) (good : Judge) (conflicts most : ℕ) (t u v w : Told) → t.over ≡ v.over →
    u.over ≡ w.over → t.logs ≡ v.logs → u.logs ≡ w.logs →
    LeavesDerivation weights good conflicts most t u → LeavesDerivation weights good conflicts most v w
part_as weights good conflicts most t u v w over over' logs logs' (leaves_nothing same stay) =
    leaves_nothing (sym over' ∙ same ∙ over) (sym logs' ∙ stay ∙ logs)
part_as weights good conflicts most t u v w over over' logs logs' (leaves_formula begun faithful may stay) =
    leaves_formula begun faithful
    (subst (λ (o : Option (List Basis)). MayAdd begun v.over o) over'
    (subst (λ (o : Option (List Basis)). MayAdd begun o u.over) over may)) (sym logs' ∙ stay ∙ logs)
part_as weights good conflicts most t u v w over over' logs logs' (leaves_steps begun last faithful is left) =
    leaves_steps begun last faithful (sym over' ∙ is ∙ ap (with_told begun) over)
    (subst (λ (l : Logs). LeavesSteps (allowed good conflicts most begun) v.logs last l) logs'
    (subst (λ (l : Logs). LeavesSteps (allowed good conflicts most begun) l last u.logs) logs left))

-- the steps of a file that was just begun are none
none_first : (log : Option (List CertStep)) (kept : Option (List ℕ)) →
    log ≡ option_map (λ (bytes : List ℕ). []) kept → IfSome log (λ steps. steps ≡ [])
none_first log None is = subst (λ (l : Option (List CertStep)). IfSome l (λ steps. steps ≡ [])) (sym is) tt
none_first log (Some bytes) is =
    subst (λ (l : Option (List CertStep)). IfSome l (λ steps. steps ≡ [])) (sym is) refl

-- a file that is being written, as a certificate knows it
pub sound_writes : (h : CertHead) (whole : Bool) (name : Word) (o : Outside) →
    is_sound h whole name o ≡ true → IsWriting name o
sound_writes h whole name o e = by o.is_writing o.writing (o.kept name) (sound-written h whole name o e)
  where
    named : (writing : Option Word) → is_named name writing ≡ true → IfSome writing (λ w. w ≡ name)
    named None e = tt
    named (Some other) e = (bytes_eq-Decides other name).0 e

    may_be : (writing : Option Word) → may_be_named name writing ≡ true → IfSome writing (λ w. w ≡ name)
    may_be None e = tt
    may_be (Some other) e = (bytes_eq-Decides other name).0 e

    by : (is_writing : Bool) (writing kept : Option Word) →
        is_written h whole name is_writing writing kept ≡ true →
        (is_writing ≡ true) × IfSome writing (λ w. w ≡ name)
    by is_writing writing None e =
        let parts = and_parts is_writing (may_be_named name writing) e in (parts.0, may_be writing parts.1)
    by is_writing writing (Some bytes) e =
        let parts = and_parts is_writing (is_named name writing && is_some (steps_from h whole bytes)) e in
        let rest = and_parts (is_named name writing) (is_some (steps_from h whole bytes)) parts.1 in
        (parts.0, named writing rest.0)

-- by a search that hands its steps to a file and then to a sink
part_written : (h : CertHead) (weights : WeightList) (good : Judge) (name : Word) (old begun new : Outside)
    (from to t u : Told) (log later : Option (List CertStep)) → LeavesPart h weights good from to →
    from.over ≡ t.over → to.over ≡ u.over → from.logs ≡ log ∷ t.logs → to.logs ≡ later ∷ u.logs →
    log ≡ option_map (λ (bytes : List ℕ). []) (begun.kept name) →
    later ≡ steps_at h name new → IsWriting name new → LeavesWritten h weights good name old new t u
part_written h weights good name old begun new from to t u log later left over over' logs logs' fresh is
    writes =
    writes_steps writes log (none_first log (begun.kept name) fresh)
    (part_as weights good h.conflicts h.sets from to (with_log log t)
    (with_log (steps_at h name new) u) over over' logs
    (logs' ∙ ap (λ (l : Option (List CertStep)). l ∷ u.logs) is) left)

-- and where the world and the sink are given back
pub part_given_back : {W D : Type 0} (outside : W → Outside) (tells : D → Told) (h : CertHead)
    (weights : WeightList) (good : Judge) (name : Word) (old begun : Outside) (w v : W) (s d : D)
    (from to t : Told) (log later : Option (List CertStep)) → LeavesPart h weights good from to →
    from.over ≡ t.over → to.over ≡ (tells s).over → from.logs ≡ log ∷ t.logs →
    to.logs ≡ later ∷ (tells s).logs →
    log ≡ option_map (λ (bytes : List ℕ). []) (begun.kept name) →
    later ≡ steps_at h name (outside w) → IsWriting name (outside w) → w ≡ v → s ≡ d →
    LeavesWritten h weights good name old (outside v) t (tells d)
part_given_back outside tells h weights good name old begun w v s d from to t log later left over over' logs
    logs' fresh is writes same same_sink =
    subst (λ s. LeavesWritten h weights good name old (outside v) t (tells s)) same_sink
    (subst (λ w. LeavesWritten h weights good name old (outside w) t (tells s)) same
    (part_written h weights good name old begun (outside w) from to t (tells s) log later left over over' logs
    logs' fresh is writes))

-- the log of a file by its settings and its name
pub same_log : (h head : CertHead) (n name : Word) (o : Outside) → h ≡ head → n ≡ name →
    steps_at h n o ≡ steps_at head name o
same_log h head n name o heads names =
    ap (λ h. steps_at h n o) heads ∙ ap (λ n. steps_at head n o) names

pub begun_log : (h k head : CertHead) (n m name : Word) (o begun : Outside) → h ≡ head → n ≡ name →
    o ≡ begun → k ≡ head → m ≡ name →
    steps_at k m begun ≡ option_map (λ (bytes : List ℕ). []) (begun.kept m) →
    steps_at h n o ≡ option_map (λ (bytes : List ℕ). []) (begun.kept name)
begun_log h k head n m name o begun heads names outsides other_heads other_names none =
    ap (steps_at h n) outsides ∙ same_log h head n name begun heads names
    ∙ sym (same_log k head m name begun other_heads other_names) ∙ none
    ∙ ap (λ n. option_map (λ (bytes : List ℕ). []) (begun.kept n)) other_names

-- WHAT WAS WRITTEN: the certificate may have been begun, if one is named
abbrev pub MayBegin : CertHead → Option Word → Outside → Outside → Type 0
MayBegin h None old new = new ≡ old
MayBegin h (Some name) old new = (new ≡ old) ⊎ Begins h name old new

pub nothing_begun : (h : CertHead) (name : Option Word) (o : Outside) → MayBegin h name o o
nothing_begun h None o = refl
nothing_begun h (Some name) o = inl refl

pub search_begins : (h : CertHead) (cert : Option Word) (weights : WeightList) (good : Judge) (old new :
    Outside)
    (t u : Told) → SearchLeaves h cert weights good old new t u → MayBegin h cert old new
search_begins h None weights good old new t u (same, left) = same
search_begins h (Some name) weights good old new t u (begins, left) = inr begins
