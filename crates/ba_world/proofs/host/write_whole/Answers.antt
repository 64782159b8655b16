use Rattle.std.proofs.Common.{◌≡◌, ℕ, ◌-◌, List, ◌++◌, length, take, drop, None, Some, sym, ap, subst, ◌∙◌, append_assoc, take-append-drop}
use Rattle.std.proofs.lemmas.List.{take_rest}
use Rattle.std.proofs.Math.Seq.{take-append_seam}
use Rattle.std.proofs.KnownBytes.{Appends-trans}
use Rattle.std.specs.Io.KnownBytes.{Appends, Keeps}
use Rattle.ba_world.specs.Host.{AppendsPrefix, Known}
use Rattle.ba_world.proofs.host.write_whole.Goals as goal

-- a piece of the rest comes to what is done
moves_front : (all done rest : List ℕ) (n : ℕ) → all ≡ done ++ rest →
    all ≡ (done ++ take n rest) ++ take (length rest - n) (drop n rest)
moves_front all done rest n split =
    split ∙ ap (λ l. done ++ l) (sym (take-append-drop n rest)) ∙ sym (append_assoc done (take n rest) (drop n rest))
    ∙ ap (λ l. (done ++ take n rest) ++ l) (sym (take_rest rest n))

-- what is done is a prefix of all
prefix_done : (old new : Known) (all done rest : List ℕ) → all ≡ done ++ rest → Appends old new done →
    AppendsPrefix old new all
prefix_done old new all done rest split appended = (
  length done,
  subst (λ part. Appends old new part) (sym (ap (take (length done)) split ∙ take-append_seam done rest)) appended,
)

-- a refused write leaves it
still_done : (old mid new : Known) (done : List ℕ) → Appends old mid done → Keeps mid new →
    Appends old new done
still_done None mid new done appended keeps = tt
still_done (Some x) None new done appended keeps = absurd appended
still_done (Some x) (Some y) None done appended keeps = absurd keeps
still_done (Some x) (Some y) (Some z) done appended keeps = keeps ∙ appended

pub loop-rest-preserved : goal.loop-rest-preserved
loop-rest-preserved g c =
    let (done, split, appended) = c.loop-rest.invariant in
    let rest = c.loop-rest.rest.now in
    let n = c.in_ok-count.count in
    (done ++ take n rest, moves_front _ done rest n split, Appends-trans _ _ _ _ _ appended c.in_ok-count.ensures.bytes)

pub returns-in_err-count-clause-prefix : goal.returns-in_err-count-clause-prefix
returns-in_err-count-clause-prefix g c =
    let (done, split, appended) = c.loop-rest.invariant in
    prefix_done _ _ _ done _ split (still_done _ _ _ done appended c.in_err-count.ensures.bytes)

pub returns-then-count-eq0-clause-prefix : goal.returns-then-count-eq0-clause-prefix
returns-then-count-eq0-clause-prefix g c =
    let (done, split, appended) = c.loop-rest.invariant in
    let rest = c.loop-rest.rest.now in
    let n = c.in_ok-count.count in
    prefix_done _ _ _ (done ++ take n rest) _ (moves_front _ done rest n split)
    (Appends-trans _ _ _ _ _ appended c.in_ok-count.ensures.bytes)

pub returns-clause-prefix : goal.returns-clause-prefix
returns-clause-prefix g c =
    let (done, split, appended) = c.loop-rest.invariant in
    prefix_done _ _ _ done _ split appended
