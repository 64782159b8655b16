-- An execution that may be relaxed, from the calls that make its words.
use Rattle.std.proofs.Common.{append-nil, [], ◌≡◌, ℕ, ◌<◌, ◌≤◌, true, List, ◌++◌, length, drop, ◌∙◌, ap, subst, arith, sym, length-append, append_assoc}
use Rattle.ba_code.specs.Facts.{Declared}
use Rattle.ba_code.specs.Meaning.{choice_where}
use Rattle.ba_code.specs.declared.nodes.Take.{Take}
use Rattle.ba_code_laws.specs.Tracing.{Relaxes, TracedExecution, at_place, is_relaxed, traced_picked, untraced}
use Rattle.ba_guards.proofs.Forks.{forked, open-fits}
use Rattle.ba_guards.proofs.Going.{means-as, traced_of}
use Rattle.ba_guards.proofs.Growing.{fits-grown, same-grown}
use Rattle.ba_guards.proofs.Picks.{pick-means, place-fits}
use Rattle.ba_guards.proofs.Walks.{fork-sides, sides-arm}
use Rattle.ba_guards.specs.Written.{AgreeBut}
use Rattle.ba_guards.specs.Making.{AreSides, Fits, Joins, Means, Offered, Opens, Part, Places, Switches, are_right, fork_at, holds_in, picked, sides_at, values_in}
use Rattle.ba_guards.specs.declared.builder.Builder.{Builder}
use Rattle.ba_guards.specs.declared.builder.Fork.{Fork}
use Rattle.ba_guards.specs.declared.builder.Sides.{Sides}
use Rattle.ba_tree.specs.Acts.{then_do}
use Rattle.ba_tree.specs.declared.run.Place.{Place}
use Rattle.ba_wordlist.proofs.Values.{names-more, values-same}
use Rattle.ba_wordlist.specs.Facts.{are_names}
use Rattle.ba_wordlist.specs.Meaning.{Assignment, values_of}
use Rattle.ba_wordlist.specs.declared.words.WordOp.{WordOp}

-- the words after which the other side begins
pub record Over (old new : Builder) : Type 0 where
  pub more : List WordOp
  pub grown : new.words ≡ old.words ++ more

pub other-over : (d : Declared) (which : ℕ) (b0 b1 b2 b3 : Builder) (p : Part) → Opens b0 b1 which →
    Means d p b1 b2
    → Switches (length b0.written) b0.live b0.vars b2 b3 which → Over b0 b3
other-over d which b0 b1 b2 b3 p o m sw = record {
  more = (o.live.more ++ m.extends.more) ++ sw.live.more;
  grown = sw.live.grown
      ∙ ap (λ ws. ws ++ sw.live.more) (m.extends.words ∙ ap (λ ws. ws ++ m.extends.more) o.live.grown
      ∙ append_assoc b0.words o.live.more m.extends.more)
      ∙ append_assoc b0.words (o.live.more ++ m.extends.more) sw.live.more;
}

pub pick-arm : (d : Declared) (bp b1 b2 b3 b4 b5 b6 : Builder) (place : Place) (take : Take) (ws : List
    WordOp)
    (keep : ℕ) (values : List ℕ) (written : Relaxes → TracedExecution) (fork : Fork) (sides : Sides)
    → Fits d bp → Offered d take bp.words ws keep values →
    Places (record bp { words = ws }) b1 place keep values
    → fork ≡ fork_at keep (length b1.written) b2.live b1.live b1.vars
    → ((d : Declared) → Fits d b1 → keep < length b1.words → Opens b1 b2 keep)
    → (Fits d b2 → Means d (λ f. written) b2 b3)
    → sides ≡ sides_at fork b4.live b3.live b3.vars b3.written
    → ((d : Declared) → Fits d b3 → fork.which < length b3.words → fork.before.live < length b3.words
    → Switches fork.since fork.before.live fork.before.vars b3 b4 fork.which)
    → (Fits d b4 → AreSides b4.words sides → b4.live ≡ sides.second →
    are_names (length b4.words) values ≡ true
    → ((f : Assignment) → are_right d take (values_in b4.words values f) ≡ true)
    → Means d (λ f r. picked d take (values_in b4.words values f)) b4 b5)
    → ((d : Declared) → Fits d b5 → sides.after.live < length b5.words →
    are_names (length b5.words) sides.after.vars ≡ true
    → length sides.after.vars ≡ length b5.vars → AreSides b5.words sides
    → AgreeBut sides.written sides.before sides.after.vars
    → AgreeBut (drop sides.since b5.written) sides.before b5.vars →
    Joins sides.since sides.before sides.after.live sides.after.vars b5 b6)
    → Means d (λ f r s. then_do (untraced (choice_where (is_relaxed r place)) (at_place place s))
    (traced_picked d.arrays take (written r))) bp b6
pick-arm d bp b1 b2 b3 b4 b5 b6 place take ws keep values written fork sides fits offer o forks opens kept
    splits switches takes joins =
    let fits0 = fits-grown d bp ws offer.more fits offer.grown offer.fit in
    let fits1 = place-fits d (record bp { words = ws }) b1 fits0 place keep values o offer.name offer.names
    offer.typed in
    let words1 : b1.words ≡ ws = ap (λ (b : Builder). b.words) o.same in
    let name1 : keep < length b1.words = omega (arith, offer.name, ap length words1) in
    let opened = opens d fits1 name1 in
    let fits2 = open-fits d keep b1 b2 fits1 opened in
    let m = kept fits2 in
    let le1 : length b1.words ≤ length b2.words =
    omega (arith, ap length opened.live.grown, length-append b1.words opened.live.more) in
    let le2 : length b2.words ≤ length b3.words =
    omega (arith, ap length m.extends.words, length-append b2.words m.extends.more) in
    let switched = subst (λ (k : Fork). (d : Declared) → Fits d b3 → k.which < length b3.words
    → k.before.live < length b3.words → Switches k.since k.before.live k.before.vars b3 b4 k.which) forks
    switches in
    let sw = switched d m.fits (omega (arith, name1, le1, le2)) (omega (arith, fits1.live, le1, le2)) in
    let over = other-over d keep b1 b2 b3 b4 (λ f. written) opened m sw in
    let at_sides : sides
    ≡ sides_at (fork_at keep (length b1.written) b2.live b1.live b1.vars) b4.live b3.live b3.vars b3.written =
    splits ∙ ap (λ k. sides_at k b4.live b3.live b3.vars b3.written) forks in
    let grown4 : b4.words ≡ ws ++ over.more = over.grown ∙ ap (λ ws. ws ++ over.more) words1 in
    let le : length ws ≤ length b4.words = omega (arith, ap length grown4, length-append ws over.more) in
    let same : (f : Assignment) → values_in b4.words values f ≡ values_in ws values f =
    λ f. values-same (length ws) values (values_of f b4.words) (values_of f ws) (same-grown f ws b4.words
    over.more grown4) offer.names in
    let whole = sides-arm d keep b1 b2 b3 b4 b5 b6 (λ f. written)
    (λ f r. picked d take (values_in ws values f))
    fork sides fits1 name1 forks opens kept splits switches
    (λ fits4. means-as d (λ f r. picked d take (values_in b4.words values f))
    (λ f r. picked d take (values_in ws values f)) b4 b5
    (takes fits4
    (subst (AreSides b4.words) (sym at_sides) (fork-sides d keep b1 b2 b3 b4 b4.words [] (λ f. written)
    b3.live
    b3.vars fits1 name1 opened fits2 m sw fits4 (sym (append-nil b4.words)) (length b1.written) b3.written))
    (sym (ap (λ (s : Sides). s.second) splits))
    (names-more (length ws) (length b4.words) values le offer.names)
    (λ f. ap (are_right d take) (same f) ∙ offer.right f))
    (λ f r cs. ap (λ zs. picked d take zs (traced_of f b4 cs)) (same f)))
    joins in
    pick-means d bp b1 b6 fits place take ws offer.more offer.grown offer.fit keep values o offer.name
    offer.names offer.typed written offer.offers
    (subst (λ ws'. Means d (forked (holds_in ws' keep) (λ f. written)
    (λ f r. picked d take (values_in ws values f))) b1 b6) words1 whole)
