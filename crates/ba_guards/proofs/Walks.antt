-- Nodes with parts, each from the calls that make its words.
use Rattle.std.proofs.Common.{append_assoc, ◌&&◌, ◌≡◌, ℕ, ◌<◌, ◌≤◌, ℤ, pos, Bool, true, false, not, cond, List, [], ◌∷◌, ◌++◌, length, drop, refl, sym, ◌∙◌, ap, subst, arith, length-append}
use Rattle.std.specs.Ordering.{int_eq}
use Rattle.std.proofs.Math.Bool.{and-true}
use Rattle.ba_choices.specs.declared.Choice.{Choice}
use Rattle.ba_code.proofs.Rows.{in_order-one}
use Rattle.ba_code.specs.Facts.{Declared, is_operand}
use Rattle.ba_code.specs.State.{operand_value}
use Rattle.ba_code.specs.declared.nodes.ArrayInfo.{ArrayInfo}
use Rattle.ba_code.specs.declared.nodes.Node.{Node}
use Rattle.ba_code.specs.declared.nodes.Operand.{Operand}
use Rattle.ba_code_laws.proofs.Equations.{trace-append, trace-none}
use Rattle.ba_code_laws.specs.Tracing.{Relaxes, Traced, TracedExecution, trace_node, trace_nodes}
use Rattle.ba_guards.proofs.Arms.{check-nothing, reads-by}
use Rattle.ba_guards.proofs.Forks.{either-nonzero, fork-means, forked, first-agrees, later-word, open-fits, other-nonzero, second-agrees, switch-fits}
use Rattle.ba_guards.proofs.Going.{extends-none, in_turn, live-running, means-as, means-before, means-steady, means-then, resting, traced_of}
use Rattle.ba_guards.proofs.Growing.{extensional}
use Rattle.ba_guards.proofs.Nodes.{reads}
use Rattle.ba_guards.proofs.Scopes.{scope-fits, scope-means, scoped}
use Rattle.ba_guards.specs.Written.{AgreeBut}
use Rattle.ba_guards.specs.Continuing.{labels_of}
use Rattle.ba_guards.specs.Making.{AreSides, Closes, Emits, Fits, Joins, Means, Opens, Part, Scopes, Switches, checked, fork_at, holds_in, operand_at, sides_at, word_in}
use Rattle.ba_guards.specs.Reading.{is_live, met, snapshot}
use Rattle.ba_guards.specs.declared.builder.Builder.{Builder}
use Rattle.ba_guards.specs.declared.builder.Fork.{Fork}
use Rattle.ba_guards.specs.declared.builder.Sides.{Sides}
use Rattle.ba_guards.specs.declared.exits.Exit.{Exit}
use Rattle.ba_tree.specs.Acts.{after_part, fork, then_do}
use Rattle.ba_tree.specs.declared.run.Halt.TheVariants.{WrongChoices}
use Rattle.ba_wordlist.specs.Facts.{are_names}
use Rattle.ba_wordlist.specs.Meaning.{Assignment, is_nonzero, values_of}
use Rattle.ba_wordlist.specs.declared.words.WordOp.{WordOp}
use Rattle.ba_wordlist.proofs.Values.{names-more}

-- NODES IN A ROW

pub nodes-none : (d : Declared) (b : Builder) → Fits d b → Means d (λ f r. trace_nodes r d.arrays []) b b
nodes-none d b fits = means-as d (λ f r. checked (λ c. true) WrongChoices) (λ f r. trace_nodes r d.arrays
    []) b b
    (check-nothing d b WrongChoices (λ f. true) fits (λ f. refl))
    (λ f r cs. sym (trace-none r d.arrays (traced_of f b cs)))

trace-one : (r : Relaxes) (a : List ArrayInfo) (n : Node) → trace_nodes r a (n ∷ []) ≡ trace_node r a n
unfolding trace_nodes
trace-one r a n = extensional (λ s. in_order-one (trace_node r a n) s)

pub nodes-more : (d : Declared) (ns : List Node) (n : Node) (old mid new : Builder)
    → Means d (λ f r. trace_nodes r d.arrays ns) old mid → Means d (λ f r. trace_node r d.arrays n) mid new
    → Means d (λ f r. trace_nodes r d.arrays (ns ++ n ∷ [])) old new
nodes-more d ns n old mid new first second =
    means-as d (in_turn (λ f r. trace_nodes r d.arrays ns) (λ f r. trace_node r d.arrays n))
    (λ f r. trace_nodes r d.arrays (ns ++ n ∷ [])) old new
    (means-then d (λ f r. trace_nodes r d.arrays ns) (λ f r. trace_node r d.arrays n) old mid new (λ f g
    same. (refl, refl)) first second)
    (λ f r cs.
    let s = traced_of f old cs in
    ap (λ part. then_do (trace_nodes r d.arrays ns s) (after_part part)) (sym (trace-one r d.arrays n))
    ∙ sym (trace-append r d.arrays s ns (n ∷ [])))

-- BRANCHES

-- where the sides of a branch begin, after more words
pub fork-sides : (d : Declared) (which : ℕ) (b0 b1 b2 b3 : Builder) (ws more : List WordOp) (p : Part)
    (after_live : ℕ) (after_vars : List ℕ)
    → Fits d b0 → which < length b0.words → Opens b0 b1 which → Fits d b1 → Means d p b1 b2 →
    Switches (length b0.written) b0.live b0.vars b2 b3 which
    → Fits d b3 → ws ≡ b3.words ++ more
    → (since : ℕ) (written : List ℕ)
    → AreSides ws (sides_at (fork_at which since b1.live b0.live b0.vars) b3.live after_live after_vars
    written)
fork-sides d which b0 b1 b2 b3 ws more p after_live after_vars fits name o fits1 m sw fits3 grown since
    written =
    let more2 = o.live.more ++ m.extends.more in
    let grown2 : b2.words ≡ b0.words ++ more2 = m.extends.words ∙ ap (λ ws. ws ++ m.extends.more) o.live.grown
    ∙ append_assoc b0.words o.live.more m.extends.more in
    let grown13 : b3.words ≡ b1.words ++ (m.extends.more ++ sw.live.more) = sw.live.grown
    ∙ ap (λ ws. ws ++ sw.live.more) m.extends.words ∙ append_assoc b1.words m.extends.more sw.live.more in
    let all1 : ws ≡ b1.words ++ ((m.extends.more ++ sw.live.more) ++ more) = grown ∙ ap (λ ws. ws ++ more)
    grown13
    ∙ append_assoc b1.words (m.extends.more ++ sw.live.more) more in
    let all0 : ws ≡ b0.words ++ (o.live.more ++ ((m.extends.more ++ sw.live.more) ++ more)) = all1
    ∙ ap (λ ws. ws ++ ((m.extends.more ++ sw.live.more) ++ more)) o.live.grown
    ∙ append_assoc b0.words o.live.more ((m.extends.more ++ sw.live.more) ++ more) in
    let over = o.live.more ++ ((m.extends.more ++ sw.live.more) ++ more) in
    let le : length b0.words ≤ length ws = omega (arith, ap length all0, length-append b0.words over) in
    let w : (f : Assignment) → holds_in ws which f ≡ holds_in b0.words which f =
    λ f. ap is_nonzero (later-word d b0 ws over fits all0 f which name) in
    let l : (f : Assignment) → holds_in ws b0.live f ≡ holds_in b0.words b0.live f =
    λ f. ap is_nonzero (later-word d b0 ws over fits all0 f b0.live fits.live) in
    record {
      condition = omega (arith, name, le);
      came = omega (arith, fits.live, le);
      first_name = omega (
        arith,
        fits1.live,
        ap length all1,
        length-append b1.words ((m.extends.more ++ sw.live.more) ++ more),
      );
      second_name = omega (arith, fits3.live, ap length grown, length-append b3.words more);
      first = λ f.
          ap is_nonzero (later-word d b1 ws ((m.extends.more ++ sw.live.more) ++ more) fits1 all1 f b1.live
          fits1.live ∙ o.live.has f)
          ∙ either-nonzero (holds_in b0.words which f) (word_in b0.words b0.live f)
          ∙ ap (λ b. b && holds_in b0.words b0.live f) (sym (w f)) ∙ ap (λ b. holds_in ws which f && b)
          (sym (l f));
      second = λ f.
          ap is_nonzero (later-word d b3 ws more fits3 grown f b3.live fits3.live ∙ sw.live.has f
          ∙ ap (λ z. cond (is_nonzero z) (pos 0) (word_in b2.words b0.live f)) (later-word d b0 b2.words
          more2 fits grown2 f which name)
          ∙ ap (λ z. cond (holds_in b0.words which f) (pos 0) z) (later-word d b0 b2.words more2 fits
          grown2 f b0.live fits.live))
          ∙ other-nonzero (holds_in b0.words which f) (word_in b0.words b0.live f)
          ∙ ap (λ b. not b && holds_in b0.words b0.live f) (sym (w f)) ∙ ap (λ b. not (holds_in ws which f)
          && b) (sym (l f));
    }

pub sides-arm : (d : Declared) (which : ℕ) (b0 b1 b2 b3 b4 b5 : Builder) (p q : Part) (fork : Fork) (sides
    : Sides) → Fits d b0
    → which < length b0.words → fork ≡ fork_at which (length b0.written) b1.live b0.live b0.vars
    → ((d : Declared) → Fits d b0 → which < length b0.words → Opens b0 b1 which)
    → (Fits d b1 → Means d p b1 b2)
    → sides ≡ sides_at fork b3.live b2.live b2.vars b2.written
    → ((d : Declared) → Fits d b2 → fork.which < length b2.words → fork.before.live < length b2.words
    → Switches fork.since fork.before.live fork.before.vars b2 b3 fork.which)
    → (Fits d b3 → Means d q b3 b4)
    → ((d : Declared) → Fits d b4 → sides.after.live < length b4.words →
    are_names (length b4.words) sides.after.vars ≡ true
    → length sides.after.vars ≡ length b4.vars → AreSides b4.words sides
    → AgreeBut sides.written sides.before sides.after.vars
    → AgreeBut (drop sides.since b4.written) sides.before b4.vars →
    Joins sides.since sides.before sides.after.live sides.after.vars b4 b5)
    → Means d (forked (holds_in b0.words which) p q) b0 b5
sides-arm d which b0 b1 b2 b3 b4 b5 p q fork sides fits name forks opens taken splits switches other joins =
    let o = opens d fits name in
    let fits1 = open-fits d which b0 b1 fits o in
    let mp = taken fits1 in
    let le1 : length b0.words ≤ length b1.words = omega (
      arith,
      ap length o.live.grown,
      length-append
          b0.words o.live.more,
    ) in
    let le2 : length b1.words ≤ length b2.words =
    omega (arith, ap length mp.extends.words, length-append b1.words mp.extends.more) in
    let switched = subst (λ (k : Fork). (d : Declared) → Fits d b2 → k.which < length b2.words →
    k.before.live < length b2.words
    → Switches k.since k.before.live k.before.vars b2 b3 k.which) forks switches in
    let sw = switched d mp.fits (omega (arith, name, le1, le2)) (omega (arith, fits.live, le1, le2)) in
    let fits3 = switch-fits d which b0 b1 b2 b3 p fits name o mp sw in
    let mq = other fits3 in
    let le3 : length b2.words ≤ length b3.words = omega (
      arith,
      ap length sw.live.grown,
      length-append
          b2.words sw.live.more,
    ) in
    let le4 : length b3.words ≤ length b4.words =
    omega (arith, ap length mq.extends.words, length-append b3.words mq.extends.more) in
    let joined = subst (λ (s : Sides). (d : Declared) → Fits d b4 → s.after.live < length b4.words
    → are_names (length b4.words) s.after.vars ≡ true → length s.after.vars ≡ length b4.vars →
    AreSides b4.words s
    → AgreeBut s.written s.before s.after.vars → AgreeBut (drop s.since b4.written) s.before b4.vars
    → Joins s.since s.before s.after.live s.after.vars b4 b5)
    (splits ∙ ap (λ k. sides_at k b3.live b2.live b2.vars b2.written) forks)
    joins in
    let j = joined d mq.fits (omega (arith, mp.fits.live, le3, le4))
    (names-more (length b2.words) (length b4.words) b2.vars (omega (arith, le3, le4)) mp.fits.vars)
    (mp.fits.var_count ∙ sym mq.fits.var_count)
    (fork-sides d which b0 b1 b2 b3 b4.words mq.extends.more p b2.live b2.vars fits name o fits1 mp sw
    fits3 mq.extends.words (length b0.written) b2.written)
    (first-agrees which b0 b1 b2 o mp.extends)
    (second-agrees which b0 b1 b2 b3 b4 o mp.extends sw mq.extends) in
    fork-means d which b0 b1 b2 b3 b4 b5 p q fits name o fits1 mp sw fits3 mq j

-- the side that a value takes
abbrev pub fork_part : Operand → TracedExecution → TracedExecution → TracedExecution
fork_part when taken other s = fork taken other (operand_value s.code when) s

fork-is : (taken other : TracedExecution) (z : ℤ) (b : Bool) (s : Traced) → is_nonzero z ≡ b
    → cond b (taken s) (other s) ≡ fork taken other z s
fork-is taken other z b s is = at (int_eq z (pos 0)) refl is where
  at : (e : Bool) → int_eq z (pos 0) ≡ e → not (int_eq z (pos 0)) ≡ b →
      cond b (taken s) (other s) ≡ cond (int_eq z (pos 0)) (other s) (taken s)
  at true ez nz = ap (λ b. cond b (taken s) (other s)) (sym nz ∙ ap not ez) ∙ sym (ap (λ e. cond e (other
      s) (taken s)) ez)
  at false ez nz = ap (λ b. cond b (taken s) (other s)) (sym nz ∙ ap not ez) ∙ sym (ap (λ e. cond e (other
      s) (taken s)) ez)

pub if-arm : (d : Declared) (old b1 new : Builder) (w : ℕ) (when : Operand) (taken other : Relaxes →
    TracedExecution) → Fits d old
    → is_operand d when ≡ true → b1 ≡ record old { words = b1.words }
    → ((d : Declared) → Fits d old → is_operand d when ≡ true
    → Emits old.words b1.words w (λ f. operand_at (values_of f old.words) old.vars when))
    → (Fits d b1 → w < length b1.words →
    Means d (forked (holds_in b1.words w) (λ f. taken) (λ f. other)) b1 new)
    → Means d (λ f r. fork_part when (taken r) (other r)) old new
if-arm d old b1 new w when taken other fits fit same word sides =
    let first = reads-by d old b1 w when fits fit same word in
    means-as d (forked (holds_in b1.words w) (λ f. taken) (λ f. other)) (λ f r. fork_part when (taken r)
    (other r)) old new
    (means-before d (forked (holds_in b1.words w) (λ f. taken) (λ f. other)) old new b1.words
    first.word.more fits first.word.grown
    first.word.fit (subst (λ b. Means d (forked (holds_in b1.words w) (λ f. taken) (λ f. other)) b new)
    first.same
    (sides first.fits first.word.name)))
    (λ f r cs.
    let s = traced_of f old cs in
    fork-is (taken r) (other r) (operand_value s.code when) (holds_in b1.words w f) s
    (ap is_nonzero (reads f old cs when ∙ sym (first.word.has f))))

-- a condition that is a constant
pub one-side : (d : Declared) (b new : Builder) (w : ℕ) (value : Bool) (p q : Part) → ((f : Assignment) →
    holds_in b.words w f ≡ value)
    → Means d (λ f r. cond value (p f r) (q f r)) b new → Means d (forked (holds_in b.words w) p q) b new
one-side d b new w value p q is m = means-as d (λ f r. cond value (p f r) (q f r)) (forked (holds_in
    b.words w) p q) b new m
    (λ f r cs. at value f r cs (is f)) where
      at : (v : Bool) (f : Assignment) (r : Relaxes) (cs : List Choice) → holds_in b.words w f ≡ v
          → (cond v (p f r) (q f r)) (traced_of f b cs) ≡ forked (holds_in b.words w) p q f r (traced_of f
          b cs)
      at true f r cs e = sym (ap (λ v. cond v (p f r (traced_of f b cs)) (q f r (traced_of f b cs))) e)
      at false f r cs e = sym (ap (λ v. cond v (p f r (traced_of f b cs)) (q f r (traced_of f b cs))) e)

pub one-arm : (d : Declared) (old b1 new : Builder) (w : ℕ) (value : Bool) (when : Operand) (taken other :
    Relaxes → TracedExecution)
    → Fits d old → is_operand d when ≡ true → b1 ≡ record old { words = b1.words }
    → ((d : Declared) → Fits d old → is_operand d when ≡ true
    → Emits old.words b1.words w (λ f. operand_at (values_of f old.words) old.vars when))
    → ((f : Assignment) → holds_in b1.words w f ≡ value)
    → (Fits d b1 → Means d (λ f r. cond value (taken r) (other r)) b1 new)
    → Means d (λ f r. fork_part when (taken r) (other r)) old new
one-arm d old b1 new w value when taken other fits fit same word constant side =
    if-arm d old b1 new w when taken other fits fit same word
    (λ fits1 below. one-side d b1 new w value (λ f. taken) (λ f. other) constant (side fits1))

-- if the run never comes to a part

pub never-means : (d : Declared) (part : Part) (b : Builder) → Fits d b
    → ((f : Assignment) → is_live (values_of f b.words) b ≡ false) → Means d part b b
never-means d part b fits off = means-steady d part b b (λ f. true) (record {
  extends = extends-none b;
  fits = fits;
  logs = λ f. refl;
  keeps = λ f. sym (and-true (met f b));
  runs = λ r f cs. resting (labels_of b.exits) (part f r) (snapshot f b) cs (live-running (values_of f
      b.words) b ∙ off f);
})

-- BLOCKS

pub block-arm : (d : Declared) (label : ℕ) (b0 b1 b2 b3 : Builder) (p : Part) → Fits d b0 → Scopes b0 b1 label
    → (Fits d b1 → Means d p b1 b2) → ((d : Declared) → Fits d b2 → (e : Exit) × Closes b2 b3 e)
    → Means d (λ f r. scoped label (p f r)) b0 b3
block-arm d label b0 b1 b2 b3 p fits o body ends =
    let m = body (scope-fits d label b0 b1 fits o) in
    let e = ends d m.fits in
    scope-means d label b0 b1 b2 b3 e.0 p fits o m e.1
