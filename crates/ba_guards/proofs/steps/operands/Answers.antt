use Rattle.ba_guards.proofs.Growing.{all-at}
use Rattle.std.proofs.Common.{◌≡◌, ◌<◌, ◌+◌, ℕ, true, sym, subst, List, [], ◌∷◌, ◌++◌, length, take, get_or, arith}
use Rattle.std.proofs.lemmas.List.{take_all, take_more}
use Rattle.std.specs.List.{list_all}
use Rattle.ba_code.specs.Facts.{Declared, is_operand}
use Rattle.ba_code.specs.declared.nodes.Operand.{Operand}
use Rattle.ba_guards.proofs.Filling.{reads-more, reads-none}
use Rattle.ba_guards.specs.Making.{Emits, Fits, ReadsAll, operand_at}
use Rattle.ba_guards.specs.declared.builder.Builder.{Builder}
use Rattle.ba_wordlist.specs.Meaning.{values_of}
use Rattle.ba_guards.proofs.steps.operands.Goals as goal

next-read : (d : Declared) (old mid new : Builder) (words more : List ℕ) (vs : List Operand) (i : ℕ) (z :
    Operand) (w : ℕ) → Fits d old
    → ReadsAll d old mid words (take i vs) → list_all (is_operand d) vs ≡ true → i < length vs
    → new ≡ record mid { words = new.words }
    → ((d : Declared) → Fits d mid → is_operand d (get_or vs i z) ≡ true
    → Emits mid.words new.words w (λ f. operand_at (values_of f mid.words) mid.vars (get_or vs i z)))
    → more ≡ words ++ w ∷ [] → ReadsAll d old new more (take (i + 1) vs)
next-read d old mid new words more vs i z w fits before all below same word pushed =
    subst (λ os. ReadsAll d old new more os) (sym (take_more vs i z below))
    (subst (λ ws. ReadsAll d old new ws (take i vs ++ get_or vs i z ∷ [])) (sym pushed)
    (reads-more d old mid new words (take i vs) w (get_or vs i z) fits before (all-at (is_operand d) vs i z
    all below) same word))

pub loop-value-init : goal.loop-value-init
loop-value-init c = λ d fits all. subst (λ ws. ReadsAll d c.args.b.now c.args.b.now ws []) (sym
    c.new-words.ensures)
    (reads-none d c.args.b.now fits)

pub loop-value-preserved : goal.loop-value-preserved
loop-value-preserved c = λ d fits all.
    next-read d c.args.b.now c.loop-value.b c.operand.new.self c.loop-value.words c.push.new.self
    c.args.values.now
    c.loop-value.value-index _ c.in_ok-word.word fits (c.loop-value.invariant d fits all) all
    c.loop-value-test.true
    c.in_ok-word.ensures.same c.in_ok-word.ensures.word c.in_ok-push.ensures.ok

pub returns : goal.returns
returns c = λ d fits all. subst (λ vs. ReadsAll d c.args.b.now c.loop-value.b c.loop-value.words vs)
    (take_all c.loop-value.value-index c.args.values.now (omega arith)) (c.loop-value.invariant d fits all)
