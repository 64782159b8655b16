use Rattle.std.proofs.Common.{◌≤◌, ◌&&◌, subst, arith}
use Rattle.std.proofs.lemmas.Bool.{and_parts}
use Rattle.ba_code.specs.Facts.{is_array, is_operand, is_var}
use Rattle.ba_code.specs.Meaning.{info_at}
use Rattle.ba_guards.proofs.Stores.{array-below, few-elements, load-arm}
use Rattle.ba_guards.specs.Making.{Checks, Emits, elements_in, word_in}
use Rattle.ba_guards.specs.Parts.{declared}
use Rattle.ba_tree.specs.State.{is_index}
use Rattle.ba_wordlist.specs.Meaning.{element_read}
use Rattle.ba_guards.proofs.steps.load.Goals as goal

pub returns : goal.returns
returns c = λ vars infos fits h.
    let d = declared vars c.args.arrays.now in
    let two = and_parts (is_var d c.args.to && is_array d c.args.array) (is_operand d c.args.index) h in
    let there = array-below d c.args.array (and_parts (is_var d c.args.to) (is_array d c.args.array)
    two.0).1 in
    let few : (info_at c.args.arrays.now c.args.array).len ≤ 256 = few-elements c.args.arrays.now
    c.args.array infos there in
    load-arm d c.args.b.now c.operand.new.self c.demand_index.new.b _ c.args.to c.args.array
    c.in_ok-index.index c.args.index c.args.stmt
    fits h few c.in_ok-index.ensures.same c.in_ok-index.ensures.word
    (λ halt fits1 below. subst (λ n. Checks d c.operand.new.self c.demand_index.new.b halt
    (λ f. is_index n (word_in c.operand.new.self.words c.in_ok-index.index f))) c.length_of.ensures
    (c.in_ok-demand_index.ensures d halt fits1 below (omega (arith, few, c.length_of.ensures))))
    c.read.new.self c.in_ok-word.word
    (λ fit below index_below. subst (λ a. Emits c.demand_index.new.b.words c.read.new.self c.in_ok-word.word
    (λ f. element_read (elements_in c.demand_index.new.b.words a f) (word_in c.demand_index.new.b.words
    c.in_ok-index.index f)))
    c.at.ensures (c.in_ok-word.ensures fit (omega (arith, below, c.at.ensures)) index_below))
    c.in_ok-assign.ensures
