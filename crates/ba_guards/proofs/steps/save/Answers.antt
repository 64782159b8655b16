use Rattle.std.proofs.Common.{◌≤◌, ◌&&◌, ap, subst, arith}
use Rattle.std.proofs.lemmas.Bool.{and_parts}
use Rattle.ba_code.specs.Facts.{is_array, is_operand}
use Rattle.ba_code.specs.Meaning.{info_at}
use Rattle.ba_guards.proofs.Stores.{array-below, few-elements, save-arm, write-emits}
use Rattle.ba_guards.specs.Making.{Checks, word_in}
use Rattle.ba_guards.specs.Parts.{declared}
use Rattle.ba_tree.specs.State.{is_index}
use Rattle.ba_guards.proofs.steps.save.Goals as goal

pub returns : goal.returns
returns c = λ vars infos fits h.
    let d = declared vars c.args.arrays.now in
    let two = and_parts (is_array d c.args.array && is_operand d c.args.index) (is_operand d c.args.value)
    h in
    let there = array-below d c.args.array (and_parts (is_array d c.args.array) (is_operand d c.args.index)
    two.0).0 in
    let few : (info_at c.args.arrays.now c.args.array).len ≤ 256 = few-elements c.args.arrays.now
    c.args.array infos there in
    save-arm d c.args.b.now c.operand.new.self c.operand-2.new.self c.demand_index.new.b _ c.args.array
    c.in_ok-index.index
    c.in_ok-value.value c.args.index c.args.value c.args.stmt fits h few c.in_ok-index.ensures.same
    c.in_ok-index.ensures.word
    c.in_ok-value.ensures.same c.in_ok-value.ensures.word
    (λ halt fits2 below. subst (λ n. Checks d c.operand-2.new.self c.demand_index.new.b halt
    (λ f. is_index n (word_in c.operand-2.new.self.words c.in_ok-index.index f))) c.length_of.ensures
    (c.in_ok-demand_index.ensures d halt fits2 below (omega (arith, few, c.length_of.ensures))))
    c.write.new.self c.in_ok-version.version
    (write-emits d c.demand_index.new.b c.args.array c.at.result c.in_ok-index.index c.in_ok-value.value
    c.in_ok-version.version
    c.write.new.self c.at.ensures there c.in_ok-version.ensures)
    (ap (λ arrays. record c.demand_index.new.b { words = c.write.new.self; arrays = arrays }) c.set.ensures)
