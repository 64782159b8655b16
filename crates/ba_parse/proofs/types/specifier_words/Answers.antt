-- The loop over the words of a type.

use Rattle.std.proofs.Common.{◌≡◌, true, List, [], ◌∷◌, ◌++◌, Err, rules, sym, ap, ◌∙◌}
use Rattle.std.specs.List.{list_any}
use Rattle.std.proofs.lemmas.Result.{err_from_is_err_and}
use Rattle.ba_trees.specs.Classes.{type_word, declaration_word}
use Rattle.ba_trees.specs.Marks.{Mark, leaf}
use Rattle.ba_parse.specs.Readings.{done, next_is}
use Rattle.ba_parse.specs.Telling.{Told, next_word}
use Rattle.ba_parse.proofs.TypeWords.{classes, classes-push, words-turn, words-stop, words-all, words-none}
use Rattle.ba_parse.proofs.types.specifier_words.Goals as goal

pub returns-in_err-word : goal.returns-in_err-word
returns-in_err-word c =
    let p = err_from_is_err_and c.from_residual.result c.from_residual.ensures.1 in
    let next : next_is (declaration_word c.args.with_static) c.loop-reader.reader ≡ true = search rules in
    let told : Told {A = List Mark} (λ f. f) (Err c.in_err-word.field-0.0)
    (next_word c.args.with_static c.as_slice.result.now c.loop-reader.reader) c.next_word.new.reader =
    c.in_err-word.ensures in
    let told_here = rw (c.as_slice.ensures.value, c.loop-reader.invariant.seen) at told in
    rw (p.1, p.2) (words-stop c.in_err-word.field-0.0 _ c.args.with_static c.loop-reader.words.items
    c.loop-reader.reader c.next_word.new.reader c.loop-reader.invariant.whole next told_here)

pub loop-reader-preserved : goal.loop-reader-preserved
loop-reader-preserved c =
    let told : next_word c.args.with_static c.as_slice.result.now c.loop-reader.reader
    ≡ done (leaf c.in_ok-word.word ∷ []) c.next_word.new.reader = c.in_ok-word.ensures in
    let told_here = rw (c.as_slice.ensures.value, c.loop-reader.invariant.seen) at told in
    let ws = c.loop-reader.words.items in
    record {
      whole = words-turn _ c.args.with_static ws c.push-in-loop-reader.new.self.items c.in_ok-word.word
          c.loop-reader.reader c.next_word.new.reader c.loop-reader.invariant.whole told_here
          c.in_ok-push-2.ensures.items;
      seen =
          c.in_ok-push.ensures.items ∙ ap (λ cs. cs ++ c.class_of.result ∷ []) c.loop-reader.invariant.seen
          ∙ ap (λ d. classes ws ++ d ∷ []) c.class_of.ensures
          ∙ sym (classes-push ws c.in_ok-word.word) ∙ ap classes (sym c.in_ok-push-2.ensures.items);
    }

pub returns-then-not-some_names_type : goal.returns-then-not-some_names_type
returns-then-not-some_names_type c =
    let none : c.some_names_type.result ≡ list_any type_word (classes c.loop-reader.words.items) =
    rw (c.as_slice-2.ensures.value, c.loop-reader.invariant.seen) at c.some_names_type.ensures in
    words-none _ c.args.with_static c.loop-reader.words.items c.loop-reader.reader
    c.loop-reader.invariant.whole (sym c.loop-reader-test.ensures) (sym none
    ∙ c.if-not-some_names_type.true)

pub returns : goal.returns
returns c =
    let some : c.some_names_type.result ≡ list_any type_word (classes c.loop-reader.words.items) =
    rw (c.as_slice-2.ensures.value, c.loop-reader.invariant.seen) at c.some_names_type.ensures in
    words-all _ c.args.with_static c.loop-reader.words.items c.loop-reader.reader
    c.loop-reader.invariant.whole (sym c.loop-reader-test.ensures) (sym some
    ∙ c.if-not-some_names_type.false)
