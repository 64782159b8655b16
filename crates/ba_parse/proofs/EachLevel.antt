-- Readings keep what readings promise, however many levels are left.

use Rattle.std.proofs.Common.{◌≡◌, ℕ, zero, suc, Bool, true, false, if◌then◌else◌, List, [], ◌∷◌, ◌++◌, refl, sym, ap, ◌∙◌, inl, inr, subst}
use Rattle.ba_tokens.specs.declared.token.Token.{Token}
use Rattle.ba_trees.specs.Classes.{Classes, declaration_word}
use Rattle.ba_trees.specs.Marks.{Mark, node_of, one_deeper, yield, is_else, file, parameters, parameter, declaration, statement, group, arguments}
use Rattle.ba_parse.specs.Grammar.{Part, Spells, is_nothing, is_rule, is_second, is_none, is_deeper, nothing, rule, many, deeper, ◌∣◌, maybe, listed, expression}
use Rattle.ba_parse.specs.Readings.{done, syntax, too_deep, Reading, Inner, lowered, next_is, shallow, in_parameters, deeper_in, levels_left, read_inside, operand_start, label_start, item_start, read_file}
use Rattle.ba_parse.proofs.Forests.{yield_append, yield_node, yield_deeper}
use Rattle.ba_parse.proofs.Certified.{Opened, Taken, Done, opened, head_of, always, BeginsWith, First, Sample, false_is_true, cons_is_nil}
use Rattle.ba_parse.proofs.Combined.{none}
use Rattle.ba_parse.proofs.Deepened.{in_depth, reads_deeper, reads_shallow, reads_shallow_or_empty, Empty, deeper_pairs}
use Rattle.ba_parse.proofs.Tables.{lies_in, outside}
use Rattle.ba_parse.proofs.Goods.{Good, good_more}
use Rattle.ba_parse.proofs.ExpressionReadings.{Below, after_a_name, up_to, in_expression_goes, but_closing, but_parenthesis, but_brace, good_expression, good_arguments, good_unary, good_operand1, good_operand2, good_operand3, good_operand4, good_operand5, good_operand6, good_operand7, good_operand8, good_operand9, good_operand10}
use Rattle.ba_parse.proofs.StatementReadings.{good_maybe_expression, good_statement, good_groups}
use Rattle.ba_parse.proofs.DeclarationReadings.{good_type_words, good_enumerator_list, good_parameters, good_items, good_for_head, good_printed, good_file}
use Rattle.ba_parse.proofs.Starts.{FromAll, first_then, first_maybe, sample_deeper, from_first}
use Rattle.ba_parse.proofs.Contents.{first_enumerators, sample_enumerators, from_enumerators, first_unary, first_chained, first_expression, sample_unary, sample_chained, sample_expression, from_unary, from_chained, from_expression, first_arguments, from_arguments, first_type_words, sample_type_words, from_type_words, first_parameter, first_parameters, from_parameters, sample_statement, first_statement, sample_for_head, from_statement, first_group, first_groups, from_groups, first_item, first_items, from_items, first_for_head, from_for_head, first_printed, printed_sample, from_printed}

deeper_begins : {a : Part} {starts : Classes} {empty : Bool} → First a starts empty →
    First (deeper a) starts empty
deeper_begins {a} {starts} {empty} p = record {
  begins = λ f u.
      let o : Opened (deeper a) f = opened u in
      subst (λ x. BeginsWith starts empty (yield x)) (sym o.2) (subst (BeginsWith starts empty)
      (sym (yield_deeper o.0)) (p.begins o.0 o.1));
}

pub good_deeper : {n : ℕ} {a : Part} {starts goes : Classes} {empty : Bool} {r : Reading} →
    Good n a starts empty goes r →
    Good (suc n) (deeper a) starts empty goes (in_depth r)
good_deeper {n} {a} {starts} {goes} {empty} {r} p =
    record {
      reads = reads_deeper n always a goes r p.reads;
      first = deeper_begins p.first;
      sample =
          sample_deeper p.sample;
    }

good_shallow : {a : Part} {starts : Classes} → (goes : Classes) → First a starts false → FromAll a starts →
    Sample a →
    Good 0 (deeper a) starts false goes (λ ts. lowered (if next_is starts ts then too_deep ts else syntax ts))
good_shallow {a} {starts} goes p q s =
    record {
      reads = reads_shallow a starts goes p q.from s;
      first = deeper_begins p;
      sample =
          sample_deeper s;
    }

empty_sample : {a : Part} {tree : List Mark} → Empty a tree → Sample (deeper a)
empty_sample {a} {tree} e = record {
  tree = one_deeper tree;
  spelled = is_deeper a tree e.spelled;
  pairs = λ next h. deeper_pairs tree next ∙ e.pairs next;
  calm = ap (λ x. is_else (head_of x)) (yield_deeper tree ∙ e.no_leaf);
}

good_shallow_or_empty : {a : Part} {starts : Classes} → (goes : Classes) → First a starts true →
    FromAll a starts → (tree : List Mark) → Empty a tree →
    lies_in starts goes ≡ true → Good 0 (deeper a) starts true goes
    (λ ts. lowered (if next_is starts ts then too_deep ts else done tree ts))
good_shallow_or_empty {a} {starts} goes p q tree e h =
    record {
      reads = reads_shallow_or_empty a starts goes p q.from tree e (outside starts goes h);
      first =
          deeper_begins p;
      sample = empty_sample e;
    }

-- WHAT MAY BE EMPTY

not_nil : (starts : Classes) (ts : List Token) → BeginsWith starts false ts → ts ≡ [] → ⊥
not_nil starts [] b h = false_is_true b
not_nil starts (t ∷ ts) b h = cons_is_nil h

alone_maybe : (a : Part) (starts : Classes) → First a starts false → (f : List Mark) → Opened (maybe a) f →
    yield f ≡ [] → f ≡ []
alone_maybe a starts p f (inl u) h = absurd (not_nil starts (yield f) (p.begins f u) h)
alone_maybe a starts p f (inr u) h = opened u

front_nil : (ts us : List Token) → ts ++ us ≡ [] → ts ≡ []
front_nil [] us h = refl
front_nil (t ∷ ts) us h = absurd (cons_is_nil h)

alone_many : (a : Part) (starts : Classes) → First a starts false → (f : List Mark) → Opened (many a) f →
    yield f ≡ [] → f ≡ []
alone_many a starts p f (inl e) h = e
alone_many a starts p f (inr o) h =
    absurd (not_nil starts (yield o.0) (p.begins o.0 o.2) (front_nil (yield o.0) (yield o.1)
    (sym (yield_append o.0 o.1) ∙ ap yield (sym o.4) ∙ h)))

empty_nil : {a : Part} → Spells a [] → ((f : List Mark) → Spells a f → yield f ≡ [] → f ≡ []) → Empty a []
empty_nil nil alone = record {
  spelled = nil;
  no_leaf = refl;
  alone = alone;
  pairs = λ next. refl;
  level =
      refl;
}

empty_length : Empty (maybe expression) []
empty_length = empty_nil (is_second expression nothing [] is_nothing) (λ f u h. alone_maybe expression
    operand_start first_expression f (opened u) h)

empty_block : Empty (many (rule declaration ∣ rule statement)) []
empty_block = empty_nil (is_none (rule declaration ∣ rule statement))
    (λ f u h. alone_many (rule declaration ∣ rule statement) item_start first_item f (opened u) h)

empty_groups : Empty (many (rule group)) []
empty_groups = empty_nil (is_none (rule group))
    (λ f u h. alone_many (rule group) label_start first_group f (opened u) h)

empty_arguments : Empty (rule arguments) (node_of arguments [])
empty_arguments = record {
  spelled = is_rule arguments [] (is_second (listed expression) nothing [] is_nothing);
  no_leaf = refl;
  alone = λ f u h.
      let o : Opened (rule arguments) f = opened u in
      o.2 ∙ ap (node_of arguments) (alone_maybe (listed expression) operand_start
      (first_then first_expression) o.0 (opened o.1) (sym (yield_node arguments o.0) ∙ ap yield (sym o.2)
      ∙ h));
  pairs = λ next. refl;
  level = refl;
}

empty_parameters : Empty (rule parameters) (node_of parameters [])
empty_parameters = record {
  spelled = is_rule parameters [] (is_second (listed (rule parameter)) nothing [] is_nothing);
  no_leaf = refl;
  alone = λ f u h.
      let o : Opened (rule parameters) f = opened u in
      o.2 ∙ ap (node_of parameters)
      (alone_maybe (listed (rule parameter)) (declaration_word false) (first_then first_parameter) o.0
      (opened o.1) (sym (yield_node parameters o.0) ∙ ap yield (sym o.2) ∙ h));
  pairs = λ next. refl;
  level = refl;
}

-- EACH LEVEL

below_none : Below 0 shallow
below_none = record {
  below_expression = good_shallow in_expression_goes first_expression from_expression sample_expression;
  below_arguments = good_shallow_or_empty but_closing first_arguments from_arguments (node_of arguments [])
      empty_arguments refl;
  below_cast = good_shallow but_closing first_type_words from_type_words sample_type_words;
  below_unary = good_shallow after_a_name first_unary from_unary sample_unary;
  below_chained1 = good_shallow (up_to 1) (first_chained 1) (from_chained 1) (sample_chained 1);
  below_chained2 = good_shallow (up_to 2) (first_chained 2) (from_chained 2) (sample_chained 2);
  below_chained3 = good_shallow (up_to 3) (first_chained 3) (from_chained 3) (sample_chained 3);
  below_chained4 = good_shallow (up_to 4) (first_chained 4) (from_chained 4) (sample_chained 4);
  below_chained5 = good_shallow (up_to 5) (first_chained 5) (from_chained 5) (sample_chained 5);
  below_chained6 = good_shallow (up_to 6) (first_chained 6) (from_chained 6) (sample_chained 6);
  below_chained7 = good_shallow (up_to 7) (first_chained 7) (from_chained 7) (sample_chained 7);
  below_chained8 = good_shallow (up_to 8) (first_chained 8) (from_chained 8) (sample_chained 8);
  below_chained9 = good_shallow (up_to 9) (first_chained 9) (from_chained 9) (sample_chained 9);
  below_chained10 = good_shallow (up_to 10) (first_chained 10) (from_chained 10) (sample_chained 10);
  below_parameters = good_shallow_or_empty but_closing first_parameters from_parameters
      (node_of parameters []) empty_parameters refl;
  below_length = good_shallow_or_empty but_closing (first_maybe first_expression refl)
      (from_first from_expression) [] empty_length refl;
  below_enumerators = good_shallow but_brace first_enumerators from_enumerators sample_enumerators;
  below_block = good_shallow_or_empty but_brace first_items from_items [] empty_block refl;
  below_statement = good_shallow none first_statement from_statement sample_statement;
  below_groups = good_shallow_or_empty but_brace first_groups from_groups [] empty_groups refl;
  below_for = good_shallow but_parenthesis first_for_head from_for_head sample_for_head;
  below_printf = good_shallow but_closing first_printed from_printed printed_sample;
}

below_one_more : (n : ℕ) (inner : Inner) → Below n inner → Below (suc n) (read_inside inner)
below_one_more n inner b = record {
  below_expression = good_deeper (good_expression n inner b);
  below_arguments = good_deeper (good_arguments n inner b);
  below_cast = good_deeper (good_more (declaration_word false) but_closing (good_type_words n inner b)
      refl);
  below_unary = good_deeper (good_unary n inner b);
  below_chained1 = good_deeper (good_operand1 n inner b);
  below_chained2 = good_deeper (good_operand2 n inner b);
  below_chained3 = good_deeper (good_operand3 n inner b);
  below_chained4 = good_deeper (good_operand4 n inner b);
  below_chained5 = good_deeper (good_operand5 n inner b);
  below_chained6 = good_deeper (good_operand6 n inner b);
  below_chained7 = good_deeper (good_operand7 n inner b);
  below_chained8 = good_deeper (good_operand8 n inner b);
  below_chained9 = good_deeper (good_operand9 n inner b);
  below_chained10 = good_deeper (good_operand10 n inner b);
  below_parameters = good_deeper (good_parameters n inner b);
  below_length = good_deeper (good_more operand_start but_closing (good_maybe_expression n inner b) refl);
  below_enumerators = good_deeper (good_enumerator_list n inner b);
  below_block = good_deeper (good_items n inner b);
  below_statement = good_deeper (good_statement n inner b);
  below_groups = good_deeper (good_groups n inner b);
  below_for = good_deeper (good_for_head n inner b);
  below_printf = good_deeper (good_printed n inner b);
}

pub levels_zero : levels_left zero ≡ shallow
unfolding levels_left
levels_zero = refl

pub levels_suc : (n : ℕ) → levels_left (suc n) ≡ read_inside (levels_left n)
unfolding levels_left
levels_suc n = refl

below : (n : ℕ) → Below n (levels_left n)
below zero = subst (Below 0) (sym levels_zero) below_none
below (suc n) = subst (Below (suc n)) (sym (levels_suc n)) (below_one_more n (levels_left n) (below n))

pub good_files : (n : ℕ) → Good n (rule file) (declaration_word true) true (declaration_word true)
    (read_file (levels_left n))
good_files n = good_file n (levels_left n) (below n)

-- the tokens of the parameters of a function are those that were read
pub parameters_cut : (n : ℕ) (ts rest : List Token) (f : List Mark) → levels_left n in_parameters ts ≡ done f
    rest → yield f ++ rest ≡ ts
parameters_cut n ts rest f e =
    let taken : Taken n (deeper (rule parameters)) (deeper_in (levels_left n) in_parameters) ts
    (lowered (levels_left n in_parameters ts)) = (below n).below_parameters.reads.taken ts refl in
    let read : Done n (deeper (rule parameters)) (deeper_in (levels_left n) in_parameters) ts (one_deeper f)
    rest = rw e at taken in
    sym (read.cut ∙ ap (λ us. us ++ rest) (yield_deeper f))
