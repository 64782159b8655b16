-- Declarations and statements: their readings keep what readings promise, if those of what counts a level do.

use Rattle.std.proofs.Common.{◌≡◌, ℕ, Bool, true, false, not, ◌&&◌, ◌||◌, List, [], ◌∷◌, ◌++◌, refl, sym, ap, ◌∙◌, subst}
use Rattle.ba_tokens.specs.declared.token.Token.{Token}
use Rattle.ba_tokens.specs.declared.token.Keyword.TheVariants as keyword
use Rattle.ba_tokens.specs.declared.token.Punct.TheVariants as punct
use Rattle.ba_trees.specs.declared.class.TokenClass.TheVariants as class
use Rattle.ba_trees.specs.Classes.{Classes, only, word, mark, ◌or◌, declaration_word}
use Rattle.ba_trees.specs.Marks.{Mark, node_of, yield, is_else, no_else_lost, array_length, block, statement, no_else, group, label, simples, simple, target, arguments}
use Rattle.ba_parse.specs.Grammar.{Part, Spells, is_node, is_nothing, nothing, token, node, rule, many, ◌·◌, ◌∣◌, maybe, key, name, in_parentheses, in_braces, step_sign, assign_sign, expression, semicolon, controlled, condition}
use Rattle.ba_parse.specs.Readings.{Reading, Inner, in_length, in_statement, in_for, in_printf, in_expression, in_arguments, deeper_in, read_key, read_name, read_token, read_node, read_nothing, read_either, read_maybe, read_many, next_is, ◌▹◌, operand_start, statement_start, label_start, item_start, simple_start, read_parenthesized, read_bracketed, read_expression, read_array_length, maybe_length, read_target, is_called, read_simple, read_simples, read_block, read_condition, maybe_expression, read_if, read_switch, read_label, read_group, read_while, read_do, read_for, read_printf, read_keyword_statement, read_statement, read_semicolon}
use Rattle.ba_parse.proofs.Certified.{Opened, opened, head_of, outcome, always, Reads, BeginsWith, Sample, reads_after, false_is_true}
use Rattle.ba_parse.proofs.Combined.{none, left_of, reads_known}
use Rattle.ba_parse.proofs.Repeated.{stays_next, reads_either}
use Rattle.ba_parse.proofs.Goods.{Good, good_token, good_then, good_skip, good_either, good_maybe, good_many, good_rule, sample_second, first_either}
use Rattle.ba_parse.proofs.Lookahead.{two, Takes, takes_token, takes_then, takes_node, second_token_then, second_rule, second_then, picks_true, picks_false, good_ahead, Second}
use Rattle.ba_parse.proofs.ExpressionReadings.{Below, example, good_sign, good_key, good_name, in_expression_goes, but_brace, for_head, printed, parenthesized, bracketed_or_empty, expression_in_parentheses, expression_in_brackets, arguments_in_parentheses, good_expression}

-- WHAT MAY GO ON

abbrev pub but_semicolon : Classes
but_semicolon c = not (mark punct.Semicolon c)

abbrev pub but_end : Classes
but_end c = not (mark punct.Semicolon c || mark punct.CloseParenthesis c)

abbrev pub parameter_goes : Classes
parameter_goes = declaration_word false or only class.Name or mark punct.OpenBracket

-- AN ELSE, OR NONE

next_else : (ts : List Token) → next_is (word keyword.Else) ts ≡ is_else (head_of ts)
next_else [] = refl
next_else (t ∷ ts) = refl

abbrev else_next : List Token → Bool
else_next = next_is (word keyword.Else)

abbrev not_else_next : List Token → Bool
not_else_next ts = not (next_is (word keyword.Else) ts)

abbrev nothing_here : Reading
nothing_here = read_node no_else read_nothing

reads_no_else : (n : ℕ) → Reads n not_else_next (node no_else nothing) none nothing_here
reads_no_else n = record {
  taken = λ ts h. record {
    spelled = is_node no_else nothing [] is_nothing;
    cut = refl;
    pairs = ap (λ b. not b && true) (sym (next_else ts)) ∙ ap (λ b. b && true) h;
    level = refl;
    near = λ us e. refl;
  };
  given = λ f rest u pairs ends. whole f rest (opened u);
}
  where
    whole : (f : List Mark) (rest : List Token) → Opened (node no_else nothing) f →
        nothing_here (yield f ++ rest) ≡ outcome n f rest
    whole f rest o =
        let is_nil : f ≡ node_of no_else [] = o.2 ∙ ap (node_of no_else) (opened o.1) in
        ap (λ x. nothing_here (yield x ++ rest)) is_nil ∙ ap (λ x. outcome n x rest) (sym is_nil)

not_true : (b : Bool) → (not b && true) ≡ true → b ≡ false
not_true false h = refl
not_true true h = absurd (false_is_true h)

not_false : (b : Bool) → b ≡ false → not b ≡ true
not_false b h = ap not h

pub sample_no_else : Sample (node no_else nothing)
sample_no_else = record {
  tree = node_of no_else [];
  spelled = is_node no_else nothing [] is_nothing;
  pairs = λ next h. ap (λ b. not b && true) h;
  calm = refl;
}

begins_no_else : (f : List Mark) → Spells (node no_else nothing) f → BeginsWith none true (yield f)
begins_no_else f u =
    let o : Opened (node no_else nothing) f = opened u in
    subst (λ x. BeginsWith none true (yield x)) (sym (o.2 ∙ ap (node_of no_else) (opened o.1))) refl

module _ (n : ℕ) (inner : Inner) (b : Below n inner) where
  abbrev else_part : Part
  else_part = key keyword.Else · controlled

  abbrev read_else : Reading
  read_else = read_key keyword.Else ▹ deeper_in inner in_statement

  reads_else : Reads n else_next else_part none read_else
  reads_else =
      reads_after n (key keyword.Else) (λ f. controlled) (read_key keyword.Else)
      (λ f. deeper_in inner in_statement) none none none statement_start false else_next
      (reads_known n (word keyword.Else)) (λ f u. b.below_statement.reads) (λ f u. b.below_statement.first)
      (λ f u. b.below_statement.sample)
      (record { apart = λ c e. refl; through = λ e. absurd (false_is_true e); last = λ c e. e })

  else_begins : (f : List Mark) → Spells else_part f → BeginsWith (word keyword.Else) false (yield f)
  else_begins f u =
      let o : Opened else_part f = opened u in
      let t : Opened (key keyword.Else) o.0 = opened o.2 in
      subst (λ x. BeginsWith (word keyword.Else) false (yield x)) (sym (o.4 ∙ ap (λ x. x ++ o.1) t.2)) t.1

  pub good_else : Good n (key keyword.Else · controlled ∣ node no_else nothing) (word keyword.Else) true none
      (read_either else_next read_else nothing_here)
  good_else = record {
    reads =
        reads_either n else_part (node no_else nothing) else_next read_else nothing_here always else_next
        not_else_next none none none reads_else (reads_no_else n)
        (λ ts o h. h) (λ ts o h. not_false (else_next ts) h)
        (λ ts h. stays_next (word keyword.Else) ts (left_of (read_else ts)))
        (λ ts h. stays_next (word keyword.Else) ts (left_of (nothing_here ts)))
        (λ f rest u. begins (yield f) rest (else_begins f u))
        (λ f rest u pairs ends. without f rest (opened u) pairs)
        (λ c e. e) (λ c e. e);
    first = record {
      begins = λ f u. first_either {starts = word keyword.Else} {second = none}
          (word keyword.Else) (record { begins = else_begins }) (record { begins = begins_no_else }) refl f
          (opened u);
    };
    sample = sample_second sample_no_else;
  }
    where
      begins : (ts rest : List Token) → BeginsWith (word keyword.Else) false ts → else_next (ts ++ rest)
          ≡ true
      begins [] rest h = absurd (false_is_true h)
      begins (t ∷ ts) rest h = h

      without : (f : List Mark) (rest : List Token) → Opened (node no_else nothing) f →
          no_else_lost f (head_of rest) ≡ true → else_next (yield f ++ rest) ≡ false
      without f rest o pairs =
          let is_nil : f ≡ node_of no_else [] = o.2 ∙ ap (node_of no_else) (opened o.1) in
          ap (λ x. else_next (yield x ++ rest)) is_nil ∙ next_else rest
          ∙ not_true (is_else (head_of rest)) (ap (λ x. no_else_lost x (head_of rest)) (sym is_nil) ∙ pairs)

  -- DECLARATIONS

  good_array_length : Good n (rule array_length) (mark punct.OpenBracket) false none (read_array_length inner)
  good_array_length = good_rule array_length refl (bracketed_or_empty inner in_length
      (operand_start or mark punct.CloseBracket) b.below_length refl refl refl)

  pub good_maybe_length : Good n (maybe (rule array_length)) (mark punct.OpenBracket) true
      (mark punct.OpenBracket) (maybe_length inner)
  good_maybe_length = good_maybe (mark punct.OpenBracket) (mark punct.OpenBracket) good_array_length refl refl

  -- a list of targets, declarators and the like
  good_target : Good n (rule target) (only class.Name) false (mark punct.OpenBracket) (read_target inner)
  good_target =
      good_rule target refl
      (good_then (mark punct.OpenBracket) (good_name n)
      (good_maybe (mark punct.OpenBracket) (mark punct.OpenBracket) (expression_in_brackets n inner b) refl
      refl) refl)

  -- SIMPLE STATEMENTS

  good_call : Good n (name · in_parentheses (rule arguments)) (only class.Name) false none
      (read_name ▹ read_parenthesized inner in_arguments)
  good_call = good_then none (good_name n) (arguments_in_parentheses n inner b) refl

  abbrev change_start : Classes
  change_start = step_sign or assign_sign

  good_change : Good n (token step_sign ∣ token assign_sign · expression) change_start false
      in_expression_goes
      (read_either (next_is step_sign) (read_token step_sign) (read_token assign_sign ▹ read_expression
      inner))
  good_change =
      good_either step_sign change_start in_expression_goes
      (good_token n step_sign (example step_sign (class.Punct punct.Increment) refl refl))
      (good_then in_expression_goes (good_token n assign_sign (example assign_sign (class.Punct punct.Assign)
      refl refl)) (good_expression n inner b) refl)
      refl refl

  abbrev read_change : Reading
  read_change = read_either (next_is step_sign) (read_token step_sign) (read_token assign_sign
      ▹ read_expression inner)

  good_assignment : Good n (rule target · (token step_sign ∣ token assign_sign · expression))
      (only class.Name) false in_expression_goes (read_target inner ▹ read_change)
  good_assignment = good_then in_expression_goes good_target good_change refl

  is_called_two : (ts : List Token) → is_called ts ≡ two (only class.Name) (mark punct.OpenParenthesis) ts
  is_called_two [] = refl
  is_called_two (t ∷ ts) = refl

  takes_target : Takes (only class.Name) (read_target inner)
  takes_target =
      takes_node (only class.Name) target (read_name ▹ read_maybe (mark punct.OpenBracket)
      (read_bracketed inner in_expression))
      (takes_then (only class.Name) read_name (takes_token (only class.Name))
      (good_maybe (mark punct.OpenBracket) (mark punct.OpenBracket) (expression_in_brackets n inner b) refl
      refl))

  second_target : Second (rule target) (mark punct.OpenBracket) true
  second_target =
      second_rule target
      (second_token_then (only class.Name)
      (good_maybe (mark punct.OpenBracket) (mark punct.OpenBracket) (expression_in_brackets n inner b) refl
      refl).first)

  pub good_simple : Good n (rule simple) simple_start false in_expression_goes (read_simple inner)
  good_simple =
      good_rule simple refl
      (good_either step_sign simple_start in_expression_goes
      (good_then (mark punct.OpenBracket)
      (good_token n step_sign (example step_sign (class.Punct punct.Increment) refl refl)) good_target
      refl)
      (good_ahead is_called (only class.Name) (mark punct.OpenParenthesis) (only class.Name)
      in_expression_goes is_called_two good_call good_assignment
      (takes_then (only class.Name) read_name (takes_token (only class.Name))
      (arguments_in_parentheses n inner b))
      (takes_then (only class.Name) (read_target inner) takes_target good_change)
      (picks_true (only class.Name) (mark punct.OpenParenthesis) good_call.first
      (second_token_then (only class.Name) (arguments_in_parentheses n inner b).first) refl)
      (picks_false (only class.Name) (mark punct.OpenParenthesis) good_assignment.first
      (second_then (mark punct.OpenBracket or change_start) good_target.first second_target good_change.first
      refl) refl)
      refl refl)
      refl refl)

  pub good_simples : Good n (rule simples) simple_start false but_end (read_simples inner)
  good_simples =
      good_rule simples refl
      (good_then but_end good_simple
      (good_many (mark punct.Comma) but_end (good_then in_expression_goes (good_sign n punct.Comma refl refl)
      good_simple refl) refl) refl)

  -- STATEMENTS

  good_condition : Good n condition (mark punct.OpenParenthesis) false none (read_condition inner)
  good_condition = expression_in_parentheses n inner b

  pub good_semicolon : Good n semicolon (mark punct.Semicolon) false none read_semicolon
  good_semicolon = good_sign n punct.Semicolon refl refl

  pub good_maybe_expression : Good n (maybe expression) operand_start true in_expression_goes
      (maybe_expression inner)
  good_maybe_expression = good_maybe operand_start in_expression_goes (good_expression n inner b) refl refl

  pub good_block : Good n (rule block) (mark punct.OpenBrace) false none (read_block inner)
  good_block =
      good_rule block refl
      (good_then none (good_sign n punct.OpenBrace refl refl)
      (good_skip (item_start or mark punct.CloseBrace) none b.below_block (good_sign n punct.CloseBrace refl
      refl) refl refl) refl)

  good_if : Good n (key keyword.If · condition · controlled · (key keyword.Else · controlled ∣ node no_else
      nothing)) (word keyword.If) false none (read_if inner)
  good_if =
      good_then none (good_key n keyword.If refl refl)
      (good_then none good_condition (good_then none b.below_statement good_else refl) refl) refl

  good_switch : Good n (key keyword.Switch · condition · in_braces (many (rule group))) (word keyword.Switch)
      false none (read_switch inner)
  good_switch =
      good_then none (good_key n keyword.Switch refl refl)
      (good_then none good_condition
      (good_then none (good_sign n punct.OpenBrace refl refl)
      (good_skip (label_start or mark punct.CloseBrace) none b.below_groups (good_sign n punct.CloseBrace refl
      refl) refl refl) refl) refl) refl

  good_while : Good n (key keyword.While · condition · controlled) (word keyword.While) false none
      (read_while inner)
  good_while = good_then none (good_key n keyword.While refl refl)
      (good_then none good_condition b.below_statement refl) refl

  good_do : Good n (key keyword.Do · controlled · key keyword.While · condition · semicolon) (word keyword.Do)
      false none (read_do inner)
  good_do =
      good_then none (good_key n keyword.Do refl refl)
      (good_then none b.below_statement
      (good_then none (good_key n keyword.While refl refl) (good_then none good_condition good_semicolon refl)
      refl) refl) refl

  good_for : Good n (key keyword.For · in_parentheses for_head · controlled) (word keyword.For) false none
      (read_for inner)
  good_for =
      good_then none (good_key n keyword.For refl refl)
      (good_then none (parenthesized inner in_for b.below_for refl refl) b.below_statement refl) refl

  good_printf : Good n (key keyword.Printf · in_parentheses printed · semicolon) (word keyword.Printf) false
      none (read_printf inner)
  good_printf =
      good_then none (good_key n keyword.Printf refl refl)
      (good_then none (parenthesized inner in_printf b.below_printf refl refl) good_semicolon refl) refl

  good_return : Good n (key keyword.Return · maybe expression · semicolon) (word keyword.Return) false none
      (read_key keyword.Return ▹ maybe_expression inner ▹ read_semicolon)
  good_return =
      good_then none (good_key n keyword.Return refl refl)
      (good_skip (operand_start or mark punct.Semicolon) none good_maybe_expression good_semicolon refl refl)
      refl

  good_assert : Good n (key keyword.Assert · condition · semicolon) (word keyword.Assert) false none
      (read_key keyword.Assert ▹ read_condition inner ▹ read_semicolon)
  good_assert = good_then none (good_key n keyword.Assert refl refl)
      (good_then none good_condition good_semicolon refl) refl

  abbrev from_assert : Classes
  from_assert = word keyword.Assert or word keyword.Printf

  abbrev from_return : Classes
  from_return = word keyword.Return or from_assert

  abbrev from_break : Classes
  from_break = word keyword.Break or word keyword.Continue or from_return

  abbrev from_for : Classes
  from_for = word keyword.For or from_break

  abbrev from_while : Classes
  from_while = word keyword.While or word keyword.Do or from_for

  abbrev from_if : Classes
  from_if = word keyword.If or word keyword.Switch or from_while

  good_keyword_statement : Good n
      (key keyword.If · condition · controlled · (key keyword.Else · controlled ∣ node no_else nothing)
      ∣ key keyword.Switch · condition · in_braces (many (rule group))
      ∣ key keyword.While · condition · controlled
      ∣ key keyword.Do · controlled · key keyword.While · condition · semicolon
      ∣ key keyword.For · in_parentheses for_head · controlled
      ∣ key keyword.Break · semicolon
      ∣ key keyword.Continue · semicolon
      ∣ key keyword.Return · maybe expression · semicolon
      ∣ key keyword.Assert · condition · semicolon
      ∣ key keyword.Printf · in_parentheses printed · semicolon)
      from_if false none (read_keyword_statement inner)
  good_keyword_statement =
      good_either (word keyword.If) from_if none good_if
      (good_either (word keyword.Switch) (word keyword.Switch or from_while) none good_switch
      (good_either (word keyword.While) from_while none good_while
      (good_either (word keyword.Do) (word keyword.Do or from_for) none good_do
      (good_either (word keyword.For) from_for none good_for
      (good_either (word keyword.Break) from_break none (good_then none (good_key n keyword.Break refl refl)
      good_semicolon refl)
      (good_either (word keyword.Continue) (word keyword.Continue or from_return) none
      (good_then none (good_key n keyword.Continue refl refl) good_semicolon refl)
      (good_either (word keyword.Return) from_return none good_return
      (good_either (word keyword.Assert) from_assert none good_assert good_printf refl refl) refl refl) refl
      refl) refl refl) refl refl) refl refl) refl refl) refl refl) refl refl

  pub good_statement : Good n (rule statement) statement_start false none (read_statement inner)
  good_statement =
      good_rule statement refl
      (good_either (mark punct.OpenBrace) statement_start none good_block
      (good_either (mark punct.Semicolon) (mark punct.Semicolon or simple_start or from_if) none
      good_semicolon
      (good_either simple_start (simple_start or from_if) none (good_then none good_simple good_semicolon
      refl) good_keyword_statement refl refl) refl refl) refl refl)

  -- GROUPS

  good_label : Good n (rule label) label_start false none (read_label inner)
  good_label =
      good_rule label refl
      (good_either (word keyword.Case) label_start none
      (good_then none (good_key n keyword.Case refl refl)
      (good_then none (good_expression n inner b) (good_sign n punct.Colon refl refl) refl) refl)
      (good_then none (good_key n keyword.Default refl refl) (good_sign n punct.Colon refl refl) refl)
      refl refl)

  good_group : Good n (rule group) label_start false statement_start (read_group inner)
  good_group =
      good_rule group refl
      (good_then statement_start good_label (good_many statement_start statement_start good_statement refl)
      refl)

  pub good_groups : Good n (many (rule group)) label_start true but_brace
      (read_many (next_is label_start) (read_group inner))
  good_groups = good_many label_start but_brace good_group refl
