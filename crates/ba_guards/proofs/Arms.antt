-- Nodes without parts, each from the calls that make its words.
use Rattle.std.proofs.Common.{rules, ◌≡◌, ℕ, ◌<◌, ◌≤◌, ℤ, pos, Bool, true, false, not, ◌&&◌, cond, Option, Some, None, List, [], ◌++◌, length, get_or, refl, sym, ◌∙◌, ap, subst, arith, append_assoc, append-nil, length-append, ◌∷◌}
use Rattle.std.proofs.lemmas.Bool.{and_parts}
use Rattle.std.specs.Ordering.{int_eq}
use Rattle.std.specs.Prelude.{int_div, int_rem, slice_set}
use Rattle.std.proofs.Math.Bool.{and-true}
use Rattle.ba_code.specs.Facts.{Declared, is_array, is_operand, is_var}
use Rattle.ba_code.specs.Operators.{converting}
use Rattle.ba_code.specs.State.{operand_value, or_trap_at, set_variable}
use Rattle.ba_code.specs.declared.nodes.Operand.{Operand}
use Rattle.ba_code.specs.declared.nodes.Operand.TheVariants as operand
use Rattle.ba_code_laws.specs.Tracing.{Relaxes, Traced, untraced}
use Rattle.ba_guards.proofs.Going.{AreLocal, extends-none, in_turn, left-resting, means-as, means-before, means-steady, means-then, traced_of}
use Rattle.ba_guards.proofs.Growing.{fits-grown, name-at, word-later}
use Rattle.ba_guards.proofs.Leaves.{leaf-runs}
use Rattle.ba_guards.proofs.Nodes.{assign-node, check-node, emits-after, reads, word-agree}
use Rattle.ba_guards.specs.Continuing.{after_end, labels_of}
use Rattle.ba_guards.specs.Making.{Checks, Demands, Emits, Fits, Means, Part, checked, checked_by, has_value, operand_at, word_in}
use Rattle.ba_guards.specs.Parts.{binary_part, convert_part, set_part, unary_part}
use Rattle.ba_guards.specs.Reading.{arrays_at, is_live, left_from, met, places_at, variables_at}
use Rattle.ba_guards.specs.declared.builder.Builder.{Builder}
use Rattle.ba_numbers.specs.Numbers.{converted, converted_value, divides, value_of}
use Rattle.ba_numbers.specs.declared.ids.StmtId.{StmtId}
use Rattle.ba_numbers.specs.declared.numbers.BinOp.{BinOp}
use Rattle.ba_numbers.specs.declared.numbers.BinOp.TheVariants.{Mul, Div, Rem, Add, Sub, Shl, Shr, Lt, Le, Gt, Ge, Eq, Ne, And, Xor, Or}
use Rattle.ba_numbers.specs.declared.numbers.CType.{CType}
use Rattle.ba_numbers.specs.declared.numbers.UnOp.{UnOp}
use Rattle.ba_tree.specs.Acts.{after_part, then_do}
use Rattle.ba_numbers.specs.Types.{is_promoted}
use Rattle.ba_tree.specs.declared.run.Halt.{Halt}
use Rattle.ba_tree.specs.declared.run.Halt.TheVariants.{Trap}
use Rattle.ba_wordlist.specs.Facts.{are_words}
use Rattle.ba_wordlist.specs.Meaning.{Assignment, binary_value, value_at_zero, value_or, values_of}
use Rattle.ba_wordlist.specs.declared.words.WordOp.{WordOp}

-- AN OPERAND

-- what the call for an operand leaves
pub record Reads (d : Declared) (old new : Builder) (w : ℕ) (o : Operand) : Type 0 where
  pub same : new ≡ record old { words = new.words }
  pub fits : Fits d new
  pub word : Emits old.words new.words w (λ f. operand_at (values_of f old.words) old.vars o)

pub reads-by : (d : Declared) (old new : Builder) (w : ℕ) (o : Operand) → Fits d old → is_operand d o ≡ true
    → new ≡ record old { words = new.words }
    → ((d : Declared) → Fits d old → is_operand d o ≡ true
    → Emits old.words new.words w (λ f. operand_at (values_of f old.words) old.vars o)) → Reads d old new w o
reads-by d old new w o fits fit same word =
    let e = word d fits fit in record {
      same = same;
      fits = subst (Fits d) (sym same) (fits-grown d old new.words e.more fits e.grown e.fit);
      word = e;
    }

var-below : (d : Declared) (to : ℕ) → is_var d to ≡ true → to < d.vars
var-below d to h = search rules

array-below : (d : Declared) (array : ℕ) → is_array d array ≡ true → array < length d.arrays
array-below d array h = search rules

-- what another operand reads is the same with the words of the first
pub operand-kept : (d : Declared) (old b1 : Builder) (f : Assignment) (o : Operand) → Fits d old →
    {w : ℕ} {first : Operand}
    → Reads d old b1 w first →
    operand_at (values_of f old.words) old.vars o ≡ operand_at (values_of f b1.words) b1.vars o
operand-kept d old b1 f (operand.Const z) fits r = refl
operand-kept d old b1 f (operand.Var n) fits r =
    sym (word-later f old.words b1.words r.word.more (get_or old.vars n 0) r.word.grown
    (name-at (length old.words) old.vars n (omega (arith, fits.live)) fits.vars))
    ∙ ap (λ vars. word_in b1.words (get_or vars n 0) f) (sym (ap (λ (b : Builder). b.vars) r.same))

-- a variable gets a value of the words so far
assigned-by : (d : Declared) (old b1 new : Builder) (to : ℕ) (w v : ℕ) (o : Operand) (ws : List WordOp)
    (value : ℤ → ℤ)
    → Fits d old → is_var d to ≡ true → Reads d old b1 w o
    → Emits b1.words ws v (λ f. value (word_in b1.words w f)) →
    new ≡ record b1 { words = ws; vars = slice_set b1.vars to v; written = b1.written ++ to ∷ [] }
    → Means d (λ f r. untraced (λ c. set_variable to (value (operand_value c o)) c)) old new
assigned-by d old b1 new to w v o ws value fits there reads_o e is =
    let whole : Emits old.words ws v (λ f. value (operand_at (values_of f old.words) old.vars o)) =
    emits-after old.words b1.words ws w v (λ f. operand_at (values_of f old.words) old.vars o)
    (λ f. value (word_in b1.words w f)) (λ f. value (operand_at (values_of f old.words) old.vars o))
    reads_o.word e
    (λ f. ap value (reads_o.word.has f)) in
    let form : new
    ≡ record old { words = ws; vars = slice_set old.vars to v; written = old.written ++ to ∷ [] } =
    is ∙ ap (λ (b : Builder). record b {
      words = ws;
      vars = slice_set b.vars to v;
      written = b.written ++ to ∷ [];
    }) reads_o.same in
    means-as d (λ f r. untraced (λ c. set_variable to (value (operand_at (values_of f old.words) old.vars
    o)) c))
    (λ f r. untraced (λ c. set_variable to (value (operand_value c o)) c)) old new
    (assign-node d old new fits to (var-below d to there) ws v
    (λ f. value (operand_at (values_of f old.words) old.vars o)) whole form)
    (λ f r cs. ap (λ z. untraced (λ c. set_variable to z c) (traced_of f old cs)) (ap value (sym (reads f
    old cs o))))

module _ (d : Declared) (old b1 new : Builder) (to : ℕ) (w : ℕ) (o : Operand) (fits : Fits d old)
    (same : b1 ≡ record old { words = b1.words })
    (word : (d : Declared) → Fits d old → is_operand d o ≡ true
    → Emits old.words b1.words w (λ f. operand_at (values_of f old.words) old.vars o)) where
  pub set-arm : (is_var d to && is_operand d o) ≡ true
      → new ≡ record b1 { vars = slice_set b1.vars to w; written = b1.written ++ to ∷ [] }
      → Means d (λ f r. set_part to o) old new
  set-arm h is =
      let both = and_parts (is_var d to) (is_operand d o) h in
      let e = reads-by d old b1 w o fits both.1 same word in
      assigned-by d old b1 new to w w o b1.words (λ z. z) fits both.0 e (record {
        more = [];
        grown = sym (append-nil b1.words);
        fit = e.word.fit;
        name = e.word.name;
        has = λ f. refl;
      }) is

  pub unary-arm : (op : UnOp) (t : CType) (ws : List WordOp) (v : ℕ) →
      (is_var d to && is_promoted t && is_operand d o) ≡ true
      → (are_words b1.words ≡ true → is_promoted t ≡ true → w < length b1.words
      → Emits b1.words ws v (λ f. converting.unary op t (word_in b1.words w f)))
      → new ≡ record b1 { words = ws; vars = slice_set b1.vars to v; written = b1.written ++ to ∷ [] } →
      Means d (λ f r. unary_part to op t o) old new
  unary-arm op t ws v h e is =
      let all = and_parts (is_var d to && is_promoted t) (is_operand d o) h in
      let two = and_parts (is_var d to) (is_promoted t) all.0 in
      let r = reads-by d old b1 w o fits all.1 same word in
      assigned-by d old b1 new to w v o ws (λ z. converting.unary op t z) fits two.0 r (e r.word.fit two.1
      r.word.name) is

  pub convert-arm : (t : CType) (ws : List WordOp) (v : ℕ) → (is_var d to && is_operand d o) ≡ true
      → (are_words b1.words ≡ true → w < length b1.words →
      Emits b1.words ws v (λ f. converted t (word_in b1.words w f)))
      → new ≡ record b1 { words = ws; vars = slice_set b1.vars to v; written = b1.written ++ to ∷ [] } →
      Means d (λ f r. convert_part to t o) old new
  convert-arm t ws v h e is =
      let both = and_parts (is_var d to) (is_operand d o) h in
      let r = reads-by d old b1 w o fits both.1 same word in
      assigned-by d old b1 new to w v o ws (λ z. converted t z) fits both.0 r (e r.word.fit r.word.name) is

-- A CHECK of nothing

pub check-nothing : (d : Declared) (b : Builder) (halt : Halt) (test : Assignment → Bool) → Fits d b
    → ((f : Assignment) → test f ≡ true) → Means d (λ f r. checked (λ c. test f) halt) b b
check-nothing d b halt test fits passes = means-steady d (λ f r. checked (λ c. test f) halt) b b (λ f.
    true) (record {
      extends = extends-none b;
      fits = fits;
      logs = λ f. refl;
      keeps = λ f. sym (and-true (met f b));
      runs = λ r f cs.
          let vs = values_of f b.words in
          leaf-runs (labels_of b.exits) (checked (λ c. test f) halt) (is_live vs b) (variables_at vs b.vars)
          (variables_at vs b.vars) (left_from vs 0 b.exits) (arrays_at vs b.arrays) (arrays_at vs b.arrays)
          (places_at vs b) cs
          (left-resting vs 0 b.exits)
          (λ on. ap (λ t. after_end (labels_of b.exits) (checked_by t halt (record {
            code = record {
              variables = variables_at vs b.vars;
              arrays = arrays_at vs b.arrays;
              choices =
                  cs;
            };
            places = places_at vs b;
          }))) (passes f))
          (λ off. refl);
    })

-- BINARY OPERATORS

divided : (z : Bool) (q : ℤ) (t : CType) (other : ℤ) → not z ≡ true
    → converted_value t (cond z None (Some q)) ≡ Some (value_or (converted_value t (cond z None (Some q)))
    other)
divided true q t other h = absurd (cc)
divided false q t other h = refl

undivided : (z : Bool) (q : ℤ) (t : CType) → not z ≡ false → converted_value t (cond z None (Some q)) ≡ None
undivided true q t h = refl
undivided false q t h = absurd (cc)

some-value : (op : BinOp) (t : CType) (a b : ℤ) → has_value op t b ≡ true
    → converting.binary op t a b ≡ Some (binary_value op t a b)
unfolding value_of
some-value Mul t a b h = refl
some-value Div t a b h = divided (int_eq (converted t b) (pos 0)) (int_div (converted t a) (converted t b)) t
    (value_at_zero Div t a) h
some-value Rem t a b h = divided (int_eq (converted t b) (pos 0)) (int_rem (converted t a) (converted t b)) t
    (value_at_zero Rem t a) h
some-value Add t a b h = refl
some-value Sub t a b h = refl
some-value Shl t a b h = refl
some-value Shr t a b h = refl
some-value Lt t a b h = refl
some-value Le t a b h = refl
some-value Gt t a b h = refl
some-value Ge t a b h = refl
some-value Eq t a b h = refl
some-value Ne t a b h = refl
some-value And t a b h = refl
some-value Xor t a b h = refl
some-value Or t a b h = refl

no-value : (op : BinOp) (t : CType) (a b : ℤ) → has_value op t b ≡ false → converting.binary op t a b ≡ None
unfolding value_of
no-value Div t a b h = undivided (int_eq (converted t b) (pos 0)) (int_div (converted t a) (converted t b))
    t h
no-value Rem t a b h = undivided (int_eq (converted t b) (pos 0)) (int_rem (converted t a) (converted t b))
    t h
no-value _ t a b h = absurd (cc)

-- a part that traps if it has no value
trapped : (to : ℕ) (stmt : StmtId) (o : Option ℤ) (z : ℤ) (b : Bool) (s : Traced) → (b ≡ true →
    o ≡ Some z) → (b ≡ false → o ≡ None)
    → then_do (checked_by b (Trap stmt) s) (after_part (untraced (λ c. set_variable to z c)))
    ≡ untraced (λ c. then_do (or_trap_at stmt o c) (set_variable to)) s
trapped to stmt o z true s some none =
    sym (ap (λ x. untraced (λ c. then_do (or_trap_at stmt x c) (set_variable to)) s) (some refl))
trapped to stmt o z false s some none =
    sym (ap (λ x. untraced (λ c. then_do (or_trap_at stmt x c) (set_variable to)) s) (none refl))

pub divisor-arm : (d : Declared) (b new : Builder) (op : BinOp) (t : CType) (divisor w : ℕ) (ws : List
    WordOp) (halt : Halt)
    → Fits d b → divides op ≡ true → Emits b.words ws w (λ f. converted t (word_in b.words divisor f))
    → Demands d (record b { words = ws }) new (word_in ws w)
    → Checks d b new halt (λ f. has_value op t (word_in b.words divisor f))
divisor-arm d b new op t divisor w ws halt fits divide e asks = record {
  same = asks.same;
  means = check-node d b new fits ws w (λ f. converted t (word_in b.words divisor f)) e asks halt
      (λ f. has_value op t (word_in b.words divisor f))
      (λ f. ap (λ x. not (x && int_eq (converted t (word_in b.words divisor f)) (pos 0))) divide);
}

pub no-divisor-arm : (d : Declared) (b : Builder) (op : BinOp) (t : CType) (divisor : ℕ) (halt : Halt) →
    Fits d b
    → divides op ≡ false → Checks d b b halt (λ f. has_value op t (word_in b.words divisor f))
no-divisor-arm d b op t divisor halt fits divide = record {
  same = refl;
  means = check-nothing d b halt (λ f. has_value op t (word_in b.words divisor f)) fits
      (λ f. ap (λ x. not (x && int_eq (converted t (word_in b.words divisor f)) (pos 0))) divide);
}

-- two operands, a check of words so far, and then a variable gets a value of them
module _ (d : Declared) (old b1 b2 b3 new : Builder) (to : ℕ) (lw rw : ℕ) (left right : Operand) (fits :
    Fits d old)
    (there : is_var d to ≡ true) (first : Reads d old b1 lw left) (second : Reads d b1 b2 rw right) (stmt :
    StmtId)
    (test : ℤ → ℤ → Bool) (value : ℤ → ℤ → ℤ) (outcome : ℤ → ℤ → Option ℤ)
    (some : (x y : ℤ) → test x y ≡ true → outcome x y ≡ Some (value x y))
    (none : (x y : ℤ) → test x y ≡ false → outcome x y ≡ None)
    (check : Checks d b2 b3 (Trap stmt) (λ f. test (word_in b2.words lw f) (word_in b2.words rw f)))
    (ws : List WordOp) (w : ℕ) (e : Emits b3.words ws w (λ f. value (word_in b3.words lw f) (word_in
    b3.words rw f)))
    (is : new ≡ record b3 {
      words = ws;
      vars = slice_set b3.vars to w;
      written = b3.written ++ to ∷ [];
    }) where
  grown2 : b2.words ≡ old.words ++ (first.word.more ++ second.word.more)
  grown2 = second.word.grown ∙ ap (λ ws. ws ++ second.word.more) first.word.grown
      ∙ append_assoc old.words first.word.more second.word.more

  left-here : lw < length b2.words
  left-here = omega (
    arith,
    first.word.name,
    ap length second.word.grown,
    length-append b1.words
        second.word.more,
  )

  vars1 : b1.vars ≡ old.vars
  vars1 = ap (λ (b : Builder). b.vars) first.same

  vars2 : b2.vars ≡ old.vars
  vars2 = ap (λ (b : Builder). b.vars) second.same ∙ vars1

  left-value : (f : Assignment) → word_in b2.words lw f ≡ operand_at (values_of f old.words) old.vars left
  left-value f = word-later f b1.words b2.words second.word.more lw second.word.grown first.word.name ∙
      first.word.has f

  abbrev h : Assignment → ℤ
  h f = value (word_in b2.words lw f) (word_in b2.words rw f)

  whole : Emits b3.words ws w h
  whole = record {
    more = e.more;
    grown = e.grown;
    fit = e.fit;
    name = e.name;
    has = λ f. e.has f
        ∙ ap (λ x. value x (word_in b3.words rw f)) (word-later f b2.words b3.words
        check.means.extends.more lw
        check.means.extends.words left-here)
        ∙ ap (λ y. value (word_in b2.words lw f) y) (word-later f b2.words b3.words
        check.means.extends.more rw
        check.means.extends.words second.word.name);
  }

  abbrev test_part : Part
  test_part f r = checked (λ c. test (word_in b2.words lw f) (word_in b2.words rw f)) (Trap stmt)

  abbrev value_part : Part
  value_part f r = untraced (λ c. set_variable to (h f) c)

  local-parts : AreLocal b2 test_part value_part
  local-parts f g same =
      let l = word-agree f g b2.words lw same in
      let m = word-agree f g b2.words rw same in (
        ap (λ x. λ (r : Relaxes). checked (λ c. test x (word_in b2.words rw f)) (Trap stmt)) l
            ∙ ap (λ y. λ (r : Relaxes). checked (λ c. test (word_in b2.words lw g) y) (Trap stmt)) m,
        ap (λ x. λ (r : Relaxes). untraced (λ c. set_variable to (value x (word_in b2.words rw f)) c)) l
            ∙ ap (λ y. λ (r : Relaxes). untraced (λ c. set_variable to (value (word_in b2.words lw g) y)
            c)) m,
      )

  pub tried-means : Means d (λ f r. untraced (λ c. then_do
      (or_trap_at stmt (outcome (operand_value c left) (operand_value c right)) c) (set_variable to))) old new
  tried-means =
      let second_part = assign-node d b3 new check.means.fits to (var-below d to there) ws w h whole is in
      let both = means-then d test_part value_part b2 b3 new local-parts check.means second_part in
      let same2 : b2 ≡ record old { words = b2.words } =
      second.same ∙ ap (λ (b : Builder). record b { words = b2.words }) first.same in
      let there2 : Means d (in_turn test_part value_part) (record old { words = b2.words }) new =
      subst (λ b. Means d (in_turn test_part value_part) b new) same2 both in
      means-as d (in_turn test_part value_part)
      (λ f r. untraced (λ c. then_do (or_trap_at stmt (outcome (operand_value c left) (operand_value c
      right)) c) (set_variable to)))
      old new
      (means-before d (in_turn test_part value_part) old new b2.words (first.word.more ++ second.word.more)
      fits grown2
      second.word.fit there2)
      (λ f r cs.
      let x = word_in b2.words lw f in
      let y = word_in b2.words rw f in
      let s = traced_of f old cs in
      let left_is : operand_value s.code left ≡ x = reads f old cs left ∙ sym (left-value f) in
      let right_is : operand_value s.code right ≡ y = reads f old cs right
      ∙ ap (λ vs. operand_at (values_of f old.words) vs right) (sym vars1)
      ∙ sym (second-old f) in
      trapped to stmt (outcome x y) (value x y) (test x y) s (some x y) (none x y)
      ∙ ap (λ x. untraced (λ c. then_do (or_trap_at stmt (outcome x y) c) (set_variable to)) s) (sym left_is)
      ∙ ap (λ y. untraced (λ c. then_do (or_trap_at stmt (outcome (operand_value s.code left) y) c)
      (set_variable to)) s)
      (sym right_is)) where
        second-old : (f : Assignment) →
            word_in b2.words rw f ≡ operand_at (values_of f old.words) b1.vars right
        second-old f = second.word.has f ∙ later right where
          later : (o : Operand) →
              operand_at (values_of f b1.words) b1.vars o ≡ operand_at (values_of f old.words) b1.vars o
          later (operand.Const z) = refl
          later (operand.Var n) = word-later f old.words b1.words first.word.more (get_or b1.vars n 0)
              first.word.grown
              (subst (λ vs. get_or vs n 0 < length old.words) (sym vars1)
              (name-at (length old.words) old.vars n (omega (arith, fits.live)) fits.vars))

pub binary-arm : (d : Declared) (old b1 b2 b3 new : Builder) (to : ℕ) (op : BinOp) (t : CType) (lw rw : ℕ)
    (left right : Operand)
    (stmt : StmtId) → Fits d old →
    (is_var d to && is_promoted t && is_operand d left && is_operand d right) ≡ true
    → b1 ≡ record old { words = b1.words }
    → ((d : Declared) → Fits d old → is_operand d left ≡ true
    → Emits old.words b1.words lw (λ f. operand_at (values_of f old.words) old.vars left))
    → b2 ≡ record b1 { words = b2.words }
    → ((d : Declared) → Fits d b1 → is_operand d right ≡ true
    → Emits b1.words b2.words rw (λ f. operand_at (values_of f b1.words) b1.vars right))
    → ((d : Declared) (halt : Halt) → Fits d b2 → rw < length b2.words
    → Checks d b2 b3 halt (λ f. has_value op t (word_in b2.words rw f)))
    → (ws : List WordOp) (w : ℕ)
    → (are_words b3.words ≡ true → is_promoted t ≡ true → lw < length b3.words → rw < length b3.words
    → Emits b3.words ws w (λ f. binary_value op t (word_in b3.words lw f) (word_in b3.words rw f)))
    → new ≡ record b3 { words = ws; vars = slice_set b3.vars to w; written = b3.written ++ to ∷ [] }
    → Means d (λ f r. binary_part to op t left right stmt) old new
binary-arm d old b1 b2 b3 new to op t lw rw left right stmt fits h same1 word1 same2 word2 check ws w e is =
    let all = and_parts (is_var d to && is_promoted t && is_operand d left) (is_operand d right) h in
    let three = and_parts (is_var d to && is_promoted t) (is_operand d left) all.0 in
    let two = and_parts (is_var d to) (is_promoted t) three.0 in
    let first = reads-by d old b1 lw left fits three.1 same1 word1 in
    let second = reads-by d b1 b2 rw right first.fits all.1 same2 word2 in
    let checks = check d (Trap stmt) second.fits second.word.name in
    let le : length b2.words ≤ length b3.words =
    omega (arith, ap length checks.means.extends.words, length-append b2.words checks.means.extends.more) in
    let le1 : length b1.words ≤ length b2.words =
    omega (arith, ap length second.word.grown, length-append b1.words second.word.more) in
    tried-means d old b1 b2 b3 new to lw rw left right fits two.0 first second stmt (λ x y. has_value op t y)
    (binary_value op t) (converting.binary op t) (some-value op t) (no-value op t) checks ws w
    (e checks.means.fits.words two.1 (omega (arith, first.word.name, le, le1)) (omega (
      arith,
      second.word.name,
      le,
    ))) is
