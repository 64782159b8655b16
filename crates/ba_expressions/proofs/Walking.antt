-- What the walk over an expression gives, from what it gives for the parts.
use Rattle.std.proofs.Common.{◌≡◌, ℕ, ◌+◌, not, Option, None, Some, Result, Ok, Err, List, [], ◌++◌, refl, sym, ◌∙◌, ap, subst, arith, append_assoc}
use Rattle.std.proofs.lemmas.List.{append-nil}
use Rattle.std.specs.Option.{is_some}
use Rattle.std.specs.Prelude.{IfOk}
use Rattle.ba_tokens.specs.declared.token.TokenKind.{TokenKind}
use Rattle.ba_tokens.specs.declared.token.TokenKind.TheVariants as kind
use Rattle.ba_numbers.specs.declared.ids.At.{At}
use Rattle.ba_numbers.specs.declared.numbers.CType.{CType}
use Rattle.ba_numbers.specs.declared.numbers.UnOp.{UnOp}
use Rattle.ba_typing.specs.Expressions.{Typed, TypedCall, typed_unary, typed_cast, typed_binary, typed_select, typed_element, typed_constant_kind, typed_called, with_more_faults}
use Rattle.ba_typing.specs.Faults.{fault_if, array_name_faults}
use Rattle.ba_expressions.specs.Inferring.{Gives, Infers, InfersCall, Stands, after, with_faults}
use Rattle.ba_typing.specs.declared.fault.Cause.TheVariants.{WrongKind}
use Rattle.ba_typing.specs.declared.fault.Fault.{Fault}
use Rattle.ba_expressions.specs.declared.inferred.Inferred.{Inferred}
use Rattle.ba_expressions.specs.declared.inferred.InferredCall.{InferredCall}
use Rattle.ba_typing.specs.declared.names.Operator.{Operator}
use Rattle.ba_typing.specs.declared.names.Operator.TheVariants.{Value, AndAlso, OrElse}
use Rattle.ba_typing.specs.declared.meanings.Meaning.{Meaning}
use Rattle.ba_expressions.specs.declared.tally.Tally.{Tally}
use Rattle.ba_expressions.proofs.Tallies.{after-as, after-then, faults-then}

zero-more : (n : ℕ) → 0 + n ≡ n
zero-more n = omega arith

pub nothing-more : (t : Tally) → t ≡ after t 0 []
nothing-more t = let same : t.calls ≡ t.calls + 0 = omega arith in ap (λ n. record t { calls = n }) same

-- WHAT IS IN AN OPERATOR'S EXPRESSION

pub unary-calls : (at : At) (op : Option UnOp) (s : Typed) → (typed_unary at op s).calls ≡ s.calls
unary-calls at None s = zero-more s.calls
unary-calls at (Some op) s = zero-more s.calls

pub unary-faults : (at : At) (op : Option UnOp) (s : Typed) → (typed_unary at op s).faults ≡ [] ++ s.faults
unary-faults at None s = append-nil s.faults
unary-faults at (Some op) s = append-nil s.faults

pub cast-calls : (at : At) (t : Option CType) (s : Typed) → (typed_cast at t s).calls ≡ s.calls
cast-calls at None s = zero-more s.calls
cast-calls at (Some t) s = zero-more s.calls

pub cast-faults : (at : At) (t : Option CType) (s : Typed)
    → (typed_cast at t s).faults ≡ fault_if (not (is_some t)) WrongKind at ++ s.faults
cast-faults at None s = refl
cast-faults at (Some t) s = append-nil s.faults

-- the fault of the tag is before the cast's own
pub tagged-faults : (at : At) (t : Option CType) (tag : List Fault) (s : Typed)
    → (with_more_faults tag (typed_cast at t s)).faults
    ≡ (tag ++ fault_if (not (is_some t)) WrongKind at) ++ s.faults
tagged-faults at t tag s = ap (λ xs. tag ++ xs) (cast-faults at t s)
    ∙ sym (append_assoc tag (fault_if (not (is_some t)) WrongKind at) s.faults)

tagged-cast : (at : At) (t : Option CType) (tag : List Fault) (a j : Inferred)
    → ((s : Typed) → Infers a s → Infers j (typed_cast at t s))
    → (s : Typed) → Infers a s → Infers j (with_more_faults tag (typed_cast at t s))
tagged-cast at t tag a j more s is = ap (with_more_faults tag) (more s is)

pub tagged-casts : {E : Type 0} (at : At) (t : Option CType) (tag : List Fault) (a : Inferred)
    (r : Result Inferred E)
    → IfOk r (λ j. (s : Typed) → Infers a s → Infers j (typed_cast at t s))
    → IfOk r (λ j. (s : Typed) → Infers a s → Infers j (with_more_faults tag (typed_cast at t s)))
tagged-casts at t tag a (Ok j) more = tagged-cast at t tag a j more
tagged-casts at t tag a (Err e) more = more

pub element-calls : (at : At) (m : Meaning) (s : Typed) → (typed_element at m s).calls ≡ s.calls
element-calls at m s = zero-more s.calls

pub element-faults : (at : At) (m : Meaning) (s : Typed)
    → (typed_element at m s).faults ≡ array_name_faults m at ++ s.faults
element-faults at m s = ap (λ xs. array_name_faults m at ++ xs) (append-nil s.faults)

binary-calls : (op : Operator) (s u : Typed) → (typed_binary op s u).calls ≡ s.calls + u.calls
binary-calls (Value op) s u = ap (λ n. n + u.calls) (zero-more s.calls)
binary-calls AndAlso s u = ap (λ n. n + u.calls) (zero-more s.calls)
binary-calls OrElse s u = ap (λ n. n + u.calls) (zero-more s.calls)

binary-faults : (op : Operator) (s u : Typed) → (typed_binary op s u).faults ≡ s.faults ++ u.faults
binary-faults (Value op) s u = ap (λ xs. s.faults ++ xs) (append-nil u.faults)
binary-faults AndAlso s u = ap (λ xs. s.faults ++ xs) (append-nil u.faults)
binary-faults OrElse s u = ap (λ xs. s.faults ++ xs) (append-nil u.faults)

-- ONE OPERAND, after faults that are found before it

last-of : {E : Type 0} (f : Typed → Typed) (a : Inferred) (s : Typed) (old new : Tally) (r : Result Inferred
    E)
    → Infers a s → new ≡ after old (f s).calls (f s).faults
    → IfOk r (λ j. (s : Typed) → Infers a s → Infers j (f s)) → Gives (f s) old new r
last-of f a s old new (Ok j) infers is more = (more s infers, is)
last-of f a s old new (Err e) infers is more = tt

pub gives-over : {E : Type 0} (f : Typed → Typed) (typing : ℕ → Typed) (fs : List Fault) (a : Inferred)
    (old mid new : Tally) (r : Result Inferred E) → mid ≡ with_faults old fs → Stands a (typing mid.calls) mid
    new
    → ((s : Typed) → (f s).calls ≡ s.calls) → ((s : Typed) → (f s).faults ≡ fs ++ s.faults)
    → IfOk r (λ j. (s : Typed) → Infers a s → Infers j (f s)) → Gives (f (typing old.calls)) old new r
gives-over f typing fs a old mid new r is stands calls faults more =
    let s = typing old.calls in
    let stands : Stands a s (with_faults old fs) new = subst (λ m. Stands a (typing m.calls) m new) is
    stands in
    last-of f a s old new r stands.0
    (after-as old new s.calls (f s).calls (fs ++ s.faults) (f s).faults (sym (calls s)) (sym (faults s))
    (faults-then old (with_faults old fs) new s.calls fs s.faults refl stands.1)) more

-- THE FORMS WITHOUT OPERANDS

constant-calls : (at : At) (k : TokenKind) → (typed_constant_kind at k).calls ≡ 0
constant-calls at (kind.Name name) = refl
constant-calls at (kind.Keyword k) = refl
constant-calls at (kind.Constant t z) = refl
constant-calls at kind.Quoted = refl
constant-calls at (kind.Punct p) = refl

constant-faults : (at : At) (k : TokenKind) → (typed_constant_kind at k).faults ≡ []
constant-faults at (kind.Name name) = refl
constant-faults at (kind.Keyword k) = refl
constant-faults at (kind.Constant t z) = refl
constant-faults at kind.Quoted = refl
constant-faults at (kind.Punct p) = refl

pub gives-constant : {E : Type 0} (at : At) (k : TokenKind) (t : Tally) (r : Result Inferred E)
    → IfOk r (λ j. Infers j (typed_constant_kind at k)) → Gives (typed_constant_kind at k) t t r
gives-constant at k t (Ok j) is = let s = typed_constant_kind at k in (
  is,
  after-as t t 0 s.calls [] s.faults (sym (constant-calls at k)) (sym (constant-faults at k))
      (nothing-more t),
)
gives-constant at k t (Err e) is = tt

pub gives-called : {E : Type 0} (at : At) (j : InferredCall) (c : TypedCall) (old new : Tally) (r : Result
    Inferred E)
    → InfersCall j c → new ≡ after old (typed_called at c).calls (typed_called at c).faults
    → IfOk r (λ k. (c : TypedCall) → InfersCall j c → Infers k (typed_called at c)) →
    Gives (typed_called at c)
    old new r
gives-called at j c old new (Ok k) infers is more = (more c infers, is)
gives-called at j c old new (Err e) infers is more = tt

-- TWO OPERANDS: a chain's step

pub chain-step : (op : Operator) (right : ℕ → Typed) (base mid new : Tally) (s : Typed) (a b j : Inferred)
    → Stands a s base mid → Stands b (right mid.calls) mid new
    → ((s u : Typed) → Infers a s → Infers b u → Infers j (typed_binary op s u))
    → Stands j (typed_binary op s (right (base.calls + s.calls))) base new
chain-step op right base mid new s a b j first second more =
    let u = right (base.calls + s.calls) in
    let counted : mid.calls ≡ base.calls + s.calls = ap (λ (t : Tally). t.calls) first.1 in
    let second : Stands b u mid new = subst (λ n. Stands b (right n) mid new) counted second in (
      more s u first.0 second.0,
      after-as base new (s.calls + u.calls) (typed_binary op s u).calls (s.faults ++ u.faults)
          (typed_binary op
          s u).faults
          (sym (binary-calls op s u)) (sym (binary-faults op s u))
          (after-then base mid new s.calls u.calls s.faults u.faults first.1 second.1),
    )

-- THREE OPERANDS

select-last : {E : Type 0} (w a b : Inferred) (s u v : Typed) (old new : Tally) (r : Result Inferred E)
    → Infers w s → Infers a u → Infers b v → new ≡ after old (typed_select s u v).calls (typed_select s u
    v).faults
    → IfOk r (λ j. (s u v : Typed) → Infers w s → Infers a u → Infers b v → Infers j (typed_select s u v))
    → Gives (typed_select s u v) old new r
select-last w a b s u v old new (Ok j) first second third is more = (more s u v first second third, is)
select-last w a b s u v old new (Err e) first second third is more = tt

pub gives-select : {E : Type 0} (test holds fails : ℕ → Typed) (w a b : Inferred) (old one two new : Tally)
    (r : Result Inferred E) → Stands w (test old.calls) old one → Stands a (holds one.calls) one two
    → Stands b (fails two.calls) two new
    → IfOk r (λ j. (s u v : Typed) → Infers w s → Infers a u → Infers b v → Infers j (typed_select s u v))
    → Gives (let s = test old.calls in let u = holds (old.calls + s.calls) in
    typed_select s u (fails (old.calls + s.calls + u.calls))) old new r
gives-select test holds fails w a b old one two new r first second third more =
    let s = test old.calls in
    let u = holds (old.calls + s.calls) in
    let v = fails (old.calls + s.calls + u.calls) in
    let here : one.calls ≡ old.calls + s.calls = ap (λ (t : Tally). t.calls) first.1 in
    let second : Stands a u one two = subst (λ n. Stands a (holds n) one two) here second in
    let there : two.calls ≡ old.calls + s.calls + u.calls
    = ap (λ (t : Tally). t.calls) second.1 ∙ ap (λ n. n + u.calls) here in
    let third : Stands b v two new = subst (λ n. Stands b (fails n) two new) there third in
    let counted : s.calls + u.calls + v.calls ≡ 0 + s.calls + u.calls + v.calls = omega arith in
    select-last w a b s u v old new r first.0 second.0 third.0
    (after-as old new (s.calls + u.calls + v.calls) (typed_select s u v).calls (s.faults ++ u.faults ++
    v.faults)
    (typed_select s u v).faults counted
    (append_assoc s.faults u.faults v.faults
    ∙ ap (λ xs. s.faults ++ (u.faults ++ xs)) (sym (append-nil v.faults)))
    (after-then old two new (s.calls + u.calls) v.calls (s.faults ++ u.faults) v.faults
    (after-then old one two s.calls u.calls s.faults u.faults first.1 second.1) third.1)) more
