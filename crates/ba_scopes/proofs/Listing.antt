-- Functions that are found by maps: what an entry keeps, and what is found.
use Rattle.std.proofs.Common.{◌≡◌, ℕ, suc, ◌+◌, ◌<◌, ◌≤◌, Bool, true, false, not, ◌&&◌, ◌||◌, cond, Option, None, Some, List, [], ◌∷◌, ◌++◌, length, drop, get_or, slice_get, refl, sym, ◌∙◌, ap, subst, arith}
use Rattle.std.specs.Prelude.{option_and_then, is_some}
use Rattle.std.proofs.Math.Bool.{or-false, or-true}
use Rattle.std.proofs.lemmas.List.Folds.{list_any-append}
use Rattle.std.proofs.lemmas.Option.{slice_get-get_or}
use Rattle.ba_typing.specs.Names.{definition_in, is_declared_in, same_name}
use Rattle.ba_scopes.specs.Storage.{AreCounted, AreListed, first_from, number_in}
use Rattle.ba_scopes.specs.declared.number_maps.NumberMap.{NumberMap}
use Rattle.ba_typing.specs.declared.meanings.Signature.{Signature}
use Rattle.ba_typing.proofs.SignatureFacts.{count_one_more}
use Rattle.ba_scopes.proofs.Storing.{at-front, behind-front, same-is, slice-past}

-- what is there, else the other
otherwise : Option ℕ → Option ℕ → Option ℕ
otherwise None o = o
otherwise (Some n) o = Some n

kept : (b : Bool) (i : ℕ) (rest all o : Option ℕ) → all ≡ otherwise rest o
    → cond b (Some i) all ≡ otherwise (cond b (Some i) rest) o
unfolding otherwise
kept true i rest all o is = refl
kept false i rest all o is = is

first-push : (i : ℕ) (name : List ℕ) (ss : List Signature) (s : Signature) → first_from i name (ss ++ s ∷ [])
    ≡ otherwise (first_from i name ss) (cond (s.is_definition && same_name s.name name) (Some (i + length
    ss)) None)
unfolding otherwise
first-push i name [] s = let same : i ≡ i + 0 = omega arith in
    ap (λ n. cond (s.is_definition && same_name s.name name) (Some n) None) same
first-push i name (x ∷ ss) s = let same : i + 1 + length ss ≡ i + suc (length ss) = omega arith in
    kept (x.is_definition && same_name x.name name) i (first_from (i + 1) name ss) (first_from (i + 1) name
    (ss ++ s ∷ []))
    (cond (s.is_definition && same_name s.name name) (Some (i + suc (length ss))) None)
    (first-push (i + 1) name ss s
    ∙ ap (λ n. otherwise (first_from (i + 1) name ss) (cond (s.is_definition && same_name s.name name)
    (Some n) None)) same)

-- the first definition of a name stays
entered : (defines same : Bool) (p : ℕ) (mine found : Option ℕ) → (same ≡ true → mine ≡ found)
    → cond ((defines && not (is_some mine)) && same) (Some p) found
    ≡ otherwise found (cond (defines && same) (Some p) None)
unfolding otherwise
entered true true p mine None is = ap (λ m. cond ((true && not (is_some m)) && true) (Some p) None) (is refl)
entered true true p mine (Some n) is = ap (λ m. cond ((true && not (is_some m)) && true) (Some p) (Some n))
    (is refl)
entered false true p mine None is = refl
entered false true p mine (Some n) is = refl
entered true false p None None is = refl
entered true false p None (Some n) is = refl
entered true false p (Some m) None is = refl
entered true false p (Some m) (Some n) is = refl
entered false false p mine None is = refl
entered false false p mine (Some n) is = refl

named-more : (same : Bool) (p : ℕ) (old : Option ℕ) (b : Bool) → is_some old ≡ b
    → is_some (cond same (Some p) old) ≡ (b || (same || false))
named-more true p old b is = sym (or-true b)
named-more false p old b is = is ∙ sym (or-false b)

module _ (ds : List Signature) (names next defs more : NumberMap) (listed : AreListed ds names defs) (name :
    List ℕ)
    (p : ℕ) where
  pub list-more : (s : Signature) (is_first : Bool) → s.name ≡ name → p ≡ length ds
      → is_first ≡ (s.is_definition && not (is_some (number_in defs name)))
      → ((other : List ℕ) → number_in more other ≡ cond (is_first && same_name name other) (Some p)
      (number_in defs other))
      → ((other : List ℕ) → number_in next other ≡ cond (same_name name other) (Some p) (number_in names
      other))
      → AreListed (ds ++ s ∷ []) next more
  list-more s is_first called number first define set = record {
    named = λ other. ap is_some (set other)
        ∙ named-more (same_name name other) p (number_in names other) (is_declared_in ds other)
        (listed.named other)
        ∙ ap (λ n. is_declared_in ds other || (same_name n other || false)) (sym called)
        ∙ sym (list_any-append (λ (s : Signature). same_name s.name other) ds (s ∷ []));
    defined = λ other. define other
        ∙ ap (λ b. cond (b && same_name name other) (Some p) (number_in defs other)) first
        ∙ entered s.is_definition (same_name name other) p (number_in defs name) (number_in defs other)
        (λ same. ap (number_in defs) (same-is name other same))
        ∙ ap (λ o. otherwise o (cond (s.is_definition && same_name name other) (Some p) None))
        (listed.defined other)
        ∙ ap (λ n. otherwise (first_from 0 other ds) (cond (s.is_definition && same_name n other) (Some p)
        None)) (sym called)
        ∙ ap (λ n. otherwise (first_from 0 other ds) (cond (s.is_definition && same_name s.name other)
        (Some n) None))
        (number ∙ zero-more)
        ∙ sym (first-push 0 other ds s);
  }
    where
      zero-more : length ds ≡ 0 + length ds
      zero-more = omega arith

-- one declaration more is counted
pub count-more : (ds : List Signature) (names next defs more : NumberMap) (s : Signature) (name : List ℕ)
    (count total : ℕ) (is_declared : Bool) → AreCounted ds names defs count → s.name ≡ name
    → is_declared ≡ is_some (number_in names name) → total ≡ count + cond is_declared 0 1
    → AreListed (ds ++ s ∷ []) next more → AreCounted (ds ++ s ∷ []) next more total
count-more ds names next defs more s name count total is_declared so_far called declared one_more
    listed = record {
      listed = listed;
      counted = one_more
          ∙ ap (λ b. count + cond b 0 1) (declared ∙ so_far.listed.named name
          ∙ ap (is_declared_in ds) (sym called))
          ∙ ap (λ n. n + cond (is_declared_in ds s.name) 0 1) so_far.counted
          ∙ sym (count_one_more ds s);
    }

-- LOOKING UP

first-found : (whole : List Signature) (b : Bool) (i : ℕ) (s : Signature) (rest : Option ℕ) (found : Option
    Signature)
    → slice_get whole i ≡ Some s → option_and_then (slice_get whole) rest ≡ found
    → option_and_then (slice_get whole) (cond b (Some i) rest) ≡ cond b (Some s) found
first-found whole true i s rest found here is = here
first-found whole false i s rest found here is = is

definition-from : (whole : List Signature) (name : List ℕ) (ss : List Signature) (i : ℕ) → drop i whole ≡ ss
    → option_and_then (slice_get whole) (first_from i name ss) ≡ definition_in ss name
definition-from whole name [] i left = refl
definition-from whole name (s ∷ ss) i left = let next : suc i ≡ i + 1 = omega arith in
    first-found whole (s.is_definition && same_name s.name name) i s (first_from (i + 1) name ss)
    (definition_in ss name)
    (at-front whole i s ss left)
    (definition-from whole name ss (i + 1) (subst (λ j. drop j whole ≡ ss) next (behind-front whole i s ss
    left)))

module _ (ds : List Signature) (names defs : NumberMap) (listed : AreListed ds names defs) (name : List ℕ)
    (found : Option ℕ) (is : found ≡ number_in defs name) where
  definition-is : option_and_then (slice_get ds) found ≡ definition_in ds name
  definition-is = ap (option_and_then (slice_get ds)) (is ∙ listed.defined name) ∙ definition-from ds name
      ds 0 refl

  pub definition-none : found ≡ None → None ≡ definition_in ds name
  definition-none none = ap (option_and_then (slice_get ds)) (sym none) ∙ definition-is

  pub definition-past : (i : ℕ) → found ≡ Some i → length ds ≤ i → None ≡ definition_in ds name
  definition-past i some past = sym (slice-past ds i past) ∙ ap (option_and_then (slice_get ds)) (sym some)
      ∙ definition-is

  pub definition-some : (i : ℕ) (s : Signature) → found ≡ Some i → i < length ds → s ≡ get_or ds i s
      → Some s ≡ definition_in ds name
  definition-some i s some within here = sym (slice_get-get_or ds i s within ∙ ap Some (sym here))
      ∙ ap (option_and_then (slice_get ds)) (sym some) ∙ definition-is
