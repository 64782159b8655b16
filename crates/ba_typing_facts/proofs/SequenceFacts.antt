-- What the facts of typed statements, one after the other, owe to the place where they are, and how such
-- statements are put together.
use Rattle.std.proofs.Common.{◌≡◌, ℕ, ◌+◌, Bool, true, false, ◌||◌, List, [], ◌∷◌, ◌++◌, map, flat_map, refl, sym, ◌∙◌, ap, subst, arith, append-nil, append_assoc, inl, inr, IsPermutation}
use Rattle.std.specs.List.{list_all, list_any, range_with_len}
use Rattle.std.proofs.lemmas.Bool.{and_from, and_parts, or_cases}
use Rattle.std.proofs.lemmas.List.{map-append}
use Rattle.std.proofs.lemmas.List.Concat.{flat_map-append}
use Rattle.std.proofs.lemmas.List.Folds.{list_all-append, list_any-append}
use Rattle.std.proofs.lemmas.List.Sorted.{IsPermutation-refl, IsPermutation-append, IsPermutation-append_comm, IsPermutation-append_left, IsPermutation-trans}
use Rattle.ba_numbers.specs.declared.ids.CallId.{CallId}
use Rattle.ba_numbers.specs.declared.ids.StmtId.{StmtId}
use Rattle.ba_numbers.specs.declared.ids.VarId.{VarId}
use Rattle.ba_tree.specs.Facts.{StmtFacts, leaf_facts, around, as_loop, as_switch, naming, initialising, has_kind, has_variable}
use Rattle.ba_tree.specs.declared.tree.Parts.{Parts}
use Rattle.ba_tree.specs.declared.tree.StmtKind.{StmtKind}
use Rattle.ba_typing.specs.Names.{exits_of_loop, exits_of_switch}
use Rattle.ba_typing.specs.declared.names.Exits.{Exits}
use Rattle.ba_typing_facts.proofs.FittingFacts.{call_numbers, range-append}

-- NUMBERS: each of so many from the first on occurs once in the list

pub record IsEach (first count : ℕ) (ns : List ℕ) : Type 0 where
  pub order : IsPermutation (range_with_len first count) ns

pub each_none : (first : ℕ) → IsEach first 0 []
each_none first = record { order = IsPermutation-refl [] }

pub each_is : {first count : ℕ} {ns : List ℕ} → ns ≡ range_with_len first count → IsEach first count ns
each_is {first} {count} {ns} is = record {
  order = subst (λ ms. IsPermutation (range_with_len first count) ms) (sym is)
      (IsPermutation-refl (range_with_len first count));
}

pub each-append : {first m n : ℕ} {xs ys : List ℕ} → IsEach first m xs → IsEach (first + m) n ys
    → IsEach first (m + n) (xs ++ ys)
each-append {first} {m} {n} {xs} {ys} h k = record {
  order = subst (λ ms. IsPermutation ms (xs ++ ys)) (range-append first m n)
      (IsPermutation-append (range_with_len first m) xs (range_with_len (first + m) n) ys h.order k.order);
}

-- a part in the middle moves to the front
pub each_front : {first count : ℕ} (xs ys zs : List ℕ) → IsEach first count (xs ++ (ys ++ zs))
    → IsEach first count (ys ++ (xs ++ zs))
each_front {first} {count} xs ys zs h = record {
  order = subst (λ ms. IsPermutation (range_with_len first count) ms) (append_assoc ys xs zs)
      (IsPermutation-trans (range_with_len first count) (xs ++ (ys ++ zs)) ((ys ++ xs) ++ zs) h.order
      (subst (λ ms. IsPermutation ms ((ys ++ xs) ++ zs)) (append_assoc xs ys zs)
      (IsPermutation-append_left zs (xs ++ ys) (ys ++ xs) (IsPermutation-append_comm xs ys))));
}

-- STATEMENTS

abbrev pub stmt_numbers : List (StmtId × StmtKind) → List ℕ
stmt_numbers = map (λ (n : StmtId × StmtKind). n.0.0)

abbrev pub numbers_in : List StmtFacts → List (StmtId × StmtKind)
numbers_in = flat_map (λ (s : StmtFacts). s.numbers)

abbrev pub variables_in : List StmtFacts → List VarId
variables_in = flat_map (λ (s : StmtFacts). s.variables)

abbrev pub calls_in : List StmtFacts → List CallId
calls_in = flat_map (λ (s : StmtFacts). s.calls)

abbrev pub all_sound : List StmtFacts → Bool
all_sound = list_all (λ (s : StmtFacts). s.is_sound)

abbrev pub some_break : List StmtFacts → Bool
some_break = list_any (λ (s : StmtFacts). s.breaks)

abbrev pub some_continue : List StmtFacts → Bool
some_continue = list_any (λ (s : StmtFacts). s.continues)

-- After these counts of statements and calls there are this many of each. They name variables among these. A
-- `break` or `continue` of a statement around them may be in them.
pub record AreStmts (p : Parts) (owned : List VarId) (before count calls_before calls : ℕ) (exits : Exits)
    (ss : List StmtFacts) : Type 0 where
  pub sound : all_sound ss ≡ true
  pub names : list_all (has_variable owned) (variables_in ss) ≡ true
  pub each_number : IsEach (before + 1) count (stmt_numbers (numbers_in ss))
  pub kinds : list_all (has_kind p) (numbers_in ss) ≡ true
  pub each_call : IsEach (calls_before + 1) calls (call_numbers (calls_in ss))
  pub breaks : some_break ss ≡ true → exits.breaks ≡ true
  pub continues : some_continue ss ≡ true → exits.continues ≡ true

module _ (p : Parts) (owned : List VarId) where
  pub stmts_none : (before calls_before : ℕ) (exits : Exits) → AreStmts p owned before 0 calls_before 0
      exits []
  stmts_none before calls_before exits = record {
    sound = refl;
    names = refl;
    each_number = each_none (before + 1);
    kinds = refl;
    each_call = each_none (calls_before + 1);
    breaks = λ wrong. cc;
    continues = λ wrong. cc;
  }

  both_named : (test : VarId → Bool) (xs ys : List VarId) → list_all test xs ≡ true → list_all test ys ≡ true
      → list_all test (xs ++ ys) ≡ true
  both_named test xs ys h k = list_all-append test xs ys ∙ and_from (list_all test xs) (list_all test ys) h k

  both_kinds : (xs ys : List (StmtId × StmtKind)) → list_all (has_kind p) xs ≡ true → list_all
      (has_kind p) ys ≡ true
      → list_all (has_kind p) (xs ++ ys) ≡ true
  both_kinds xs ys h k = list_all-append (has_kind p) xs ys
      ∙ and_from (list_all (has_kind p) xs) (list_all (has_kind p) ys) h k

  numbers_split : (xs ys : List StmtFacts)
      → stmt_numbers (numbers_in (xs ++ ys)) ≡ stmt_numbers (numbers_in xs) ++ stmt_numbers (numbers_in ys)
  numbers_split xs ys = ap stmt_numbers (flat_map-append (λ (s : StmtFacts). s.numbers) xs ys)
      ∙ map-append (λ (n : StmtId × StmtKind). n.0.0) (numbers_in xs) (numbers_in ys)

  calls_split : (xs ys : List StmtFacts)
      → call_numbers (calls_in (xs ++ ys)) ≡ call_numbers (calls_in xs) ++ call_numbers (calls_in ys)
  calls_split xs ys = ap call_numbers (flat_map-append (λ (s : StmtFacts). s.calls) xs ys)
      ∙ map-append (λ (c : CallId). c.0) (calls_in xs) (calls_in ys)

  -- one part after the other
  pub stmts-append : {before m n calls_before k l : ℕ} {exits : Exits} {xs ys : List StmtFacts}
      → AreStmts p owned before m calls_before k exits xs
      → AreStmts p owned (before + m) n (calls_before + k) l exits ys
      → AreStmts p owned before (m + n) calls_before (k + l) exits (xs ++ ys)
  stmts-append {before} {m} {n} {calls_before} {k} {l} {exits} {xs} {ys} h g =
      let place : (before + m) + 1 ≡ (before + 1) + m = omega arith in
      let calls_place : (calls_before + k) + 1 ≡ (calls_before + 1) + k = omega arith in record {
        sound = list_all-append (λ (s : StmtFacts). s.is_sound) xs ys
            ∙ and_from (all_sound xs) (all_sound ys) h.sound g.sound;
        names = ap (list_all (has_variable owned)) (flat_map-append (λ (s : StmtFacts). s.variables) xs ys)
            ∙ both_named (has_variable owned) (variables_in xs) (variables_in ys) h.names g.names;
        each_number = subst (IsEach (before + 1) (m + n)) (sym (numbers_split xs ys))
            (each-append h.each_number
            (subst (λ i. IsEach i n (stmt_numbers (numbers_in ys))) place g.each_number));
        kinds = ap (list_all (has_kind p)) (flat_map-append (λ (s : StmtFacts). s.numbers) xs ys)
            ∙ both_kinds (numbers_in xs) (numbers_in ys) h.kinds g.kinds;
        each_call = subst (IsEach (calls_before + 1) (k + l)) (sym (calls_split xs ys))
            (each-append h.each_call
            (subst (λ i. IsEach i l (call_numbers (calls_in ys))) calls_place g.each_call));
        breaks = λ any. elim (or_cases (some_break xs) (some_break ys)
            (sym (list_any-append (λ (s : StmtFacts). s.breaks) xs ys) ∙ any))
            [ inl e ↦ h.breaks e | inr e ↦ g.breaks e ];
        continues = λ any. elim (or_cases (some_continue xs) (some_continue ys)
            (sym (list_any-append (λ (s : StmtFacts). s.continues) xs ys) ∙ any))
            [ inl e ↦ h.continues e | inr e ↦ g.continues e ];
      }

  -- if a loop is around
  pub loosen : {before m calls_before k : ℕ} {exits : Exits} {xs : List StmtFacts}
      → AreStmts p owned before m calls_before k exits xs
      → AreStmts p owned before m calls_before k exits_of_loop xs
  loosen h = record {
    sound = h.sound;
    names = h.names;
    each_number = h.each_number;
    kinds = h.kinds;
    each_call = h.each_call;
    breaks = λ any. refl;
    continues = λ any. refl;
  }

  all_front : {A : Type 0} (test : A → Bool) (xs ys zs : List A) → list_all test (xs ++ (ys ++ zs)) ≡ true
      → list_all test (ys ++ (xs ++ zs)) ≡ true
  all_front test xs ys zs h =
      let both = and_parts (list_all test xs) (list_all test (ys ++ zs))
      (sym (list_all-append test xs (ys ++ zs)) ∙ h) in
      let others = and_parts (list_all test ys) (list_all test zs) (sym (list_all-append test ys zs)
      ∙ both.1) in
      list_all-append test ys (xs ++ zs) ∙ and_from (list_all test ys) (list_all test (xs ++ zs)) others.0
      (list_all-append test xs zs ∙ and_from (list_all test xs) (list_all test zs) both.0 others.1)

  any_front : {A : Type 0} (test : A → Bool) (xs ys zs : List A) → list_any test (ys ++ (xs ++ zs)) ≡ true
      → list_any test (xs ++ (ys ++ zs)) ≡ true
  any_front test xs ys zs h = list_any-append test xs (ys ++ zs)
      ∙ ap (λ b. list_any test xs || b) (list_any-append test ys zs)
      ∙ swapped (list_any test xs) (list_any test ys) (list_any test zs)
      (sym (list_any-append test ys (xs ++ zs) ∙ ap (λ b. list_any test ys || b)
      (list_any-append test xs zs)) ∙ h)
    where
      swapped : (a b c : Bool) → (b || (a || c)) ≡ true → (a || (b || c)) ≡ true
      swapped true b c h = refl
      swapped false b c h = h

  flat_front : {A : Type 0} (g : StmtFacts → List A) (xs ys zs : List StmtFacts)
      → flat_map g (xs ++ (ys ++ zs)) ≡ flat_map g xs ++ (flat_map g ys ++ flat_map g zs)
  flat_front g xs ys zs = flat_map-append g xs (ys ++ zs) ∙ ap (λ r. flat_map g xs ++ r)
      (flat_map-append g ys zs)

  each_map : {A : Type 0} {first count : ℕ} (g : StmtFacts → List A) (num : A → ℕ) (xs ys zs : List StmtFacts)
      → IsEach first count (map num (flat_map g (xs ++ (ys ++ zs))))
      → IsEach first count (map num (flat_map g (ys ++ (xs ++ zs))))
  each_map {first = first} {count} g num xs ys zs h = subst (IsEach first count) (sym (split ys xs))
      (each_front (map num (flat_map g xs)) (map num (flat_map g ys)) (map num (flat_map g zs))
      (subst (IsEach first count) (split xs ys) h)) where
        split : (us vs : List StmtFacts) → map num (flat_map g (us ++ (vs ++ zs)))
            ≡ map num (flat_map g us) ++ (map num (flat_map g vs) ++ map num (flat_map g zs))
        split us vs = ap (map num) (flat_front g us vs zs)
            ∙ map-append num (flat_map g us) (flat_map g vs ++ flat_map g zs)
            ∙ ap (λ r. map num (flat_map g us) ++ r) (map-append num (flat_map g vs) (flat_map g zs))

  all_flat_front : {A : Type 0} (g : StmtFacts → List A) (test : A → Bool) (xs ys zs : List StmtFacts)
      → list_all test (flat_map g (xs ++ (ys ++ zs))) ≡ true → list_all test (flat_map g (ys ++ (xs ++ zs)))
      ≡ true
  all_flat_front g test xs ys zs h = ap (list_all test) (flat_front g ys xs zs)
      ∙ all_front test (flat_map g xs) (flat_map g ys) (flat_map g zs)
      (ap (list_all test) (sym (flat_front g xs ys zs)) ∙ h)

  -- the facts of a later part may be told first
  pub told_first : {before m calls_before k : ℕ} {exits : Exits} (xs ys zs : List StmtFacts)
      → AreStmts p owned before m calls_before k exits (xs ++ (ys ++ zs))
      → AreStmts p owned before m calls_before k exits (ys ++ (xs ++ zs))
  told_first xs ys zs h = record {
    sound = all_front (λ (s : StmtFacts). s.is_sound) xs ys zs h.sound;
    names = all_flat_front (λ (s : StmtFacts). s.variables) (has_variable owned) xs ys zs h.names;
    each_number = each_map (λ (s : StmtFacts). s.numbers) (λ (n : StmtId × StmtKind). n.0.0) xs ys zs
        h.each_number;
    kinds = all_flat_front (λ (s : StmtFacts). s.numbers) (has_kind p) xs ys zs h.kinds;
    each_call = each_map (λ (s : StmtFacts). s.calls) (λ (c : CallId). c.0) xs ys zs h.each_call;
    breaks = λ any. h.breaks (any_front (λ (s : StmtFacts). s.breaks) xs ys zs any);
    continues = λ any. h.continues (any_front (λ (s : StmtFacts). s.continues) xs ys zs any);
  }

  -- STATEMENTS AROUND OTHERS

  -- of one statement
  one_number : (x : StmtFacts) → stmt_numbers (numbers_in (x ∷ [])) ≡ stmt_numbers x.numbers
  one_number x = ap stmt_numbers (append-nil x.numbers)

  one_call : (x : StmtFacts) → call_numbers (calls_in (x ∷ [])) ≡ call_numbers x.calls
  one_call x = ap call_numbers (append-nil x.calls)

  -- a statement that holds others, whose facts are its own and theirs
  pub around_are : {before m calls_before k : ℕ} {exits : Exits} (own : StmtFacts) (parts : List StmtFacts)
      → own.breaks ≡ false → own.continues ≡ false
      → AreStmts p owned before m calls_before k exits (own ∷ parts)
      → AreStmts p owned before m calls_before k exits (around own parts ∷ [])
  around_are {before} {m} {calls_before} {k} own parts no_break no_continue h = record {
    sound = and_from _ _ h.sound refl;
    names = ap (list_all (has_variable owned)) (append-nil (own.variables ++ variables_in parts)) ∙ h.names;
    each_number = subst (IsEach (before + 1) m) (sym (one_number (around own parts))) h.each_number;
    kinds = ap (list_all (has_kind p)) (append-nil (own.numbers ++ numbers_in parts)) ∙ h.kinds;
    each_call = subst (IsEach (calls_before + 1) k) (sym (one_call (around own parts))) h.each_call;
    breaks = λ any. h.breaks (ap (λ b. b || some_break parts) no_break ∙ in_one (some_break parts) any);
    continues = λ any. h.continues
        (ap (λ b. b || some_continue parts) no_continue ∙ in_one (some_continue parts) any);
  } where
    in_one : (b : Bool) → (b || false) ≡ true → b ≡ true
    in_one true h = refl
    in_one false h = h

  pub block_are : {before m calls_before k : ℕ} {exits : Exits} (parts : List StmtFacts)
      → AreStmts p owned before m calls_before k exits parts
      → AreStmts p owned before m calls_before k exits (around (leaf_facts [] [] true) parts ∷ [])
  block_are parts h = around_are (leaf_facts [] [] true) parts refl refl (record {
    sound = h.sound;
    names = h.names;
    each_number = h.each_number;
    kinds = h.kinds;
    each_call = h.each_call;
    breaks = h.breaks;
    continues = h.continues;
  })

  -- a loop takes what leaves it
  pub loop_are : {before m calls_before k : ℕ} {exits : Exits} (outside : Exits) (x : StmtFacts)
      → AreStmts p owned before m calls_before k exits (x ∷ [])
      → AreStmts p owned before m calls_before k outside (as_loop x ∷ [])
  loop_are outside x h = record {
    sound = h.sound;
    names = h.names;
    each_number = h.each_number;
    kinds = h.kinds;
    each_call = h.each_call;
    breaks = λ any. cc;
    continues = λ any. cc;
  }

  -- a `switch` takes each `break`
  pub switch_are : {before m calls_before k : ℕ} {exits : Exits} (x : StmtFacts)
      → AreStmts p owned before m calls_before k (exits_of_switch exits) (x ∷ [])
      → AreStmts p owned before m calls_before k exits (as_switch x ∷ [])
  switch_are x h = record {
    sound = h.sound;
    names = h.names;
    each_number = h.each_number;
    kinds = h.kinds;
    each_call = h.each_call;
    breaks = λ any. cc;
    continues = h.continues;
  }

  -- a statement that names a variable too
  pub naming_are : {before m calls_before k : ℕ} {exits : Exits} (v : VarId) (x : StmtFacts)
      → has_variable owned v ≡ true → AreStmts p owned before m calls_before k exits (x ∷ [])
      → AreStmts p owned before m calls_before k exits (naming v x ∷ [])
  naming_are v x is_owned h = record {
    sound = h.sound;
    names = and_from (has_variable owned v) (list_all (has_variable owned) (variables_in
        (x ∷ []))) is_owned h.names;
    each_number = h.each_number;
    kinds = h.kinds;
    each_call = h.each_call;
    breaks = h.breaks;
    continues = h.continues;
  }

  pub initialising_are : {before m calls_before k : ℕ} {exits : Exits} (v : VarId) (x : StmtFacts)
      → AreStmts p owned before m calls_before k exits (naming v x ∷ [])
      → AreStmts p owned before m calls_before k exits (initialising v x ∷ [])
  initialising_are v x h = record {
    sound = h.sound;
    names = h.names;
    each_number = h.each_number;
    kinds = h.kinds;
    each_call = h.each_call;
    breaks = h.breaks;
    continues = h.continues;
  }

-- NUMBERS AND KINDS ALONE

module _ (p : Parts) where
  pub record AreTold (before count calls_before calls : ℕ) (ss : List StmtFacts) : Type 0 where
    pub each_number : IsEach (before + 1) count (stmt_numbers (numbers_in ss))
    pub kinds : list_all (has_kind p) (numbers_in ss) ≡ true
    pub each_call : IsEach (calls_before + 1) calls (call_numbers (calls_in ss))

  pub are_told : {owned : List VarId} {before m calls_before k : ℕ} {exits : Exits} {xs : List StmtFacts}
      → AreStmts p owned before m calls_before k exits xs → AreTold before m calls_before k xs
  are_told h = record { each_number = h.each_number; kinds = h.kinds; each_call = h.each_call }

  pub told-append : {before m n calls_before k l : ℕ} {xs ys : List StmtFacts}
      → AreTold before m calls_before k xs
      → AreTold (before + m) n (calls_before + k) l ys → AreTold before (m + n) calls_before (k + l)
      (xs ++ ys)
  told-append {before} {m} {n} {calls_before} {k} {l} {xs} {ys} h g =
      let place : (before + m) + 1 ≡ (before + 1) + m = omega arith in
      let calls_place : (calls_before + k) + 1 ≡ (calls_before + 1) + k = omega arith in record {
        each_number = subst (IsEach (before + 1) (m + n)) (sym (numbers_split p [] xs ys))
            (each-append h.each_number (subst (λ i. IsEach i n (stmt_numbers
            (numbers_in ys))) place g.each_number));
        kinds = ap (list_all (has_kind p)) (flat_map-append (λ (s : StmtFacts). s.numbers) xs ys)
            ∙ both_kinds p [] (numbers_in xs) (numbers_in ys) h.kinds g.kinds;
        each_call = subst (IsEach (calls_before + 1) (k + l)) (sym (calls_split p [] xs ys))
            (each-append h.each_call (subst (λ i. IsEach i l (call_numbers
            (calls_in ys))) calls_place g.each_call));
      }

  pub told_front : {before m calls_before k : ℕ} (xs ys zs : List StmtFacts)
      → AreTold before m calls_before k (xs ++ (ys ++ zs)) → AreTold before m calls_before k (ys ++
      (xs ++ zs))
  told_front xs ys zs h = record {
    each_number = each_map p [] (λ (s : StmtFacts). s.numbers) (λ (n : StmtId × StmtKind). n.0.0) xs ys zs
        h.each_number;
    kinds = all_flat_front p [] (λ (s : StmtFacts). s.numbers) (has_kind p) xs ys zs h.kinds;
    each_call = each_map p [] (λ (s : StmtFacts). s.calls) (λ (c : CallId). c.0) xs ys zs h.each_call;
  }
