-- Lists of words in chunks.
use Rattle.std.proofs.Common.{◌≡◌, ℕ, zero, suc, ◌+◌, ◌-◌, ◌*◌, ◌<◌, ◌≤◌, List, [], ◌∷◌, ◌++◌, length, map, get_or, set, replicate, refl, sym, ◌∙◌, ap, subst, arith, append-nil, suc-mul, zero-mul}
use Rattle.std.proofs.lemmas.List.{get_or-append_right, get_or-map, get_or_append_left, get_or_past, length-map, length-replicate, map-set, map_push, replicate-append-replicate, set-append_left, set-append_right, set-get_or, set_past}
use Rattle.std.specs.List.{AllZip, concat}
use Rattle.ba_guards.specs.Chunks.{AreChunks}

-- PLACES IN CHUNKS

-- where a chunk begins
start : ℕ → ℕ → ℕ
start size zero = 0
start size (suc q) = size + start size q

start-is : (size q : ℕ) → start size q ≡ q * size
unfolding start
start-is size zero = sym (zero-mul size)
start-is size (suc q) = omega (arith, start-is size q, suc-mul q size)

word-from : (size n q r : ℕ) (cs : List (List ℕ)) → n ≡ start size q + r → r < size → AreChunks size cs
    → get_or (concat cs) n 0 ≡ get_or (get_or cs q []) r 0
unfolding start
word-from size n q r [] is below h = absurd h
word-from size n zero r (c ∷ []) is below h =
    let at : n ≡ r = omega (arith, is) in
    ap (λ ws. get_or ws n 0) (append-nil c) ∙ ap (λ k. get_or c k 0) at
word-from size n (suc q) r (c ∷ []) is below h =
    get_or_past (c ++ []) n 0 (omega (arith, is, h, ap length (append-nil c)))
word-from size n zero r (c ∷ d ∷ cs) is below h =
    let at : n ≡ r = omega (arith, is) in
    get_or_append_left c (concat (d ∷ cs)) 0 n (omega (arith, at, below, h.0)) ∙ ap (λ k. get_or c k 0) at
word-from size n (suc q) r (c ∷ d ∷ cs) is below h =
    get_or-append_right c (concat (d ∷ cs)) size n 0 h.0 (omega (arith, is))
    ∙ word-from size (n - size) q r (d ∷ cs) (omega (arith, is)) below h.1

set-from : (size n q r w : ℕ) (cs : List (List ℕ)) → n ≡ start size q + r → r < size → AreChunks size cs
    → concat (set cs q (set (get_or cs q []) r w)) ≡ set (concat cs) n w
unfolding start
set-from size n q r w [] is below h = absurd h
set-from size n zero r w (c ∷ []) is below h =
    let at : r ≡ n = omega (arith, is) in
    append-nil (set c r w) ∙ ap (λ k. set c k w) at ∙ ap (λ ws. set ws n w) (sym (append-nil c))
set-from size n (suc q) r w (c ∷ []) is below h =
    sym (set_past (c ++ []) n w (omega (arith, is, h, ap length (append-nil c))))
set-from size n zero r w (c ∷ d ∷ cs) is below h =
    let at : r ≡ n = omega (arith, is) in
    ap (λ k. set c k w ++ concat (d ∷ cs)) at
    ∙ sym (set-append_left c (concat (d ∷ cs)) n w (omega (arith, at, below, h.0)))
set-from size n (suc q) r w (c ∷ d ∷ cs) is below h =
    ap (λ ws. c ++ ws) (set-from size (n - size) q r w (d ∷ cs) (omega (arith, is)) below h.1)
    ∙ sym (set-append_right c (concat (d ∷ cs)) size n w h.0 (omega (arith, is)))

-- the word at a number, and another word put there
pub word-in-chunk : (size n q r : ℕ) (cs : List (List ℕ)) → q * size + r ≡ n → r < size → AreChunks size cs
    → get_or (get_or cs q []) r 0 ≡ get_or (concat cs) n 0
word-in-chunk size n q r cs is below h =
    sym (word-from size n q r cs (omega (arith, is, start-is size q)) below h)

pub set-in-chunk : (size n q r w : ℕ) (cs : List (List ℕ)) → q * size + r ≡ n → r < size →
    AreChunks size cs
    → concat (set cs q (set (get_or cs q []) r w)) ≡ set (concat cs) n w
set-in-chunk size n q r w cs is below h =
    set-from size n q r w cs (omega (arith, is, start-is size q)) below h

-- SHAPES

first_of : List ℕ → ℕ
first_of [] = 0
first_of (n ∷ ns) = n

others_of : List ℕ → List ℕ
others_of [] = []
others_of (n ∷ ns) = ns

-- lists of the same lengths are chunks as well
pub chunks-same : (size : ℕ) (xs ys : List (List ℕ)) → map length xs ≡ map length ys → AreChunks size xs
    → AreChunks size ys
unfolding first_of others_of
chunks-same size [] ys e h = absurd h
chunks-same size (x ∷ []) [] e h = absurd (let clash : length x ∷ [] ≡ [] = e in cc)
chunks-same size (x ∷ []) (y ∷ []) e h =
    let one : length x ≡ length y = ap first_of e in omega (arith, h, one)
chunks-same size (x ∷ []) (y ∷ z ∷ ys) e h =
    absurd (let clash : [] ≡ length z ∷ map length ys = ap others_of e in cc)
chunks-same size (x ∷ w ∷ xs) [] e h =
    absurd (let clash : length x ∷ map length (w ∷ xs) ≡ [] = e in cc)
chunks-same size (x ∷ w ∷ xs) (y ∷ []) e h =
    absurd (let clash : length w ∷ map length xs ≡ [] = ap others_of e in cc)
chunks-same size (x ∷ w ∷ xs) (y ∷ z ∷ ys) e h =
    let one : length x ≡ length y = ap first_of e in
    (omega (arith, h.0, one), chunks-same size (w ∷ xs) (z ∷ ys) (ap others_of e) h.1)

-- a list with another one of the same length
pub lengths-set : (q : ℕ) (x : List ℕ) (cs : List (List ℕ)) → q < length cs →
    length x ≡ length (get_or cs q [])
    → map length cs ≡ map length (set cs q x)
lengths-set q x cs within same =
    sym (set-get_or (map length cs) q 0)
    ∙ ap (set (map length cs) q) (get_or-map length cs q [] 0 within ∙ sym same)
    ∙ sym (map-set length cs q x)

-- CHUNKS OF ZEROS

front-chunk : (size : ℕ) (c : List ℕ) (cs : List (List ℕ)) → length c ≡ size → AreChunks size cs
    → AreChunks size (c ∷ cs)
front-chunk size c [] long h = absurd h
front-chunk size c (d ∷ cs) long h = (long, h)

pub zeros-chunks : (size q r : ℕ) → r < size
    → AreChunks size (replicate q (replicate size 0) ++ replicate r 0 ∷ [])
zeros-chunks size zero r below = omega (arith, below, length-replicate {A = ℕ} r 0)
zeros-chunks size (suc q) r below = front-chunk size (replicate size 0)
    (replicate q (replicate size 0) ++ replicate r 0 ∷ []) (length-replicate size 0)
    (zeros-chunks size q r below)

zeros-from : (size q r : ℕ) → concat (replicate q (replicate size 0) ++ replicate r 0 ∷ [])
    ≡ replicate (start size q + r) 0
unfolding start
zeros-from size zero r =
    let at : r ≡ start size zero + r = omega arith in
    append-nil (replicate r 0) ∙ ap (λ k. replicate k 0) at
zeros-from size (suc q) r =
    let at : size + (start size q + r) ≡ start size (suc q) + r = omega arith in
    ap (λ ws. replicate size 0 ++ ws) (zeros-from size q r)
    ∙ replicate-append-replicate size (start size q + r) 0
    ∙ ap (λ k. replicate k 0) at

pub zeros-in-chunks : (size n q r : ℕ) → q * size + r ≡ n
    → concat (replicate q (replicate size 0) ++ replicate r 0 ∷ []) ≡ replicate n 0
zeros-in-chunks size n q r is =
    let at : start size q + r ≡ n = omega (arith, is, start-is size q) in
    zeros-from size q r ∙ ap (λ k. replicate k 0) at

-- CHUNKS BEHIND HANDLES

module _ {X : Type 0} (f : X → List ℕ) where
  pub read-shared : (size n q r : ℕ) (xs : List X) (x : X) (ws : List ℕ) (w : ℕ) → q * size + r ≡ n →
      r < size
      → q < length xs → x ≡ get_or xs q x → ws ≡ f x → w ≡ get_or ws r 0 → AreChunks size (map f xs)
      → w ≡ get_or (concat (map f xs)) n 0
  read-shared size n q r xs x ws w is below within x_is ws_is w_is h =
      w_is
      ∙ ap (λ v. get_or v r 0) (ws_is ∙ ap f x_is ∙ sym (get_or-map f xs q x [] within))
      ∙ word-in-chunk size n q r (map f xs) is below h

  pub read-none : (size n q r : ℕ) (xs : List X) → q * size + r ≡ n → r < size → length xs ≤ q
      → AreChunks size (map f xs) → 0 ≡ get_or (concat (map f xs)) n 0
  read-none size n q r xs is below past h =
      let end : length (map f xs) ≤ q = omega (arith, past, length-map xs f) in
      sym (ap (λ v. get_or v r 0) (get_or_past (map f xs) q [] end))
      ∙ word-in-chunk size n q r (map f xs) is below h

  pub set-shared : (size n q r w : ℕ) (xs : List X) (d y : X) → q * size + r ≡ n → r < size
      → q < length xs → f y ≡ set (f (get_or xs q d)) r w → AreChunks size (map f xs)
      → concat (map f (set xs q y)) ≡ set (concat (map f xs)) n w
  set-shared size n q r w xs d y is below within y_is h =
      ap concat (map-set f xs q y)
      ∙ ap (λ v. concat (set (map f xs) q v)) y_is
      ∙ ap (λ v. concat (set (map f xs) q (set v r w))) (sym (get_or-map f xs q d [] within))
      ∙ set-in-chunk size n q r w (map f xs) is below h

  pub set-none : (size n q r w : ℕ) (xs : List X) → q * size + r ≡ n → r < size → length xs ≤ q
      → AreChunks size (map f xs) → concat (map f xs) ≡ set (concat (map f xs)) n w
  set-none size n q r w xs is below past h =
      let end : length (map f xs) ≤ q = omega (arith, past, length-map xs f) in
      sym (ap concat (set_past (map f xs) q (set (get_or (map f xs) q []) r w) end))
      ∙ set-in-chunk size n q r w (map f xs) is below h

  pub shape-shared : (size q : ℕ) (xs : List X) (d y : X) → q < length xs
      → length (f y) ≡ length (f (get_or xs q d)) → AreChunks size (map f xs)
      → AreChunks size (map f (set xs q y))
  shape-shared size q xs d y within long h =
      let inside : q < length (map f xs) = omega (arith, within, length-map xs f) in
      subst (AreChunks size) (sym (map-set f xs q y))
      (chunks-same size (map f xs) (set (map f xs) q (f y))
      (lengths-set q (f y) (map f xs) inside
      (long ∙ ap length (sym (get_or-map f xs q d [] within)))) h)

  pub clones-same : (xs ys : List X) → AllZip (λ x y. f y ≡ f x) xs ys → map f ys ≡ map f xs
  clones-same [] [] h = refl
  clones-same [] (y ∷ ys) h = absurd h
  clones-same (x ∷ xs) [] h = absurd h
  clones-same (x ∷ xs) (y ∷ ys) h =
      ap (λ v. v ∷ map f ys) h.0 ∙ ap (λ vs. f x ∷ vs) (clones-same xs ys h.1)

  pub pushed : (xs ys : List X) (x : X) (zs : List (List ℕ)) (z : List ℕ) → ys ≡ xs ++ x ∷ [] → map f xs ≡ zs
      → f x ≡ z → map f ys ≡ zs ++ z ∷ []
  pushed xs ys x zs z y_is xs_is x_is = ap (map f) y_is ∙ map_push f xs x
      ∙ ap (λ v. v ++ f x ∷ []) xs_is ∙ ap (λ v. zs ++ v ∷ []) x_is
