-- What an entry has, by the low bits of what earlier entries have.
use Rattle.std.proofs.Common.{◌≡◌, ℕ, zero, suc, ◌%◌, ◌^◌, Bool, true, false, cond, List, [], ◌∷◌, map, length, get_or, refl, sym, ◌∙◌, ap, arith, ℤ, pos, negsuc}
use Rattle.std.specs.Prelude.{int_lt, slice_set, ◌*ℤ◌}
use Rattle.std.specs.Prelude.{Some}
use Rattle.std.specs.Int.{int_div_euclid}
use Rattle.std.proofs.lemmas.List.{length-map}
use Rattle.ba_bits.proofs.Low.{converted-low, low-pos}
use Rattle.ba_bits.specs.Needs.{names_of}
use Rattle.ba_cells.specs.Cells.{index_read}
use Rattle.ba_numbers.specs.declared.numbers.BinOp.{BinOp}
use Rattle.ba_numbers.specs.declared.numbers.BinOp.TheVariants.{Mul, Div, Rem, Add, Sub, Shl, Shr, Lt, Le, Gt, Ge, Eq, Ne, And, Xor, Or}
use Rattle.ba_numbers.specs.declared.numbers.CType.{CType}
use Rattle.ba_numbers.specs.declared.numbers.CType.TheVariants.{I8, U8, I16, U16, I32, U32}
use Rattle.ba_numbers.specs.Numbers.{converted, converted_value, low_word, value_of, value_of_one}
use Rattle.ba_numbers.specs.Types.{shifts}
use Rattle.ba_wordlist.specs.Meaning.{binary_value, element_read, elements_at, entry_of, is_nonzero, value_at, value_at_zero, value_or}
use Rattle.ba_wordlist.specs.declared.words.WordOp.{WordOp}
use Rattle.ba_wordlist.specs.declared.words.WordOp.TheVariants.{Const, Free, Flag, Unary, Binary, Convert, Select, Read, Zeros, Fill, Write}

abbrev pub lows : List ℤ → List ℕ
lows zs = map low_word zs

pub low-at : (zs : List ℤ) (k : ℕ) → get_or (lows zs) k 0 ≡ low_word (get_or zs k (pos 0))
low-at [] k = sym (low-pos 0 (omega arith))
low-at (z ∷ zs) zero = refl
low-at (z ∷ zs) (suc k) = low-at zs k

low-same : (ys zs : List ℤ) (k : ℕ) → lows ys ≡ lows zs → low_word (get_or ys k (pos 0))
    ≡ low_word (get_or zs k (pos 0))
low-same ys zs k e = sym (low-at ys k) ∙ ap (λ ns. get_or ns k 0) e ∙ low-at zs k

long-same : (ys zs : List ℤ) → lows ys ≡ lows zs → length ys ≡ length zs
long-same ys zs e = sym (length-map ys low_word) ∙ ap length e ∙ length-map zs low_word

-- an entry has the same low bits in two lists of values, and is 0 in both or in none
pub record Alike (vs us : List (List ℤ)) (w : ℕ) : Type 0 where
  pub low : lows (elements_at vs w) ≡ lows (elements_at us w)
  pub nonzero : is_nonzero (value_at vs w) ≡ is_nonzero (value_at us w)

abbrev pub AreAlike : List (List ℤ) → List (List ℤ) → List ℕ → Type 0
AreAlike vs us [] = Unit {0}
AreAlike vs us (w ∷ ws) = Alike vs us w × AreAlike vs us ws

value-same : (vs us : List (List ℤ)) (w : ℕ) → Alike vs us w
    → low_word (value_at vs w) ≡ low_word (value_at us w)
value-same vs us w alike = low-same (elements_at vs w) (elements_at us w) 0 alike.low

values-same : (vs us : List (List ℤ)) (ws : List ℕ) → AreAlike vs us ws
    → lows (map (value_at vs) ws) ≡ lows (map (value_at us) ws)
values-same vs us [] alike = refl
values-same vs us (w ∷ ws) alike =
    ap (λ n. n ∷ lows (map (value_at vs) ws)) (value-same vs us w alike.0)
    ∙ ap (λ ns. low_word (value_at us w) ∷ ns) (values-same vs us ws alike.1)

-- OPERATORS see the low bits alone

zero-same : (op : BinOp) (t : CType) (y z : ℤ) → converted t y ≡ converted t z
    → value_at_zero op t y ≡ value_at_zero op t z
zero-same Rem t y z e = e
zero-same _ U32 y z e = refl
zero-same _ I8 y z e = ap (λ x. cond (int_lt x (pos 0)) (pos 1) (negsuc 0)) e
zero-same _ U8 y z e = ap (λ x. cond (int_lt x (pos 0)) (pos 1) (negsuc 0)) e
zero-same _ I16 y z e = ap (λ x. cond (int_lt x (pos 0)) (pos 1) (negsuc 0)) e
zero-same _ U16 y z e = ap (λ x. cond (int_lt x (pos 0)) (pos 1) (negsuc 0)) e
zero-same _ I32 y z e = ap (λ x. cond (int_lt x (pos 0)) (pos 1) (negsuc 0)) e

shl-same : (t : CType) (x y z : ℤ) → low_word y ≡ low_word z → value_of Shl t x y ≡ value_of Shl t x z
unfolding value_of
shl-same t x y z e = ap (λ n. converted_value t (Some (x *ℤ pos (2 ^ (n % 32))))) e

shr-same : (t : CType) (x y z : ℤ) → low_word y ≡ low_word z → value_of Shr t x y ≡ value_of Shr t x z
unfolding value_of
shr-same t x y z e = ap (λ n. converted_value t (Some (int_div_euclid x (pos (2 ^ (n % 32)))))) e

plain-same : (op : BinOp) (t : CType) (x y : ℤ) (u z : ℤ) → converted t y ≡ converted t z
    → low_word y ≡ low_word z
    → value_of op t x (cond (shifts op) y (converted t y))
    ≡ value_of op t x (cond (shifts op) z (converted t z))
plain-same Shl t x y u z e low = shl-same t x y z low
plain-same Shr t x y u z e low = shr-same t x y z low
plain-same Mul t x y u z e low = ap (value_of Mul t x) e
plain-same Div t x y u z e low = ap (value_of Div t x) e
plain-same Rem t x y u z e low = ap (value_of Rem t x) e
plain-same Add t x y u z e low = ap (value_of Add t x) e
plain-same Sub t x y u z e low = ap (value_of Sub t x) e
plain-same Lt t x y u z e low = ap (value_of Lt t x) e
plain-same Le t x y u z e low = ap (value_of Le t x) e
plain-same Gt t x y u z e low = ap (value_of Gt t x) e
plain-same Ge t x y u z e low = ap (value_of Ge t x) e
plain-same Eq t x y u z e low = ap (value_of Eq t x) e
plain-same Ne t x y u z e low = ap (value_of Ne t x) e
plain-same And t x y u z e low = ap (value_of And t x) e
plain-same Xor t x y u z e low = ap (value_of Xor t x) e
plain-same Or t x y u z e low = ap (value_of Or t x) e

binary-same : (op : BinOp) (t : CType) (a b y z : ℤ) → low_word a ≡ low_word b → low_word y ≡ low_word z
    → binary_value op t a y ≡ binary_value op t b z
binary-same op t a b y z first second =
    ap (λ x. value_or (value_of op t x (cond (shifts op) y (converted t y))) (value_at_zero op t a))
    (converted-low t a b first)
    ∙ ap (λ o. value_or o (value_at_zero op t a))
    (plain-same op t (converted t b) y (pos 0) z (converted-low t y z second) second)
    ∙ ap (value_or (value_of op t (converted t b) (cond (shifts op) z (converted t z))))
    (zero-same op t a b (converted-low t a b first))

-- CHOICES AND ARRAYS

low-cond : (b : Bool) (y z : ℤ) → low_word (cond b y z) ≡ cond b (low_word y) (low_word z)
low-cond true y z = refl
low-cond false y z = refl

pub lows-cond : (b : Bool) (ys zs : List ℤ) → lows (cond b ys zs) ≡ cond b (lows ys) (lows zs)
lows-cond true ys zs = refl
lows-cond false ys zs = refl

lows-set : (zs : List ℤ) (k : ℕ) (z : ℤ) → lows (slice_set zs k z) ≡ slice_set (lows zs) k (low_word z)
lows-set [] k z = refl
lows-set (y ∷ zs) zero z = refl
lows-set (y ∷ zs) (suc k) z = ap (λ ns. low_word y ∷ ns) (lows-set zs k z)

three-same : {A : Type 0} (b c : Bool) (x y z w : A) → b ≡ c → x ≡ y → z ≡ w → cond b x z ≡ cond c y w
three-same b c x y z w e f g = λ i. cond (e i) (f i) (g i)

read-same : (ys zs : List ℤ) (i j : ℤ) → lows ys ≡ lows zs → low_word i ≡ low_word j
    → low_word (element_read ys i) ≡ low_word (element_read zs j)
read-same ys zs i j e f =
    low-same ys zs (index_read (length ys) (low_word i % 256)) e
    ∙ ap (λ n. low_word (get_or zs (index_read n (low_word i % 256)) (pos 0))) (long-same ys zs e)
    ∙ ap (λ n. low_word (get_or zs (index_read (length zs) (n % 256)) (pos 0))) f

write-same : (ys zs : List ℤ) (i j y z : ℤ) → lows ys ≡ lows zs → low_word i ≡ low_word j
    → low_word y ≡ low_word z
    → lows (slice_set ys (low_word i) y) ≡ lows (slice_set zs (low_word j) z)
write-same ys zs i j y z e f g =
    lows-set ys (low_word i) y
    ∙ (λ k. slice_set (e k) (f k) (g k))
    ∙ sym (lows-set zs (low_word j) z)

-- the low bits of what an entry has
pub entry-low : (x : ℤ) (vs us : List (List ℤ)) (op : WordOp) → AreAlike vs us (names_of op)
    → lows (entry_of x vs op) ≡ lows (entry_of x us op)
entry-low x vs us (Const z) k = refl
entry-low x vs us Free k = refl
entry-low x vs us Flag k = refl
entry-low x vs us (Unary op t a) k = ap (λ z. low_word (value_of_one op t z) ∷ [])
    (converted-low t (value_at vs a) (value_at us a) (value-same vs us a k.0))
entry-low x vs us (Binary op t a b) k = ap (λ z. low_word z ∷ [])
    (binary-same op t (value_at vs a) (value_at us a) (value_at vs b) (value_at us b)
    (value-same vs us a k.0) (value-same vs us b k.1.0))
entry-low x vs us (Convert t a) k = ap (λ z. low_word z ∷ [])
    (converted-low t (value_at vs a) (value_at us a) (value-same vs us a k.0))
entry-low x vs us (Select which a b) k = ap (λ n. n ∷ [])
    (low-cond (is_nonzero (value_at vs which)) (value_at vs a) (value_at vs b)
    ∙ three-same (is_nonzero (value_at vs which)) (is_nonzero (value_at us which)) (low_word (value_at vs a))
    (low_word (value_at us a)) (low_word (value_at vs b)) (low_word (value_at us b)) k.0.nonzero
    (value-same vs us a k.1.0) (value-same vs us b k.1.1.0)
    ∙ sym (low-cond (is_nonzero (value_at us which)) (value_at us a) (value_at us b)))
entry-low x vs us (Read array index) k = ap (λ n. n ∷ [])
    (read-same (elements_at vs array) (elements_at us array) (value_at vs index) (value_at us index)
    k.0.low (value-same vs us index k.1.0))
entry-low x vs us (Zeros count) k = refl
entry-low x vs us (Fill array values when) k =
    lows-cond (is_nonzero (value_at vs when)) (map (value_at vs) values) (elements_at vs array)
    ∙ three-same (is_nonzero (value_at vs when)) (is_nonzero (value_at us when))
    (lows (map (value_at vs) values))
    (lows (map (value_at us) values)) (lows (elements_at vs array)) (lows (elements_at us array))
    k.1.0.nonzero
    (values-same vs us values k.1.1) k.0.low
    ∙ sym (lows-cond (is_nonzero (value_at us when)) (map (value_at us) values) (elements_at us array))
entry-low x vs us (Write array index value when) k =
    lows-cond (is_nonzero (value_at vs when))
    (slice_set (elements_at vs array) (low_word (value_at vs index)) (value_at vs value))
    (elements_at vs array)
    ∙ three-same (is_nonzero (value_at vs when)) (is_nonzero (value_at us when))
    (lows (slice_set (elements_at vs array) (low_word (value_at vs index)) (value_at vs value)))
    (lows (slice_set (elements_at us array) (low_word (value_at us index)) (value_at us value)))
    (lows (elements_at vs array)) (lows (elements_at us array)) k.1.1.1.0.nonzero
    (write-same (elements_at vs array) (elements_at us array) (value_at vs index) (value_at us index)
    (value_at vs value) (value_at us value) k.0.low (value-same vs us index k.1.0)
    (value-same vs us value k.1.1.0))
    k.0.low
    ∙ sym (lows-cond (is_nonzero (value_at us when))
    (slice_set (elements_at us array) (low_word (value_at us index)) (value_at us value))
    (elements_at us array))

-- THE SAME ELEMENTS of the entries that it names give an entry the same

abbrev pub AreSame : List (List ℤ) → List (List ℤ) → List ℕ → Type 0
AreSame vs us [] = Unit {0}
AreSame vs us (w ∷ ws) = (elements_at vs w ≡ elements_at us w) × AreSame vs us ws

firsts-same : (vs us : List (List ℤ)) (ws : List ℕ) → AreSame vs us ws
    → map (value_at vs) ws ≡ map (value_at us) ws
firsts-same vs us [] same = refl
firsts-same vs us (w ∷ ws) same =
    let rest = firsts-same vs us ws same.1 in λ i. get_or (same.0 i) 0 (pos 0) ∷ rest i

pub entry-same : (x : ℤ) (vs us : List (List ℤ)) (op : WordOp) → AreSame vs us (names_of op)
    → entry_of x vs op ≡ entry_of x us op
entry-same x vs us (Const z) k = refl
entry-same x vs us Free k = refl
entry-same x vs us Flag k = refl
entry-same x vs us (Unary op t a) k = ap (λ zs. value_of_one op t (converted t (get_or zs 0 (pos 0))) ∷ [])
    k.0
entry-same x vs us (Binary op t a b) k =
    λ i. binary_value op t (get_or (k.0 i) 0 (pos 0)) (get_or (k.1.0 i) 0 (pos 0)) ∷ []
entry-same x vs us (Convert t a) k = ap (λ zs. converted t (get_or zs 0 (pos 0)) ∷ []) k.0
entry-same x vs us (Select which a b) k =
    λ i. cond (is_nonzero (get_or (k.0 i) 0 (pos 0))) (get_or (k.1.0 i) 0 (pos 0))
    (get_or (k.1.1.0 i) 0 (pos 0)) ∷ []
entry-same x vs us (Read array index) k = λ i. element_read (k.0 i) (get_or (k.1.0 i) 0 (pos 0)) ∷ []
entry-same x vs us (Zeros count) k = refl
entry-same x vs us (Fill array values when) k =
    let firsts = firsts-same vs us values k.1.1 in
    λ i. cond (is_nonzero (get_or (k.1.0 i) 0 (pos 0))) (firsts i) (k.0 i)
entry-same x vs us (Write array index value when) k =
    λ i. cond (is_nonzero (get_or (k.1.1.1.0 i) 0 (pos 0)))
    (slice_set (k.0 i) (low_word (get_or (k.1.0 i) 0 (pos 0))) (get_or (k.1.1.0 i) 0 (pos 0))) (k.0 i)
