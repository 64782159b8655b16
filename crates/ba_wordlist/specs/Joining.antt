-- A LIST BEHIND ANOTHER. The words of the second come behind those of the first, so that each of their
-- numbers is greater by how many the first has.

use Rattle.std.specs.Prelude.{◌≡◌, ℕ, nat_lt, ◌+◌, ◌-◌, cond, List, ◌++◌, map, length}
use Rattle.ba_wordlist.specs.Meaning.{Assignment}
use Rattle.ba_wordlist.specs.declared.words.PlaceWords.{PlaceWords}
use Rattle.ba_wordlist.specs.declared.words.WordList.{WordList}
use Rattle.ba_wordlist.specs.declared.words.WordOp.{WordOp}
use Rattle.ba_wordlist.specs.declared.words.WordOp.TheVariants.{Const, Free, Flag, Unary, Binary, Convert, Select, Read, Zeros, Fill, Write}

-- numbers, an entry and the words of a place behind so many others

abbrev pub shifted : ℕ → List ℕ → List ℕ
shifted by ws = map (λ w. by + w) ws

abbrev pub shifted_op : ℕ → WordOp → WordOp
shifted_op by (Const z) = Const z
shifted_op by Free = Free
shifted_op by Flag = Flag
shifted_op by (Unary op t a) = Unary op t (by + a)
shifted_op by (Binary op t a b) = Binary op t (by + a) (by + b)
shifted_op by (Convert t a) = Convert t (by + a)
shifted_op by (Select which a b) = Select (by + which) (by + a) (by + b)
shifted_op by (Read array index) = Read (by + array) (by + index)
shifted_op by (Zeros count) = Zeros count
shifted_op by (Fill array words when) = Fill (by + array) (shifted by words) (by + when)
shifted_op by (Write array index value when) = Write (by + array) (by + index) (by + value) (by + when)

abbrev pub shifted_place : ℕ → PlaceWords → PlaceWords
shifted_place by p = record {
  place = p.place;
  guard = by + p.guard;
  keep = by + p.keep;
  values = shifted by p.values;
}

-- the second list stands behind the first one in this list
pub record IsJoined (first second joined : WordList) : Type 0 where
  pub words : joined.words ≡ first.words ++ map (shifted_op (length first.words)) second.words
  pub require : joined.require ≡ first.require ++ shifted (length first.words) second.require
  pub places : joined.places ≡ first.places ++ map (shifted_place (length first.words)) second.places

-- ASSIGNMENTS of such a list are one of each

-- what an assignment gives behind so many words
abbrev pub behind : ℕ → Assignment → Assignment
behind count f w = f (count + w)

-- the assignment that gives so many words what the first one does, and the others what the second does
abbrev pub joined_at : ℕ → Assignment → Assignment → Assignment
joined_at count f g w = cond (nat_lt w count) (f w) (g (w - count))
