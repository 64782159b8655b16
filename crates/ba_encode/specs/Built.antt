-- The bits from which the formula of a word list is made.

use Rattle.std.specs.Prelude.{◌≡◌, ℕ, Bool, true, ◌&&◌, Option, List}
use Rattle.ba_bits.specs.Bits.{AreEntries}
use Rattle.ba_bits.specs.Needs.{AreClosed, are_needed}
use Rattle.ba_encode.specs.Parts.{AreHeld, ArePlaces, Entries, all_stay, are_set, roots_of}
use Rattle.ba_encode.specs.declared.places.PlaceBits.{PlaceBits}
use Rattle.ba_nodes.specs.declared.Bit.{Bit}
use Rattle.ba_nodes.specs.declared.Node.{Node}
use Rattle.ba_nodes.specs.Gates.{Extends}
use Rattle.ba_wordlist.specs.declared.words.WordList.{WordList}

-- The entries that are needed have bits over the first nodes. Over all nodes there are the executions as
-- bits. Further bits are true if, and only if, the requirements are met and each execution is as it has to
-- be.
pub record IsBuilt (list : WordList) (groups : List (Option ℕ)) (selectors : List Bit)
    (old new : List Node) (required : List Bit) (places : List PlaceBits) : Type 0 where
  pub first : List Node
  pub needed : List Bool
  pub entries : Entries
  pub closed : AreClosed list.words needed
  pub roots : are_needed needed (roots_of list groups) ≡ true
  pub before : Extends old first
  pub after : Extends first new
  pub have_bits : AreEntries old list.words needed first entries
  pub are_places : ArePlaces first list.words entries selectors new list.places groups places
  pub held : AreHeld new required
      (λ free. are_set free first entries list.require && all_stay free new places)
