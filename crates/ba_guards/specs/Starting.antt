-- The list at the start of a run.

use Rattle.std.specs.Prelude.{◌≡◌, ℕ, pos, true, List, [], ◌++◌, length, map, replicate, slice_index_or}
use Rattle.ba_code.specs.Facts.{Declared}
use Rattle.ba_code.specs.State.{CodeState}
use Rattle.ba_code.specs.declared.nodes.ArrayInfo.{ArrayInfo}
use Rattle.ba_guards.specs.Making.{Fits, elements_in}
use Rattle.ba_guards.specs.Reading.{met, snapshot, visits}
use Rattle.ba_guards.specs.Reading.Status.{running}
use Rattle.ba_guards.specs.declared.builder.Builder.{Builder}
use Rattle.ba_wordlist.specs.Facts.{are_names, are_words, lengths_of}
use Rattle.ba_wordlist.specs.Meaning.{Assignment}
use Rattle.ba_wordlist.specs.declared.words.WordOp.{WordOp}

-- a state of each array was added, whose elements are 0
pub record AreZero (old new : List WordOp) (versions : List ℕ) (infos : List ArrayInfo) :
    Type 0 where
  pub more : List WordOp
  pub grown : new ≡ old ++ more
  pub fit : are_words new ≡ true
  pub names : are_names (length new) versions ≡ true
  pub lengths : map (λ w. slice_index_or (lengths_of new) w 1) versions
      ≡ map (λ (i : ArrayInfo). i.len) infos
  pub has : (f : Assignment) → map (λ w. elements_in new w f) versions
      ≡ map (λ (i : ArrayInfo). replicate i.len (pos 0)) infos

-- the run is at the end of the list, has come to no place, and has no requirement yet
pub record Starts (d : Declared) (b : Builder) (s : CodeState) : Type 0 where
  pub fits : Fits d b
  pub stands : (f : Assignment) → snapshot f b ≡ record {
    status = running s.variables;
    arrays = s.arrays;
    places = [];
  }
  pub unvisited : (f : Assignment) → visits f b ≡ []
  pub undemanded : (f : Assignment) → met f b ≡ true
