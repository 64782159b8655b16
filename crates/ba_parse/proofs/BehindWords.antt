-- What follows the words of a type: after `enum` its tag, or what may stand for it, and the words that are
-- still to come.

use Rattle.std.proofs.Common.{◌≡◌, ℕ, Bool, true, false, not, ◌&&◌, if◌then◌else◌, List, refl}
use Rattle.ba_tokens.specs.declared.token.Keyword.TheVariants as keyword
use Rattle.ba_trees.specs.Classes.{Classes, word, qualifier}
use Rattle.ba_trees.specs.Marks.{Mark}
use Rattle.ba_parse.specs.Grammar.{Part, nothing, ◌·◌, qualifiers_left, qualifiers_behind, behind_words, has_class}
use Rattle.ba_parse.specs.Readings.{Reading, read_nothing, ◌▹◌, read_qualifiers_left, read_qualifiers_behind, read_behind_words}
use Rattle.ba_parse.proofs.Certified.{Sample}
use Rattle.ba_parse.proofs.Goods.{Good, good_nothing, good_then, good_either, good_maybe, good_more, good_empty, may_follow, sample_after}
use Rattle.ba_parse.proofs.ExpressionReadings.{good_key}

module _ (n : ℕ) where
  good_const : Good n (qualifiers_left true false) (word keyword.Const) true (word keyword.Const)
      (read_qualifiers_left true false)
  good_const = good_maybe (word keyword.Const) (word keyword.Const) (good_key n keyword.Const refl refl) refl
      refl

  good_static : Good n (qualifiers_left false true) (word keyword.Static) true (word keyword.Static)
      (read_qualifiers_left false true)
  good_static = good_maybe (word keyword.Static) (word keyword.Static) (good_key n keyword.Static refl refl)
      refl refl

  good_left : (static with_const with_static : Bool) →
      Good n (qualifiers_left with_const (static && with_static)) (qualifier static) true (qualifier static)
      (read_qualifiers_left with_const (static && with_static))
  good_left false false s = good_more (qualifier false) (qualifier false) (good_nothing n) refl
  good_left false true s = good_more (qualifier false) (qualifier false) good_const refl
  good_left true false false = good_more (qualifier true) (qualifier true) (good_nothing n) refl
  good_left true false true = good_more (qualifier true) (qualifier true) good_static refl
  good_left true true false = good_more (qualifier true) (qualifier true) good_const refl
  good_left true true true =
      good_either (word keyword.Const) (qualifier true) (qualifier true)
      (good_then (word keyword.Static) (good_key n keyword.Const refl refl) good_static refl)
      (good_maybe (word keyword.Static) (qualifier true)
      (good_then (word keyword.Const) (good_key n keyword.Static refl refl) good_const refl) refl refl)
      refl refl

  good_qualifiers : (static : Bool) (f : List Mark) →
      Good n (qualifiers_behind static f) (qualifier static) true (qualifier static)
      (read_qualifiers_behind static f)
  good_qualifiers static f = good_left static (not (has_class (word keyword.Const) f))
      (not (has_class (word keyword.Static) f))

  module _ (tag : Part) (starts goes far : Classes) (r : Reading) (static : Bool)
      (good : Good n tag starts false goes r)
      (follows : may_follow goes (qualifier static) true (qualifier static) far ≡ true) where
    good_if : (x : Bool) (f : List Mark) →
        Good n (if x then tag · qualifiers_behind static f else nothing) starts true far
        (if x then r ▹ read_qualifiers_behind static f else read_nothing)
    good_if true f = good_empty (good_then far good (good_qualifiers static f) follows)
    good_if false f = good_more starts far (good_nothing n) refl

    pub good_behind : (f : List Mark) → Good n (behind_words static tag f) starts true far
        (read_behind_words static r f)
    good_behind f = good_if (has_class (word keyword.Enum) f) f

-- some tree of what follows
sample_if : (static x : Bool) (tag : Part) → Sample tag → (f : List Mark) →
    Sample (if x then tag · qualifiers_behind static f else nothing)
sample_if static true tag s f = sample_after s (good_qualifiers 0 static f).sample
sample_if static false tag s f = (good_nothing 0).sample

pub sample_behind : (static : Bool) (tag : Part) → Sample tag → (f : List Mark) →
    Sample (behind_words static tag f)
sample_behind static tag s f = sample_if static (has_class (word keyword.Enum) f) tag s f
