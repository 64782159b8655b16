-- Parameters without a name, and `void` alone.

use Rattle.std.proofs.Math.Bool.{or-false}
use Rattle.std.proofs.Common.{◌≡◌, Bool, true, false, not, ◌||◌, ◌&&◌, List, [], ◌∷◌, ◌++◌, length, map, Option, None, Some, length-append, refl, sym, ap, ◌∙◌, arith}
use Rattle.std.specs.Option.{is_some}
use Rattle.std.specs.List.{list_all}
use Rattle.ba_tokens.specs.declared.token.Token.{Token}
use Rattle.ba_tokens.specs.declared.token.Keyword.TheVariants as keyword
use Rattle.ba_trees.specs.Classes.{class_of, word}
use Rattle.ba_parse.specs.Grammar.{has_unnamed, is_void, takes_block}
use Rattle.ba_trees.specs.Marks.{Mark, leave, up, node_of, one_deeper, yield, parameter, parameters}
use Rattle.ba_trees.specs.Views.{joined, name_marks}
use Rattle.ba_trees.specs.DeclarationMarks.{next_parameter_marks}
use Rattle.ba_trees.specs.declared.tree.declarations.NextParameter.{NextParameter}
use Rattle.ba_parse.proofs.Quiet.{unnamed_append}
use Rattle.ba_parse.proofs.Forests.{yield_deeper}

name_is : (name : Option Token) → not (has_unnamed (name_marks name)) ≡ is_some name
name_is None = refl
name_is (Some t) = refl

pub parameter_named : (words size : List Mark) (name : Option Token) → has_unnamed words ≡ false →
    has_unnamed size ≡ false → not (has_unnamed (node_of parameter ((words ++ name_marks name) ++ size)))
    ≡ is_some name
parameter_named words size name w l =
    let inner : has_unnamed ((words ++ name_marks name) ++ size) ≡ has_unnamed (name_marks name) =
    unnamed_append (words ++ name_marks name) size ∙ rw (l, unnamed_append words (name_marks name), w)
    (or-false (has_unnamed (name_marks name))) in
    ap not (unnamed_append ((words ++ name_marks name) ++ size) (leave parameter ∷ [])
    ∙ or-false (has_unnamed ((words ++ name_marks name) ++ size)) ∙ inner) ∙ name_is name

not_or : (a b : Bool) → not (a || b) ≡ (not a && not b)
not_or true b = refl
not_or false b = refl

pub both_named : (f g : List Mark) → (not (has_unnamed f) && not (has_unnamed g)) ≡ not (has_unnamed (f ++ g))
both_named f g = sym (ap not (unnamed_append f g) ∙ not_or (has_unnamed f) (has_unnamed g))

pub all_named : (ps : List NextParameter) → list_all (λ n. not (has_unnamed (next_parameter_marks n))) ps
    ≡ not (has_unnamed (joined (map next_parameter_marks ps)))
all_named [] = refl
all_named (p ∷ ps) = ap (λ b. not (has_unnamed (next_parameter_marks p)) && b) (all_named ps)
    ∙ both_named (next_parameter_marks p) (joined (map next_parameter_marks ps))

pub takes_block_is : (p : List Mark) → takes_block (one_deeper p) ≡ (not (has_unnamed p) || is_void (yield p))
takes_block_is p =
    let named : has_unnamed (p ++ up ∷ []) ≡ has_unnamed p = unnamed_append p (up ∷ [])
    ∙ or-false (has_unnamed p) in
    rw (named, yield_deeper p) refl

pub void_alone : (ts after rest : List Token) (first : Token) → ts ++ after ≡ first ∷ rest →
    length rest ≡ length after → word keyword.Void (class_of first) ≡ is_void ts
void_alone [] after rest first e same = absurd (omega (arith, ap length e))
void_alone (t ∷ []) after rest first e same = let is : t ≡ first = cc in rw is refl
void_alone (t ∷ u ∷ us) after rest first e same = absurd (omega (arith, ap length e, length-append us after))

pub void_apart : (ts after rest : List Token) (first : Token) → ts ++ after ≡ first ∷ rest →
    (length rest ≡ length after → ⊥) → is_void ts ≡ false
void_apart [] after rest first e other = refl
void_apart (t ∷ []) after rest first e other = absurd (other (let is : after ≡ rest = cc in rw is refl))
void_apart (t ∷ u ∷ us) after rest first e other = refl

pub void_none : (ts after : List Token) → ts ++ after ≡ [] → is_void ts ≡ false
void_none [] after e = refl
void_none (t ∷ ts) after e = absurd cc

pub parameters_named : (f : List Mark) → has_unnamed (node_of parameters f) ≡ has_unnamed f
parameters_named f = unnamed_append f (leave parameters ∷ []) ∙ or-false (has_unnamed f)
