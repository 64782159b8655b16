-- Nodes put after others.
use Rattle.std.proofs.Common.{◌≡◌, ℕ, true, ◌&&◌, Ok, Err, List, [], ◌∷◌, ◌++◌, map, refl, sym, ◌∙◌, ap, subst, append-nil, append_assoc}
use Rattle.std.proofs.lemmas.Bool.{and_from}
use Rattle.std.proofs.lemmas.List.{map-append}
use Rattle.std.proofs.lemmas.List.Folds.{list_all-append}
use Rattle.std.specs.List.{list_all}
use Rattle.ba_code.proofs.Rows.{run-append, run-none, run-one}
use Rattle.ba_code.specs.Facts.{Declared, Inside, are_inside, fits_inside, is_unrolled}
use Rattle.ba_code.specs.Meaning.{Setting, run_node, run_nodes}
use Rattle.ba_code.specs.State.{CodeEnding, CodeExecution, CodeState}
use Rattle.ba_code.specs.declared.nodes.Node.{Node}
use Rattle.ba_unroll.specs.Unrolling.{Acts, Adds, Stands, all_inside, and_then, then_act}
use Rattle.ba_tree.specs.Acts.{after_part, give, then_do}
use Rattle.ba_tree.specs.declared.run.Flow.{Flow}
use Rattle.ba_tree.specs.declared.run.Flow.TheVariants.{Next, Leaves}

-- ENDS

after-two : (e : CodeEnding (Flow ℕ)) (a b : CodeExecution)
    → then_do (then_do e (after_part a)) (after_part b) ≡ then_do e (after_part (and_then a b))
after-two (Ok Next, s) a b = refl
after-two (Ok (Leaves l), s) a b = refl
after-two (Err h, s) a b = refl

pub then-then : (a b c : CodeExecution) → and_then (and_then a b) c ≡ and_then a (and_then b c)
then-then a b c = λ i s. after-two (a s) b c i

-- FACTS

pub inside-append : (d : Declared) (labels : List ℕ) (xs ys : List Node)
    → all_inside (xs ++ ys) d labels ≡ (all_inside xs d labels && all_inside ys d labels)
inside-append d labels xs ys =
    ap (are_inside labels) (map-append (fits_inside d) xs ys)
    ∙ list_all-append (λ (node : Inside). node labels) (map (fits_inside d) xs) (map (fits_inside d) ys)

-- NODES BEHIND OTHERS

runs-none : (g : Setting) → run_nodes g [] [] ≡ give Next
runs-none g = λ i s. run-none g [] s i

pub adds-nothing : (act : Acts) (stands : Stands) (ns : List Node) → ((g : Setting) → act g ≡ give Next)
    → Adds act stands ns ns
adds-nothing act stands ns is = record {
  made = [];
  is = sym (append-nil ns);
  runs = λ g. runs-none g ∙ sym (is g);
  fits = λ d labels here. refl;
  unrolled = refl;
}

run-both : (g : Setting) (ns ms : List Node)
    → run_nodes g (ns ++ ms) [] ≡ and_then (run_nodes g ns []) (run_nodes g ms [])
run-both g ns ms = λ i s. run-append g [] s ns ms i

pub adds-these : (act : Acts) (stands : Stands) (old ns : List Node)
    → ((g : Setting) → run_nodes g ns [] ≡ act g)
    → ((d : Declared) (labels : List ℕ) → stands d labels ≡ true → all_inside ns d labels ≡ true)
    → list_all is_unrolled ns ≡ true → Adds act stands old (old ++ ns)
adds-these act stands old ns runs fits unrolled = record {
  made = ns;
  is = refl;
  runs = runs;
  fits = fits;
  unrolled = unrolled;
}

pub adds-node : (act : Acts) (stands : Stands) (old : List Node) (n : Node)
    → ((g : Setting) (s : CodeState) → run_node g n [] s ≡ act g s)
    → ((d : Declared) (labels : List ℕ) → stands d labels ≡ true → fits_inside d n labels ≡ true)
    → is_unrolled n ≡ true → Adds act stands old (old ++ n ∷ [])
adds-node act stands old n runs fits unrolled = adds-these act stands old (n ∷ [])
    (λ g. λ i s. (run-one g [] s n ∙ runs g s) i)
    (λ d labels here. and_from (fits_inside d n labels) true (fits d labels here) refl)
    (and_from (is_unrolled n) true unrolled refl)

-- what is made, by itself
pub made-runs : (act : Acts) (stands : Stands) (ns : List Node) → Adds act stands [] ns
    → (g : Setting) → run_nodes g ns [] ≡ act g
made-runs act stands ns made g = ap (λ (ns : List Node). run_nodes g ns []) made.is ∙ made.runs g

pub made-fits : (act : Acts) (stands : Stands) (ns : List Node) → Adds act stands [] ns
    → (d : Declared) (labels : List ℕ) → stands d labels ≡ true → all_inside ns d labels ≡ true
made-fits act stands ns made d labels here =
    ap (λ (ns : List Node). all_inside ns d labels) made.is ∙ made.fits d labels here

pub made-unrolled : (act : Acts) (stands : Stands) (ns : List Node) → Adds act stands [] ns
    → list_all is_unrolled ns ≡ true
made-unrolled act stands ns made = ap (list_all is_unrolled) made.is ∙ made.unrolled

-- the same nodes after others, or after none
pub adds-behind : {act : Acts} {stands : Stands} {old new : List Node} (other : List Node)
    → (added : Adds act stands old new) → Adds act stands other (other ++ added.made)
adds-behind other added = record {
  made = added.made;
  is = refl;
  runs = added.runs;
  fits = added.fits;
  unrolled = added.unrolled;
}

-- those of a list
pub adds-alone : {act : Acts} {stands : Stands} {old new : List Node} (ns : List Node)
    → (added : Adds act stands old new) → ns ≡ added.made → Adds act stands [] ns
adds-alone {act = act} {stands = stands} ns added is =
    subst (λ (ns : List Node). Adds act stands [] ns) (sym is) (adds-behind [] added)

-- the same part by another name, or in a place that asks for more
pub adds-same : (act other : Acts) (stands : Stands) (old new : List Node) → ((g : Setting) → act g ≡ other g)
    → Adds act stands old new → Adds other stands old new
adds-same act other stands old new same added = record {
  made = added.made;
  is = added.is;
  runs = λ g. added.runs g ∙ same g;
  fits = added.fits;
  unrolled = added.unrolled;
}

pub adds-where : (act : Acts) (stands more : Stands) (old new : List Node)
    → ((d : Declared) (labels : List ℕ) → more d labels ≡ true → stands d labels ≡ true)
    → Adds act stands old new → Adds act more old new
adds-where act stands more old new less added = record {
  made = added.made;
  is = added.is;
  runs = added.runs;
  fits = λ d labels here. added.fits d labels (less d labels here);
  unrolled = added.unrolled;
}

pub adds-then : (first second : Acts) (stands : Stands) (old mid new : List Node) → Adds first stands old mid
    → Adds second stands mid new → Adds (then_act first second) stands old new
adds-then first second stands old mid new a b = record {
  made = a.made ++ b.made;
  is = b.is ∙ ap (λ (ns : List Node). ns ++ b.made) a.is ∙ append_assoc old a.made b.made;
  runs = λ g. run-both g a.made b.made
      ∙ ap (λ (f : CodeExecution). and_then f (run_nodes g b.made [])) (a.runs g)
      ∙ ap (and_then (first g)) (b.runs g);
  fits = λ d labels here. inside-append d labels a.made b.made
      ∙ and_from (all_inside a.made d labels) (all_inside b.made d labels) (a.fits d labels here)
      (b.fits d labels here);
  unrolled = list_all-append is_unrolled a.made b.made
      ∙ and_from (list_all is_unrolled a.made) (list_all is_unrolled b.made) a.unrolled b.unrolled;
}
