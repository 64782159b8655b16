-- What a function adds, from what its parameters and its body add.
use Rattle.std.proofs.Common.{◌≡◌, ℕ, suc, ◌+◌, ◌-◌, ◌<◌, cond, Option, List, [], ◌∷◌, ◌++◌, map, length, drop, refl, sym, ◌∙◌, ap, subst, append_assoc, append-nil, length-append, arith}
use Rattle.std.specs.Global.{Vec}
use Rattle.std.proofs.Math.Seq.{take-append_seam}
use Rattle.std.proofs.lemmas.List.{drop_at}
use Rattle.ba_numbers.specs.declared.ids.At.{At}
use Rattle.ba_numbers.specs.declared.ids.VarId.{VarId}
use Rattle.ba_numbers.specs.declared.numbers.CType.{CType}
use Rattle.ba_trees.specs.declared.tree.declarations.Parameter.{Parameter}
use Rattle.ba_trees.specs.declared.tree.statements.FunctionEnd.{FunctionEnd}
use Rattle.ba_tree.specs.declared.tree.Function.{Function}
use Rattle.ba_statements.specs.Adding.{State, state_with, before_of, behind_part, extended, with_added}
use Rattle.ba_typing.specs.Declarations.{Added, Part, ◌and◌, behind, faults_added, in_order}
use Rattle.ba_typing.specs.Files.{add_function, add_params, body_parts, function_scope, function_tree, signature_faults, vars_from, vars_of}
use Rattle.ba_types.specs.Filing.{GivesFunction, file_state_with, with_part}
use Rattle.ba_expressions.specs.Inferring.{with_faults}
use Rattle.ba_scopes.specs.Marks.{back_to, mark_of}
use Rattle.ba_typing.specs.Names.{Scope, is_main_name, knowing}
use Rattle.ba_tree.specs.Trees.{FunctionTree, StmtTree, tree_of_function, tree_of_stmt}
use Rattle.ba_types.specs.declared.parameters.Owner.{Owner}
use Rattle.ba_typing.specs.declared.meanings.Signature.{Signature}
use Rattle.ba_statements.specs.declared.work.Work.{Work}
use Rattle.ba_statements.proofs.Adding.{before-added, faults-work, knowing-both, knowing-nothing, with_added-both}

-- VARIABLES OF CONSECUTIVE NUMBERS

pub next-var : (n high : ℕ) (old new whole : List VarId) → n < high → old ++ vars_from n (high - n) ≡ whole
    → new ≡ old ++ record { 0 = n } ∷ [] → new ++ vars_from (n + 1) (high - (n + 1)) ≡ whole
next-var n high old new whole within rest pushed =
    let var : VarId = record { 0 = n } in
    let left : high - n ≡ suc (high - (n + 1)) = omega (arith, within) in
    ap (λ vs. vs ++ vars_from (n + 1) (high - (n + 1))) pushed
    ∙ append_assoc old (var ∷ []) (vars_from (n + 1) (high - (n + 1)))
    ∙ ap (λ k. old ++ vars_from n k) (sym left) ∙ rest

-- A FUNCTION'S TREE

module _ (owner : Owner) (type : Option CType) (ps : List Parameter) (e : FunctionEnd) (s0 s1 s2 : Scope)
    (w0 w1 w2 : Work) where
  abbrev params : Part
  params = add_params owner.is_main owner.is_defined owner.at 1 ps

  abbrev body : Part
  body = in_order (body_parts e)

  abbrev first : Added
  first = params s0 (before_of w0)

  abbrev second : Added
  second = body (knowing first.entries s0) (behind (before_of w0) first)

  pub function-is : (stmts : List StmtTree) (f : Function)
      → state_with s1 w1 [] ≡ behind_part params (state_with s0 w0 [])
      → state_with s2 w2 stmts ≡ behind_part body (state_with s1 w1 [])
      → f.result ≡ type → f.params ≡ vars_of (drop (length s0.known) s1.known)
      → f.locals ≡ vars_from (length w1.variables) (length w2.variables - length w1.variables)
      → map tree_of_stmt f.body ≡ stmts → GivesFunction owner type ps e s0 w0 s2 w2 f
  unfolding behind_part
  function-is stmts f one two types vars locals trees =
      let knows : s1 ≡ knowing first.entries s0 = ap (λ (s : State). s.scope) one in
      let works : w1 ≡ with_added w0 first = ap (λ (s : State). s.work) one in
      let middle : State = state_with (knowing first.entries s0) (with_added w0 first) [] in
      let start : state_with s1 w1 [] ≡ middle = λ i. state_with (knows i) (works i) [] in
      let all : state_with s2 w2 stmts ≡ extended middle second = two ∙ ap (behind_part body) start
      ∙ ap (λ n. extended middle (body (knowing first.entries s0) n)) (before-added w0 first) in
      let before : length w1.variables ≡ length w0.variables + length first.variables
      = ap (λ (w : Work). length w.variables) works ∙ length-append w0.variables first.variables in
      let after : length w2.variables ≡ length (w0.variables ++ first.variables) + length second.variables
      = ap (λ (s : State). length s.work.variables) all
      ∙ length-append (w0.variables ++ first.variables) second.variables in
      let there : length (w0.variables ++ first.variables) ≡ length w1.variables
      = ap (λ (w : Work). length w.variables) (sym works) in
      let count : length w2.variables - length w1.variables ≡ length second.variables
      = omega (arith, after, there) in
      let numbers : f.locals ≡ vars_from (length w0.variables + length first.variables)
      (length second.variables)
      = locals ∙ ap (λ n. vars_from n (length w2.variables - length w1.variables)) before
      ∙ ap (vars_from (length w0.variables + length first.variables)) count in
      let names : f.params ≡ vars_of first.entries
      = vars ∙ ap (λ (s : Scope). vars_of (drop (length s0.known) s.known)) knows
      ∙ ap vars_of (drop_at s0.known first.entries (length s0.known) refl) in
      let stands : map tree_of_stmt f.body ≡ second.stmts = trees ∙ ap (λ (s : State). s.stmts) all in
      record {
        tree = λ i. record { result = types i; params = names i; locals = numbers i; body = stands i };
        knows = ap (λ (s : State). s.scope) all ∙ knowing-both s0 first second;
        works = ap (λ (s : State). s.work) all ∙ with_added-both w0 first second;
      }

-- A FUNCTION after which nothing of it is in scope

-- what was around it
left-is : (s0 s2 : Scope) (type : Option CType) (first second : Added)
    → s2 ≡ knowing (first.entries ++ second.entries) (function_scope type s0) → back_to (mark_of s0) s2 ≡ s0
left-is s0 s2 type first second is = ap (back_to (mark_of s0)) is
    ∙ ap (λ k. record s0 { known = k }) (take-append_seam s0.known (first.entries ++ second.entries))

module _ (at : At) (s : Signature) (ps : List Parameter) (e : FunctionEnd) (earlier : List Signature)
    (s0 s1 s2 s3 : Scope) (w0 w1 w2 : Work) where
  abbrev owner : Owner
  owner = record { is_main = is_main_name s.name; is_defined = s.is_definition; at = at }

  abbrev around : Scope
  around = function_scope s.result s0

  abbrev faults : Added
  faults = faults_added (signature_faults s0 earlier s at)

  abbrev inferred : Work
  inferred = record w0 { tally = with_faults w0.tally (signature_faults s0 earlier s at) }

  abbrev params-added : Added
  params-added = add_params (is_main_name s.name) s.is_definition at 1 ps around (before_of w0)

  abbrev body-added : Added
  body-added = in_order (body_parts e) (knowing params-added.entries around)
      (behind (before_of w0) params-added)

  pub function-added : (f : Function) (inits : List StmtTree) (fs later : Vec Function) → w1 ≡ inferred
      → s1 ≡ around
      → GivesFunction owner s.result ps e s1 w1 s2 w2 f → s3 ≡ back_to (mark_of s0) s2
      → map tree_of_function later.items
      ≡ map tree_of_function fs.items ++ cond s.is_definition (tree_of_function f ∷ []) []
      → file_state_with s3 w2 inits later
      ≡ with_part (file_state_with s0 w0 inits fs) (add_function at s ps e s0 earlier (before_of w0))
  function-added f inits fs later works scopes given left pushed =
      let given : GivesFunction owner s.result ps e around inferred s2 w2 f
      = subst (λ k. GivesFunction owner s.result ps e k inferred s2 w2 f) scopes
      (subst (λ w. GivesFunction owner s.result ps e s1 w s2 w2 f) works given) in
      let scope : s3 ≡ knowing [] s0 = left ∙ left-is s0 s2 s.result params-added body-added given.knows
      ∙ knowing-nothing s0 in
      let work : w2 ≡ with_added w0 (faults and params-added and body-added) = given.works
      ∙ ap (λ w. with_added w (params-added and body-added))
      (faults-work w0 (signature_faults s0 earlier s at))
      ∙ with_added-both w0 faults (params-added and body-added) in
      let tree : FunctionTree = function_tree (before_of w0) s.result params-added body-added in
      let functions : map tree_of_function later.items
      ≡ map tree_of_function fs.items ++ cond s.is_definition (tree ∷ []) []
      = pushed ∙ ap (λ (t : FunctionTree). map tree_of_function fs.items
      ++ cond s.is_definition (t ∷ []) []) given.tree in
      λ i. record {
        state = record { scope = scope i; work = work i; stmts = sym (append-nil inits) i };
        functions = functions i;
      }
