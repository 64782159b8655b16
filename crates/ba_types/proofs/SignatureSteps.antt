-- What a file says of its functions, step by step.
use mathlib.Core.List.{map-map}
use Rattle.std.proofs.Common.{◌≡◌, ℕ, suc, Bool, true, false, ◌&&◌, ◌||◌, cond, Option, None, Some, List, [], ◌∷◌, ◌++◌, map, length, refl, sym, ◌∙◌, ap, is_some, option_map}
use Rattle.std.specs.Borrow.{Bor}
use Rattle.std.specs.List.{list_any}
use Rattle.std.proofs.lemmas.Bool.{and_right}
use Rattle.ba_trees.specs.declared.tree.declarations.NextParameter.{NextParameter}
use Rattle.ba_trees.specs.declared.tree.declarations.ParameterList.{ParameterList}
use Rattle.ba_trees.specs.declared.tree.declarations.Parameters.{Parameters}
use Rattle.ba_typing.specs.Files.{params_of, params_of_list, same_param, same_params, type_of_param}
use Rattle.ba_types.specs.Filing.{same_named}
use Rattle.ba_typing.specs.Names.{definition_in, same_name}
use Rattle.ba_typing.specs.declared.meanings.ParamType.{ParamType}
use Rattle.ba_typing.specs.declared.meanings.Signature.{Signature}

-- A LIST OF PARAMETERS

pub types-are : (ps : Parameters) (l : ParameterList) (none one all types : List ParamType) (t : ParamType)
    (rest : List NextParameter) → params_of_list (Some l) ≡ params_of ps → none ≡ []
    → t ≡ type_of_param l.first
    → one ≡ none ++ t ∷ [] → rest ≡ l.rest.items
    → all ≡ one ++ map (λ (n : NextParameter). type_of_param n.parameter) rest → types ≡ all
    → types ≡ map type_of_param (params_of ps)
types-are ps l none one all types t rest is nothing first pushed others more whole =
    let type : NextParameter → ParamType = λ n. type_of_param n.parameter in
    whole ∙ more ∙ ap (λ xs. xs ++ map type rest) (pushed ∙ ap (λ xs. xs ++ t ∷ []) nothing)
    ∙ ap (λ (t : ParamType). t ∷ map type rest) first
    ∙ ap (λ (ns : List NextParameter). type_of_param l.first ∷ map type ns) others
    ∙ ap (λ xs. type_of_param l.first ∷ xs)
    (sym (map-map type_of_param (λ (n : NextParameter). n.parameter) l.rest.items))
    ∙ ap (map type_of_param) is

-- PARAMETERS THAT ARE THE SAME

pub other-length : (ps qs : List ParamType) → (length ps ≡ length qs → ⊥) → false ≡ same_params ps qs
other-length [] [] other = absurd (other refl)
other-length [] (q ∷ qs) other = refl
other-length (p ∷ ps) [] other = refl
other-length (p ∷ ps) (q ∷ qs) other = sym (and_right (same_param p q) (same_params ps qs)
    (sym (other-length ps qs (λ same. other (ap suc same)))))

abbrev any_defines : List Signature → Bool
any_defines = list_any (λ (s : Signature). s.is_definition)

pub some-definition : (ds : List Signature) (name : List ℕ)
    → is_some (definition_in ds name) ≡ any_defines (same_named name ds)
some-definition [] name = refl
some-definition (s ∷ ss) name = from s.is_definition (same_name s.name name) refl (some-definition ss name)
  where
    from : (d b : Bool) → s.is_definition ≡ d
        → is_some (definition_in ss name) ≡ any_defines (same_named name ss)
        → is_some (cond (d && b) (Some s) (definition_in ss name))
        ≡ any_defines (cond b (s ∷ same_named name ss) (same_named name ss))
    from true true is rest = sym (ap (λ c. c || any_defines (same_named name ss)) is)
    from true false is rest = rest
    from false true is rest = rest ∙ sym (ap (λ c. c || any_defines (same_named name ss)) is)
    from false false is rest = rest

pub some-borrowed : {A : Type 0} (o : Option (Bor A))
    → is_some o ≡ is_some (option_map (λ (x : Bor A). x.now) o)
some-borrowed None = refl
some-borrowed (Some x) = refl
