-- The fault that comes first among those that were found one after the other.
use Rattle.std.proofs.Common.{true≢false, ◌≡◌, ◌⊎◌, inl, inr, true, false, cond, Option, None, Some, List, [], ◌∷◌, ◌++◌, refl, sym, ◌∙◌, ap, subst, arith}
use Rattle.std.specs.Prelude.{Contains}
use Rattle.std.proofs.lemmas.Bool.{cases_Bool}
use Rattle.std.proofs.lemmas.List.Elements.{
  Contains-append_cases,
  Contains-append_left,
  Contains-append_right,
  Contains-push,
  Contains-push_cases,
}
use Rattle.ba_typing.proofs.FaultOrder.{asym, connected, trans}
use Rattle.ba_typing.specs.Faults.{comes_before, IsFirst}
use Rattle.ba_expressions.specs.Inferring.{sooner, least_with}
use Rattle.ba_typing.specs.declared.fault.Fault.{Fault}

never-itself : (f : Fault) → comes_before f f ≡ false
never-itself f = elim (cases_Bool (comes_before f f)) [ inl e ↦ asym f f e | inr e ↦ e ]

-- THE ONE OF TWO THAT COMES FIRST

first : Fault → Fault → Fault
first g f = cond (comes_before f g) f g

module _ (g f : Fault) where
  first-later : comes_before f g ≡ true → first g f ≡ f
  unfolding first
  first-later e = ap (λ b. cond b f g) e

  first-sooner : comes_before f g ≡ false → first g f ≡ g
  unfolding first
  first-sooner e = ap (λ b. cond b f g) e

-- what comes before one of two and not before the other
between : (g f h : Fault) → comes_before g f ≡ true → comes_before h f ≡ false → comes_before g h ≡ true
between g f h before not_before = elim (cases_Bool (comes_before g h)) [
  | inl e ↦ e
  | inr e ↦ elim (cases_Bool (comes_before h g)) [
    | inl d ↦ absurd (true≢false (sym (trans h g f d before) ∙ not_before))
    | inr d ↦ absurd (true≢false (sym before ∙ ap (λ x. comes_before x f) (connected g h e d) ∙ not_before))
  ]
]

first-comm : (f g : Fault) → first f g ≡ first g f
first-comm f g = elim (cases_Bool (comes_before g f)) [
  | inl e ↦ first-later f g e ∙ sym (first-sooner g f (asym g f e))
  | inr e ↦ elim (cases_Bool (comes_before f g)) [
    | inl d ↦ first-sooner f g e ∙ sym (first-later g f d)
    | inr d ↦ first-sooner f g e ∙ connected f g d e ∙ sym (first-sooner g f d)
  ]
]

first-swap : (h f g : Fault) → first (first h f) g ≡ first (first h g) f
first-swap h f g = elim (cases_Bool (comes_before f h)) [
  | inl fh ↦ elim (cases_Bool (comes_before g h)) [
    | inl gh ↦ ap (λ x. first x g) (first-later h f fh) ∙ first-comm f g
        ∙ sym (ap (λ x. first x f) (first-later h g gh))
    | inr gh ↦ elim (cases_Bool (comes_before g f)) [
      | inl gf ↦ absurd (true≢false (sym (trans g f h gf fh) ∙ gh))
      | inr gf ↦ ap (λ x. first x g) (first-later h f fh) ∙ first-sooner f g gf
          ∙ sym (ap (λ x. first x f) (first-sooner h g gh) ∙ first-later h f fh)
    ]
  ]
  | inr fh ↦ elim (cases_Bool (comes_before g h)) [
    | inl gh ↦ elim (cases_Bool (comes_before f g)) [
      | inl fg ↦ absurd (true≢false (sym (trans f g h fg gh) ∙ fh))
      | inr fg ↦ ap (λ x. first x g) (first-sooner h f fh) ∙ first-later h g gh
          ∙ sym (ap (λ x. first x f) (first-later h g gh) ∙ first-sooner g f fg)
    ]
    | inr gh ↦ ap (λ x. first x g) (first-sooner h f fh) ∙ first-sooner h g gh
        ∙ sym (ap (λ x. first x f) (first-sooner h g gh) ∙ first-sooner h f fh)
  ]
]

-- LISTS

sooner-swap : (m : Option Fault) (f g : Fault) → sooner (sooner m f) g ≡ sooner (sooner m g) f
unfolding first
sooner-swap None f g = ap Some (first-comm f g)
sooner-swap (Some h) f g = ap Some (first-swap h f g)

least-late : (m : Option Fault) (g : Fault) (fs : List Fault)
    → least_with (sooner m g) fs ≡ sooner (least_with m fs) g
least-late m g [] = refl
least-late m g (f ∷ fs) = ap (λ x. least_with x fs) (sooner-swap m g f) ∙ least-late (sooner m f) g fs

-- those of one list after those of another, in either order
pub least-append : (m : Option Fault) (fs gs : List Fault)
    → least_with (least_with m fs) gs ≡ least_with m (fs ++ gs)
least-append m [] gs = refl
least-append m (f ∷ fs) gs = least-append (sooner m f) fs gs

pub least-swap : (m : Option Fault) (fs gs : List Fault)
    → least_with (least_with m fs) gs ≡ least_with m (gs ++ fs)
least-swap m fs [] = refl
least-swap m fs (g ∷ gs) = ap (λ x. least_with x gs) (sym (least-late m g fs)) ∙ least-swap (sooner m g) fs gs

-- THE FIRST OF ALL

record IsLeast (fs : List Fault) (f : Fault) : Type 0 where
  there : Contains fs f
  least : (g : Fault) → Contains fs g → comes_before g f ≡ false

Some-same : (f g : Fault) → Some f ≡ Some g → f ≡ g
Some-same f g e = ap (λ x. elim x as (λ y. Fault) [ None ↦ f | Some y ↦ y ]) e

only-one : (h g : Fault) → Contains (h ∷ []) g → h ≡ g
only-one h g has = elim (Contains-push_cases [] h g has) [
  | inl e ↦ absurd (let no_g : ⊥ = omega (
    arith,
    e.1,
  ) in no_g)
  | inr e ↦ e
]

first-both : (h e g : Fault) → (g ≡ h) ⊎ (g ≡ e) → comes_before g (first h e) ≡ false
first-both h e g is = elim (cases_Bool (comes_before e h)) [
  | inl d ↦ elim is [
    | inl i ↦ ap (λ x. comes_before x (first h e)) i ∙ ap (comes_before h) (first-later h e d) ∙ asym e h d
    | inr i ↦ ap (λ x. comes_before x (first h e)) i ∙ ap (comes_before e) (first-later h e d) ∙
        never-itself e
  ]
  | inr d ↦ elim is [
    | inl i ↦ ap (λ x. comes_before x (first h e)) i ∙ ap (comes_before h) (first-sooner h e d) ∙
        never-itself h
    | inr i ↦ ap (λ x. comes_before x (first h e)) i ∙ ap (comes_before e) (first-sooner h e d) ∙ d
  ]
]

not-before : (g h f : Fault) → comes_before g h ≡ false → comes_before h f ≡ false → comes_before g f ≡ false
not-before g h f one other = elim (cases_Bool (comes_before g f)) [
  | inl e ↦ absurd (true≢false (sym (between g f h e other) ∙ one))
  | inr e ↦ e
]

first-there : (h e : Fault) (fs : List Fault) (f : Fault) → Contains (first h e ∷ fs) f → Contains (h ∷ e ∷
    fs) f
first-there h e fs f has = elim (cases_Bool (comes_before e h)) [
  | inl d ↦ Contains-append_right (h ∷ []) (e ∷ fs) f
      (subst (λ x. Contains (x ∷ fs) f) (first-later h e d) has)
  | inr d ↦ elim (Contains-append_cases (h ∷ []) fs f
      (subst (λ x. Contains (x ∷ fs) f) (first-sooner h e d) has)) [
        | inl one ↦ Contains-append_left (h ∷ []) (e ∷ fs) f one
        | inr more ↦ Contains-append_right (h ∷ e ∷ []) fs f more
      ]
]

least-some : (h : Fault) (fs : List Fault) (f : Fault) → least_with (Some h) fs ≡ Some f → IsLeast (h ∷ fs) f
unfolding first
least-some h [] f e = let same = Some-same h f e in record {
  there = subst (λ x. Contains (x ∷ []) f) (sym same) (Contains-push [] f);
  least = λ g has. ap (λ x. comes_before x f) (sym (only-one h g has) ∙ same) ∙ never-itself f;
}
least-some h (e ∷ fs) f is = let rest = least-some (first h e) fs f is in record {
  there = first-there h e fs f rest.there;
  least = λ g has. elim (Contains-append_cases (h ∷ e ∷ []) fs g has) [
    | inl two ↦ not-before g (first h e) f
        (first-both h e g (elim (Contains-append_cases (h ∷ []) (e ∷ []) g two) [
          | inl one ↦ inl (sym (only-one h g one))
          | inr one ↦ inr (sym (only-one e g one))
        ]))
        (rest.least (first h e) (Contains-append_left (first h e ∷ []) fs (first h e) (Contains-push []
        (first h e))))
    | inr more ↦ rest.least g (Contains-append_right (first h e ∷ []) fs g more)
  ];
}

pub least-is : (fs : List Fault) (f : Fault) → least_with None fs ≡ Some f → IsFirst fs f
least-is [] f e = absurd (let no_f : ⊥ = cc in no_f)
least-is (h ∷ fs) f e = let is = least-some h fs f e in record { there = is.there; least = is.least }

some-stays : (h : Fault) (fs : List Fault) → least_with (Some h) fs ≡ None → ⊥
some-stays h [] e = let no_h : ⊥ = cc in no_h
some-stays h (f ∷ fs) e = some-stays (cond (comes_before f h) f h) fs e

pub least-none : (fs : List Fault) → least_with None fs ≡ None → fs ≡ []
least-none [] e = refl
least-none (f ∷ fs) e = absurd (some-stays f fs e)
