-- The reading of inputs, line by line.
use Rattle.std.proofs.Common.{◌≡◌, ℕ, zero, suc, ◌+◌, ◌-◌, ◌<◌, ◌≤◌, Bool, true, false, cond, Option, None, Some, List, [], ◌∷◌, ◌++◌, length, take, drop, refl, sym, ap, subst, ◌∙◌, arith, append_assoc}
use Rattle.std.specs.Prelude.{filter, nat_lt}
use Rattle.std.specs.List.{AllZip, enumerate_from}
use Rattle.std.specs.Option.{option_or}
use Rattle.std.proofs.lemmas.Bool.{le-ltb, lt-ltb}
use Rattle.std.proofs.lemmas.List.{length-append}
use Rattle.std.proofs.lemmas.List.Elements.{All-append, All-nil}
use Rattle.ba_bytes.specs.Lines.{lines_of}
use Rattle.ba_tree.specs.Run.{fits}
use Rattle.ba_tree.specs.declared.tree.Program.{Program}
use Rattle.ba_inputs.specs.Adding.{Adds, AllFit, refusal, taken}
use Rattle.ba_inputs.specs.InputLines.{AreInputsIn, InputsFault, NoInput, IsInputIn, Numbered, Tells, first_fault, first_refused, input_lines, inputs_fault, is_input_line, line_fault, too_few, too_many}
use Rattle.ba_inputs.specs.declared.inputs.InputLine.{InputLine}
use Rattle.ba_inputs.specs.declared.inputs.InputsError.{InputsError}
use Rattle.ba_inputs.specs.declared.inputs.InputsError.TheVariants as error
use Rattle.ba_inputs.proofs.LineLengths.{AreWithin}

-- WHICH LINE IS REFUSED FIRST

or-assoc : {A : Type 0} (a b c : Option A) → option_or (option_or a b) c ≡ option_or a (option_or b c)
or-assoc None b c = refl
or-assoc (Some x) b c = refl

refused-none : (p : Program) (most : ℕ) → first_refused p most [] ≡ None
refused-none p zero = refl
refused-none p (suc most) = refl

refused-next : (p : Program) (most : ℕ) (line : Numbered) (lines : List Numbered)
    → first_refused p (suc most) (line ∷ lines) ≡ option_or (line_fault p line) (first_refused p most lines)
refused-next p most line lines =
    or-assoc (line_fault p line) (first_fault p (take most lines)) (too_many (drop most lines))

-- lines that are refused, and others after them
refused-stays : (p : Program) (most : ℕ) (lines others : List Numbered) (f : InputsFault)
    → first_refused p most lines ≡ Some f → first_refused p most (lines ++ others) ≡ Some f
refused-stays p most [] others f is = cc (refused-none p most)
refused-stays p zero ((number, line) ∷ lines) others f is = is
refused-stays p (suc most) (line ∷ lines) others f is =
    refused-next p most line (lines ++ others)
    ∙ by (λ told. refused-stays p most lines others f told) (line_fault p line)
    (sym (refused-next p most line lines) ∙ is)
  where
    by : (first_refused p most lines ≡ Some f → first_refused p most (lines ++ others) ≡ Some f)
        → (fault : Option InputsFault) → option_or fault (first_refused p most lines) ≡ Some f
        → option_or fault (first_refused p most (lines ++ others)) ≡ Some f
    by later None is = later is
    by later (Some g) is = is

-- lines of which none is refused
refused-passes : (p : Program) (most : ℕ) (lines others : List Numbered) → first_refused p most lines ≡ None
    → first_refused p most (lines ++ others) ≡ first_refused p (most - length lines) others
refused-passes p most [] others fine =
    let whole : most ≡ most - 0 = omega arith in ap (λ n. first_refused p n others) whole
refused-passes p zero ((number, line) ∷ lines) others fine = cc
refused-passes p (suc most) (line ∷ lines) others fine =
    refused-next p most line (lines ++ others)
    ∙ by (λ told. refused-passes p most lines others told) (line_fault p line)
    (sym (refused-next p most line lines) ∙ fine)
    ∙ ap (λ n. first_refused p n others) less
  where
    less : most - length lines ≡ suc most - suc (length lines)
    less = omega arith

    by : (first_refused p most lines ≡ None
        → first_refused p most (lines ++ others) ≡ first_refused p (most - length lines) others)
        → (fault : Option InputsFault) → option_or fault (first_refused p most lines) ≡ None
        → option_or fault (first_refused p most (lines ++ others))
        ≡ first_refused p (most - length lines) others
    by later None fine = later fine
    by later (Some g) fine = cc

-- an error that tells a fault tells each that follows from it
tells-on : (e : InputsError) (fault whole : Option InputsFault)
    → ((f : InputsFault) → fault ≡ Some f → whole ≡ Some f) → Tells e fault → Tells e whole
tells-on (error.NotANumber line number) fault whole on tells = on _ tells
tells-on (error.OutOfRange line number) fault whole on tells = on _ tells
tells-on (error.WrongCount line) fault whole on tells = on _ tells
tells-on error.NoInput fault whole on tells = on _ tells
tells-on (error.TooMany line) fault whole on tells = on _ tells
tells-on error.Memory fault whole on tells = tt

-- THE LINES

-- the lines of inputs among these, of which the first has this number
abbrev lines_from : ℕ → List (List ℕ) → List Numbered
lines_from number lines = filter is_input_line (enumerate_from number lines)

zip-append : {A B : Type 0} (R : A → B → Type 0) (xs ys : List A) (inputs others : List B)
    → AllZip R xs inputs → AllZip R ys others → AllZip R (xs ++ ys) (inputs ++ others)
zip-append R [] ys [] others front back = back
zip-append R [] ys (a ∷ inputs) others front back = absurd front
zip-append R (x ∷ xs) ys [] others front back = absurd front
zip-append R (x ∷ xs) ys (a ∷ inputs) others front back =
    (front.0, zip-append R xs ys inputs others front.1 back)

zip-length : {A B : Type 0} (R : A → B → Type 0) (xs : List A) (inputs : List B) → AllZip R xs inputs
    → length xs ≡ length inputs
zip-length R [] [] each = refl
zip-length R [] (a ∷ inputs) each = absurd each
zip-length R (x ∷ xs) [] each = absurd each
zip-length R (x ∷ xs) (a ∷ inputs) each = ap suc (zip-length R xs inputs each.1)

first-taken : (number : ℕ) (line : List ℕ) (lines : List (List ℕ))
    → lines_from number (line ∷ lines) ≡ taken (number, line) ++ lines_from (number + 1) lines
first-taken number line lines = by (is_input_line (number, line))
  where
    by : (b : Bool) → cond b ((number, line) ∷ lines_from (number + 1) lines) (lines_from (number + 1) lines)
        ≡ cond b ((number, line) ∷ []) [] ++ lines_from (number + 1) lines
    by true = refl
    by false = refl

-- the inputs of the lines so far, if these are left
pub record Reads (p : Program) (text : List ℕ) (left : List (List ℕ)) (number : ℕ) (inputs : List InputLine)
    : Type 0 where
  pub earlier : List Numbered
  pub whole : input_lines text ≡ earlier ++ lines_from (number + 1) left
  pub each : AllZip (IsInputIn p) earlier inputs
  pub fit : AllFit p inputs
  pub fault : first_refused p 64 (input_lines text)
      ≡ first_refused p (64 - length inputs) (lines_from (number + 1) left)
  pub count : number + length left ≡ length (lines_of text)
  pub short : AreWithin 65536 left

pub reads-first : (p : Program) (text : List ℕ) (left : List (List ℕ)) (number : ℕ) (inputs : List InputLine)
    → left ≡ lines_of text → number ≡ 0 → inputs ≡ [] → AreWithin 65536 (lines_of text)
    → Reads p text left number inputs
reads-first p text left number inputs is first none short = record {
  earlier = [];
  whole = begins;
  each = subst (AllZip (IsInputIn p) []) (sym none) tt;
  fit = subst (AllFit p) (sym none) (All-nil (λ (input : InputLine). fits p input.input ≡ true));
  fault = ap (first_refused p 64) begins ∙ ap (λ (is : List InputLine).
      first_refused p (64 - length is) (lines_from (number + 1) left)) (sym none);
  count = omega (arith, first, ap length is);
  short = subst (AreWithin 65536) (sym is) short;
}
  where
    begins : input_lines text ≡ lines_from (number + 1) left
    begins = ap (lines_from 1) (sym is) ∙ ap (λ n. lines_from (n + 1) left) (sym first)

-- one line more
pub reads-next : (p : Program) (text : List ℕ) (left rest : List (List ℕ)) (number next : ℕ)
    (inputs more : List InputLine) (line : List ℕ) → Reads p text left number inputs → left ≡ line ∷ rest
    → next ≡ number + 1 → Adds p (next, line) inputs more → Reads p text rest next more
reads-next p text left rest number next inputs more line r is one adds = record {
  earlier = r.earlier ++ taken (next, line);
  whole = r.whole ∙ ap (λ ls. r.earlier ++ ls) cut
      ∙ sym (append_assoc r.earlier (taken (next, line)) (lines_from (next + 1) rest));
  each = subst (AllZip (IsInputIn p) (r.earlier ++ taken (next, line))) (sym adds.whole)
      (zip-append (IsInputIn p) r.earlier (taken (next, line)) inputs adds.added r.each adds.each);
  fit = subst (AllFit p) (sym adds.whole)
      (All-append (λ (input : InputLine). fits p input.input ≡ true) inputs adds.added r.fit adds.fit);
  fault = r.fault ∙ ap (first_refused p (64 - length inputs)) cut
      ∙ refused-passes p (64 - length inputs) (taken (next, line)) (lines_from (next + 1) rest) adds.no_fault
      ∙ ap (λ n. first_refused p n (lines_from (next + 1) rest)) fewer;
  count = omega (arith, r.count, one, ap length is);
  short = (subst (AreWithin 65536) is r.short).1;
}
  where
    cut : lines_from (number + 1) left ≡ taken (next, line) ++ lines_from (next + 1) rest
    cut = ap (lines_from (number + 1)) is ∙ ap (λ n. lines_from n (line ∷ rest)) (sym one)
        ∙ first-taken next line rest

    longer : length more ≡ length inputs + length (taken (next, line))
    longer = ap length adds.whole ∙ length-append inputs adds.added
        ∙ ap (λ n. length inputs + n) (sym (zip-length (IsInputIn p) (taken (next, line)) adds.added
        adds.each))

    fewer : (64 - length inputs) - length (taken (next, line)) ≡ 64 - length more
    fewer = omega (arith, longer)

-- a line that is refused
pub reads-refused : (p : Program) (text : List ℕ) (left rest : List (List ℕ)) (number next : ℕ)
    (inputs : List InputLine) (line : List ℕ) (e : InputsError) → Reads p text left number inputs
    → left ≡ line ∷ rest → next ≡ number + 1 → Tells e (refusal p inputs (next, line))
    → Tells e (first_refused p 64 (input_lines text))
reads-refused p text left rest number next inputs line e r is one =
    tells-on e (refusal p inputs (next, line)) (first_refused p 64 (input_lines text))
    (λ f told. r.fault ∙ ap (first_refused p (64 - length inputs)) cut
    ∙ refused-stays p (64 - length inputs) (taken (next, line)) (lines_from (next + 1) rest) f told)
  where
    cut : lines_from (number + 1) left ≡ taken (next, line) ++ lines_from (next + 1) rest
    cut = ap (lines_from (number + 1)) is ∙ ap (λ n. lines_from n (line ∷ rest)) (sym one)
        ∙ first-taken next line rest

-- HOW MANY THEY ARE

by-count : (p : Program) (text : List ℕ) (least : ℕ) (inputs : List InputLine) (b : Bool)
    → AreInputsIn p text inputs → first_refused p 64 (input_lines text) ≡ None
    → nat_lt (length inputs) least ≡ b → inputs_fault p text least ≡ cond b (Some NoInput) None
by-count p text least inputs b each fine is =
    ap (λ f. option_or f (too_few least (input_lines text))) fine
    ∙ ap (λ n. cond (nat_lt n least) (Some NoInput) None)
    (zip-length (IsInputIn p) (input_lines text) inputs each)
    ∙ ap (λ b. cond b (Some NoInput) None) is

pub few-inputs : (p : Program) (text : List ℕ) (least : ℕ) (inputs : List InputLine)
    → AreInputsIn p text inputs → first_refused p 64 (input_lines text) ≡ None → length inputs < least
    → inputs_fault p text least ≡ Some NoInput
few-inputs p text least inputs each fine few =
    by-count p text least inputs true each fine (lt-ltb (length inputs) least few)

pub enough-inputs : (p : Program) (text : List ℕ) (least : ℕ) (inputs : List InputLine)
    → AreInputsIn p text inputs → first_refused p 64 (input_lines text) ≡ None → least ≤ length inputs
    → inputs_fault p text least ≡ None
enough-inputs p text least inputs each fine enough =
    by-count p text least inputs false each fine (le-ltb (length inputs) least enough)
