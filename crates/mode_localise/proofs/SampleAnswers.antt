-- What a sample's text comes to.
use Rattle.std.proofs.Common.{◌≡◌, inl, inr, ℕ, ◌+◌, ◌≤◌, nat_lt, Bool, false, if◌then◌else◌, option_map, Option, None, Some, Ok, List, [], ◌∷◌, map, length, refl, sym, ◌∙◌, ap, subst, arith}
use Rattle.std.specs.Prelude.{Contains}
use Rattle.std.proofs.lemmas.Bool.Decides.{nat_tests}
use Rattle.std.proofs.lemmas.List.{length-map}
use Rattle.std.proofs.lemmas.List.FromFn.{length-map-range_with_len}
use Rattle.ba_bytes.specs.Lines.{lines_of}
use Rattle.ba_derivations.specs.Derivations.{sets_of}
use Rattle.ba_derivations.specs.declared.verdict.FoundSet.{FoundSet}
use Rattle.ba_derivations.specs.declared.verdict.Verdict.{Verdict}
use Rattle.ba_derivations.specs.declared.verdict.Verdict.TheVariants.{Located, NoRepair, TooMany, Spent}
use Rattle.ba_inputs.specs.Weights.{bad_line, content_of, said_of, statement_weight}
use Rattle.ba_lex.specs.Lines.{tokens_of}
use Rattle.ba_derivations.specs.Handing.{Derivation}
use Rattle.ba_localise.specs.Verdicts.{IsVerdict}
use Rattle.ba_parse.proofs.OneTree.{one_tree}
use Rattle.ba_parse.proofs.Verdicts.{one_verdict}
use Rattle.ba_parse.specs.Files.{IsParsed, Says, Verdict as Parsing, deep_at, parsed, syntax_at}
use Rattle.ba_samples.proofs.Costs.{units_are}
use Rattle.ba_samples.proofs.Reading.{sample_reads, sample_spells}
use Rattle.ba_samples.proofs.Runs.{main_is}
use Rattle.ba_samples.proofs.Sets.{least_sets, plain_fails, sets_weigh}
use Rattle.ba_samples.specs.Reading.{IsReadAs}
use Rattle.ba_samples.specs.Sample.{sample_sets, sample_tree}
use Rattle.ba_tokens.specs.declared.token.Token.{Token}
use Rattle.ba_tree.proofs.Members.{here}
use Rattle.ba_tree.proofs.Sets.{AreLeast-unique}
use Rattle.ba_tree.specs.Inputs.{InputFault as TextFault, fault_of, input_fault, types_for}
use Rattle.ba_tree.specs.Units.{units_of}
use Rattle.ba_tree.specs.Least.{AreLeast, stmt_of, unit_weight, unit_weights, weight_of}
use Rattle.ba_tree.specs.Run.{plain_run}
use Rattle.ba_tree.specs.Trees.{FunctionTree, ProgramTree, tree_of}
use Rattle.ba_tree.specs.declared.run.Outcome.TheVariants as outcome
use Rattle.ba_tree.specs.declared.tree.Program.{Program}
use Rattle.ba_tree.specs.declared.tree.StmtInfo.{StmtInfo}
use Rattle.ba_tree.specs.declared.tree.StmtKind.{StmtKind}
use Rattle.ba_tree.specs.declared.tree.StmtKind.TheVariants as kind
use Rattle.ba_trees.specs.FileMarks.{file_marks}
use Rattle.ba_trees.specs.Marks.{Mark}
use Rattle.ba_trees.specs.declared.tree.statements.RawProgram.{RawProgram}
use Rattle.ba_typing.specs.Files.{faults_of}
use Rattle.ba_answers.specs.declared.answers.Answer.{Answer}
use Rattle.ba_answers.specs.declared.answers.Answer.TheVariants as answer
use Rattle.ba_answers.specs.declared.fault.Fault.{Fault}
use Rattle.ba_answers.specs.declared.file.File.TheVariants as file
use Rattle.mode_localise.specs.Jobs.{sample_job, sample_texts}
use Rattle.ba_samples.specs.Text.{sample_text}
use Rattle.ba_cases.specs.declared.texts.Texts.{Texts}
use Rattle.mode_localise.specs.declared.jobs.LocaliseJob.{LocaliseJob}
use Rattle.mode_localise.specs.Answers.{IsAnswer, IsAnswerOfSample, IsFound, judge_in, verdict_answer}
use Rattle.ba_cases.specs.AtOnce.{IsAtOnce, case_answer, fault_of as named_fault, first_answer, input_of, input_refusal, no_program, of_program, run_in, size_refusal, unfailing, unit_limit, weights_of, weights_refusal}
use Rattle.ba_cases.specs.Searching.{at_once, by_search}
use Rattle.ba_cases.specs.Programs.{IsFault, IsTreeOf, ill_typed, no_file, no_main, no_tokens, too_deep}
use Rattle.ba_localise.proofs.Counting.{distinct_short}
use Rattle.ba_cases.proofs.OneText.{none_first}

-- THE TEXT HAS NO FAULT

no_syntax : {k : ℕ} {marks : List Mark} → syntax_at k ≡ parsed marks → ⊥
no_syntax e = cc

no_deep : {k : ℕ} {marks : List Mark} → deep_at k ≡ parsed marks → ⊥
no_deep e = cc

module _ (text : List ℕ) (program : ProgramTree) (read : IsReadAs text program) where
  tokens_are : (tokens : List Token) → tokens_of text ≡ Ok tokens → tokens ≡ read.tokens
  tokens_are tokens lexed = let both = sym lexed ∙ read.lexed in cc

  marks_are : (tree : RawProgram) → IsTreeOf text tree → file_marks tree ≡ read.marks
  marks_are tree it =
      let as_read = subst (λ ts. IsParsed ts (file_marks tree)) (tokens_are it.tokens it.lexed) it.parsed in
      one_tree read.tokens (file_marks tree) read.marks as_read.is_file read.parsed.is_file

  verdict_is : (tokens : List Token) (verdict : Parsing) → tokens_of text ≡ Ok tokens → Says tokens verdict
      → verdict ≡ parsed read.marks
  verdict_is tokens verdict lexed says = one_verdict read.tokens verdict (parsed read.marks)
      (subst (λ ts. Says ts verdict) (tokens_are tokens lexed) says) read.parsed

  pub unfaulty : (fault : Fault) → IsFault text fault → ⊥
  unfaulty fault (no_tokens error refused told) = let both = sym refused ∙ read.lexed in cc
  unfaulty fault (no_file tokens k lexed says is) = no_syntax (verdict_is tokens (syntax_at k) lexed says)
  unfaulty fault (too_deep tokens k lexed says is) = no_deep (verdict_is tokens (deep_at k) lexed says)
  unfaulty fault (ill_typed tree f it first is) =
      none_first f (faults_of tree.externals.items) (read.clean tree (marks_are tree it)) first
  unfaulty fault (no_main tree it clean untyped is) =
      let both = sym untyped ∙ read.typed tree (marks_are tree it) in cc

-- THERE IS NO ANSWER AT ONCE if none of the four is there

none_of : (a b c d : Option Answer) → a ≡ None → b ≡ None → c ≡ None → d ≡ None →
    first_answer (a ∷ b ∷ c ∷ d ∷ []) ≡ None
none_of a b c d one two three four = ap (λ a. first_answer (a ∷ b ∷ c ∷ d ∷ [])) one
    ∙ ap (λ b. first_answer (b ∷ c ∷ d ∷ [])) two ∙ ap (λ c. first_answer (c ∷ d ∷ [])) three
    ∙ ap (λ d. first_answer (d ∷ [])) four

small : (units : ℕ) → units ≤ unit_limit →
    (if nat_lt unit_limit units then Some answer.TooLarge else None) ≡ None
small units few = let no : nat_lt unit_limit units ≡ false = grind (arith, nat_tests, few) in
    ap (λ (large : Bool). if large then Some answer.TooLarge else None) no

-- THE ANSWERS that a program with a sample's tree can have

module _ (n : ℕ) (few : n ≤ 500) (p : Program) (same : tree_of p ≡ sample_tree n) where
  abbrev job : LocaliseJob
  job = sample_job n

  abbrev texts : Texts
  texts = sample_texts n

  -- no text has no fault, and gives each statement its usual weight
  no_input_fault : input_fault p [] ≡ None
  no_input_fault = ap (λ (f : FunctionTree). fault_of (types_for p f.params) []) (main_is n p same)

  usual : (k : StmtKind) → statement_weight k None ≡ unit_weight k
  usual kind.Initialiser = refl
  usual kind.Assignment = refl
  usual kind.Store = refl
  usual kind.Condition = refl
  usual kind.Switch = refl
  usual kind.Return = refl
  usual kind.Call = refl
  usual kind.Assert = refl

  nothing_said : (line : ℕ) → said_of (lines_of []) line ≡ None
  unfolding content_of
  nothing_said line = refl

  weights_are : weights_of p texts ≡ unit_weights p
  weights_are = λ i. map
      (λ (info : StmtInfo). (ap (statement_weight info.kind) (nothing_said info.at.line) ∙ usual info.kind) i)
      p.statements

  least : AreLeast (weights_of p texts) (judge_in job texts p) (sample_sets n)
  least = subst (λ weights. AreLeast weights (judge_in job texts p) (sample_sets n)) (sym weights_are)
      (least_sets n p same (omega arith) (input_of p []) job.bounds)

  each_weighs : (set : List ℕ) → Contains (sample_sets n) set → weight_of (weights_of p texts) set ≡ 1
  each_weighs set has = ap (λ weights. weight_of weights set) weights_are ∙ sets_weigh n p same set has

  how_many : length (sample_sets n) ≡ n + 1
  how_many = length-map-range_with_len (λ stmt. stmt ∷ []) 1 (n + 1)

  ends : plain_run p (input_of p []) job.bounds ≡ outcome.AssertFails (stmt_of (n + 2))
  ends = plain_fails n p same (omega arith) (input_of p []) job.bounds

  no_bad_line : bad_line [] ≡ None
  unfolding content_of
  no_bad_line = refl

  -- there is no answer without a search
  none_at_once : case_answer job.bounds texts p ≡ None
  none_at_once =
      let units = units_are n p same job.bounds in
      none_of (input_refusal file.Input p []) (weights_refusal []) (size_refusal p job.bounds)
      (unfailing p None (run_in job.bounds texts p))
      (ap (option_map (λ (f : TextFault). answer.BadInput file.Input (named_fault f) None)) no_input_fault)
      (ap (option_map (λ line. answer.BadWeights line)) no_bad_line)
      (small (units_of p job.bounds) (omega (arith, units, few)))
      (ap (unfailing p None) ends)

  -- and a search finds the sample's sets

  one_weight : (sets : List FoundSet) (weight : ℕ) → sets_of sets ≡ sample_sets n
      → ((set : List ℕ) → Contains (sets_of sets) set → weight_of (weights_of p texts) set ≡ weight)
      → weight ≡ 1
  one_weight [] weight are each =
      let none : 0 ≡ length (sample_sets n) = ap length are in let some = how_many in absurd (omega arith)
  one_weight (set ∷ sets) weight are each =
      let has = here set.groups (sets_of sets) in
      sym (each set.groups has)
      ∙ each_weighs set.groups (subst (λ sets. Contains sets set.groups) are has)

  told : (d : Derivation) (a : Answer) (v : Verdict)
      → IsVerdict (weights_of p texts) (judge_in job texts p) job.conflicts job.sets d.steps v
      → a ≡ verdict_answer job (sample_text n) p v → IsAnswerOfSample n a
  told d a (Located weight sets) all is =
      let are = AreLeast-unique (weights_of p texts) (judge_in job texts p) (sets_of sets) (sample_sets n)
      all.least least in
      let count = sym (length-map sets (λ (b : FoundSet). b.groups)) ∙ ap length are ∙ how_many in
      inl (is
      ∙ ap (λ weight. answer.Sampled n weight (length sets)) (one_weight sets weight are all.each_weighs)
      ∙ ap (answer.Sampled n 1) count)
  told d a NoRepair none is =
      let are = ap length
      (AreLeast-unique (weights_of p texts) (judge_in job texts p) [] (sample_sets n) none least) in
      let some = how_many in absurd (omega arith)
  told d a (TooMany weight sets) (many, good) is =
      let short : length (sets_of sets) ≤ length (sample_sets n) =
      distinct_short (sets_of sets) (sample_sets n)
      many.differ (λ set has. (least.exactly set).1 (many.each set has)) in
      let count = many.count in let all = how_many in absurd (omega arith)
  told d a Spent spent is = inr is

  pub found_sets : (handed : List Derivation) (a : Answer) → IsFound job texts p handed a →
      IsAnswerOfSample n a
  found_sets handed a found = told found.derivation a found.verdict found.shows.is_verdict found.tells

-- THE ANSWER of a sample

module _ (n : ℕ) (few : n ≤ 500) where
  once : (a : Answer) → IsAtOnce (sample_text n) (case_answer (sample_job n).bounds (sample_texts n)) a → ⊥
  once a (no_program fault of is) =
      unfaulty (sample_text n) (sample_tree n) (sample_reads n (omega arith)) fault of
  once a (of_program p spells is) =
      let both = sym is ∙ none_at_once n few p (sample_spells n (omega arith) p spells) in cc

  pub sample_answered : (handed : List Derivation) (a : Answer)
      → IsAnswer (sample_job n) (sample_texts n) handed a → IsAnswerOfSample n a
  sample_answered handed a (at_once is unsearched) = absurd (once a is)
  sample_answered handed a (by_search p spells none found) =
      found_sets n few p (sample_spells n (omega arith) p spells) handed a found
