-- What a turn comes to.

use Rattle.std.proofs.Common.{◌≡◌, ◌+◌, ◌<◌, ◌≤◌, ℕ, ◌⊎◌, inl, inr, Option, None, Some, List, [], ◌∷◌, ◌++◌, length, refl, sym, ap, ◌∙◌, subst, arith}
use Rattle.std.proofs.lemmas.List.{append-nil, append_assoc}
use Rattle.ba_cores.specs.Rounds.{literals_of}
use Rattle.ba_cores.proofs.CoreLaws.{softs_assumed}
use Rattle.ba_derivations.specs.declared.verdict.FoundSet.{FoundSet}
use Rattle.ba_enum.specs.Leading.{AddsSets, BlocksSet, HasReached, IsReached, IsReady, Leaves, Puts}
use Rattle.ba_encode.specs.Softs.{softs_of}
use Rattle.ba_encode.specs.declared.encoded.Encoded.{Encoded}
use Rattle.ba_enum.specs.Turning.{ComesTo, next_of}
use Rattle.ba_enum.proofs.LeadLaws.{reached_on, reached_facts, puts_none, puts_on, leaves_put, leaves_on}
use Rattle.ba_enum.proofs.NextLaws.{next_of_model}
use Rattle.ba_learn.specs.Live.{IsSame, AreLive}
use Rattle.ba_lits.specs.Literals.{Literal}
use Rattle.ba_search.specs.Answers.{AreAssumptions, IsAnswer}
use Rattle.ba_search.specs.Searching.{ArePart}
use Rattle.ba_search.specs.declared.search.Answer.{Answer}
use Rattle.ba_search.specs.declared.search.Answer.TheVariants.{Model, Core, Spent}
use Rattle.ba_search.proofs.TakenLaws.{clause_at-more, number_le}
use Rattle.ba_search.specs.declared.search.SearchError.{SearchError}
use Rattle.ba_search.specs.declared.search.SearchError.TheVariants.{SinkFailed}
use Rattle.ba_steps.specs.Sinks.{Rose}
use Rattle.ba_steps.proofs.SinkLaws.{rose_later}
use Rattle.ba_checker.specs.Blocks.{block_clause}
use Rattle.ba_checker.specs.Puts.{Checking}
use Rattle.ba_choices.specs.Judges.{Judge}
use Rattle.ba_checker.specs.States.{kept, State, clause_at}
use Rattle.ba_checker.specs.declared.store.Origin.TheVariants as origins

-- WHAT A BLOCKED SET LEAVES
module _ {encoded : Encoded} {old new : Checking} {f h : List FoundSet} (blocks : BlocksSet encoded old new f
    h)
  where
    -- the search's clauses stay part of the checker's
    pub part_after_block : {clauses : _} → AreLive clauses (clause_at old.checker.clauses) →
        ArePart clauses (clause_at new.checker.clauses)
    part_after_block are = λ reference c is.
        let s = old.checker in
        let t = new.checker in
        let same = are.each reference c is in
        let more : clause_at t.clauses c.number ≡ clause_at s.clauses c.number =
        ap (λ (u : State). clause_at u.clauses c.number) blocks.taken
        ∙ clause_at-more s.clauses (kept origins.Blocked (block_clause s.groups blocks.set.groups) ∷ [])
        c.number (number_le s.clauses c.number c.lits same) in
        subst (λ (o : Option (List Literal)). IsSame o c.lits) (sym more) same

    pub blocks_ready : IsReady old.checker → IsReady new.checker
    blocks_ready ready = record {
      begun = ap (λ (u : State). u.ended) blocks.taken ∙ ready.begun;
      awake = ap (λ (u : State). u.refused) blocks.taken ∙ ready.awake;
    }

    pub blocks_softs : new.checker.softs ≡ old.checker.softs
    blocks_softs = ap (λ (u : State). u.softs) blocks.taken

    pub blocks_most : new.checker.most_sets ≡ old.checker.most_sets
    blocks_most = ap (λ (u : State). u.most_sets) blocks.taken

    pub blocks_longer : length h ≡ length f + 1
    blocks_longer = ap (λ (fs : List FoundSet). length fs) blocks.found ∙ one_longer f
      where
        one_longer : (xs : List FoundSet) → length (xs ++ blocks.set ∷ []) ≡ length xs + 1
        one_longer [] = refl
        one_longer (y ∷ ys) = let rest = one_longer ys in omega (arith, rest)

    -- it was added
    pub blocks_adds : AddsSets encoded old new f h
    blocks_adds = record { more = blocks.set ∷ []; puts = blocks.puts; found = blocks.found }

-- SETS THAT WERE ADDED
pub adds_none : (encoded : Encoded) (log : Checking) (found : List FoundSet) →
    AddsSets encoded log log found found
adds_none encoded log found =
    record { more = []; puts = puts_none encoded log; found = sym (append-nil found) }

-- sets, and then steps that block none
pub adds_then : (encoded : Encoded) (a b c : Checking) (f h : List FoundSet) → b.accepts ≡ a.accepts →
    AddsSets encoded a b f h → Puts encoded [] b c → AddsSets encoded a c f h
adds_then encoded a b c f h judge adds puts = record {
  more = adds.more;
  puts = subst (λ (found : List FoundSet). Puts encoded found a c) (append-nil adds.more)
      (puts_on encoded a b c adds.more [] judge adds.puts puts);
  found = adds.found;
}

-- sets, and then others
pub adds_on : (encoded : Encoded) (a b c : Checking) (f h k : List FoundSet) → b.accepts ≡ a.accepts →
    AddsSets encoded a b f h → AddsSets encoded b c h k → AddsSets encoded a c f k
adds_on encoded a b c f h k judge first second = record {
  more = first.more ++ second.more;
  puts = puts_on encoded a b c first.more second.more judge first.puts second.puts;
  found = second.found ∙ (ap (λ fs. fs ++ second.more) first.found ∙ append_assoc f first.more second.more);
}

pub adds_reached : {encoded : Encoded} {a b : Checking} {f h : List FoundSet} → b.accepts ≡ a.accepts →
    AddsSets encoded a b f h → HasReached encoded a f → HasReached encoded b h
adds_reached {encoded} {a} {b} {f} {h} judge adds reached =
    let P : List FoundSet → Type 0 = λ found. HasReached encoded b found in
    subst P (sym adds.found)
    (subst (λ (j : Judge). IsReached j encoded.formula (softs_of encoded.groups) b.checker (f ++ adds.more))
    (sym judge) (reached_on reached b.checker adds.puts.steps adds.more adds.puts.leads))

pub adds_leaves : (encoded : Encoded) (old new : Checking) {f h : List FoundSet} →
    AddsSets encoded old new f h → Leaves old new
adds_leaves encoded old new adds = leaves_put encoded old new adds.more adds.puts

pub adds_leave : (encoded : Encoded) (a b c : Checking) {f h : List FoundSet} → b.accepts ≡ a.accepts →
    AddsSets encoded a b f h → Leaves b c → Leaves a c
adds_leave encoded a b c judge adds left = leaves_on encoded a b c adds.more judge adds.puts left

-- THE ASSUMPTIONS of a state that is reached
pub reached_assumed : (encoded : Encoded) (log : Checking) (found : List FoundSet) (lits : List Literal) →
    HasReached encoded log found → lits ≡ literals_of log.checker.softs →
    AreAssumptions log.checker.variables lits
reached_assumed encoded log found lits reached is =
    let s = log.checker in
    let facts = reached_facts log.accepts encoded.formula (softs_of encoded.groups) s found reached in
    softs_assumed s.variables s.variables s.softs lits is refl facts.among facts.differ

-- WHAT THE ANSWER COMES TO
pub comes_of : (encoded : Encoded) (log : Checking) (found : List FoundSet) (lits : List Literal)
    (answer : Answer) →
    HasReached encoded log found → lits ≡ literals_of log.checker.softs → IsAnswer log.checker lits answer →
    0 < length found → length found ≤ log.checker.most_sets → ComesTo encoded log found (next_of answer)
comes_of encoded log found lits answer reached is answers some few =
    let P : List Literal → Type 0 = λ ls. IsAnswer log.checker ls answer in
    by_case answer (subst P is answers)
  where
    by_case : (a : Answer) → IsAnswer log.checker (literals_of log.checker.softs) a →
        ComesTo encoded log found (next_of a)
    by_case (Model m) h = (
      next_of_model log.accepts encoded.formula (softs_of encoded.groups) log.checker found m.values reached
          h,
      few,
    )
    by_case (Core core) h = record { core = h; some = some; few = few }
    by_case Spent h = h

-- FAULTS that rose in a later call rose in the whole

pub cause_later : {X : Type 0} (failure : Option SearchError) (a b c : ℕ) → failure ≡ None → a ≤ b →
    (failure ≡ Some SinkFailed) ⊎ Rose b c → X ⊎ Rose a c
cause_later failure a b c working later (inl failed) =
    let both : None ≡ Some SinkFailed = sym working ∙ failed in
    absurd (cc)
cause_later failure a b c working later (inr rose) = inr (rose_later a b c later rose)
