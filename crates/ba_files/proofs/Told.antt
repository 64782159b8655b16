-- What a world tells of files, beside what comes of reading them.

use Rattle.std.proofs.Common.{◌≡◌, ◌⊎◌, inl, inr, ℕ, ◌<◌, List, [], ◌∷◌, length, Option, None, Some, IfSome, IsSomeAnd, refl, sym, ap, subst, ◌∙◌, arith}
use Rattle.ba_answers.specs.Limits.{limit}
use Rattle.ba_answers.specs.declared.answers.Answer.{Answer}
use Rattle.ba_answers.specs.declared.answers.Answer.TheVariants as answer
use Rattle.ba_answers.specs.declared.file.File.{File}
use Rattle.ba_commands.specs.Modes.{Word}
use Rattle.ba_world.specs.Read.{Stopped, StoppedPast}
use Rattle.ba_world.specs.World.{HasReadFault, OnlyReads, Outside}
use Rattle.ba_world.specs.declared.read.ReadFileError.{ReadFileError}
use Rattle.ba_world.specs.declared.read.ReadFileError.TheVariants as read
use Rattle.ba_world.proofs.WholeReads.{only_reads_none, only_reads_on, past_longer, rose_since}
use Rattle.ba_files.specs.Files.{AreRead, IsReadFile, IsReadIfNamed, IsUnreadIfNamed, StopsAt, TellsAll, TellsFile, TellsStop, TellsText, TellsUnread, answer_for}
use Rattle.ba_files.specs.declared.files.Named.{Named}

-- A FILE THAT IS READ: what was told before is what is read

-- what is told of a name stays told in reading
held_still : (before opened : Outside) (name : Word) (held : Option (Option (List ℕ))) →
    OnlyReads before opened → before.held name ≡ held → opened.held name ≡ held
held_still before opened name held reads told =
    ap (λ (all : Word → Option (Option (List ℕ))). all name) reads.held ∙ told

-- a told file that was read whole has the told bytes
text_read : (name : Word) (told text : List ℕ) (old new : Outside) → TellsFile old name told
    → IsReadFile name text old new → text ≡ told
text_read name told text old new is f =
    let same : Some told ≡ Some text =
    subst (λ (held : Option (Option (List ℕ))). IfSome held (λ file. file ≡ Some text)) is
    f.whole.bytes_are in
    cc

-- a file that is told to be absent wasn't read
absent_read : (name : Word) (text : List ℕ) (old new : Outside) → old.held name ≡ Some None
    → IsReadFile name text old new → ⊥
absent_read name text old new gone f =
    let no : None ≡ Some text =
    subst (λ (held : Option (Option (List ℕ))). IfSome held (λ file. file ≡ Some text)) gone
    f.whole.bytes_are in
    cc

-- a file whose read stopped past the limit is longer than it
past_told : (name : Word) (held : Option (List ℕ)) (old new : Outside) → old.held name ≡ Some held
    → StoppedPast name limit old new → IsSomeAnd held (λ all. limit < length all)
past_told name held old new is past =
    subst (λ (held : Option (Option (List ℕ))). IfSome held (λ file. IsSomeAnd file (λ all. limit < length
    all))) is
    (past_longer name limit old new past)

-- one that is there, and whose read stopped: a fault rose
fault_read : (name : Word) (told : List ℕ) (old new : Outside) → TellsFile old name told
    → Stopped name limit old new → HasReadFault old new
fault_read name told old new is (inr reading) = reading.cause
fault_read name told old new is (inl opening) = by opening.cause where
  by : HasReadFault old new ⊎ (old.held name ≡ Some None) → HasReadFault old new
  by (inl rose) = rose
  by (inr gone) = let no : ⊥ = cc (is, gone) in absurd no

-- the same if a file may have no name

text_still : (before opened : Outside) (name : Option Word) (text : List ℕ) → OnlyReads before opened
    → TellsText before name text → TellsText opened name text
text_still before opened None text reads told = told
text_still before opened (Some name) text reads (told, short) =
    (held_still before opened name (Some (Some text)) reads told, short)

only_one : (name : Option Word) (text : List ℕ) (old new : Outside) → IsReadIfNamed name text old new
    → OnlyReads old new
only_one None text old new (empty, same) = subst (OnlyReads old) (sym same) (only_reads_none old)
only_one (Some name) text old new f = f.only

one_read : (name : Option Word) (told text : List ℕ) (old new : Outside) → TellsText old name told
    → IsReadIfNamed name text old new → text ≡ told
one_read None told text old new is (empty, same) = empty ∙ sym is
one_read (Some name) told text old new (is, short) f = text_read name told text old new is f

unread_still : (error : ReadFileError) (before opened : Outside) (name : Option Word) →
    OnlyReads before opened → TellsUnread error before name → TellsUnread error opened name
unread_still error before opened None reads never = absurd never
unread_still read.Failed before opened (Some name) reads gone =
    held_still before opened name (Some None) reads gone
unread_still read.TooLong before opened (Some name) reads (text, told, long) =
    (text, held_still before opened name (Some (Some text)) reads told, long)
unread_still read.Memory before opened (Some name) reads never = absurd never

never_read : (error : ReadFileError) (name : Option Word) (text : List ℕ) (old new : Outside) →
    TellsUnread error old name → IsReadIfNamed name text old new → ⊥
never_read error None text old new never r = absurd never
never_read read.Failed (Some name) text old new gone f = absent_read name text old new gone f
never_read read.TooLong (Some name) text old new (told, is, long) f =
    let same = ap length (text_read name told text old new is f) in
    let short = f.short in
    omega (arith, same, short, long)
never_read read.Memory (Some name) text old new never f = absurd never

-- A READ THAT STOPPED against what is told: a fault rose, or there was no memory
pub data Excuse (error : ReadFileError) (old new : Outside) : Type 0 where
  fault : error ≡ read.Failed → HasReadFault old new → Excuse error old new
  memory : error ≡ read.Memory → Excuse error old new

excuse_since : (error : ReadFileError) (before old new : Outside) → OnlyReads before old
    → Excuse error old new → Excuse error before new
excuse_since error before old new reads (fault is rose) =
    fault is (rose_since before.read_faults old.read_faults new.read_faults reads.no_fall rose)
excuse_since error before old new reads (memory is) = memory is

told_stops : (error : ReadFileError) (name : Option Word) (told : List ℕ) (old new : Outside) →
    TellsText old name told → IsUnreadIfNamed name error old new → Excuse error old new
told_stops error None told old new is stops = memory stops
told_stops read.Failed (Some name) told old new (is, short) stops =
    fault refl (fault_read name told old new is stops)
told_stops read.TooLong (Some name) told old new (is, short) stops =
    let long : limit < length told = past_told name (Some told) old new is stops in
    let no : ⊥ = omega (arith, long, short) in absurd no
told_stops read.Memory (Some name) told old new is stops = memory refl

-- or it stopped as it is told
unread_stops : (error cause : ReadFileError) (name : Option Word) (old new : Outside) →
    TellsUnread error old name → IsUnreadIfNamed name cause old new → (cause ≡ error) ⊎ Excuse cause old new
unread_stops error cause None old new never stops = absurd never
unread_stops read.Failed read.Failed (Some name) old new gone stops = inl refl
unread_stops read.Failed read.TooLong (Some name) old new gone stops =
    absurd (past_told name None old new gone stops)
unread_stops read.TooLong read.Failed (Some name) old new (told, is, long) stops =
    inr (fault refl (fault_read name told old new is stops))
unread_stops read.TooLong read.TooLong (Some name) old new told stops = inl refl
unread_stops read.Memory cause (Some name) old new never stops = absurd never
unread_stops read.Failed read.Memory (Some name) old new told stops = inr (memory refl)
unread_stops read.TooLong read.Memory (Some name) old new told stops = inr (memory refl)

-- ALL FILES of a list: if they are told, and if one is told that can't be read whole

-- only reading goes on
pub all_only : (files : List Named) (texts : List (List ℕ)) (before after : Outside) →
    AreRead files texts before after → OnlyReads before after
all_only [] [] before after same = subst (OnlyReads before) (sym same) (only_reads_none before)
all_only [] (text ∷ texts) before after never = absurd never
all_only (file ∷ files) [] before after never = absurd never
all_only (file ∷ files) (text ∷ texts) before after (next, first, r) =
    only_reads_on before next after (only_one file.name text before next first)
    (all_only files texts next after r)

-- told files that were all read have the told texts
pub all_read : (files : List Named) (told texts : List (List ℕ)) (before opened after : Outside) →
    OnlyReads before opened → TellsAll before files told → AreRead files texts opened after → texts ≡ told
all_read [] [] [] before opened after reads tells r = refl
all_read [] [] (text ∷ texts) before opened after reads tells never = absurd never
all_read [] (one ∷ told) texts before opened after reads never r = absurd never
all_read (file ∷ files) [] texts before opened after reads never r = absurd never
all_read (file ∷ files) (one ∷ told) [] before opened after reads tells never = absurd never
all_read (file ∷ files) (one ∷ told) (text ∷ texts) before opened after reads (here, tells) (next, first, r) =
    let same = one_read file.name one text opened next (text_still before opened file.name one reads here)
    first in
    let on = only_reads_on before opened next reads (only_one file.name text opened next first) in
    let rest = all_read files told texts before next after on tells r in
    ap (λ (t : List ℕ). t ∷ texts) same ∙ ap (λ (ts : List (List ℕ)). one ∷ ts) rest

pub all_stops : (files : List Named) (told : List (List ℕ)) (other : File) (cause : ReadFileError)
    (before opened after : Outside) → OnlyReads before opened → TellsAll before files told
    → StopsAt other cause files opened after → Excuse cause opened after
all_stops [] told other cause before opened after reads tells never = absurd never
all_stops (file ∷ files) [] other cause before opened after reads never stops = absurd never
all_stops (file ∷ files) (one ∷ told) other cause before opened after reads (here, tells) (inl (is, stops)) =
    told_stops cause file.name one opened after (text_still before opened file.name one reads here) stops
all_stops (file ∷ files) (one ∷ told) other cause before opened after reads (here, tells)
    (inr (text, next, first, stops)) =
    let only = only_one file.name text opened next first in
    excuse_since cause opened next after only
    (all_stops files told other cause before next after (only_reads_on before opened next reads only) tells
    stops)

-- if one is told that can't be read whole, not all were read
pub stop_read : (files : List Named) (which : File) (error : ReadFileError) (texts : List (List ℕ))
    (before opened after : Outside) → OnlyReads before opened → TellsStop which error before files
    → AreRead files texts opened after → ⊥
stop_read [] which error texts before opened after reads never r = never
stop_read (file ∷ files) which error [] before opened after reads told never = never
stop_read (file ∷ files) which error (text ∷ texts) before opened after reads (inl (is, told))
    (next, first, r) =
    never_read error file.name text opened next (unread_still error before opened file.name reads told) first
stop_read (file ∷ files) which error (text ∷ texts) before opened after reads (inr (one, here, told))
    (next, first, r) =
    stop_read files which error texts before next after
    (only_reads_on before opened next reads (only_one file.name text opened next first)) told r

-- and reading stopped at that one for that reason
pub stop_stops : (files : List Named) (which other : File) (error cause : ReadFileError)
    (before opened after : Outside) → OnlyReads before opened → TellsStop which error before files
    → StopsAt other cause files opened after → ((other ≡ which) × (cause ≡ error)) ⊎ Excuse cause opened after
stop_stops [] which other error cause before opened after reads never stops = absurd never
stop_stops (file ∷ files) which other error cause before opened after reads (inl (is, told))
    (inl (are, stops)) =
    by (unread_stops error cause file.name opened after
    (unread_still error before opened file.name reads told) stops)
  where
    by : (cause ≡ error) ⊎ Excuse cause opened after
        → ((other ≡ which) × (cause ≡ error)) ⊎ Excuse cause opened after
    by (inl same) = inl (are ∙ sym is, same)
    by (inr excuse) = inr excuse
stop_stops (file ∷ files) which other error cause before opened after reads (inl (is, told))
    (inr (text, next, first, stops)) =
    absurd (never_read error file.name text opened next
    (unread_still error before opened file.name reads told) first)
stop_stops (file ∷ files) which other error cause before opened after reads (inr (one, here, told))
    (inl (are, stops)) =
    inr (told_stops cause file.name one opened after (text_still before opened file.name one reads here)
    stops)
stop_stops (file ∷ files) which other error cause before opened after reads (inr (one, here, told))
    (inr (text, next, first, stops)) =
    by (stop_stops files which other error cause before next after
    (only_reads_on before opened next reads only) told stops)
  where
    only : OnlyReads opened next
    only = only_one file.name text opened next first

    by : ((other ≡ which) × (cause ≡ error)) ⊎ Excuse cause next after
        → ((other ≡ which) × (cause ≡ error)) ⊎ Excuse cause opened after
    by (inl same) = inl same
    by (inr excuse) = inr (excuse_since cause opened next after only excuse)

-- THE ANSWER where reading stopped: the one that is told, or that a file can't be read, since a fault rose

excused_answer : (other : File) (cause : ReadFileError) (old new : Outside) (a : Answer) →
    Excuse cause old new → answer_for other cause ≡ Some a →
    (a ≡ answer.Unreadable other) × HasReadFault old new
excused_answer other cause old new a (fault is rose) e =
    let failed : answer_for other read.Failed ≡ Some a =
    subst (λ c. answer_for other c ≡ Some a) is e in
    let plain : Some (answer.Unreadable other) ≡ Some a = failed in
    (cc, rose)
excused_answer other cause old new a (memory is) e =
    let short : answer_for other read.Memory ≡ Some a =
    subst (λ c. answer_for other c ≡ Some a) is e in
    let plain : None ≡ Some a = short in
    let no : ⊥ = cc in absurd no

pub all_answer : (files : List Named) (told : List (List ℕ)) (other : File) (cause : ReadFileError)
    (before after : Outside) (a : Answer) → TellsAll before files told
    → StopsAt other cause files before after → answer_for other cause ≡ Some a
    → (a ≡ answer.Unreadable other) × HasReadFault before after
all_answer files told other cause before after a tells stops e =
    excused_answer other cause before after a
    (all_stops files told other cause before before after (only_reads_none before) tells stops) e

pub stop_answer : (files : List Named) (which other : File) (error cause : ReadFileError)
    (before after : Outside) (due a : Answer) → TellsStop which error before files →
    answer_for which error ≡ Some due → StopsAt other cause files before after
    → answer_for other cause ≡ Some a
    → (a ≡ due) ⊎ ((a ≡ answer.Unreadable other) × HasReadFault before after)
stop_answer files which other error cause before after due a told is stops e =
    by (stop_stops files which other error cause before before after (only_reads_none before) told stops)
  where
    by : ((other ≡ which) × (cause ≡ error)) ⊎ Excuse cause before after
        → (a ≡ due) ⊎ ((a ≡ answer.Unreadable other) × HasReadFault before after)
    by (inl (file, same)) =
        let here : answer_for which cause ≡ Some a = subst (λ f. answer_for f cause ≡ Some a) file e in
        let there : answer_for which error ≡ Some a =
        subst (λ c. answer_for which c ≡ Some a) same here in
        let both : Some a ≡ Some due = sym there ∙ is in
        inl cc
    by (inr excuse) = inr (excused_answer other cause before after a excuse e)
