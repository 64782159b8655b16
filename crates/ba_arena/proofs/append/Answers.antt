use Rattle.std.proofs.Common.{◌≡◌, ℕ, List, ◌++◌, length, take, append_assoc}
use Rattle.std.proofs.Math.Seq.{take-append_seam}
use Rattle.ba_arena.proofs.append.Goals as goal

front : (old header codes first words : List ℕ) → first ≡ old ++ header → words ≡ first ++ codes
    → take (length old) words ≡ old
front old header codes first words first_is words_is =
    rw (words_is, first_is, append_assoc old header codes) (take-append_seam old (header ++ codes))

pub returns-in_err-push-clause-begins : goal.returns-in_err-push-clause-begins
returns-in_err-push-clause-begins c =
    rw c.in_err-push.ensures.items
    (front c.args.words.now.items _ _ _ c.loop-lit.words.items
    c.in_ok-extend_from_slice.ensures.items c.loop-lit.invariant.words)

pub returns-in_err-word_of-clause-begins : goal.returns-in_err-word_of-clause-begins
returns-in_err-word_of-clause-begins c =
    front c.args.words.now.items _ _ _ c.loop-lit.words.items
    c.in_ok-extend_from_slice.ensures.items c.loop-lit.invariant.words

pub returns-clause-begins : goal.returns-clause-begins
returns-clause-begins c =
    front c.args.words.now.items _ _ _ c.loop-lit.words.items
    c.in_ok-extend_from_slice.ensures.items c.loop-lit.invariant.words
