mod Examples
mod CharacterLemmas
mod CutLemmas
mod DigitLemmas
mod KindLemmas
mod LineLemmas
mod TableLemmas
