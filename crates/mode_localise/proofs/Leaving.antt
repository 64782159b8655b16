-- What a job leaves if it stops.

use Rattle.std.proofs.Common.{sym, subst}
use Rattle.ba_cases.specs.AtOnce.{weights_of}
use Rattle.ba_cases.specs.declared.texts.Texts.{Texts}
use Rattle.ba_certified.proofs.Leaving.{MayBegin, nothing_begun, search_begins}
use Rattle.ba_steps.specs.Sinks.{Told}
use Rattle.ba_world.specs.World.{Outside}
use Rattle.mode_localise.specs.Answers.{judge_in}
use Rattle.mode_localise.specs.Jobs.{head_by}
use Rattle.mode_localise.specs.Leaving.{Stops, at_once, in_search}
use Rattle.mode_localise.specs.declared.jobs.LocaliseJob.{LocaliseJob}

-- if a job stops whose files have these texts
pub stops_begin : (j : LocaliseJob) (x : Texts) (old new : Outside) (t u : Told) → Stops j x old new t u →
    MayBegin (head_by j) j.cert old new
stops_begin j x old new t u (at_once same hands) =
    subst (MayBegin (head_by j) j.cert old) (sym same) (nothing_begun (head_by j) j.cert old)
stops_begin j x old new t u (in_search p spells none left) =
    search_begins (head_by j) j.cert (weights_of p x) (judge_in j x p) old new t u left
