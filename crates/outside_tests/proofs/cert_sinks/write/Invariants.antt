use Rattle.std.proofs.Common.{codes}
use Rattle.outside_tests.specs.Settings.{settings}
use Rattle.outside_tests.proofs.cert_sinks.write.Given as goal

-- the file and the moment are those of the call
abbrev pub ghosts-write_from : goal.ghosts-write_from
ghosts-write_from g a = record {
  name = codes "c";
  head = settings;
  outside = g.W.World.outside a.world.now;
  faults = (g.D.StepSink.told a.next.now).faults;
}
