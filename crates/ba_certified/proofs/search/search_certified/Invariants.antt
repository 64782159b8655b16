use Rattle.ba_certified.proofs.search.search_certified.Given as goal

-- the certificate is begun in this outside, and the sink has had these faults
abbrev pub ghosts-certify : goal.ghosts-certify
ghosts-certify g a = record {
  name = a.name.now;
  head = a.head;
  outside = g.W.World.outside a.world.now;
  faults = (g.D.StepSink.told a.steps.now).faults;
}
