use Rattle.mode_all.proofs.Adding.{added_if_ok}
use Rattle.mode_all.proofs.report.ListingOfAll.push_found.Goals as goal

pub returns : goal.returns
returns c =
    let all = c.args.self.now in
    added_if_ok all.listing.lines all.listing.program.now all.listing.runs all.inputs.now all.bounds
    c.args.number c.args.found.now c.as_slice-set.result.now c.as_slice.result.now c.args.text.now.items
    c.push_set.new.text.items c.push_runs.new.text.items c.push_runs.result c.as_slice-set.ensures
    c.as_slice.ensures c.in_ok-push_set.ensures c.push_runs.ensures
