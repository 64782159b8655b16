use Rattle.std.proofs.Common.{◌+◌, ℕ, ap}
use Rattle.std.proofs.lemmas.List.Elements.{same_from_all_zip}
use Rattle.ba_samples.proofs.Sampling.{sample_made}
use Rattle.ba_samples.proofs.text.sample_text.Goals as goal

pub returns : goal.returns
returns c = sample_made c.args.additions (c.from.result + 1) c.new-text.result.items
    c.extend_from_slice.new.self.items c.extend_from_slice-2.new.self.items
    c.extend_from_slice-3.new.self.items
    c.push_number.new.text.items c.extend_from_slice-4.new.self.items c.in_ok-lines.lines.items
    c.as_slice.result.now c.new-text.ensures.items c.in_ok-extend_from_slice.ensures.items
    (same_from_all_zip _ _ _ c.in_ok-lines.ensures.items (λ x y same. same)) c.as_slice.ensures.value
    c.in_ok-extend_from_slice-2.ensures.items
    c.in_ok-extend_from_slice-3.ensures.items (ap (λ (m : ℕ). m + 1) c.from.ensures)
    c.in_ok-push_number.ensures
    c.in_ok-extend_from_slice-4.ensures.items
