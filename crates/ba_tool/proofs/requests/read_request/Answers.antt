use Rattle.std.proofs.Common.{sym, ap, ◌∙◌}
use Rattle.ba_tool.specs.Requests.{request_by}
use Rattle.ba_tool.proofs.requests.read_request.Goals as goal

pub returns : goal.returns
returns c = c.request_by.ensures ∙ ap request_by (sym c.in-Ok.ensures)
