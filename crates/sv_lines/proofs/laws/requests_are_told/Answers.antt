-- What is proved by hand of `requests_are_told`.
use Rattle.sv_lines.proofs.Requests.{request_tells}
use Rattle.sv_lines.proofs.laws.requests_are_told.Goals as goal

pub returns : goal.returns
returns c = request_tells
