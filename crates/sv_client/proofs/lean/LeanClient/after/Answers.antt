-- What is proved by hand of `LeanClient::after`.
use Rattle.std.proofs.Common.{rules, ap, ◌∙◌}
use Rattle.sv_client.specs.Traces.{joins}
use Rattle.sv_client.specs.Seen.{ClientView}
use Rattle.sv_client.proofs.Begun.{joins_begun}
use Rattle.sv_client.proofs.lean.LeanClient.after.Goals as goal

pub returns-clause-client : goal.returns-clause-client
returns-clause-client c = search rules

pub returns-clause-sessions : goal.returns-clause-sessions
returns-clause-sessions c = ap (λ (v : ClientView). joins v.events) (returns-clause-client c) ∙ joins_begun c.args.sessions
