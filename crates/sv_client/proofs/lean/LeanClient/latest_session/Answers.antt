-- What is proved by hand of `LeanClient::latest_session`.
use Rattle.std.proofs.Common.{ℕ, ◌-◌, ap, sym, ◌∙◌}
use Rattle.sv_client.specs.Seen.{ClientView, latest_session}
use Rattle.sv_client.specs.Invariant.{who_is}
use Rattle.sv_client.proofs.Sessions.{latest_turn}
use Rattle.sv_client.proofs.lean.LeanClient.latest_session.Goals as goal

pub returns-clause-exact : goal.returns-clause-exact
returns-clause-exact c =
    c.saturating_sub.ensures ∙ ap (λ (n : ℕ). n - 1) c.self.invariant.counts.sessions_are ∙ sym (latest_turn (who_is c.self.inside) c.self.inside.past c.self.invariant.turn)
    ∙ ap (λ (v : ClientView). latest_session v.events) c.self.view_is
