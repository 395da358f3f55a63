-- What is proved by hand of `LeanClient::asks_messages`.
use Rattle.std.proofs.Common.{subst}
use Rattle.std.specs.Prelude.{All}
use Rattle.sv_wire.specs.Grammar.{IsWireRequest}
use Rattle.sv_client.specs.declared.trace.Event.{Event}
use Rattle.sv_client.specs.Proper.{MayCome}
use Rattle.sv_client.specs.Seen.{ClientView, newly_asked}
use Rattle.sv_client.specs.Answers.{IsServed}
use Rattle.sv_client.specs.Invariant.{who_is}
use Rattle.sv_client.proofs.Wires.{asks_messages}
use Rattle.sv_client.proofs.lean.LeanClient.asks_messages.Goals as goal

pub returns : goal.returns
returns c =
    subst (λ (v : ClientView). (e : Event) → MayCome v.who 0 v.events e → IsServed v.who e → All IsWireRequest (newly_asked v.who v.events e)) c.self.view_is
    (asks_messages (who_is c.self.inside) c.self.inside.past c.self.invariant.interest c.self.invariant.turn)
