-- What a connection that speaks HTTP hands out.
use Rattle.std.specs.Prelude.{◌≡◌, ℕ, List, ◌++◌}
use Rattle.http_server.specs.Connection.{history}
use Rattle.sv_peer.specs.declared.web.Web.{Web}

-- all that its server handed out
abbrev pub handed_by : Web → List ℕ
handed_by web = (history web.connection).sent

-- bytes were handed out, and put behind what waits
pub record HandsOut (old new : Web) (before after : List ℕ) : Type 0 where
  pub more : List ℕ
  pub put : after ≡ before ++ more
  pub handed : handed_by new ≡ handed_by old ++ more
