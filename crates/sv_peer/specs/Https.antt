-- What HTTP sends before an upgrade.
use Rattle.std.specs.Prelude.{◌≡◌, ℕ, List}
use Rattle.http_server.specs.declared.state.Config.{Config}
use Rattle.http_server.specs.History.{History, IsServed}

-- the bytes that an HTTP server handed out: its answers, in order, to the requests that it received
pub record IsHttp (bytes : List ℕ) : Type 0 where
  pub config : Config
  pub history : History
  pub served : IsServed config history
  pub handed : history.sent ≡ bytes
