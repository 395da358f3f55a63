-- What comes of a request of a connection.
use Rattle.std.specs.Prelude.{ℕ, Bool, Option}
use Rattle.sv_wire.specs.declared.message.Request.{Request}
use Rattle.sv_living.specs.World.{WorldView}
use Rattle.sv_office.specs.Entering.{WasAnswered, WasReleased}
use Rattle.sv_office.specs.declared.guest.Held.{Held}

-- What was held of a connection was answered first, and then its request, each at most once.
pub record WasTaken (steward : Option ℕ) (authority : Bool) (mine after : Option ℕ) (held : Option Held) (v w : WorldView) (request : Request) : Type 0 where
  pub middle : WorldView
  pub now : Option ℕ
  pub released : WasReleased steward authority mine now v middle held
  pub answered : WasAnswered steward authority now after middle w request
