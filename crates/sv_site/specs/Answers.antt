-- What requests are answered.
use Rattle.std.specs.Prelude.{◌≡◌, ℕ, ◌⊎◌, List, Option, None, Some, IfSome}
use Rattle.http.specs.declared.request.Parts.{Parts}
use Rattle.http_server.specs.declared.response.Response.{Response}
use Rattle.sv_site.specs.declared.figures.Figures.{Figures}
use Rattle.sv_site.specs.declared.route.Route.{Route}
use Rattle.sv_site.specs.declared.route.Route.TheVariants as route
use Rattle.sv_site.specs.Paths.{file_of}
use Rattle.sv_site.specs.Figures.{status_text}
use Rattle.sv_site.specs.Keys.{IsShownBy}
use Rattle.sv_site.specs.Routes.{Routes}

-- the file that a path names, where there is a folder
abbrev pub named_in : Option (List ℕ) → List ℕ → Option (List ℕ)
named_in None path = None
named_in (Some folder) path = file_of folder path

-- this status, or 500 where memory ran out
abbrev pub Gives : ℕ → ℕ → Type 0
Gives wanted status = (status ≡ wanted) ⊎ (status ≡ 500)

-- 404 where a path names no file in the folder, and else the file or 404
abbrev pub FileStatus : Option (List ℕ) → ℕ → Type 0
FileStatus None status = status ≡ 404
FileStatus (Some name) status = (status ≡ 200) ⊎ (status ≡ 404)

abbrev pub StatusBy : Option (List ℕ) → Route → ℕ → Type 0
StatusBy folder route.Refused status = status ≡ 405
StatusBy folder route.Stranger status = status ≡ 403
StatusBy folder route.BadKey status = status ≡ 400
StatusBy folder (route.Upgrade accept) status = Gives 101 status
StatusBy folder route.Standing status = Gives 200 status
StatusBy folder (route.File path) status = FileStatus (named_in folder path.now) status ⊎ (status ≡ 500)

-- what the standing of the server is told by
abbrev pub BodyBy : Figures → Route → ℕ → List ℕ → Type 0
BodyBy figures route.Standing status body = status ≡ 200 → body ≡ status_text figures
BodyBy figures _ status body = Unit {0}

-- an upgrade shows a key or none, and nothing else changes what was shown
abbrev pub KeyBy : Parts → Route → Option (List ℕ) → Option (List ℕ) → Type 0
KeyBy head (route.Upgrade accept) before after = IfSome after (IsShownBy head)
KeyBy head _ before after = after ≡ before

-- What a site has to answer by: which origins are named, the folder, the figures, and the key that was shown last.
pub record Standing : Type 0 where
  pub named : List (List ℕ)
  pub folder : Option (List ℕ)
  pub figures : Figures
  pub shown : Option (List ℕ)

-- a request of this head is answered by what it asks for
pub record AnswersHead (site : Standing) (head : Parts) (response : Response) (after : Option (List ℕ)) : Type 0 where
  pub asked : Route
  pub asks : Routes site.named head asked
  pub status : StatusBy site.folder asked response.status
  pub body : BodyBy site.figures asked response.status response.body.items
  pub key : KeyBy head asked site.shown after
