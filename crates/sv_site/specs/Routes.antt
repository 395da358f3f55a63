-- What a request asks for.
use Rattle.std.specs.Prelude.{◌≡◌, ℕ, Bool, true, false, List, codes, Option, None, Some, option_map}
use Rattle.std.specs.Str.{bytes_eq}
use Rattle.http.specs.declared.request.Parts.{Parts}
use Rattle.http_header.specs.HeaderMap.{get}
use Rattle.http_header.specs.Token.{lowercase}
use Rattle.http_uri.specs.Uri.{uri_path}
use Rattle.websocket.specs.Handshake.{IsValidKey, accept_key_of}
use Rattle.sv_site.specs.declared.route.Route.{Route}
use Rattle.sv_site.specs.declared.route.Route.TheVariants as route
use Rattle.sv_site.specs.Origins.{is_welcome}

-- the first value of a header, where a request has it
abbrev pub value_of : List ℕ → Parts → Option (List ℕ)
value_of name head = option_map (λ v. v.bytes) (get head.headers (lowercase name))

abbrev pub is_get : Parts → Bool
is_get head = bytes_eq head.method (codes "GET")

-- a request without an Origin comes of no page
abbrev pub origin_passes : Option (List ℕ) → Option (List ℕ) → List (List ℕ) → Bool
origin_passes None host named = true
origin_passes (Some origin) host named = is_welcome origin host named

abbrev pub may_upgrade : List (List ℕ) → Parts → Bool
may_upgrade named head = origin_passes (value_of (codes "origin") head) (value_of (codes "host") head) named

abbrev pub key_of : Parts → Option (List ℕ)
key_of head = value_of (codes "sec-websocket-key") head

-- a request to get an upgrade, with this key of a handshake
pub record AsksUpgrade (head : Parts) (key : List ℕ) : Type 0 where
  pub gets : is_get head ≡ true
  pub has_key : key_of head ≡ Some key

-- the page of a path
abbrev pub RoutesPage : List ℕ → Route → Type 0
RoutesPage path route.Refused = ⊥
RoutesPage path route.Stranger = ⊥
RoutesPage path route.BadKey = ⊥
RoutesPage path (route.Upgrade accept) = ⊥
RoutesPage path route.Standing = bytes_eq path (codes "/status") ≡ true
RoutesPage path (route.File file) = (bytes_eq path (codes "/status") ≡ false) × (file.now ≡ path)

-- what a request to get a page asks for, and without a key of a handshake
pub record AsksPage (head : Parts) (asked : Route) : Type 0 where
  pub gets : is_get head ≡ true
  pub no_key : key_of head ≡ None
  pub page : RoutesPage (uri_path head.uri) asked

-- what a request asks for, where pages of these origins are named
abbrev pub Routes : List (List ℕ) → Parts → Route → Type 0
Routes named head route.Refused = is_get head ≡ false
Routes named head route.Stranger = (key : List ℕ) × AsksUpgrade head key × (may_upgrade named head ≡ false)
Routes named head route.BadKey = (key : List ℕ) × AsksUpgrade head key × (may_upgrade named head ≡ true) × (¬ (IsValidKey key))
Routes named head (route.Upgrade accept) =
    (key : List ℕ) × AsksUpgrade head key × (may_upgrade named head ≡ true) × IsValidKey key × (accept ≡ accept_key_of key)
Routes named head route.Standing = AsksPage head route.Standing
Routes named head (route.File path) = AsksPage head (route.File path)
