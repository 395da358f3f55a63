-- Keys that stand in a query.
use Rattle.std.specs.Prelude.{◌≡◌, ℕ, true, List, [], ◌∷◌, drop, codes, Option, None, Some, Ok, if◌then◌else◌}
use Rattle.hex.specs.Hex.{decode_of}
use Rattle.http.specs.declared.request.Parts.{Parts}
use Rattle.http_uri.specs.Uri.{uri_query}
use Rattle.sha2.specs.Sha256.{sha256}
use Rattle.sv_peer.specs.Hellos.{is_key}
use Rattle.sv_site.specs.Parts.{parts_of}
use Rattle.sv_site.specs.Origins.{is_front}

abbrev pub ampersand : ℕ
ampersand = 38

-- what the first of these parts that begins with `key=` has behind it
abbrev pub key_among : List (List ℕ) → Option (List ℕ)
key_among [] = None
key_among (part ∷ parts) = if is_front (codes "key=") part then Some (drop 4 part) else key_among parts

abbrev pub key_part : List ℕ → Option (List ℕ)
key_part query = key_among (parts_of ampersand query)

-- the digest is that of a key that a query has in hexadecimal
pub record IsShownIn (query digest : List ℕ) : Type 0 where
  pub digits : List ℕ
  pub key : List ℕ
  pub stands : key_part query ≡ Some digits
  pub spelled : decode_of digits ≡ Ok key
  pub fits : is_key key ≡ true
  pub digested : digest ≡ sha256 key

-- the digest is that of a key in the query of a request
pub record IsShownBy (head : Parts) (digest : List ℕ) : Type 0 where
  pub query : List ℕ
  pub has_query : uri_query head.uri ≡ Some query
  pub shown : IsShownIn query digest
