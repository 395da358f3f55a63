-- The message by which a client shows its key, and what a payload is heard as.
use Rattle.std.specs.Prelude.{◌≡◌, ℕ, ◌==◌, ◌&&◌, nat_le, Bool, true, List, [], ◌∷◌, length, Option, None, Some, if◌then◌else◌}
use Rattle.sha2.specs.Sha256.{sha256}
use Rattle.sv_wire.specs.declared.message.Request.TheVariants.{Bad}
use Rattle.sv_wire.specs.Messages.{request_at}
use Rattle.sv_exchange.specs.Incoming.{read_or_bad}
use Rattle.sv_peer.specs.declared.heard.Heard.{Heard}
use Rattle.sv_peer.specs.declared.heard.Heard.TheVariants as heard

-- the kind of the message
abbrev pub hello_kind : ℕ
hello_kind = 8

-- a key has 16 to 64 bytes
abbrev pub is_key : List ℕ → Bool
is_key key = nat_le 16 (length key) && nat_le (length key) 64

abbrev pub key_if_fit : List ℕ → Option (List ℕ)
key_if_fit key = if is_key key then Some key else None

-- the message that shows a key: its kind, how many bytes the key has, and these bytes
abbrev pub hello_bytes : List ℕ → List ℕ
hello_bytes key = hello_kind ∷ length key ∷ key

-- the key that such a message shows, behind its kind
abbrev pub key_behind : List ℕ → Option (List ℕ)
key_behind [] = None
key_behind (count ∷ key) = if count == length key then key_if_fit key else None

-- a key that is shown is heard by its digest; a misshapen message is no request
abbrev pub hello_or_bad : Option (List ℕ) → Heard
hello_or_bad None = heard.Request Bad
hello_or_bad (Some key) = heard.Hello (sha256 key)

-- the request that a payload is read as, or Bad
abbrev pub request_or_bad : List ℕ → Heard
request_or_bad payload = heard.Request (read_or_bad (request_at payload))

-- what a payload is heard as: a key, where it is of that kind, and else a request
abbrev pub heard_in : List ℕ → Heard
heard_in [] = request_or_bad []
heard_in (kind ∷ rest) = if kind == hello_kind then hello_or_bad (key_behind rest) else request_or_bad (kind ∷ rest)

-- the message of a key is heard as the key's digest
abbrev pub KeysAreHeard : Type 0
KeysAreHeard = (key : List ℕ) → is_key key ≡ true → heard_in (hello_bytes key) ≡ heard.Hello (sha256 key)

-- a payload that is heard as a digest is the message of a key
pub record ShowsKey (payload digest : List ℕ) : Type 0 where
  pub key : List ℕ
  pub fits : is_key key ≡ true
  pub whole : payload ≡ hello_bytes key
  pub digested : digest ≡ sha256 key

abbrev pub HellosAreKeys : Type 0
HellosAreKeys = (payload digest : List ℕ) → heard_in payload ≡ heard.Hello digest → ShowsKey payload digest
