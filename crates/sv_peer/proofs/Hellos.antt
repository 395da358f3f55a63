-- Which payloads are heard as keys.
use Rattle.std.proofs.Common.{◌≡◌, ℕ, ◌==◌, Bool, true, false, List, [], ◌∷◌, length, None, Some, Result, refl, ap, ◌∙◌}
use Rattle.std.specs.Prelude.{if◌then◌else◌}
use Rattle.std.proofs.lemmas.Bool.{eqb-true, eq-eqb}
use Rattle.sha2.specs.Sha256.{sha256}
use Rattle.sv_wire.specs.declared.fault.Malformed.{Malformed}
use Rattle.sv_wire.specs.declared.message.Request.{Request}
use Rattle.sv_wire.specs.Messages.{request_at}
use Rattle.sv_exchange.specs.Incoming.{read_or_bad}
use Rattle.sv_peer.specs.declared.heard.Heard.TheVariants as heard
use Rattle.sv_peer.specs.Hellos.{hello_kind, is_key, key_if_fit, hello_bytes, key_behind, hello_or_bad, request_or_bad, heard_in, ShowsKey}

pub key_heard : (key : List ℕ) → is_key key ≡ true → heard_in (hello_bytes key) ≡ heard.Hello (sha256 key)
key_heard key fits = rw (eq-eqb (length key) (length key) refl, fits) refl

not_digest : (r : Result Request Malformed) (digest : List ℕ) → heard.Request (read_or_bad r) ≡ heard.Hello digest → ⊥
not_digest r digest is = cc is

-- a key that fits, behind its kind and its length
record Behind (rest digest : List ℕ) : Type 0 where
  key : List ℕ
  fits : is_key key ≡ true
  whole : rest ≡ length key ∷ key
  digested : digest ≡ sha256 key

fit_behind : (fits : Bool) (count : ℕ) (key digest : List ℕ) → is_key key ≡ fits → count ≡ length key → hello_or_bad (if fits then Some key else None) ≡ heard.Hello digest → Behind (count ∷ key) digest
fit_behind true count key digest fits counts is = record { key = key; fits = fits; whole = ap (λ n. n ∷ key) counts; digested = cc is }
fit_behind false count key digest fits counts is = absurd (cc is)

counted_behind : (counts : Bool) (count : ℕ) (key digest : List ℕ) → (count == length key) ≡ counts → hello_or_bad (if counts then key_if_fit key else None) ≡ heard.Hello digest → Behind (count ∷ key) digest
counted_behind true count key digest counts is = fit_behind _ count key digest refl (eqb-true count (length key) counts) is
counted_behind false count key digest counts is = absurd (cc is)

behind_kind : (rest digest : List ℕ) → hello_or_bad (key_behind rest) ≡ heard.Hello digest → Behind rest digest
behind_kind [] digest is = absurd (cc is)
behind_kind (count ∷ key) digest is = counted_behind _ count key digest refl is

of_kind : (hello : Bool) (kind : ℕ) (rest digest : List ℕ) → (kind == hello_kind) ≡ hello → (if hello then hello_or_bad (key_behind rest) else request_or_bad (kind ∷ rest)) ≡ heard.Hello digest → ShowsKey (kind ∷ rest) digest
of_kind true kind rest digest hello is =
    let found = behind_kind rest digest is in
    record { key = found.key; fits = found.fits; whole = ap (λ n. n ∷ rest) (eqb-true kind hello_kind hello) ∙ ap (λ l. hello_kind ∷ l) found.whole; digested = found.digested }
of_kind false kind rest digest hello is = absurd (not_digest (request_at (kind ∷ rest)) digest is)

pub hello_is_key : (payload digest : List ℕ) → heard_in payload ≡ heard.Hello digest → ShowsKey payload digest
hello_is_key [] digest is = absurd (not_digest (request_at []) digest is)
hello_is_key (kind ∷ rest) digest is = of_kind _ kind rest digest refl is
