-- What a reply is that a client takes, in parts.
use Rattle.std.proofs.Common.{◌≡◌, ℕ, Bool, true, false, not, List, [], ◌∷◌, Option, Some, None, refl}
use Rattle.std.specs.Prelude.{if◌then◌else◌}
use Rattle.sv_wire.specs.declared.message.Request.{Request}
use Rattle.sv_wire.specs.declared.message.Reply.{Reply}
use Rattle.sv_client.specs.declared.trace.Event.{Event}
use Rattle.sv_client.specs.Kinds.{kind_of}
use Rattle.sv_client.specs.Traces.{held_of, pending_of}
use Rattle.sv_client.specs.Taking.{Identity, Fault, WrongKind, BadOrder, BadItem, outstanding, allows, is_out_of_order, has_bad_item, missing_fault, missing_in, fault_after, first_fault_of_reply}

-- It answers the oldest request, it has no bad item, and no value is missing.
pub record IsWell (who : Identity) (t : List Event) (reply : Reply) : Type 0 where
  pub request : Request
  pub rest : List Request
  pub asked : outstanding who t ≡ request ∷ rest
  pub allowed : allows request reply ≡ true
  pub good : has_bad_item who (pending_of t) request reply ≡ false
  pub found : missing_in (held_of t) (kind_of request) reply ≡ None

abbrev first_of : Bool → Bool → Bool → Option Fault → Option Fault
first_of a b c m = if not a then Some WrongKind else if b then Some BadOrder else if c then Some BadItem else m

none_of : (a b c : Bool) (m : Option Fault) → first_of a b c m ≡ None → (a ≡ true) × (c ≡ false) × (m ≡ None)
none_of false b c m e = cc
none_of true true c m e = cc
none_of true false true m e = cc
none_of true false false m e = (refl, refl, e)

none_missing : (o : Option (ℕ × ℕ)) → missing_fault o ≡ None → o ≡ None
none_missing None e = refl
none_missing (Some (p, x)) e = cc

pub is_well : (who : Identity) (t : List Event) (reply : Reply) → first_fault_of_reply who t reply ≡ None → IsWell who t reply
is_well who t reply e = go (outstanding who t) refl e
  where
    go : (os : List Request) → outstanding who t ≡ os → fault_after who t os reply ≡ None → IsWell who t reply
    go [] o h = cc
    go (r ∷ rs) o h =
        let f = none_of (allows r reply) (is_out_of_order t reply) (has_bad_item who (pending_of t) r reply) (missing_fault (missing_in (held_of t) (kind_of r) reply)) h in
        record { request = r; rest = rs; asked = o; allowed = f.0; good = f.1; found = none_missing (missing_in (held_of t) (kind_of r) reply) f.2 }
