-- Payloads are short, and are read as their messages.
use Rattle.std.proofs.Common.{◌≡◌, ℕ, ◌≤◌, List, [], ◌∷◌, ◌++◌, length, Result, Ok, Err, refl, ap, arith, length-append}
use Rattle.std.specs.Prelude.{OnOk}
use Rattle.std.specs.Vec.{vec_len}
use Rattle.std.proofs.Common.{Global, Vec}
use Rattle.sv_wire.specs.declared.fault.WireCause.TheVariants.{Rest}
use Rattle.sv_wire.specs.declared.message.Request.{Request}
use Rattle.sv_wire.specs.declared.message.Reply.{Reply}
use Rattle.sv_wire.specs.Steps.{Read}
use Rattle.sv_wire.specs.Messages.{whole, request_front, reply_front, request_at, reply_at}
use Rattle.sv_wire.specs.Spelling.{request_bytes, reply_bytes}
use Rattle.sv_wire.specs.Laws.{IsRequest, IsReply}
use Rattle.sv_wire.proofs.AgainMessages.{request_again, reply_again, request_is_read, reply_is_read}
use Rattle.sv_wire.proofs.NearMessages.{request_place, reply_place}
use Rattle.sv_exchange.proofs.Messages.{Spells}

-- one byte too many is refused where it stands
rest_refused : {A : Type 0} (reader : List ℕ → Read A) (bytes : List ℕ) (m : A) → reader bytes ≡ Ok (m, 0 ∷ []) → whole reader bytes ≡ Err (record { left = 1; cause = Rest })
unfolding whole
rest_refused reader bytes m e = rw e refl

pub request_short : (m : Request) → IsRequest m → length (request_bytes m) ≤ 65536
request_short m is =
    let bytes = request_bytes m ++ 0 ∷ [] in
    let place = request_place bytes (record { left = 1; cause = Rest }) (rest_refused request_front bytes m (request_again m (0 ∷ []) is.within is.fits)) in
    omega (arith, place.1, length-append (request_bytes m) (0 ∷ []))

pub reply_short : (m : Reply) → IsReply m → length (reply_bytes m) ≤ 65536
reply_short m is =
    let bytes = reply_bytes m ++ 0 ∷ [] in
    let place = reply_place bytes (record { left = 1; cause = Rest }) (rest_refused reply_front bytes m (reply_again m (0 ∷ []) is.within is.fits)) in
    omega (arith, place.1, length-append (reply_bytes m) (0 ∷ []))

pub request_back : (m : Request) → IsRequest m → request_at (request_bytes m) ≡ Ok m
request_back m is = request_is_read m is.within is.fits

pub reply_back : (m : Reply) → IsReply m → reply_at (reply_bytes m) ≡ Ok m
reply_back m is = reply_is_read m is.within is.fits

pub requests_spelled : Spells IsRequest request_bytes request_at
requests_spelled = record { back = λ m is. request_is_read m is.within is.fits; fits = request_short }

pub replies_spelled : Spells IsReply reply_bytes reply_at
replies_spelled = record { back = λ m is. reply_is_read m is.within is.fits; fits = reply_short }

-- what was encoded is as short as its bytes
pub encoded_short : {A F : Type 0} (r : Result A F) (payload : Vec ℕ Global) (bytes : List ℕ) → OnOk r (payload.items ≡ bytes) → length bytes ≤ 65536 → OnOk r (vec_len payload ≤ 65536)
encoded_short (Ok done) payload bytes is short = omega (arith, payload.ok.0, ap length is)
encoded_short (Err f) payload bytes is short = tt
