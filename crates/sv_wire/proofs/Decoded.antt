-- What a call that decodes answers is within the grammar.
use Rattle.std.proofs.Common.{◌≡◌, List, ℕ, Result, Ok, Err}
use Rattle.std.specs.Prelude.{IfOk}
use Rattle.sv_wire.specs.declared.fault.WireFault.{WireFault}
use Rattle.sv_wire.specs.declared.message.Request.{Request}
use Rattle.sv_wire.specs.declared.message.Reply.{Reply}
use Rattle.sv_wire.specs.Messages.{request_at, reply_at, Decodes}
use Rattle.sv_wire.specs.Spelling.{request_bytes, reply_bytes}
use Rattle.sv_wire.specs.Grammar.{IsWireRequest, IsWireReply}
use Rattle.sv_wire.proofs.Found.{IsBytes}
use Rattle.sv_wire.proofs.FoundMessages.{request_found, reply_found}

pub request_is_found : (payload : List ℕ) (r : Result Request WireFault) → IsBytes payload → Decodes r (request_at payload) → IfOk r (λ m. IsWireRequest m × (payload ≡ request_bytes m))
request_is_found payload (Ok m) fits read = request_found payload m fits read
request_is_found payload (Err e) fits read = tt

pub reply_is_found : (payload : List ℕ) (r : Result Reply WireFault) → IsBytes payload → Decodes r (reply_at payload) → IfOk r (λ m. IsWireReply m × (payload ≡ reply_bytes m))
reply_is_found payload (Ok m) fits read = reply_found payload m fits read
reply_is_found payload (Err e) fits read = tt
