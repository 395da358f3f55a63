-- What an inbox answers, as requests that are taken.
use Rattle.std.proofs.Common.{◌≡◌, ℕ, List, [], ◌∷◌, Option, Some, None, Result, Ok, Err, refl, ap, subst, ◌∙◌}
use Rattle.std.specs.Prelude.{IfSome, option_map}
use Rattle.sv_frame.specs.Frames.{first_frame, too_long}
use Rattle.sv_frame.specs.Streams.{TakesOff}
use Rattle.sv_frame.specs.Answers.{Skips}
use Rattle.sv_wire.specs.declared.fault.Malformed.{Malformed}
use Rattle.sv_wire.specs.declared.message.Request.{Request}
use Rattle.sv_wire.specs.declared.message.Request.TheVariants as requests
use Rattle.sv_wire.specs.Messages.{request_at}
use Rattle.sv_exchange.specs.Incoming.{read_or_bad, FirstReads}
use Rattle.sv_session.specs.Requests.{requests_read}
use Rattle.sv_session.specs.Rounds.{BeginsWithRequests, TakesOffRequest}
use Rattle.sv_session.proofs.Streams.{first_request, begins_with_frame, long_is_bad}
use Rattle.sv_session.proofs.Decoded.{decoded_no_end}

skipped : (o : Option (List ℕ × List ℕ)) (payload old new : List ℕ) → option_map (λ f. f.0) o ≡ Some payload → IfSome o (λ f. TakesOff f.0 old new) → first_frame old ≡ Some (payload, new)
skipped None payload old new e skip = absurd cc
skipped (Some f) payload old new e skip = let same : f.0 ≡ payload = cc in skip.first ∙ ap (λ (p : List ℕ). Some (p, new)) same

found : (o : Option (List ℕ × List ℕ)) (payload : List ℕ) → option_map (λ f. f.0) o ≡ Some payload → (rest : List ℕ) × (o ≡ Some (payload, rest))
found None payload e = absurd cc
found (Some f) payload e = let same : f.0 ≡ payload = cc in (f.1, ap (λ (p : List ℕ). Some (p, f.1)) same)

pub whole_taken : (old new : List ℕ) (request : Request) → FirstReads request_at old (Ok request) → Skips old new → TakesOffRequest old request new
whole_taken old new request reads skip =
    let at = skipped (first_frame old) reads.payload old new reads.first skip in
    record {
      first = (requests_read new, first_request old reads.payload new at ∙ ap (λ (r : Result Request Malformed). read_or_bad r ∷ requests_read new) reads.is);
      next = λ _. subst (λ (r : Result Request Malformed). BeginsWithRequests old (read_or_bad r ∷ []) new) reads.is (begins_with_frame old reads.payload new at);
      asked = decoded_no_end reads.payload request reads.is;
    }

bad_taken : (old new : List ℕ) (after : List Request) → requests_read old ≡ requests.Bad ∷ after → TakesOffRequest old requests.Bad new
bad_taken old new after is = record { first = (after, is); next = λ other. absurd (other refl); asked = refl }

pub malformed_taken : (old new : List ℕ) (fault : Malformed) → FirstReads request_at old (Err fault) → TakesOffRequest old requests.Bad new
malformed_taken old new fault reads =
    let at = found (first_frame old) reads.payload reads.first in
    bad_taken old new (requests_read at.0) (first_request old reads.payload at.0 at.1 ∙ ap (λ (r : Result Request Malformed). read_or_bad r ∷ requests_read at.0) reads.is)

pub long_taken : (old new : List ℕ) (n : ℕ) → too_long old ≡ Some n → TakesOffRequest old requests.Bad new
long_taken old new n is = bad_taken old new [] (long_is_bad old n is)
