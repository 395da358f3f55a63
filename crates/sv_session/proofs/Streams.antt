-- Which requests a stream begins with.
use Rattle.std.proofs.Common.{◌≡◌, ℕ, List, [], ◌∷◌, ◌++◌, map, Some, None, refl, sym, ap, ◌∙◌, append_assoc, append-nil}
use Rattle.sv_frame.specs.Frames.{first_frame, too_long}
use Rattle.sv_frame.specs.Streams.{split_frames, with_first, incoming_items, too_long_item}
use Rattle.sv_frame.specs.Streams.StreamItem.{Payload}
use Rattle.sv_frame.proofs.Fronts.{first_frame-append, no_frame_if_too_long}
use Rattle.sv_frame.proofs.Splitting.{split-none, split-some}
use Rattle.sv_wire.specs.declared.message.Request.{Request}
use Rattle.sv_wire.specs.declared.message.Request.TheVariants as requests
use Rattle.sv_wire.specs.Messages.{request_at}
use Rattle.sv_exchange.specs.Incoming.{read_or_bad}
use Rattle.sv_session.specs.Requests.{request_for, requests_read}
use Rattle.sv_session.specs.Rounds.{BeginsWithRequests}

-- the requests of a stream, by what it splits into
requests_by : List (List ℕ) × List ℕ → List Request
requests_by split = map request_for (map Payload split.0 ++ too_long_item (too_long split.1))

by_split : (stream : List ℕ) (split : List (List ℕ) × List ℕ) → split_frames stream ≡ split → requests_read stream ≡ requests_by split
unfolding requests_read incoming_items requests_by
by_split stream split e = ap (λ (s : List (List ℕ) × List ℕ). map request_for (map Payload s.0 ++ too_long_item (too_long s.1))) e

one_more : (payload : List ℕ) (split : List (List ℕ) × List ℕ) → requests_by (with_first payload split) ≡ read_or_bad (request_at payload) ∷ requests_by split
unfolding requests_by
one_more payload split = refl

-- a frame at the front is a request, and then come those of what is behind it
pub first_request : (stream payload after : List ℕ) → first_frame stream ≡ Some (payload, after) → requests_read stream ≡ read_or_bad (request_at payload) ∷ requests_read after
first_request stream payload after e =
    by_split stream (with_first payload (split_frames after)) (split-some stream payload after e)
    ∙ (one_more payload (split_frames after) ∙ ap (λ (qs : List Request). read_or_bad (request_at payload) ∷ qs) (sym (by_split after (split_frames after) refl)))

pub begins_with_frame : (stream payload after : List ℕ) → first_frame stream ≡ Some (payload, after) → BeginsWithRequests stream (read_or_bad (request_at payload) ∷ []) after
begins_with_frame stream payload after e =
    record {
      asked = λ more. first_request (stream ++ more) payload (after ++ more) (first_frame-append stream more payload after e);
      left = λ more. ap (λ (s : List (List ℕ) × List ℕ). s.1) (split-some (stream ++ more) payload (after ++ more) (first_frame-append stream more payload after e));
    }

-- a length over the limit is taken for one request
last_request : (rest : List ℕ) (n : ℕ) → too_long rest ≡ Some n → requests_by ([], rest) ≡ requests.Bad ∷ []
unfolding requests_by
last_request rest n e = ap (λ o. map request_for (too_long_item o)) e

pub long_is_bad : (stream : List ℕ) (n : ℕ) → too_long stream ≡ Some n → requests_read stream ≡ requests.Bad ∷ []
long_is_bad stream n e = by_split stream ([], stream) (split-none stream (no_frame_if_too_long stream n e)) ∙ last_request stream n e

-- less than a frame has no request
no_request : (rest : List ℕ) → too_long rest ≡ None → requests_by ([], rest) ≡ []
unfolding requests_by
no_request rest e = ap (λ o. map request_for (too_long_item o)) e

pub none_yet : (stream : List ℕ) → first_frame stream ≡ None → too_long stream ≡ None → requests_read stream ≡ []
none_yet stream no_frame no_length = by_split stream ([], stream) (split-none stream no_frame) ∙ no_request stream no_length

pub none_left : (stream : List ℕ) → first_frame stream ≡ None → too_long stream ≡ None → too_long (split_frames stream).1 ≡ None
none_left stream no_frame no_length = ap (λ (s : List (List ℕ) × List ℕ). too_long s.1) (split-none stream no_frame) ∙ no_length

-- ---- Streams that go on

pub begins_with_none : (stream : List ℕ) → BeginsWithRequests stream [] stream
begins_with_none stream = record { asked = λ more. refl; left = λ more. refl }

pub begins_and_more : (stream more : List ℕ) (taken : List Request) (rest : List ℕ) → BeginsWithRequests stream taken rest → BeginsWithRequests (stream ++ more) taken (rest ++ more)
begins_and_more stream more taken rest begins =
    record {
      asked = λ after. ap requests_read (append_assoc stream more after) ∙ (begins.asked (more ++ after) ∙ ap (λ (s : List ℕ). taken ++ requests_read s) (sym (append_assoc rest more after)));
      left = λ after. ap (λ (s : List ℕ). (split_frames s).1) (append_assoc stream more after) ∙ (begins.left (more ++ after) ∙ ap (λ (s : List ℕ). (split_frames s).1) (sym (append_assoc rest more after)));
    }

pub begins_twice : (stream : List ℕ) (first : List Request) (between : List ℕ) (second : List Request) (rest : List ℕ) → BeginsWithRequests stream first between → BeginsWithRequests between second rest →
    BeginsWithRequests stream (first ++ second) rest
begins_twice stream first between second rest a b =
    record {
      asked = λ more. a.asked more ∙ (ap (λ (qs : List Request). first ++ qs) (b.asked more) ∙ sym (append_assoc first second (requests_read (rest ++ more))));
      left = λ more. a.left more ∙ b.left more;
    }

pub begins_so : (stream : List ℕ) (taken : List Request) (rest : List ℕ) → BeginsWithRequests stream taken rest → requests_read stream ≡ taken ++ requests_read rest
begins_so stream taken rest begins =
    ap requests_read (sym (append-nil stream)) ∙ (begins.asked [] ∙ ap (λ (s : List ℕ). taken ++ requests_read s) (append-nil rest))

pub leaves_so : (stream : List ℕ) (taken : List Request) (rest : List ℕ) → BeginsWithRequests stream taken rest → too_long (split_frames stream).1 ≡ too_long (split_frames rest).1
leaves_so stream taken rest begins =
    ap (λ (s : List ℕ). too_long (split_frames s).1) (sym (append-nil stream)) ∙ (ap too_long (begins.left []) ∙ ap (λ (s : List ℕ). too_long (split_frames s).1) (append-nil rest))
