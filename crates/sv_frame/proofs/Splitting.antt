-- How a stream splits into payloads, whole, in pieces, and as frames that were written.
use Rattle.std.proofs.Common.{◌≡◌, ℕ, zero, suc, ◌≤◌, List, [], ◌∷◌, ◌++◌, length, map, Option, Some, None, refl, sym, ap, subst, ◌∙◌, append_assoc, length-append, arith, ◌↔◌, inl, inr}
use Rattle.std.specs.Prelude.{IfSome}
use Rattle.std.specs.List.{AllByRecursion}
use Rattle.std.proofs.lemmas.List.{append-nil, map-append}
use Rattle.sv_frame.specs.Frames.{frame, frames_of, FitsFrame, first_frame, too_long}
use Rattle.sv_frame.specs.Streams.{with_first, TakesOff, split_at_most, split_frames, split_on, AreBytes, Splits, StreamItem, too_long_item, incoming_items}
use Rattle.sv_frame.specs.Streams.StreamItem.{Payload}
use Rattle.sv_frame.specs.Answers.{Skips}
use Rattle.sv_frame.proofs.Fronts.{none_or_some, length-frame, first_frame-append, first_frame-shorter, first_frame-frame, stream_is_frame, bytes-after, too_long-append, no_frame_if_too_long}

-- a step of `split_at_most`, by what the stream begins with
one_step : ℕ → List ℕ → Option (List ℕ × List ℕ) → List (List ℕ) × List ℕ
one_step count stream None = ([], stream)
one_step count stream (Some first) = with_first first.0 (split_at_most count first.1)

split_at_step : (count : ℕ) (stream : List ℕ) (found : Option (List ℕ × List ℕ)) → first_frame stream ≡ found → split_at_most (suc count) stream ≡ one_step count stream found
unfolding one_step
split_at_step count stream found e = ap (one_step count stream) e

split_at_none : (count : ℕ) (stream : List ℕ) → first_frame stream ≡ None → split_at_most count stream ≡ ([], stream)
unfolding one_step
split_at_none zero stream e = refl
split_at_none (suc count) stream e = split_at_step count stream None e

split_at_some : (count : ℕ) (stream payload after : List ℕ) → first_frame stream ≡ Some (payload, after) → split_at_most (suc count) stream ≡ with_first payload (split_at_most count after)
unfolding one_step
split_at_some count stream payload after e = split_at_step count stream (Some (payload, after)) e

-- a count that is no less than the number of bytes does not run out
pub enough : (m n : ℕ) (stream : List ℕ) → length stream ≤ m → length stream ≤ n → split_at_most m stream ≡ split_at_most n stream
enough zero zero stream a b = refl
enough zero (suc n) stream a b =
    elim (none_or_some (first_frame stream)) [
      | inl e ↦ sym (split_at_none (suc n) stream e)
      | inr f ↦ absurd (omega (arith, first_frame-shorter stream f.0.0 f.0.1 f.1))
    ]
enough (suc m) zero stream a b =
    elim (none_or_some (first_frame stream)) [
      | inl e ↦ split_at_none (suc m) stream e
      | inr f ↦ absurd (omega (arith, first_frame-shorter stream f.0.0 f.0.1 f.1))
    ]
enough (suc m) (suc n) stream a b =
    elim (none_or_some (first_frame stream)) [
      | inl e ↦ split_at_none (suc m) stream e ∙ sym (split_at_none (suc n) stream e)
      | inr f ↦
          let shorter = first_frame-shorter stream f.0.0 f.0.1 f.1 in
          split_at_some m stream f.0.0 f.0.1 f.1 ∙ (ap (with_first f.0.0) (enough m n f.0.1 (omega arith) (omega arith)) ∙ sym (split_at_some n stream f.0.0 f.0.1 f.1))
    ]

pub split-none : (stream : List ℕ) → first_frame stream ≡ None → split_frames stream ≡ ([], stream)
unfolding split_frames
split-none stream e = split_at_none (length stream) stream e

pub split-some : (stream payload after : List ℕ) → first_frame stream ≡ Some (payload, after) → split_frames stream ≡ with_first payload (split_frames after)
unfolding split_frames
split-some stream payload after e =
    let n = length stream in
    let shorter = first_frame-shorter stream payload after e in
    enough n (suc n) stream (omega arith) (omega arith)
    ∙ (split_at_some n stream payload after e ∙ ap (with_first payload) (enough n (length after) after (omega arith) (omega arith)))

pub takes_off : (payload old new : List ℕ) → first_frame old ≡ Some (payload, new) → old ≡ frame payload ++ new → TakesOff payload old new
takes_off payload old new first whole =
    record {
      first = first;
      whole = whole;
      sizes = omega (arith, ap length whole, length-append (frame payload) new, length-frame payload);
      split = split-some old payload new first;
    }

pub skips : (payload old new : List ℕ) → TakesOff payload old new → Skips old new
skips payload old new off =
    subst (λ (o : Option (List ℕ × List ℕ)). IfSome o (λ first. TakesOff first.0 old new)) (sym off.first) off

pub split-empty : split_frames [] ≡ ([], [])
unfolding split_frames
split-empty = refl

split-append_by : (k : ℕ) (first second : List ℕ) → length first ≤ k → split_frames (first ++ second) ≡ split_on (split_frames first) second
split-append_by zero first second h =
    elim (none_or_some (first_frame first)) [
      | inl e ↦ sym (ap (λ (s : List (List ℕ) × List ℕ). split_on s second) (split-none first e))
      | inr f ↦ absurd (omega (arith, first_frame-shorter first f.0.0 f.0.1 f.1))
    ]
split-append_by (suc k) first second h =
    elim (none_or_some (first_frame first)) [
      | inl e ↦ sym (ap (λ (s : List (List ℕ) × List ℕ). split_on s second) (split-none first e))
      | inr f ↦
          let shorter = first_frame-shorter first f.0.0 f.0.1 f.1 in
          split-some (first ++ second) f.0.0 (f.0.1 ++ second) (first_frame-append first second f.0.0 f.0.1 f.1)
          ∙ (ap (with_first f.0.0) (split-append_by k f.0.1 second (omega arith)) ∙ sym (ap (λ (s : List (List ℕ) × List ℕ). split_on s second) (split-some first f.0.0 f.0.1 f.1)))
    ]

pub split-append : (first second : List ℕ) → split_frames (first ++ second) ≡ split_on (split_frames first) second
split-append first second = split-append_by (length first) first second (omega arith)

pub split-frames_of : (payloads : List (List ℕ)) (more : List ℕ) → AllByRecursion FitsFrame payloads → split_frames (frames_of payloads ++ more) ≡ (payloads ++ (split_frames more).0, (split_frames more).1)
split-frames_of [] more fits = refl
split-frames_of (p ∷ ps) more fits =
    ap split_frames (append_assoc (frame p) (frames_of ps) more)
    ∙ (split-some (frame p ++ (frames_of ps ++ more)) p (frames_of ps ++ more) (first_frame-frame p (frames_of ps ++ more) fits.0) ∙ ap (with_first p) (split-frames_of ps more fits.1))

pub split-all_frames : (payloads : List (List ℕ)) → AllByRecursion FitsFrame payloads → split_frames (frames_of payloads) ≡ (payloads, [])
split-all_frames payloads fits =
    ap split_frames (sym (append-nil (frames_of payloads)))
    ∙ (split-frames_of payloads [] fits ∙ (ap (λ (t : List (List ℕ) × List ℕ). (payloads ++ t.0, t.1)) split-empty ∙ ap (λ (l : List (List ℕ)). (l, [])) (append-nil payloads)))

-- the rest of a split begins with no frame
rest-none_by : (k : ℕ) (stream : List ℕ) → length stream ≤ k → first_frame (split_frames stream).1 ≡ None
rest-none_by zero stream h =
    elim (none_or_some (first_frame stream)) [
      | inl e ↦ ap (λ (s : List (List ℕ) × List ℕ). first_frame s.1) (split-none stream e) ∙ e
      | inr f ↦ absurd (omega (arith, first_frame-shorter stream f.0.0 f.0.1 f.1))
    ]
rest-none_by (suc k) stream h =
    elim (none_or_some (first_frame stream)) [
      | inl e ↦ ap (λ (s : List (List ℕ) × List ℕ). first_frame s.1) (split-none stream e) ∙ e
      | inr f ↦
          let shorter = first_frame-shorter stream f.0.0 f.0.1 f.1 in
          ap (λ (s : List (List ℕ) × List ℕ). first_frame s.1) (split-some stream f.0.0 f.0.1 f.1) ∙ rest-none_by k f.0.1 (omega arith)
    ]

pub rest-none : (stream : List ℕ) → first_frame (split_frames stream).1 ≡ None
rest-none stream = rest-none_by (length stream) stream (omega arith)

no_frame_begins : (rest : List ℕ) → first_frame rest ≡ None → (payload after : List ℕ) → FitsFrame payload → rest ≡ frame payload ++ after → ⊥
no_frame_begins rest e payload after fits is =
    let found : first_frame rest ≡ Some (payload, after) = ap first_frame is ∙ first_frame-frame payload after fits in
    cc

-- the stream is the frames of its payloads, and its rest
whole_by : (k : ℕ) (stream : List ℕ) → length stream ≤ k → AreBytes stream → (stream ≡ frames_of (split_frames stream).0 ++ (split_frames stream).1) × AllByRecursion FitsFrame (split_frames stream).0
whole_by zero stream h bytes =
    elim (none_or_some (first_frame stream)) [
      | inl e ↦ rw (split-none stream e) (refl, tt)
      | inr f ↦ absurd (omega (arith, first_frame-shorter stream f.0.0 f.0.1 f.1))
    ]
whole_by (suc k) stream h bytes =
    elim (none_or_some (first_frame stream)) [
      | inl e ↦ rw (split-none stream e) (refl, tt)
      | inr f ↦
          let shorter = first_frame-shorter stream f.0.0 f.0.1 f.1 in
          let is = stream_is_frame stream f.0.0 f.0.1 bytes f.1 in
          let more = whole_by k f.0.1 (omega arith) (bytes-after (frame f.0.0) f.0.1 (subst AreBytes is.0 bytes)) in
          let P : List (List ℕ) × List ℕ → Type 0 = λ s. (stream ≡ frames_of s.0 ++ s.1) × AllByRecursion FitsFrame s.0 in
          subst P (sym (split-some stream f.0.0 f.0.1 f.1)) (
            is.0 ∙ (ap (λ (l : List ℕ). frame f.0.0 ++ l) more.0 ∙ sym (append_assoc (frame f.0.0) (frames_of (split_frames f.0.1).0) (split_frames f.0.1).1)),
            (is.1, more.1),
          )
    ]

pub split-splits : (stream : List ℕ) → AreBytes stream → Splits stream (split_frames stream).0 (split_frames stream).1
split-splits stream bytes =
    let w = whole_by (length stream) stream (omega arith) bytes in
    record { whole = w.0; each = w.1; no_more = no_frame_begins (split_frames stream).1 (rest-none stream) }

pub split-unique : (stream : List ℕ) (payloads : List (List ℕ)) (rest : List ℕ) → AreBytes stream → Splits stream payloads rest → split_frames stream ≡ (payloads, rest)
split-unique stream payloads rest bytes s =
    let rest_bytes = bytes-after (frames_of payloads) rest (subst AreBytes s.whole bytes) in
    let none : first_frame rest ≡ None =
    elim (none_or_some (first_frame rest)) [
      | inl e ↦ e
      | inr f ↦ let is = stream_is_frame rest f.0.0 f.0.1 rest_bytes f.1 in absurd (s.no_more f.0.0 f.0.1 is.1 is.0)
    ] in
    ap split_frames s.whole
    ∙ (split-frames_of payloads rest s.each ∙ (ap (λ (t : List (List ℕ) × List ℕ). (payloads ++ t.0, t.1)) (split-none rest none) ∙ ap (λ (l : List (List ℕ)). (l, rest)) (append-nil payloads)))

pub split-exact : (stream : List ℕ) (payloads : List (List ℕ)) (rest : List ℕ) → AreBytes stream → Splits stream payloads rest ↔ (split_frames stream ≡ (payloads, rest))
split-exact stream payloads rest bytes = (
  split-unique stream payloads rest bytes,
  λ (e : split_frames stream ≡ (payloads, rest)). subst (λ (s : List (List ℕ) × List ℕ). Splits stream s.0 s.1) e (split-splits stream bytes),
)

pub frames-apart : (p q x y : List ℕ) → FitsFrame p → FitsFrame q → frame p ++ x ≡ frame q ++ y → (p ≡ q) × (x ≡ y)
frames-apart p q x y fits_p fits_q e =
    let both : Some (p, x) ≡ Some (q, y) = sym (first_frame-frame p x fits_p) ∙ (ap first_frame e ∙ first_frame-frame q y fits_q) in
    let pair : (p, x) ≡ (q, y) = cc in
    (ap (λ (t : List ℕ × List ℕ). t.0) pair, ap (λ (t : List ℕ × List ℕ). t.1) pair)

pub incoming-append : (first second : List ℕ) → incoming_items (first ++ second) ≡ map Payload (split_frames first).0 ++ incoming_items ((split_frames first).1 ++ second)
unfolding incoming_items
incoming-append first second =
    let a = split_frames first in
    let b = split_frames (a.1 ++ second) in
    ap (λ (s : List (List ℕ) × List ℕ). map Payload s.0 ++ too_long_item (too_long s.1)) (split-append first second)
    ∙ (ap (λ (l : List StreamItem). l ++ too_long_item (too_long b.1)) (map-append Payload a.0 b.0) ∙ append_assoc (map Payload a.0) (map Payload b.0) (too_long_item (too_long b.1)))

-- nothing comes in after a length over the limit
pub incoming-final : (first second : List ℕ) (n : ℕ) → too_long (split_frames first).1 ≡ Some n → incoming_items (first ++ second) ≡ incoming_items first
unfolding incoming_items
incoming-final first second n e =
    let a = split_frames first in
    let more = too_long-append a.1 second n e in
    let stuck = split-none (a.1 ++ second) (no_frame_if_too_long (a.1 ++ second) n more) in
    let after : split_on a second ≡ (a.0, a.1 ++ second) =
    ap (λ (t : List (List ℕ) × List ℕ). (a.0 ++ t.0, t.1)) stuck ∙ ap (λ (l : List (List ℕ)). (l, a.1 ++ second)) (append-nil a.0) in
    ap (λ (s : List (List ℕ) × List ℕ). map Payload s.0 ++ too_long_item (too_long s.1)) (split-append first second ∙ after)
    ∙ ap (λ (o : Option ℕ). map Payload a.0 ++ too_long_item o) (more ∙ sym e)
