-- A stream that begins the frames of payloads.
use Rattle.std.proofs.Common.{◌≡◌, ℕ, List, [], ◌∷◌, ◌++◌, Some, None, inl, inr, refl, sym, ap, ◌∙◌, append_assoc}
use Rattle.std.specs.List.{AllByRecursion}
use Rattle.std.proofs.lemmas.List.{append_cancel_right}
use Rattle.std.proofs.lemmas.Option.{none-some, same_Some}
use Rattle.sv_frame.specs.Frames.{frame, frames_of, FitsFrame, first_frame, too_long}
use Rattle.sv_frame.specs.Streams.{split_frames, with_first}
use Rattle.sv_frame.proofs.Fronts.{none_or_some, first_frame-append, first_frame-frame, too_long-append, no_frame_if_too_long}
use Rattle.sv_frame.proofs.Splitting.{split-none, split-some, split-empty}
use Rattle.sv_player.proofs.Stepping.{left_none}
use Rattle.law_traffic.specs.Cuts.{IsCutStream, CutFramesAreFrontFrames}

pub empty_short : too_long [] ≡ None
unfolding too_long
empty_short = refl

-- what begins a frame is no length over the limit
pub not_long : (payload stream more after : List ℕ) → FitsFrame payload → stream ++ more ≡ frame payload ++ after → too_long stream ≡ None
not_long payload stream more after fits e =
    elim (none_or_some (too_long stream)) [
      | inl none ↦ none
      | inr long ↦
          let no = no_frame_if_too_long (stream ++ more) long.0 (too_long-append stream more long.0 long.1) in
          let found = ap first_frame e ∙ first_frame-frame payload after fits in
          absurd (none-some (payload, after) (sym no ∙ found))
    ]

cut_none : (stream : List ℕ) → stream ≡ [] → IsCutStream [] stream
cut_none stream e =
    record { taken = []; left = []; are = refl; rest = []; whole = e; split = ap split_frames e ∙ split-empty; none = empty_short }

cut_here : (p : List ℕ) (ps : List (List ℕ)) (stream more : List ℕ) → FitsFrame p → stream ++ more ≡ frame p ++ frames_of ps → first_frame stream ≡ None → IsCutStream (p ∷ ps) stream
cut_here p ps stream more fits e none =
    record { taken = []; left = p ∷ ps; are = refl; rest = stream; whole = refl; split = split-none stream none; none = not_long p stream more (frames_of ps) fits e }

cut_next : (p : List ℕ) (ps : List (List ℕ)) (stream after : List ℕ) → first_frame stream ≡ Some (p, after) → stream ≡ frame p ++ after → IsCutStream ps after → IsCutStream (p ∷ ps) stream
cut_next p ps stream after first is c =
    record {
      taken = p ∷ c.taken;
      left = c.left;
      are = ap (λ (l : List (List ℕ)). p ∷ l) c.are;
      rest = c.rest;
      whole = is ∙ (ap (λ (l : List ℕ). frame p ++ l) c.whole ∙ sym (append_assoc (frame p) (frames_of c.taken) c.rest));
      split = split-some stream p after first ∙ ap (with_first p) c.split;
      none = c.none;
    }

cut : (payloads : List (List ℕ)) (stream more : List ℕ) → AllByRecursion FitsFrame payloads → stream ++ more ≡ frames_of payloads → IsCutStream payloads stream
cut [] stream more fits e = cut_none stream (left_none stream more e)
cut (p ∷ ps) stream more fits e =
    elim (none_or_some (first_frame stream)) [
      | inl none ↦ cut_here p ps stream more fits.0 e none
      | inr f ↦
          let here = first_frame-append stream more f.0.0 f.0.1 f.1 in
          let there = ap first_frame e ∙ first_frame-frame p (frames_of ps) fits.0 in
          let same = same_Some {A = List ℕ × List ℕ} (f.0.0, f.0.1 ++ more) (p, frames_of ps) (sym here ∙ there) in
          let payload : f.0.0 ≡ p = ap (λ (q : List ℕ × List ℕ). q.0) same in
          let after : f.0.1 ++ more ≡ frames_of ps = ap (λ (q : List ℕ × List ℕ). q.1) same in
          let first : first_frame stream ≡ Some (p, f.0.1) = f.1 ∙ ap (λ (l : List ℕ). Some (l, f.0.1)) payload in
          let is : stream ≡ frame p ++ f.0.1 =
          append_cancel_right stream (frame p ++ f.0.1) more (e ∙ (ap (λ (l : List ℕ). frame p ++ l) (sym after) ∙ sym (append_assoc (frame p) f.0.1 more))) in
          cut_next p ps stream f.0.1 first is (cut ps f.0.1 more fits.1 after)
    ]

pub cut_frames_are_front_frames : CutFramesAreFrontFrames
cut_frames_are_front_frames payloads stream fits p = cut payloads stream p.0 fits p.1
