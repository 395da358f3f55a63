-- One way of a connection: a message is sent, none waits, or the first that waits is taken. It serves both sides.
use Rattle.std.proofs.Common.{◌≡◌, ℕ, ◌<◌, List, [], ◌∷◌, ◌++◌, length, map, option_map, Option, Some, None, Result, Ok, Err, refl, sym, ap, subst, ◌∙◌, append_assoc, append-nil, arith, length-append, inl, inr}
use Rattle.std.specs.Prelude.{IfSome}
use Rattle.std.proofs.lemmas.List.{drop-append-le}
use Rattle.sv_frame.specs.Frames.{frame, frames_of, FitsFrame, first_frame, too_long}
use Rattle.sv_frame.specs.Streams.{TakesOff}
use Rattle.sv_frame.specs.Answers.{Skips}
use Rattle.sv_frame.proofs.Fronts.{first_frame-append, first_frame-shorter, first_frame-frame, no_frame_if_too_long, too_long-append, parts_of_long}
use Rattle.sv_link.specs.declared.side.Side.{Side}
use Rattle.sv_link.specs.Sides.{SideView, LinkView, new_side, side_of, unread, after_write}
use Rattle.sv_exchange.specs.Streams.{not_taken, IsWithin, IsFilled, IsSameToRead, Wrote}
use Rattle.sv_exchange.specs.Carried.{messages_in, IsStreamOf, waiting, IsLane}
use Rattle.sv_exchange.proofs.Messages.{Spells, messages_are, carried_none, carried_last, carried_end, carried_first}
use Rattle.sv_exchange.proofs.Onward.{side_with_same, same_side}

-- ---- Without the messages

not_taken-written : (inbox : List ℕ) (sender : SideView) (piece : List ℕ) → IsWithin sender → not_taken inbox (after_write sender piece) ≡ not_taken inbox sender ++ piece
not_taken-written inbox sender piece within =
    ap (λ (l : List ℕ). inbox ++ l) (drop-append-le sender.read sender.written piece within) ∙ sym (append_assoc inbox (unread sender) piece)

within-written : (sender : SideView) (piece : List ℕ) → IsWithin sender → IsWithin (after_write sender piece)
within-written sender piece within = omega (arith, within, length-append sender.written piece)

taken_off_by : (found : Option (List ℕ × List ℕ)) (payload old new : List ℕ) → option_map (λ first. first.0) found ≡ Some payload → IfSome found (λ first. TakesOff first.0 old new) → TakesOff payload old new
taken_off_by None payload old new first off = absurd cc
taken_off_by (Some f) payload old new first off =
    let same : f.0 ≡ payload = cc in
    subst (λ (p : List ℕ). TakesOff p old new) same off

first_by : (found : Option (List ℕ × List ℕ)) (payload : List ℕ) → option_map (λ first. first.0) found ≡ Some payload → (rest : List ℕ) × (found ≡ Some (payload, rest))
first_by None payload first = absurd cc
first_by (Some f) payload first =
    let same : f.0 ≡ payload = cc in
    (f.1, ap (λ (p : List ℕ). Some (p, f.1)) same)

-- ---- With them

module _ {M E : Type 0} (IsMessage : M → Type 0) (spell : M → List ℕ) (read : List ℕ → Result M E) (s : Spells IsMessage spell read) where
  -- the messages of a stream are those that wait
  pub waits_are : (ms : List M) (inbox : List ℕ) (sender : SideView) → IsStreamOf IsMessage spell ms (not_taken inbox sender) → waiting read inbox sender ≡ ms
  unfolding waiting
  waits_are ms inbox sender is = messages_are IsMessage spell read s ms (not_taken inbox sender) is

  pub lane_of : (ms : List M) (inbox : List ℕ) (sender : SideView) → IsStreamOf IsMessage spell ms (not_taken inbox sender) → IsWithin sender → IsLane IsMessage spell read inbox sender
  lane_of ms inbox sender is within =
      record { carries = subst (λ (l : List M). IsStreamOf IsMessage spell l (not_taken inbox sender)) (sym (waits_are ms inbox sender is)) is; within = within }

  nothing_sent : (inbox : List ℕ) (sender : SideView) → inbox ≡ [] → sender ≡ new_side → IsStreamOf IsMessage spell [] (not_taken inbox sender)
  nothing_sent inbox sender e f =
      let none : not_taken inbox sender ≡ [] = rw (e, f) refl in
      subst (IsStreamOf IsMessage spell []) (sym none) (carried_none IsMessage spell)

  pub lane_new : (inbox : List ℕ) (sender : SideView) → inbox ≡ [] → sender ≡ new_side → IsLane IsMessage spell read inbox sender
  lane_new inbox sender e f = lane_of [] inbox sender (nothing_sent inbox sender e f) (subst IsWithin (sym f) (omega arith))

  pub waits_new : (inbox : List ℕ) (sender : SideView) → inbox ≡ [] → sender ≡ new_side → waiting read inbox sender ≡ []
  waits_new inbox sender e f = waits_are [] inbox sender (nothing_sent inbox sender e f)

  -- ---- The same is left

  pub waits_same : (i j : List ℕ) (a b : SideView) → not_taken j b ≡ not_taken i a → waiting read j b ≡ waiting read i a
  unfolding waiting
  waits_same i j a b e = ap (messages_in read) e

  pub lane_same : (i j : List ℕ) (a b : SideView) → not_taken j b ≡ not_taken i a → IsWithin b → IsLane IsMessage spell read i a → IsLane IsMessage spell read j b
  lane_same i j a b e within lane = lane_of (waiting read i a) j b (subst (IsStreamOf IsMessage spell (waiting read i a)) (sym e) lane.carries) within

  pub lane_read_same : (i : List ℕ) (a b : SideView) → IsSameToRead a b → IsLane IsMessage spell read i a → IsLane IsMessage spell read i b
  lane_read_same i a b same lane = lane_same i i a b (ap (λ (l : List ℕ). i ++ l) same.left) (same.within lane.within) lane

  pub waits_read_same : (i : List ℕ) (a b : SideView) → IsSameToRead a b → waiting read i b ≡ waiting read i a
  waits_read_same i a b same = waits_same i i a b (ap (λ (l : List ℕ). i ++ l) same.left)

  -- ---- A message is sent

  stream_sent : (inbox : List ℕ) (sender : SideView) (m : M) → IsLane IsMessage spell read inbox sender → IsMessage m → IsStreamOf IsMessage spell (waiting read inbox sender ++ m ∷ []) (not_taken inbox (after_write sender (frame (spell m))))
  stream_sent inbox sender m lane is =
      subst (IsStreamOf IsMessage spell (waiting read inbox sender ++ m ∷ [])) (sym (not_taken-written inbox sender (frame (spell m)) lane.within)) (carried_last IsMessage spell (waiting read inbox sender) m (not_taken inbox sender) lane.carries is)

  -- the way on which it is sent
  pub record IsSent (inbox : List ℕ) (old new : SideView) (m : M) : Type 0 where
    pub lane : IsLane IsMessage spell read inbox new
    pub waits : waiting read inbox new ≡ waiting read inbox old ++ m ∷ []

  pub sent : (inbox : List ℕ) (old new : LinkView) (side : Side) (m : M) → Wrote old new side (frame (spell m)) → IsMessage m → IsLane IsMessage spell read inbox (side_of old side) → IsSent inbox (side_of old side) (side_of new side) m
  sent inbox old new side m wrote is lane =
      let mid = side_of wrote.link side in
      let same = same_side old wrote.link side wrote.same in
      let mid_lane = lane_read_same inbox (side_of old side) mid same lane in
      let stream = stream_sent inbox mid m mid_lane is in
      let after = after_write mid (frame (spell m)) in
      let written : side_of new side ≡ after = ap (λ (l : LinkView). side_of l side) wrote.written ∙ side_with_same wrote.link side after in
      subst (λ (x : SideView). IsSent inbox (side_of old side) x m) (sym written)
      (record {
        lane = lane_of (waiting read inbox mid ++ m ∷ []) inbox after stream (within-written mid (frame (spell m)) mid_lane.within);
        waits = waits_are (waiting read inbox mid ++ m ∷ []) inbox after stream ∙ ap (λ (l : List M). l ++ m ∷ []) (waits_read_same inbox (side_of old side) mid same);
      })

  -- ---- The first that waits

  first_message : (ms : List M) (stream payload rest : List ℕ) → IsStreamOf IsMessage spell ms stream → first_frame stream ≡ Some (payload, rest) → (m : M) × IsMessage m × (payload ≡ spell m)
  first_message [] stream payload rest is e = absurd (omega (arith, first_frame-shorter stream payload rest e, ap length is.whole))
  first_message (m ∷ ms) stream payload rest is e =
      let found = first_frame-frame (spell m) (frames_of (map spell ms)) (s.fits m is.each.0) in
      let both : Some (payload, rest) ≡ Some (spell m, frames_of (map spell ms)) = sym e ∙ (ap first_frame is.whole ∙ found) in
      let pair : (payload, rest) ≡ (spell m, frames_of (map spell ms)) = cc in
      (m, is.each.0, ap (λ (t : List ℕ × List ℕ). t.0) pair)

  -- what an inbox begins with is the first that waits
  pub first_waits : (i : List ℕ) (b : SideView) (payload : List ℕ) → IsLane IsMessage spell read i b → option_map (λ first. first.0) (first_frame i) ≡ Some payload → (m : M) × IsMessage m × (payload ≡ spell m)
  first_waits i b payload lane first =
      let found = first_by (first_frame i) payload first in
      first_message (waiting read i b) (not_taken i b) payload (found.0 ++ unread b) lane.carries (first_frame-append i (unread b) payload found.0 found.1)

  pub never_malformed : (i : List ℕ) (b : SideView) (payload : List ℕ) (e : E) → IsLane IsMessage spell read i b → option_map (λ first. first.0) (first_frame i) ≡ Some payload → read payload ≡ Err e → ⊥
  never_malformed i b payload e lane first is =
      let m = first_waits i b payload lane first in
      let back = s.back m.0 m.1 in
      let same : read payload ≡ read (spell m.0) = ap read m.2 in
      cc

  pub never_too_long : (i : List ℕ) (b : SideView) (n : ℕ) → IsLane IsMessage spell read i b → too_long i ≡ Some n → ⊥
  never_too_long i b n lane long =
      let stream = not_taken i b in
      let more = too_long-append i (unread b) n long in
      let none = carried_end IsMessage spell read s (waiting read i b) stream lane.carries (no_frame_if_too_long stream n more) in
      let empty : stream ≡ [] = lane.carries.whole ∙ ap (λ (l : List M). frames_of (map spell l)) none in
      omega (arith, (parts_of_long stream n more).come, ap length empty)

  pub none_waits : (i : List ℕ) (b : SideView) → IsLane IsMessage spell read i b → first_frame i ≡ None → length i < 65540 → IsFilled i (unread b) → waiting read i b ≡ []
  none_waits i b lane none short filled =
      elim filled [
        | inl full ↦ absurd (omega arith)
        | inr left ↦ carried_end IsMessage spell read s (waiting read i b) (not_taken i b) lane.carries (ap (λ (l : List ℕ). first_frame (i ++ l)) left ∙ (ap first_frame (append-nil i) ∙ none))
      ]

  -- it is taken
  pub record IsTaken (i j : List ℕ) (b : SideView) (m : M) : Type 0 where
    pub lane : IsLane IsMessage spell read j b
    pub waits : waiting read i b ≡ m ∷ waiting read j b
    pub message : IsMessage m

  pub taken : (i j : List ℕ) (b : SideView) (payload : List ℕ) (m : M) → IsLane IsMessage spell read i b → option_map (λ first. first.0) (first_frame i) ≡ Some payload → read payload ≡ Ok m → Skips i j → IsTaken i j b m
  taken i j b payload m lane first is skips =
      let off = taken_off_by (first_frame i) payload i j first skips in
      let waits = first_waits i b payload lane first in
      let rest = j ++ unread b in
      let stream : not_taken i b ≡ frame payload ++ rest = ap (λ (l : List ℕ). l ++ unread b) off.whole ∙ append_assoc (frame payload) j (unread b) in
      let fits : FitsFrame payload = subst FitsFrame (sym waits.2) (s.fits waits.0 waits.1) in
      let comes = carried_first IsMessage spell read s (waiting read i b) payload rest (subst (IsStreamOf IsMessage spell (waiting read i b)) stream lane.carries) fits in
      let back = s.back comes.first comes.is_message in
      let again : read payload ≡ read (spell comes.first) = ap read comes.spelled in
      let both : ◌≡◌ {A = Result M E} (Ok comes.first) (Ok m) = sym back ∙ (sym again ∙ is) in
      let same : comes.first ≡ m = cc in
      record {
        lane = lane_of comes.others j b comes.stream lane.within;
        waits = comes.list ∙ (ap (λ (x : M). x ∷ comes.others) same ∙ ap (λ (l : List M). m ∷ l) (sym (waits_are comes.others j b comes.stream)));
        message = subst IsMessage same comes.is_message;
      }
