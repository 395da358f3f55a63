-- The reply that comes next in a session is one that the client takes, where each that is legal is one.
use Rattle.std.proofs.Common.{◌≡◌, ◌≢◌, ℕ, List, [], ◌∷◌, ◌++◌, length, reverse, Option, Some, None, option_map, slice_get, Ok, Err, refl, sym, ap, subst, ◌∙◌, arith}
use Rattle.std.specs.List.{AllByRecursion}
use Rattle.std.proofs.lemmas.Option.{none-some, same_Some}
use mathlib.Core.List.{IsPrefix}
use Rattle.sv_world.specs.declared.world.Shape.{Shape}
use Rattle.sv_frame.specs.Frames.{frame, first_frame, too_long}
use Rattle.sv_frame.proofs.Fronts.{first_frame-append, first_frame-frame, first_frame-shorter}
use Rattle.sv_wire.specs.declared.message.Reply.{Reply}
use Rattle.sv_wire.specs.Messages.{reply_at}
use Rattle.sv_wire.specs.Spelling.{reply_bytes}
use Rattle.sv_wire.specs.Laws.{IsReply}
use Rattle.sv_client.specs.declared.fault.TakeFault.{TakeFault}
use Rattle.sv_client.specs.declared.fault.TakeFault.TheVariants as take_faults
use Rattle.sv_client.specs.declared.trace.Event.{Event}
use Rattle.sv_client.specs.declared.trace.Trace.{Trace}
use Rattle.sv_client.specs.Taking.{Identity, first_fault_of_reply}
use Rattle.sv_client.specs.Answers.{IsTakeFault}
use Rattle.sv_client.specs.Proper.{identity_of}
use Rattle.law_system.proofs.Every.{each-right}
use Rattle.sv_exchange.proofs.Sizes.{reply_short, reply_back}
use Rattle.sv_player.specs.Stops.{IsBadRest, first_payload}
use Rattle.sv_player.specs.declared.outcome.ReplyFault.{ReplyFault}
use Rattle.sv_player.specs.declared.outcome.ReplyFault.TheVariants as reply_faults
use Rattle.sv_player.proofs.Stepping.{left_none}
use Rattle.law_traffic.specs.Traffic.{reply_frames}
use Rattle.law_traffic.specs.Stuck.{IsTakeable}
use Rattle.law_traffic.proofs.Cuts.{empty_short, not_long}
use Rattle.law_traffic.proofs.Messages.{AreGot, same_reply}

-- ---- Frames of replies

pub one_frame : (w : Reply) (ws : List Reply) → reply_frames (w ∷ ws) ≡ frame (reply_bytes w) ++ reply_frames ws
unfolding reply_frames
one_frame w ws = refl

no_frames : reply_frames [] ≡ []
unfolding reply_frames
no_frames = refl

-- The reply that comes next, whose frame a rest begins with.
record IsNext (more : List Reply) (payload : List ℕ) : Type 0 where
  pub reply : Reply
  pub others : List Reply
  pub are : more ≡ reply ∷ others
  pub bytes : payload ≡ reply_bytes reply

next_of : (more : List Reply) (rest payload after : List ℕ) → AllByRecursion IsReply more → IsPrefix rest (reply_frames more) → first_frame rest ≡ Some (payload, after) → IsNext more payload
next_of [] rest payload after fine p first =
    let longer = first_frame-shorter (rest ++ p.0) payload (after ++ p.0) (first_frame-append rest p.0 payload after first) in
    let none = ap (λ (l : List ℕ). length l) (p.1 ∙ no_frames) in
    absurd (omega (arith, longer, none))
next_of (w ∷ ws) rest payload after fine p first =
    let here = first_frame-append rest p.0 payload after first in
    let there = ap first_frame (p.1 ∙ one_frame w ws) ∙ first_frame-frame (reply_bytes w) (reply_frames ws) (reply_short w fine.0) in
    let same = same_Some {A = List ℕ × List ℕ} (payload, after ++ p.0) (reply_bytes w, reply_frames ws) (sym here ∙ there) in
    record { reply = w; others = ws; are = refl; bytes = ap (λ (q : List ℕ × List ℕ). q.0) same }

next_short : (more : List Reply) (rest : List ℕ) → AllByRecursion IsReply more → IsPrefix rest (reply_frames more) → too_long rest ≡ None
next_short [] rest fine p = ap too_long (left_none rest p.0 (p.1 ∙ no_frames)) ∙ empty_short
next_short (w ∷ ws) rest fine p = not_long (reply_bytes w) rest p.0 (reply_frames ws) (reply_short w fine.0) (p.1 ∙ one_frame w ws)

-- ---- The reply that comes next

at_length : (xs : List Reply) (w : Reply) (ws : List Reply) → slice_get (xs ++ w ∷ ws) (length xs) ≡ Some w
at_length [] w ws = refl
at_length (y ∷ ys) w ws = at_length ys w ws

module _ (shape : Shape) (L : Trace) where
  abbrev own : Identity
  own = identity_of shape L

  abbrev done : List Event
  done = reverse L.events

  -- It is the first that was not got.
  pub takeable_by : (all : List Reply) (received : List ℕ) (gots : List Reply) (rest : List ℕ) → AllByRecursion IsReply all → AreGot all received gots rest →
      ((w : Reply) → slice_get all (length gots) ≡ Some w → first_fault_of_reply own done w ≡ None) → IsTakeable shape L rest
  takeable_by all received gots rest sendable g taken =
      record {
        short = next_short g.more rest fine g.next;
        next = λ payload after first. found payload (next_of g.more rest payload after fine g.next first);
      }
    where
      fine : AllByRecursion IsReply g.more
      fine = each-right IsReply gots g.more (subst (AllByRecursion IsReply) g.are sendable)

      found : (payload : List ℕ) → IsNext g.more payload → (w : Reply) × ((reply_at payload ≡ Ok w) × (first_fault_of_reply own done w ≡ None))
      found payload n =
          let are : all ≡ gots ++ n.reply ∷ n.others = g.are ∙ ap (λ (l : List Reply). gots ++ l) n.are in
          let message = (subst (AllByRecursion IsReply) n.are fine).0 in
          (n.reply, (ap reply_at n.bytes ∙ reply_back n.reply message, taken n.reply (ap (λ (l : List Reply). slice_get l (length gots)) are ∙ at_length gots n.reply n.others)))

-- ---- No bad one

-- the frame whose payload comes first
framed : (rest payload : List ℕ) → first_payload rest ≡ Some payload → (after : List ℕ) × (first_frame rest ≡ Some (payload, after))
framed rest payload e = go (first_frame rest) e
  where
    go : (o : Option (List ℕ × List ℕ)) → option_map (λ (f : List ℕ × List ℕ). f.0) o ≡ Some payload → (after : List ℕ) × (o ≡ Some (payload, after))
    go None e = absurd (none-some payload e)
    go (Some f) e = (f.1, ap (λ (p : List ℕ). Some (p, f.1)) (same_Some f.0 payload e))

-- a reply that is refused has a fault
not_fine : (who : Identity) (t : List Event) (reply : Reply) (fault : TakeFault) → fault ≢ take_faults.Memory → IsTakeFault who t reply fault → first_fault_of_reply who t reply ≡ None → ⊥
not_fine who t reply take_faults.Unasked some is none = cc
not_fine who t reply take_faults.WrongKind some is none = cc
not_fine who t reply take_faults.BadOrder some is none = cc
not_fine who t reply take_faults.BadItem some is none = cc
not_fine who t reply (take_faults.Missing pos object) some is none = cc
not_fine who t reply take_faults.Memory some is none = some refl

pub not_bad : (shape : Shape) (L : Trace) (rest : List ℕ) → IsTakeable shape L rest → (payload : List ℕ) (fault : ReplyFault) →
    IsBadRest (identity_of shape L) (reverse L.events) rest payload fault → ⊥
not_bad shape L rest takeable payload (reply_faults.Wire fault) bad =
    let first = framed rest payload bad.0 in
    let n = takeable.next payload first.0 first.1 in
    let same : Ok n.0 ≡ Err fault = sym n.1.0 ∙ bad.1 in
    cc
not_bad shape L rest takeable payload (reply_faults.Take fault) bad =
    let first = framed rest payload bad.0 in
    let n = takeable.next payload first.0 first.1 in
    let refused = bad.1 in
    let same : n.0 ≡ refused.reply = same_reply n.0 refused.reply (sym n.1.0 ∙ refused.read) in
    not_fine (identity_of shape L) (reverse L.events) refused.reply fault refused.some refused.fault_is
    (sym (ap (first_fault_of_reply (identity_of shape L) (reverse L.events)) same) ∙ n.1.1)
not_bad shape L rest takeable payload (reply_faults.TooLong n) bad = none-some n (sym takeable.short ∙ bad.1)
