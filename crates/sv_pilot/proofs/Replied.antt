-- The reply at the front of what came is taken, and what it asks for is a message.
use Rattle.std.proofs.Common.{◌≡◌, ◌≢◌, ℕ, ◌<◌, List, [], ◌∷◌, ◌++◌, option_map, option_to_list, Option, Some, None, Ok, Err, Result, sym, ap, subst, ◌∙◌}
use Rattle.std.specs.Prelude.{All, IfSome, IfErr, OnOk}
use Rattle.std.proofs.lemmas.List.Elements.{All-head}
use Rattle.sv_world.specs.Worlds.{IsGoodShape}
use Rattle.sv_frame.specs.Frames.{first_frame}
use Rattle.sv_frame.specs.Streams.{TakesOff}
use Rattle.sv_frame.specs.Answers.{Skips}
use Rattle.sv_wire.specs.declared.fault.Malformed.{Malformed}
use Rattle.sv_wire.specs.declared.message.Request.{Request}
use Rattle.sv_wire.specs.declared.message.Reply.{Reply}
use Rattle.sv_wire.specs.Grammar.{IsWireRequest, IsWireReply}
use Rattle.sv_wire.specs.Messages.{reply_at}
use Rattle.sv_exchange.specs.Incoming.{FirstReads}
use Rattle.sv_client.specs.declared.fault.TakeFault.{TakeFault}
use Rattle.sv_client.specs.declared.trace.Event.{Event}
use Rattle.sv_client.specs.Taking.{Identity, outstanding}
use Rattle.sv_client.specs.Proper.{MayCome, AreInTurn}
use Rattle.sv_client.specs.Answers.{got_now, IsServed, IsTakeFault}
use Rattle.sv_client.specs.Seen.{latest_session, newly_asked}
use Rattle.sv_pilot.specs.declared.trouble.Trouble.{Trouble}
use Rattle.sv_pilot.specs.declared.trouble.Trouble.TheVariants as troubles
use Rattle.sv_pilot.specs.Troubles.{trouble_of_take}
use Rattle.sv_pilot.specs.Lines.{Line, IsCalm, request_frames, asking}
use Rattle.sv_pilot.specs.Doings.{PilotView, HasTaken, StopsBy, weight}
use Rattle.sv_pilot.proofs.Taking.{one_taken, refused_by}
use Rattle.sv_pilot.proofs.Weights.{lighter}

-- ---- What comes off

pub some_frame : (came : List ℕ) (read : Result Reply Malformed) → FirstReads reply_at came read → first_frame came ≢ None
some_frame came read f none =
    let e : None ≡ Some f.payload = sym (ap (λ (o : Option (List ℕ × List ℕ)). option_map (λ first. first.0) o) none) ∙ f.first in cc

taken_off : (old new payload : List ℕ) (o : Option (List ℕ × List ℕ)) → option_map (λ first. first.0) o ≡ Some payload → IfSome o (λ first. TakesOff first.0 old new) → TakesOff payload old new
taken_off old new payload None e s = cc
taken_off old new payload (Some x) e s = let same : x.0 ≡ payload = cc in subst (λ (p : List ℕ). TakesOff p old new) same s

pub skip_takes : (old mid : PilotView) (reply : Reply) → FirstReads reply_at old.line.came (Ok reply) → mid.client.who ≡ old.client.who → mid.client.events ≡ got_now old.client.events reply ∷ old.client.events
    → mid.line.told ≡ old.line.told → mid.line.waits ≡ old.line.waits ++ request_frames (newly_asked old.client.who old.client.events (got_now old.client.events reply)) → Skips old.line.came mid.line.came
    → HasTaken old mid mid.line.waits
skip_takes old mid reply f who events told waits skips =
    one_taken old mid f.payload reply who events told waits (taken_off old.line.came mid.line.came f.payload (first_frame old.line.came) f.first skips) f.is

-- What a reply asks for is put behind what waits.
pub asked_waits : (old skipped : Line) (done : Option Request) (asked : List Request) → skipped.waits ≡ old.waits → option_to_list done ≡ asked
    → (asking skipped (option_to_list done)).waits ≡ old.waits ++ request_frames asked
asked_waits old skipped done asked same is = ap (λ (s : List ℕ). s ++ request_frames (option_to_list done)) same ∙ ap (λ (rs : List Request). old.waits ++ request_frames rs) is

-- ---- What is asked for

some_of : (done : Option Request) → All IsWireRequest (option_to_list done) → IfSome done IsWireRequest
some_of None all = tt
some_of (Some request) all = All-head IsWireRequest request [] all

pub done_is_message : (who : Identity) (t : List Event) (reply : Reply) (done : Option Request) → ((e : Event) → MayCome who 0 t e → IsServed who e → All IsWireRequest (newly_asked who t e))
    → AreInTurn who 0 (got_now t reply ∷ t) → IsWireReply reply → option_to_list done ≡ newly_asked who t (got_now t reply) → IsGoodShape who.shape → IfSome done IsWireRequest
done_is_message who t reply done law turn wire asked shape = some_of done (subst (All IsWireRequest) (sym asked) (law (got_now t reply) turn.0 (shape, wire)))

pub fewer_are_due : (who : Identity) (t : List Event) (reply : Reply) → AreInTurn who 0 (got_now t reply ∷ t) → weight (outstanding who (got_now t reply ∷ t)) < weight (outstanding who t)
fewer_are_due who t reply turn = lighter who t (latest_session t) reply turn.1 turn.0

-- ---- What is refused

pub refused_at : (old new : PilotView) (reply : Reply) (fault : TakeFault) → new ≡ old → FirstReads reply_at old.line.came (Ok reply) → IsTakeFault old.client.who old.client.events reply fault
    → StopsBy old new (trouble_of_take fault)
refused_at old new reply fault same front why = subst (λ (p : PilotView). StopsBy old p (trouble_of_take fault)) (sym same) (refused_by old reply fault front why)

-- ---- At the end

pub always : {X : Type 0} (P : Type 0) (r : Result X Trouble) → P → OnOk r P
always P (Ok x) p = p
always P (Err t) p = tt

pub memory_stops : (old new : PilotView) (r : Result Unit Trouble) → IsCalm old.line new.line → IfErr r (λ (trouble : Trouble). trouble ≡ troubles.Memory) → IfErr r (StopsBy old new)
memory_stops old new (Ok x) calm e = tt
memory_stops old new (Err t) calm e = subst (StopsBy old new) (sym e) calm
