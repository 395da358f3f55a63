-- No client of a run that is done waits at an end that is shut, or for a reply that it does not take.
use Rattle.std.proofs.Common.{◌≡◌, ◌≢◌, ℕ, true, false, inl, inr, List, [], ◌∷◌, ◌++◌, length, map, reverse, Some, None, slice_get, refl, sym, ap, subst, ◌∙◌, arith, append-nil, length-append}
use Rattle.std.specs.List.{AllByRecursion}
use Rattle.std.proofs.lemmas.List.{length-map, append_cancel_left}
use Rattle.std.proofs.lemmas.Option.{none-some}
use Rattle.sv_frame.specs.Frames.{frames_of, FitsFrame, first_frame, too_long}
use Rattle.sv_frame.specs.Streams.{incoming_items, too_long_item, StreamItem}
use Rattle.sv_frame.specs.Streams.StreamItem.{Payload}
use Rattle.sv_frame.proofs.Fronts.{first_frame-frame}
use Rattle.sv_frame.proofs.Splitting.{split-all_frames}
use Rattle.sv_wire.specs.declared.message.Request.{Request}
use Rattle.sv_wire.specs.declared.message.Request.TheVariants as requests
use Rattle.sv_wire.specs.declared.message.Reply.{Reply}
use Rattle.sv_wire.specs.Spelling.{request_bytes, reply_bytes}
use Rattle.sv_wire.specs.Laws.{IsReply}
use Rattle.sv_journal.specs.declared.entry.Entry.{Entry}
use Rattle.sv_journal.specs.History.{accepted, full_reply}
use Rattle.sv_journal.specs.Laws.{FullRepliesStay, LegalRelaysNameAccepted}
use Rattle.sv_client.specs.declared.trace.Trace.{Trace}
use Rattle.sv_client.specs.Traces.{requests_of, got, asked}
use Rattle.sv_client.specs.Taking.{first_fault_of_reply}
use Rattle.sv_client.specs.Proper.{Proper, identity_of}
use Rattle.sv_world.specs.declared.world.Shape.{Shape}
use Rattle.law_system.proofs.Asked.{got-when, got-answers, part-rest, asked-part}
use Rattle.law_system.proofs.Clients.{proper-events}
use Rattle.law_system.proofs.Fronts.{get-last}
use Rattle.law_system.proofs.Leaving.{leave-last}
use Rattle.sv_client.specs.declared.trace.Event.TheVariants as events
use Rattle.law_system.proofs.Every.{each-right}
use Rattle.sv_session.specs.declared.outcome.SessionOut.TheVariants as outs
use Rattle.sv_exchange.proofs.Sizes.{reply_short}
use Rattle.sv_session.proofs.Stops.{stops-kinds}
use Rattle.sv_player.specs.Carried.{BeginsWithReplies}
use Rattle.sv_player.specs.Stops.{NoneCame, is_cut}
use Rattle.sv_player.specs.Played.{replies_of}
use Rattle.law_traffic.specs.Sessions.{Over, IsSessionDone}
use Rattle.law_traffic.specs.Traffic.{reply_frames, EndsWithStop, CameWhole}
use Rattle.law_traffic.specs.Stuck.{IsTakeable}
use Rattle.law_traffic.proofs.Cuts.{empty_short}
use Rattle.law_traffic.proofs.Messages.{requests_fit, request_frames_are, reply_frames_both, AreGot, got_first}
use Rattle.law_traffic.proofs.Bytes.{answered, steps, all, messages, received_part, sent_whole, no_fault_open, how_ended}
use Rattle.law_traffic.proofs.Takeable.{one_frame, takeable_by}
use Rattle.law_system.proofs.Order.{leave-stopped}

-- ---- Frames of replies

no_more : (more : List Reply) (rest : List ℕ) → AllByRecursion IsReply more → rest ≡ reply_frames more → first_frame rest ≡ None → more ≡ []
no_more [] rest fine is none = refl
no_more (w ∷ ws) rest fine is none =
    let there = ap first_frame (is ∙ one_frame w ws) ∙ first_frame-frame (reply_bytes w) (reply_frames ws) (reply_short w fine.0) in
    absurd (none-some (reply_bytes w, reply_frames ws) (sym none ∙ there))

whole_items : (payloads : List (List ℕ)) → AllByRecursion FitsFrame payloads → incoming_items (frames_of payloads) ≡ map Payload payloads
unfolding incoming_items
whole_items payloads fits =
    ap (λ (split : List (List ℕ) × List ℕ). map Payload split.0 ++ too_long_item (too_long split.1)) (split-all_frames payloads fits)
    ∙ (ap (λ o. map Payload payloads ++ too_long_item o) empty_short ∙ append-nil (map Payload payloads))

counted_items : (qs : List Request) → length (map Payload (map request_bytes qs)) ≡ length qs
counted_items qs = length-map (map request_bytes qs) Payload ∙ length-map qs request_bytes

-- ---- The last reply

-- Where the last reply that was got stops a session, nothing is awaited in it.
none_awaited : (shape : Shape) (L : Trace) (s : ℕ) → Proper shape L → EndsWithStop (replies_of L s) → length (replies_of L s) ≡ length (requests_of L s)
none_awaited shape L s proper stop =
    let who = identity_of shape L in
    let whole = reverse L.events in
    let n = length stop.before in
    let is : slice_get (got whole s) n ≡ Some stop.last = ap (λ (l : List Reply). slice_get l n) stop.are ∙ get-last stop.before stop.last in
    let own = proper-events who L.first whole proper.events in
    let g = got-when who whole s n stop.last is in
    let a = got-answers who whole own s n stop.last g in
    let leave : a.request ≡ requests.Leave = leave-stopped a.request stop.last (stops-kinds stop.last stop.stop) a.kind in
    let part = part-rest g.before (events.Got s stop.last) whole g.part in
    let there : slice_get (asked L.client L.interest g.before s) n ≡ Some requests.Leave =
    ap (slice_get (asked L.client L.interest g.before s)) g.place ∙ (a.asked_there ∙ ap Some leave) in
    let last = leave-last who whole own s n (asked-part who g.before whole part s n requests.Leave there) in
    let count = ap (λ (l : List Reply). length l) stop.are ∙ length-append stop.before (stop.last ∷ []) in
    let all = last.last in
    omega (arith, count, all)

-- ---- An open session

module _ (stay : FullRepliesStay) (name : LegalRelaysNameAccepted) (journal : List Entry) (L : Trace) (s : ℕ) (x : Over) (d : IsSessionDone journal L s x)
    (sendable : AllByRecursion IsReply (all stay name journal L s x d)) (rest : List ℕ) (begins : BeginsWithReplies x.client.received (replies_of L s) rest) where
  abbrev whole_all : List Reply
  whole_all = all stay name journal L s x d

  abbrev own_steps : List Request
  own_steps = steps stay name journal L s x d

  g : AreGot whole_all x.client.received (replies_of L s) rest
  g = got_first whole_all x.client.received (replies_of L s) rest sendable (received_part stay name journal L s x d) begins

  more_fine : AllByRecursion IsReply g.more
  more_fine = each-right IsReply (replies_of L s) g.more (subst (AllByRecursion IsReply) g.are sendable)

  -- the reply that comes next is the first that was not got
  pub takeable : (shape : Shape) → ((w : Reply) → slice_get whole_all (length (replies_of L s)) ≡ Some w → first_fault_of_reply (identity_of shape L) (reverse L.events) w ≡ None) → IsTakeable shape L rest
  takeable shape taken = takeable_by shape L whole_all x.client.received (replies_of L s) rest sendable g taken

  module _ (shape : Shape) (proper : Proper shape L) (open_is : is_cut (reverse L.events) s ≡ false) (ended : x.client.ended ≡ true) (none : NoneCame rest) where
    faultless : x.out ≢ outs.LinkFault
    faultless = no_fault_open stay name journal L s x d open_is

    received_all : x.client.received ≡ reply_frames whole_all
    received_all = d.settled.arrived.to_client.whole ended ∙ sent_whole stay name journal L s x d faultless

    rest_is : rest ≡ reply_frames g.more
    rest_is =
        append_cancel_left (reply_frames (replies_of L s)) rest (reply_frames g.more)
        (sym g.whole ∙ (received_all ∙ (ap reply_frames g.are ∙ reply_frames_both (replies_of L s) g.more)))

    got_all : whole_all ≡ replies_of L s
    got_all = g.are ∙ (ap (λ (l : List Reply). replies_of L s ++ l) (no_more g.more rest more_fine rest_is none.0) ∙ append-nil (replies_of L s))

    asked_all : CameWhole x.server.ended x.server.received own_steps → length own_steps ≡ length (requests_of L s)
    asked_all t =
        let came = d.settled.arrived.to_server.whole t.ended_is ∙ (d.carried.sent ∙ request_frames_are (requests_of L s)) in
        let items = sym t.items ∙ (ap incoming_items came ∙ whole_items (map request_bytes (requests_of L s)) (requests_fit (requests_of L s) (messages stay name journal L s x d))) in
        sym (counted_items own_steps) ∙ (ap (λ (l : List StreamItem). length l) items ∙ counted_items (requests_of L s))

    pub none_is_awaited : length (replies_of L s) ≡ length (requests_of L s)
    none_is_awaited =
        elim (how_ended stay name journal L s x d faultless) [
          | inl stop ↦ none_awaited shape L s proper (subst EndsWithStop got_all stop)
          | inr took ↦
              let all_asked = asked_all took in
              let as_many = length-map (answered stay name journal L s x d) (λ (e : Entry). full_reply (accepted (reverse journal)) e.reply) in
              let stepped = length-map (answered stay name journal L s x d) (λ (e : Entry). e.request) in
              let same = ap (λ (l : List Reply). length l) got_all in
              omega (arith, all_asked, as_many, stepped, same)
        ]
