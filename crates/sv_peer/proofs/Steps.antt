-- The bytes of a connection stay in step with the replies that it was told.
use Rattle.std.proofs.Common.{◌≡◌, ◌≢◌, ℕ, ◌⊎◌, inl, inr, Bool, true, false, List, [], ◌∷◌, ◌++◌, map, take, drop, refl, sym, ap, subst, ◌∙◌, append_assoc}
use Rattle.std.specs.Prelude.{if◌then◌else◌}
use Rattle.std.specs.List.{flat_map}
use Rattle.std.proofs.lemmas.List.{map_push, append-nil, take-append-drop}
use Rattle.std.proofs.Math.Logic.{∥∥₁_map}
use Rattle.std.proofs.lemmas.List.Folds.{flat_map-map}
use Rattle.std.proofs.lemmas.Grind.{flat_map-append}
use Rattle.websocket.specs.declared.protocol.frame.coding.Control.{Control}
use Rattle.sv_frame.specs.Frames.{frame, frames_of}
use Rattle.sv_wire.specs.declared.message.Reply.{Reply}
use Rattle.sv_wire.specs.Spelling.{reply_bytes}
use Rattle.sv_peer.specs.declared.manner.Manner.{Manner}
use Rattle.sv_peer.specs.declared.manner.Manner.TheVariants as manner
use Rattle.sv_peer.specs.Sockets.{SocketView, message_frame, control_frame, GainsControls, Part, Message, Answer, part_bytes, replies_in, IsSocketStream}
use Rattle.sv_peer.specs.declared.peer.Voice.{Voice}
use Rattle.sv_peer.specs.declared.peer.Voice.TheVariants as voice
use Rattle.sv_peer.specs.declared.peer.Peer.TheInside.{Inside}
use Rattle.http_server.specs.Connection.{config_of, history}
use Rattle.http_server.proofs.Theorems.{always_served}
use Rattle.sv_peer.specs.declared.web.Web.{Web}
use Rattle.sv_peer.specs.Https.{IsHttp}
use Rattle.sv_peer.specs.Webs.{handed_by, HandsOut}
use Rattle.sv_peer.specs.View.{PeerView, Says, Puts, PeerKeeps, begun, is_letter}
use Rattle.sv_peer.specs.Invariant.{manner_of, view_of, IsHandedOut}

frames-last : (ps : List (List ℕ)) (p : List ℕ) → frames_of (ps ++ p ∷ []) ≡ frames_of ps ++ frame p
frames-last ps p = flat_map-append frame ps (p ∷ []) ∙ ap (λ l. frames_of ps ++ l) (append-nil (frame p))

replies-append : (xs ys : List Part) → replies_in (xs ++ ys) ≡ replies_in xs ++ replies_in ys
replies-append [] ys = refl
replies-append (Message r ∷ xs) ys = ap (λ l. r ∷ l) (replies-append xs ys)
replies-append (Answer c ∷ xs) ys = replies-append xs ys

-- control frames tell no reply
no_replies : (controls : List (Control × List ℕ)) → replies_in (map Answer controls) ≡ []
no_replies [] = refl
no_replies (c ∷ controls) = no_replies controls

socket_more : (told more : List Reply) (bytes behind all : List ℕ) (parts : List Part) → IsSocketStream told bytes → replies_in parts ≡ more → behind ≡ flat_map part_bytes parts → all ≡ bytes ++ behind → IsSocketStream (told ++ more) all
socket_more told more bytes behind all parts stream replies is whole =
    record {
      http = stream.http;
      served = stream.served;
      parts = stream.parts ++ parts;
      whole = whole ∙ (ap (λ l. l ++ behind) stream.whole ∙ (append_assoc stream.http (flat_map part_bytes stream.parts) behind
          ∙ ap (λ l. stream.http ++ l) (ap (λ l. flat_map part_bytes stream.parts ++ l) is ∙ sym (flat_map-append part_bytes stream.parts parts))));
      replies = replies-append stream.parts parts ∙ (ap (λ l. l ++ replies_in parts) stream.replies ∙ ap (λ l. told ++ l) replies);
    }

-- what was put behind what waits stands behind all
behind_all : (sent old behind new : List ℕ) → new ≡ old ++ behind → sent ++ new ≡ (sent ++ old) ++ behind
behind_all sent old behind new e = ap (λ l. sent ++ l) e ∙ sym (append_assoc sent old behind)

pub socket_controls : (told : List Reply) (sent old new : List ℕ) → IsSocketStream told (sent ++ old) → GainsControls old new → IsSocketStream told (sent ++ new)
socket_controls told sent old new stream gains =
    subst (λ (t : List Reply). IsSocketStream t (sent ++ new)) (append-nil told)
    (socket_more told [] (sent ++ old) (flat_map control_frame gains.controls) (sent ++ new) (map Answer gains.controls) stream (no_replies gains.controls)
    (sym (flat_map-map part_bytes Answer gains.controls)) (behind_all sent old _ new gains.gained))

-- one reply more was told
pub says_told : (how : Manner) (told : List Reply) (sent old new : List ℕ) (reply : Reply) → Says how told (sent ++ old) → Puts how (reply_bytes reply) old new → Says how (told ++ reply ∷ []) (sent ++ new)
says_told manner.Unknown told sent old new reply says puts = absurd puts
says_told manner.Frames told sent old new reply says puts =
    behind_all sent old (frame (reply_bytes reply)) new puts
    ∙ (ap (λ l. l ++ frame (reply_bytes reply)) says
    ∙ (sym (frames-last (map reply_bytes told) (reply_bytes reply)) ∙ ap frames_of (sym (map_push reply_bytes told reply))))
says_told manner.Http told sent old new reply says puts = absurd puts
says_told manner.Socket told sent old new reply says puts =
    socket_more told (reply ∷ []) (sent ++ old) (message_frame (reply_bytes reply)) (sent ++ new) (Message reply ∷ []) says refl
    (sym (append-nil (message_frame (reply_bytes reply)))) (behind_all sent old _ new puts)
says_told manner.Closed told sent old new reply says puts = absurd puts

-- what was sent as HTTP stands before what a WebSocket sends
says_upgraded : (old new : Manner) (told : List Reply) (bytes : List ℕ) → old ≡ manner.Http → (new ≡ manner.Socket) ⊎ (new ≡ manner.Closed) → Says old told bytes → Says new told bytes
says_upgraded old new told bytes http (inl is) says =
    let before : Says manner.Http told bytes = subst (λ (how : Manner). Says how told bytes) http says in
    subst (λ (how : Manner). Says how told bytes) (sym is) (record { http = bytes; served = before.1; parts = []; whole = sym (append-nil bytes); replies = sym before.0 })
says_upgraded old new told bytes http (inr is) says =
    let before : Says manner.Http told bytes = subst (λ (how : Manner). Says how told bytes) http says in
    subst (λ (how : Manner). Says how told bytes) (sym is) before

handed_after : (spoken : Voice) (bytes : List ℕ) → (manner_of spoken ≡ manner.Socket) ⊎ (manner_of spoken ≡ manner.Closed) → IsHandedOut spoken bytes
handed_after voice.Unknown bytes after = tt
handed_after (voice.Plain reader) bytes after = tt
handed_after (voice.Web web) bytes (inl is) = absurd (cc is)
handed_after (voice.Web web) bytes (inr is) = absurd (cc is)
handed_after (voice.Socket socket) bytes after = tt
handed_after voice.Closed bytes after = tt

-- the voice of a connection, the replies that it was told, and all its bytes
pub record InStep (spoken : Voice) (told : List Reply) (bytes : List ℕ) : Type 0 where
  pub says : Says (manner_of spoken) told bytes
  pub handed : IsHandedOut spoken bytes

pub step_upgraded : (old new : Voice) (told : List Reply) (bytes : List ℕ) → manner_of old ≡ manner.Http → (manner_of new ≡ manner.Socket) ⊎ (manner_of new ≡ manner.Closed) → Says (manner_of old) told bytes → InStep new told bytes
step_upgraded old new told bytes http after says =
    record { says = says_upgraded (manner_of old) (manner_of new) told bytes http after says; handed = handed_after new bytes after }

-- what was handed out is what the server's theorem speaks of
is_http : (web : Web) (bytes : List ℕ) → bytes ≡ handed_by web → ∥ IsHttp bytes ∥₁
is_http web bytes is =
    ∥∥₁_map (always_served web.connection) (λ served. record { config = config_of web.connection; history = history web.connection; served = served; handed = sym is })

begun_is : (letter : Bool) (how : Manner) → how ≡ (if letter then manner.Http else manner.Frames) → (how ≡ manner.Http) ⊎ (how ≡ manner.Frames)
begun_is true how is = inl is
begun_is false how is = inr is

not_begun : (how : Manner) → (how ≡ manner.Http) ⊎ (how ≡ manner.Frames) → (how ≢ manner.Http) → (how ≢ manner.Frames) → ⊥
not_begun how (inl is) http frames = http is
not_begun how (inr is) http frames = frames is

begun_with : (spoken : Voice) (told : List Reply) (bytes : List ℕ) → (manner_of spoken ≡ manner.Http) ⊎ (manner_of spoken ≡ manner.Frames) → IsHandedOut spoken [] → told ≡ [] → bytes ≡ [] → InStep spoken told bytes
begun_with voice.Unknown told bytes begun handed none empty = absurd (not_begun _ begun (λ is. cc is) (λ is. cc is))
begun_with (voice.Plain reader) told bytes begun handed none empty = record { says = empty ∙ ap (λ (t : List Reply). frames_of (map reply_bytes t)) (sym none); handed = tt }
begun_with (voice.Web web) told bytes begun handed none empty = record { says = (none, is_http web.value bytes (empty ∙ handed)); handed = empty ∙ handed }
begun_with (voice.Socket socket) told bytes begun handed none empty = absurd (not_begun _ begun (λ is. cc is) (λ is. cc is))
begun_with voice.Closed told bytes begun handed none empty = absurd (not_begun _ begun (λ is. cc is) (λ is. cc is))

-- no byte came, and the first one tells how a connection is spoken
pub step_begun : (old new : Voice) (first : ℕ) (told : List Reply) (bytes : List ℕ) → manner_of old ≡ manner.Unknown → manner_of new ≡ begun first → IsHandedOut new [] → Says (manner_of old) told bytes → InStep new told bytes
step_begun old new first told bytes unknown how handed says =
    let before : Says manner.Unknown told bytes = subst (λ (m : Manner). Says m told bytes) unknown says in
    begun_with new told bytes (begun_is (is_letter first) (manner_of new) how) handed before.0 before.1

-- bytes were handed out
step_answered : (old new : Web) (told : List Reply) (sent before after : List ℕ) → told ≡ [] → sent ++ before ≡ handed_by old → HandsOut old new before after → (told ≡ []) × ∥ IsHttp (sent ++ after) ∥₁ × (sent ++ after ≡ handed_by new)
step_answered old new told sent before after none handed hands =
    let is : sent ++ after ≡ handed_by new = behind_all sent before hands.more after hands.put ∙ (ap (λ l. l ++ hands.more) handed ∙ sym hands.handed) in
    (none, is_http new (sent ++ after) is, is)

-- the same of a connection's voice, which is that of HTTP
pub step_web : (spoken at : Voice) (old new : Web) (told : List Reply) (sent before after : List ℕ) → spoken ≡ at → manner_of at ≡ manner.Http → ((bytes : List ℕ) → IsHandedOut at bytes → bytes ≡ handed_by old)
    → Says (manner_of spoken) told (sent ++ before) → IsHandedOut spoken (sent ++ before) → HandsOut old new before after → (told ≡ []) × ∥ IsHttp (sent ++ after) ∥₁ × (sent ++ after ≡ handed_by new)
step_web spoken at old new told sent before after is http hands_by says handed hands =
    let at_http : Says manner.Http told (sent ++ before) =
    subst (λ (m : Manner). Says m told (sent ++ before)) (ap manner_of is ∙ http) says in
    step_answered old new told sent before after at_http.0 (hands_by (sent ++ before) (subst (λ (v : Voice). IsHandedOut v (sent ++ before)) is handed)) hands

-- a payload is put where frames are spoken, or over a WebSocket
handed_put : (old : Voice) (payload before behind bytes : List ℕ) → Puts (manner_of old) payload before behind → IsHandedOut old bytes
handed_put voice.Unknown payload before behind bytes puts = tt
handed_put (voice.Plain reader) payload before behind bytes puts = tt
handed_put (voice.Web web) payload before behind bytes puts = absurd puts
handed_put (voice.Socket socket) payload before behind bytes puts = tt
handed_put voice.Closed payload before behind bytes puts = tt

-- bytes that were sent are bytes of the connection still
pub step_sent : (spoken : Voice) (told : List Reply) (sent output more left : List ℕ) (count : ℕ) → more ≡ sent ++ take count output → left ≡ drop count output → InStep spoken told (sent ++ output) → InStep spoken told (more ++ left)
step_sent spoken told sent output more left count grown cut before =
    subst (λ (l : List ℕ). InStep spoken told l)
    (sym (ap (λ l. l ++ left) grown ∙ (ap (λ l. (sent ++ take count output) ++ l) cut ∙ (append_assoc sent (take count output) (drop count output) ∙ ap (λ l. sent ++ l) (take-append-drop count output))))) before

-- a WebSocket's bytes are a stream of its replies
pub says_socket : (spoken : Voice) (socket : SocketView) (told : List Reply) (bytes : List ℕ) → spoken ≡ voice.Socket socket → Says (manner_of spoken) told bytes → IsSocketStream told bytes
says_socket spoken socket told bytes is says = subst (λ (v : Voice). Says (manner_of v) told bytes) is says

-- a payload was put behind what waits, and its reply was told
pub step_added : (old new : Voice) (told after : List Reply) (sent before behind payload : List ℕ) (reply : Reply) → new ≡ old → Says (manner_of old) told (sent ++ before) → Puts (manner_of old) payload before behind → payload ≡ reply_bytes reply → after ≡ told ++ reply ∷ [] → InStep new after (sent ++ behind)
step_added old new told after sent before behind payload reply same says puts spelled added =
    let whole : Puts (manner_of old) (reply_bytes reply) before behind = subst (λ (p : List ℕ). Puts (manner_of old) p before behind) spelled puts in
    subst (λ (v : Voice). InStep v after (sent ++ behind)) (sym same)
    (subst (λ (t : List Reply). InStep old t (sent ++ behind)) (sym added)
    (record { says = says_told (manner_of old) told sent before behind reply says whole; handed = handed_put old payload before behind (sent ++ behind) puts }))

-- control frames alone were put behind what waits
pub keeps_controls : (peer : Inside) (now new : PeerView) → view_of peer ≡ now → new.told ≡ peer.told → new.sent ≡ peer.sent → GainsControls peer.output.items new.output → PeerKeeps now new
keeps_controls peer now new is told sent gains =
    record {
      told = told ∙ ap (λ (p : PeerView). p.told) is;
      sent = sent ∙ ap (λ (p : PeerView). p.sent) is;
      more = flat_map control_frame gains.controls;
      output = gains.gained ∙ ap (λ (p : PeerView). p.output ++ flat_map control_frame gains.controls) is;
    }
