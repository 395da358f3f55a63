-- What a server's WebSocket answers by itself is control frames.
use Rattle.std.proofs.Common.{◌≡◌, ℕ, Bool, true, false, cond, List, [], ◌∷◌, ◌++◌, Option, None, Some, Result, Ok, Err, refl, sym, ap, ◌∙◌, append_assoc}
use Rattle.std.specs.Prelude.{length, not, nat_lt, OnOk, OnErr}
use Rattle.std.specs.List.{flat_map}
use Rattle.std.proofs.lemmas.List.{append-nil}
use Rattle.std.proofs.lemmas.Grind.{flat_map-append}
use Rattle.websocket.specs.declared.error.Error.{Error}
use Rattle.websocket.specs.declared.error.Error.TheVariants.{Protocol}
use Rattle.websocket.specs.declared.error.ProtocolError.TheVariants.{FragmentedControlFrame, ControlFrameTooBig}
use Rattle.websocket.specs.declared.protocol.config.Role.{Role}
use Rattle.websocket.specs.declared.protocol.config.Role.TheVariants.{Server}
use Rattle.websocket.specs.declared.protocol.state.WebSocketState.{WebSocketState}
use Rattle.websocket.specs.declared.protocol.incomplete.MessageType.{MessageType}
use Rattle.websocket.specs.declared.protocol.incomplete.MessageType.TheVariants as Kind
use Rattle.websocket.specs.declared.protocol.frame.coding.CloseCode.{CloseCode}
use Rattle.websocket.specs.declared.protocol.frame.coding.OpCode.{OpCode}
use Rattle.websocket.specs.declared.protocol.frame.coding.OpCode.TheVariants as Op
use Rattle.websocket.specs.declared.protocol.frame.coding.Data.{Data}
use Rattle.websocket.specs.declared.protocol.frame.coding.Data.TheVariants.{Continue, Text, Binary}
use Rattle.websocket.specs.declared.protocol.frame.coding.Control.{Control}
use Rattle.websocket.specs.declared.protocol.frame.coding.Control.TheVariants.{Close, Ping, Pong}
use Rattle.websocket.specs.declared.protocol.frame.codec.FrameStatus.{FrameStatus}
use Rattle.websocket.specs.declared.protocol.frame.codec.FrameStatus.TheVariants.{Partial, Complete}
use Rattle.websocket.specs.Frame.{Checked, check_size, after_check, encode_frame}
use Rattle.websocket.specs.Content.{Content, close_payload}
use Rattle.websocket.specs.Connection.{Connection, Effect, Outgoing, Sends, IsMaskOf, whole_header, close_effect, on_close, on_short_control, on_control, complete_message, check_so_far, deliver, on_message_bytes, on_data_after, on_data, check_header, on_opcode, on_frame, read_step, close_to, close_step, closing_state, check_close}
use Rattle.websocket.specs.View.{Leaves, ReadLeaves}
use Rattle.websocket.proofs.StreamLemmas.{after_check_passed, TookFrame_from_read}
use Rattle.sv_peer.specs.Sockets.{control_frame, GainsControls}

-- ---- putting control frames behind

pub gains_none : (old new : List ℕ) → new ≡ old → GainsControls old new
gains_none old new is = record { controls = []; gained = is ∙ sym (append-nil old) }

pub gains_again : (old mid new : List ℕ) → GainsControls old mid → GainsControls mid new → GainsControls old new
gains_again old mid new first second =
    record {
      controls = first.controls ++ second.controls;
      gained = second.gained ∙ (ap (λ l. l ++ flat_map control_frame second.controls) first.gained
          ∙ (append_assoc old (flat_map control_frame first.controls) (flat_map control_frame second.controls)
          ∙ ap (λ l. old ++ l) (sym (flat_map-append control_frame first.controls second.controls))));
    }

-- no reply, or a control frame
abbrev pub IsControl : Option Outgoing → Type 0
IsControl None = Unit {0}
IsControl (Some frame) = (control : Control) × (frame.opcode ≡ Op.Control control)

sent_unmasked : (mask : Option (List ℕ)) (role : Role) (control : Control) (frame : Outgoing) (old new : List ℕ) → role ≡ Server → IsMaskOf role mask → frame.opcode ≡ Op.Control control → new ≡ old ++ encode_frame (whole_header frame.opcode mask) frame.payload → GainsControls old new
sent_unmasked None role control frame old new server is opcode grown =
    record {
      controls = (control, frame.payload) ∷ [];
      gained = grown ∙ ap (λ l. old ++ l) (ap (λ o. encode_frame (whole_header o None) frame.payload) opcode ∙ sym (append-nil (control_frame (control, frame.payload))));
    }
sent_unmasked (Some mask) role control frame old new server is opcode grown = absurd (cc (rw server at is.0))

pub sent_controls : (reply : Option Outgoing) (role : Role) (old new : List ℕ) → role ≡ Server → IsControl reply → Sends role reply old new → GainsControls old new
sent_controls None role old new server is sends = gains_none old new sends
sent_controls (Some frame) role old new server is sends = sent_unmasked sends.0 role is.0 frame old new server sends.1 is.1 sends.2

-- ---- the steps of the protocol

pub record IsAnswered (conn : Connection) (effect : Effect) : Type 0 where
  pub role : effect.next.role ≡ conn.role
  pub reply : IsControl effect.reply

ok_is : {A : Type 0} {a b : A} → ◌≡◌ {A = Result A Error} (Ok a) (Ok b) → b ≡ a
ok_is e = cc e

closed_by : (conn : Connection) (frame : Option (CloseCode × List ℕ)) (payload : Option (List ℕ)) (state : WebSocketState) → IsAnswered conn (close_effect conn frame payload state)
closed_by conn frame None state = record { role = refl; reply = tt }
closed_by conn frame (Some payload) state = record { role = refl; reply = (Close, refl) }

either : (conn : Connection) (b : Bool) (x y : Effect) → IsAnswered conn x → IsAnswered conn y → IsAnswered conn (cond b x y)
either conn true x y p q = p
either conn false x y p q = q

close_answered : (conn : Connection) (payload : List ℕ) (r : Result (Option (CloseCode × List ℕ)) Error) (effect : Effect) → on_close conn payload r ≡ Ok effect → IsAnswered conn effect
close_answered conn payload (Err e) effect is = absurd (cc is)
close_answered conn payload (Ok frame) effect is =
    rw (ok_is is) (either conn _ _ _ (closed_by conn frame None _) (either conn _ _ _ (closed_by conn frame (Some payload) _) (closed_by conn _ (Some _) _)))

pong_answered : (b : Bool) (payload : List ℕ) → IsControl (cond b (Some (record { opcode = Op.Control Pong; payload = payload })) None)
pong_answered true payload = (Pong, refl)
pong_answered false payload = tt

short_answered : (conn : Connection) (control : Control) (payload : List ℕ) (effect : Effect) → on_short_control conn control payload ≡ Ok effect → IsAnswered conn effect
short_answered conn Close payload effect is = close_answered conn payload _ effect is
short_answered conn Pong payload effect is = rw (ok_is is) (record { role = refl; reply = tt })
short_answered conn Ping payload effect is = rw (ok_is is) (record { role = refl; reply = pong_answered _ payload })

passed : (b : Bool) (e : Error) (r : Result Effect Error) (effect : Effect) → cond b (Err e) r ≡ Ok effect → r ≡ Ok effect
passed true e r effect is = absurd (cc is)
passed false e r effect is = is

control_answered : (conn : Connection) (control : Control) (is_final : Bool) (payload : List ℕ) (effect : Effect) → on_control conn control is_final payload ≡ Ok effect → IsAnswered conn effect
unfolding on_control
control_answered conn control is_final payload effect is =
    let short = on_short_control conn control payload in
    short_answered conn control payload effect
    (passed (nat_lt 125 (length payload)) (Protocol ControlFrameTooBig) short effect
    (passed (not is_final) (Protocol FragmentedControlFrame) (cond (nat_lt 125 (length payload)) (Err (Protocol ControlFrameTooBig)) short) effect is))

deliver_answered : (conn : Connection) (r : Result Content Error) (effect : Effect) → deliver conn r ≡ Ok effect → IsAnswered conn effect
deliver_answered conn (Err e) effect is = absurd (cc is)
deliver_answered conn (Ok content) effect is = rw (ok_is is) (record { role = refl; reply = tt })

bytes_answered : (conn : Connection) (kind : MessageType) (is_final : Bool) (bytes : List ℕ) (effect : Effect) → on_message_bytes conn kind is_final bytes ≡ Ok effect → IsAnswered conn effect
unfolding on_message_bytes
bytes_answered conn kind true bytes effect is =
    deliver_answered conn (complete_message kind bytes) effect (after_check_passed (check_size (length bytes) conn.config.max_message_size) _ effect is)
bytes_answered conn kind false bytes effect is =
    let kept = after_check_passed (check_so_far kind bytes) _ effect (after_check_passed (check_size (length bytes) conn.config.max_message_size) _ effect is) in
    rw (ok_is kept) (record { role = refl; reply = tt })

data_answered : (conn : Connection) (fragments : Option (MessageType × List ℕ)) (kind : Data) (is_final : Bool) (payload : List ℕ) (effect : Effect) → on_data_after conn fragments kind is_final payload ≡ Ok effect → IsAnswered conn effect
data_answered conn None Continue is_final payload effect is = absurd (cc is)
data_answered conn None Text is_final payload effect is = bytes_answered conn Kind.Text is_final payload effect is
data_answered conn None Binary is_final payload effect is = bytes_answered conn Kind.Binary is_final payload effect is
data_answered conn (Some p) Continue is_final payload effect is = bytes_answered conn p.0 is_final (p.1 ++ payload) effect is
data_answered conn (Some p) Text is_final payload effect is = absurd (cc is)
data_answered conn (Some p) Binary is_final payload effect is = absurd (cc is)

opcode_answered : (conn : Connection) (op : OpCode) (is_final : Bool) (payload : List ℕ) (effect : Effect) → on_opcode conn op is_final payload ≡ Ok effect → IsAnswered conn effect
unfolding on_data
opcode_answered conn (Op.Control control) is_final payload effect is = control_answered conn control is_final payload effect is
opcode_answered conn (Op.Data kind) is_final payload effect is = data_answered conn conn.fragments kind is_final payload effect is

read_answered : (conn : Connection) (input : List ℕ) (p : ℕ × Effect) → read_step conn input ≡ Ok (Complete p) → IsAnswered conn p.1
unfolding on_frame
read_answered conn input p read =
    let took = TookFrame_from_read conn input p read in
    opcode_answered conn took.header.opcode took.header.is_final took.payload p.1 (after_check_passed (check_header conn took.header) _ p.1 took.does)

-- ---- what reading and closing leave

-- a server stays one, and put control frames behind
pub record Controls (after : Connection) (old new : List ℕ) : Type 0 where
  pub server : after.role ≡ Server
  pub gains : GainsControls old new

left_by : (conn after : Connection) (effect : Effect) (old new : List ℕ) → conn.role ≡ Server → IsAnswered conn effect → Leaves (Ok effect) after old new → Controls after old new
left_by conn after effect old new server is leaves =
    let role : after.role ≡ Server = ap (λ (k : Connection). k.role) leaves.0 ∙ (is.role ∙ server) in
    record { server = role; gains = sent_controls effect.reply after.role old new role is.reply leaves.1 }

read_by : (conn after : Connection) (r : Result (FrameStatus (ℕ × Effect)) Error) (old new : List ℕ) → conn.role ≡ Server → ((p : ℕ × Effect) → r ≡ Ok (Complete p) → IsAnswered conn p.1) → ReadLeaves r conn after old new → Controls after old new
read_by conn after (Err e) old new server is leaves = absurd leaves
read_by conn after (Ok (Partial n)) old new server is leaves =
    record { server = ap (λ (k : Connection). k.role) leaves.0 ∙ server; gains = gains_none old new leaves.1 }
read_by conn after (Ok (Complete p)) old new server is leaves = left_by conn after p.1 old new server (is p refl) leaves

pub read_controls : (conn after : Connection) (input old new : List ℕ) → conn.role ≡ Server → ReadLeaves (read_step conn input) conn after old new → Controls after old new
read_controls conn after input old new server leaves = read_by conn after (read_step conn input) old new server (read_answered conn input) leaves

checked_by : (conn after : Connection) (check : Checked Error) (effect : Effect) (old new : List ℕ) → conn.role ≡ Server → IsAnswered conn effect → Leaves (after_check check (Ok effect)) after old new → Controls after old new
checked_by conn after (Err e) effect old new server is leaves = absurd leaves
checked_by conn after (Ok done) effect old new server is leaves = left_by conn after effect old new server is leaves

close_by : (conn after : Connection) (frame : Option (CloseCode × List ℕ)) (state : Option WebSocketState) (old new : List ℕ) → conn.role ≡ Server → Leaves (close_to conn frame state) after old new → Controls after old new
close_by conn after frame None old new server leaves =
    left_by conn after (record { message = None; reply = None; next = conn }) old new server (record { role = refl; reply = tt }) leaves
close_by conn after frame (Some state) old new server leaves =
    let effect : Effect = record { message = None; reply = Some (record { opcode = Op.Control Close; payload = close_payload frame }); next = record conn { state = state } } in
    checked_by conn after (check_close frame) effect old new server (record { role = refl; reply = (Close, refl) }) leaves

pub close_controls : (conn after : Connection) (frame : Option (CloseCode × List ℕ)) (old new : List ℕ) → conn.role ≡ Server → Leaves (close_step conn frame) after old new → Controls after old new
close_controls conn after frame old new server leaves = close_by conn after frame (closing_state conn.state) old new server leaves

pub close_gains : (conn after : Connection) (frame : Option (CloseCode × List ℕ)) (r : Result (Unit {0}) Error) (old new : List ℕ) → conn.role ≡ Server → OnOk r (Leaves (close_step conn frame) after old new) → OnErr r (new ≡ old) → GainsControls old new
close_gains conn after frame (Ok done) old new server leaves same = (close_controls conn after frame old new server leaves).gains
close_gains conn after frame (Err e) old new server leaves same = gains_none old new same
