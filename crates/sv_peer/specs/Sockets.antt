-- What a server sends over a WebSocket.
use Rattle.std.specs.Prelude.{◌≡◌, ℕ, false, List, [], ◌∷◌, ◌++◌, None, Some, refl}
use Rattle.std.specs.List.{flat_map}
use Rattle.std.specs.Coded.{Coded, code_by, coded×, coded_list, coded_ℕ}
use Rattle.websocket.specs.declared.protocol.config.Role.TheVariants.{Server}
use Rattle.websocket.specs.declared.protocol.config.WebSocketConfig.{WebSocketConfig}
use Rattle.websocket.specs.declared.protocol.state.WebSocketState.TheVariants.{Active}
use Rattle.websocket.specs.declared.protocol.frame.coding.OpCode.TheVariants as opcode
use Rattle.websocket.specs.declared.protocol.frame.coding.Data.TheVariants.{Binary}
use Rattle.websocket.specs.declared.protocol.frame.coding.Control.{Control}
use Rattle.websocket.specs.Codes.{connection_code}
use Rattle.websocket.specs.Connection.{Connection, whole_header}
use Rattle.websocket.specs.Frame.{encode_frame}
use Rattle.sv_wire.specs.declared.message.Reply.{Reply}
use Rattle.sv_peer.specs.Https.{IsHttp}
use Rattle.sv_wire.specs.Spelling.{reply_bytes}

-- where the protocol stands, and what came and was not taken
pub record SocketView : Type 0 where
  pub connection : Connection
  pub input : List ℕ

abbrev pub socket_code : Coded SocketView
socket_code =
    code_by (Connection × List ℕ) (coded× connection_code (coded_list coded_ℕ)) (λ s. (s.connection, s.input)) (λ p. record { connection = p.0; input = p.1 }) (λ _. refl)

-- messages and frames of at most 65,536 bytes, and masked ones alone
abbrev pub short_messages : WebSocketConfig
short_messages = record { max_message_size = Some 65536; max_frame_size = Some 65536; accept_unmasked_frames = false }

abbrev pub new_socket : SocketView
new_socket = record { connection = record { role = Server; state = Active; config = short_messages; fragments = None }; input = [] }

-- a payload as one binary message, and a control frame
abbrev pub message_frame : List ℕ → List ℕ
message_frame payload = encode_frame (whole_header (opcode.Data Binary) None) payload

abbrev pub control_frame : Control × List ℕ → List ℕ
control_frame control = encode_frame (whole_header (opcode.Control control.0) None) control.1

-- control frames were put behind
pub record GainsControls (old new : List ℕ) : Type 0 where
  pub controls : List (Control × List ℕ)
  pub gained : new ≡ old ++ flat_map control_frame controls

-- what goes over a WebSocket: the message of a reply, or a control frame
pub data Part : Type 0 where
  Message : Reply → Part
  Answer : Control × List ℕ → Part

abbrev pub part_bytes : Part → List ℕ
part_bytes (Message reply) = message_frame (reply_bytes reply)
part_bytes (Answer control) = control_frame control

abbrev pub replies_in : List Part → List Reply
replies_in [] = []
replies_in (Message reply ∷ parts) = reply ∷ replies_in parts
replies_in (Answer control ∷ parts) = replies_in parts

-- the bytes are those of HTTP before the upgrade, and then the messages of just these replies, in order, with control frames among them
pub record IsSocketStream (told : List Reply) (bytes : List ℕ) : Type 0 where
  pub http : List ℕ
  pub served : ∥ IsHttp http ∥₁
  pub parts : List Part
  pub whole : bytes ≡ http ++ flat_map part_bytes parts
  pub replies : replies_in parts ≡ told
