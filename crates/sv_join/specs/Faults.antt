-- How the fault of a reply is told.
use Rattle.std.specs.Prelude.{ℕ, List, ◌++◌, codes}
use Rattle.std.specs.Fmt.{decimal}
use Rattle.sv_wire.specs.declared.fault.WireCause.{WireCause}
use Rattle.sv_wire.specs.declared.fault.WireCause.TheVariants as causes
use Rattle.sv_client.specs.declared.fault.TakeFault.{TakeFault}
use Rattle.sv_client.specs.declared.fault.TakeFault.TheVariants as takes
use Rattle.sv_player.specs.declared.outcome.ReplyFault.{ReplyFault}
use Rattle.sv_player.specs.declared.outcome.ReplyFault.TheVariants as replies

-- The causes of the message grammar are numbered.
abbrev pub wire_cause_number : WireCause → ℕ
wire_cause_number causes.Short = 1
wire_cause_number causes.Kind = 2
wire_cause_number causes.Count = 3
wire_cause_number causes.Order = 4
wire_cause_number causes.Mask = 5
wire_cause_number causes.Code = 6
wire_cause_number causes.Large = 7
wire_cause_number causes.Deep = 8
wire_cause_number causes.Rest = 9

-- Running out of memory is no fault of a reply.
abbrev pub take_line : TakeFault → List ℕ
take_line takes.Unasked = codes "reply: unasked\n"
take_line takes.WrongKind = codes "reply: wrongkind\n"
take_line takes.BadOrder = codes "reply: badorder\n"
take_line takes.BadItem = codes "reply: baditem\n"
take_line (takes.Missing pos object) = codes "reply: missing " ++ decimal pos ++ codes " " ++ decimal object.0 ++ codes "\n"
take_line takes.Memory = codes "memory\n"

-- The line that tells why a reply was not taken.
abbrev pub reply_line : ReplyFault → List ℕ
reply_line (replies.Take fault) = take_line fault
reply_line (replies.Wire fault) = codes "reply: malformed " ++ decimal fault.at ++ codes " " ++ decimal (wire_cause_number fault.cause) ++ codes "\n"
reply_line (replies.TooLong size) = codes "reply: toolong " ++ decimal size ++ codes "\n"
