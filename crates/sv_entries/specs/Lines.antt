-- The line of an entry, with its reply as it was sent.
use Rattle.std.specs.Prelude.{ℕ, List, [], ◌∷◌, ◌++◌, codes}
use Rattle.std.specs.Fmt.{decimal}
use Rattle.sv_world.specs.declared.world.Shape.{Shape}
use Rattle.sv_wire.specs.declared.message.Item.{Item}
use Rattle.sv_wire.specs.declared.message.Request.{Request}
use Rattle.sv_wire.specs.declared.message.Reply.{Reply}
use Rattle.sv_wire.specs.declared.message.Reply.TheVariants as replies
use Rattle.sv_journal.specs.Pieces.{bracketed, head_text}
use Rattle.sv_lines.specs.Told.{asking_text}

-- `4:c1.2`, an item by its position, its author and the author's number for it
abbrev pub sent_item : Item → List ℕ
sent_item i = decimal i.pos ++ codes ":c" ++ decimal i.client.0 ++ codes "." ++ decimal i.seq

-- A reply by what was sent. It is the text that a journal has of it.
abbrev pub sent_text : Reply → List ℕ
sent_text (replies.Welcome commit head) = codes "welcome " ++ decimal commit ++ codes " " ++ head_text head
sent_text (replies.Relay seq commit head items) =
    codes "relay " ++ decimal seq ++ codes " at " ++ decimal commit ++ codes " " ++ head_text head ++ codes " " ++ bracketed sent_item items
sent_text (replies.Dropped seq chain far) = codes "dropped " ++ decimal seq ++ codes " chain " ++ decimal chain ++ codes " far " ++ decimal far
sent_text (replies.Denied seq object) = codes "denied " ++ decimal seq ++ codes " object " ++ decimal object.0
sent_text (replies.Seen last commit head items) =
    codes "seen " ++ decimal last ++ codes " at " ++ decimal commit ++ codes " " ++ head_text head ++ codes " " ++ bracketed sent_item items
sent_text (replies.Settled seq pos) = codes "settled " ++ decimal seq ++ codes " at " ++ decimal pos
sent_text (replies.Noted commit) = codes "noted " ++ decimal commit
sent_text replies.Idle = codes "idle"
sent_text (replies.Refused code detail) = codes "refused " ++ decimal code ++ codes " " ++ decimal detail
sent_text replies.Bye = codes "bye"

-- The line of the entry with number n.
abbrev pub living_line : Shape → ℕ → ℕ → Request → Reply → List ℕ
living_line shape n session request reply = asking_text shape n session request ++ sent_text reply ++ 10 ∷ []
