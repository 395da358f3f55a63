-- The actions that wait in a queue, as its callers see them, and their marks.
use Rattle.std.specs.Prelude.{ℕ, List, map}
use Rattle.sv_queue.specs.declared.waiting.WaitingAction.{WaitingAction}
use Rattle.sv_queue.specs.Queue.{Queued}
use Rattle.sv_queue.specs.Slots.{SlotSet, set_but}

-- What its callers see of a waiting action.
abbrev pub queued_of : WaitingAction → Queued
queued_of w = record { author = w.author; seq = w.seq; action = w.action; result = w.result; marks = w.marks.slots }

abbrev pub all_queued : List WaitingAction → List Queued
all_queued ws = map queued_of ws

abbrev pub marks_of : List WaitingAction → List SlotSet
marks_of ws = map (λ (w : WaitingAction). w.marks) ws

abbrev pub waiting_but : ℕ → WaitingAction → WaitingAction
waiting_but slot w = record w { marks = set_but slot w.marks }
