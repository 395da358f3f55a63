-- What is proved by hand of `Inbox::first_payload`.
use Rattle.std.proofs.Common.{List, ℕ, Option, option_map, sym, ap, ◌∙◌}
use Rattle.sv_frame.proofs.Fronts.{no_frame_if_too_long}
use Rattle.sv_exchange.specs.Incoming.{first_payload_of}
use Rattle.sv_exchange.proofs.inbox.Inbox.first_payload.Goals as goal

pub returns-in-NotYet : goal.returns-in-NotYet
returns-in-NotYet c =
    sym (ap first_payload_of (sym c.self.view_is) ∙ ap (λ (o : Option (List ℕ × List ℕ)). option_map (λ first. first.0) o) c.in-NotYet.ensures.answer.0)

pub returns-in-TooLong : goal.returns-in-TooLong
returns-in-TooLong c =
    sym (ap first_payload_of (sym c.self.view_is) ∙ ap (λ (o : Option (List ℕ × List ℕ)). option_map (λ first. first.0) o) (no_frame_if_too_long _ _ c.in-TooLong.ensures.answer))
