-- What is proved by hand of `FrameReader::first`.
use Rattle.std.proofs.Common.{sym, ap, ◌∙◌}
use Rattle.sv_frame.specs.Frames.{first_frame, too_long}
use Rattle.sv_frame.proofs.Fronts.{room_if_neither}
use Rattle.sv_frame.proofs.Room.{part}
use Rattle.sv_frame.proofs.reader.FrameReader.first.Goals as goal

pub returns-in-Partial-clause-room : goal.returns-in-Partial-clause-room
returns-in-Partial-clause-room c =
    let same = ap (part c.self.inside.start c.self.inside.end) c.deref.ensures.value ∙ c.self.view_is in
    room_if_neither c.args.self.now (ap first_frame (sym same) ∙ c.in-Partial.ensures.0) (ap too_long (sym same) ∙ c.in-Partial.ensures.1)
