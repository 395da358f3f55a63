-- What is proved by hand of `put_frame`.
use Rattle.sv_frame.proofs.Fronts.{frame_appended}
use Rattle.sv_frame.proofs.writing.put_frame.Goals as goal

pub returns-clause-items : goal.returns-clause-items
returns-clause-items c =
    frame_appended c.args.out.now.items c.reserve.new.self.items c.extend_from_slice.new.self.items c.write_u32.new.buf c.args.payload.now c.extend_from_slice-2.new.self.items
    c.in_ok-reserve.ensures.items
    c.in_ok-extend_from_slice.ensures.items
    c.write_u32.ensures
    c.in_ok-extend_from_slice-2.ensures.items
