-- What is proved by hand of `next_framed`.
use Rattle.std.proofs.Common.{refl, sym, subst}
use Rattle.sv_wire.specs.declared.message.Request.TheVariants.{Bad}
use Rattle.sv_frame.proofs.Fronts.{no_frame_if_too_long}
use Rattle.sv_peer.specs.declared.heard.Heard.TheVariants as heard
use Rattle.sv_peer.specs.View.{TakesFirstFrame}
use Rattle.sv_peer.proofs.peer.next_framed.Goals as goal

pub returns-in-TooLong : goal.returns-in-TooLong
returns-in-TooLong c =
    let reader = c.args.reader.now in
    let long = c.in-TooLong.ensures.answer in
    subst (λ first. TakesFirstFrame first reader (heard.Request Bad) reader) (sym (no_frame_if_too_long reader _ long)) (rw long refl, refl)
