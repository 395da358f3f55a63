-- What is proved by hand of `no_frame_begins_another`.
use Rattle.sv_exchange.proofs.Apart.{request_frames_differ, reply_frames_differ, kinds_differ}
use Rattle.sv_exchange.proofs.laws.no_frame_begins_another.Goals as goal

pub returns-clause-requests : goal.returns-clause-requests
returns-clause-requests c = request_frames_differ

pub returns-clause-replies : goal.returns-clause-replies
returns-clause-replies c = reply_frames_differ

pub returns-clause-kinds : goal.returns-clause-kinds
returns-clause-kinds c = kinds_differ
