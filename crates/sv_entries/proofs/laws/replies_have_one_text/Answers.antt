-- What is proved by hand of `replies_have_one_text`.
use Rattle.sv_entries.proofs.OneText.{text_as_sent, line_as_sent}
use Rattle.sv_entries.proofs.laws.replies_have_one_text.Goals as goal

pub returns : goal.returns
returns c = record { replies = text_as_sent; lines = line_as_sent }
