-- What is proved by hand of `hellos_show_keys`.
use Rattle.sv_peer.proofs.Hellos.{key_heard, hello_is_key}
use Rattle.sv_peer.proofs.laws.hellos_show_keys.Goals as goal

pub returns : goal.returns
returns c = record { heard = key_heard; only = hello_is_key }
